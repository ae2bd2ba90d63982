-- A walk over a function in which no call takes a body.
use Rattle.std.proofs.Common.{◌≡◌, ◌∙◌, ◌+◌, ℕ, List, [], ◌∷◌, ◌++◌, Option, ap, refl, subst}
use Rattle.std.specs.Prelude.{All}
use Rattle.std.proofs.lemmas.List.Elements.{All-head, All-tail}
use Rattle.ir_tree.specs.declared.block.Block.{Block}
use Rattle.ir_tree.specs.declared.function.Function.{Function}
use Rattle.ir_tree.specs.declared.instr.Line.{Line}
use Rattle.back_end.specs.Inlinable.{count}
use Rattle.back_end.specs.Walk.{IsWalk, TakesAt, Walks}
use Rattle.back_end.specs.Walking.{LineTakesNone, LinesTakeNone}

all_at : {X : Type 0} (P : X → Type 0) (xs ys : List X) (x : X) → All P (xs ++ x ∷ ys) → P x
all_at P [] ys x h = All-head P x ys h
all_at P (z ∷ xs) ys x h = all_at P xs ys x (All-tail P z (xs ++ x ∷ ys) h)

module _ (bodies : List ℕ → Option Function) (f : Function) (many : ℕ) (is : many ≡ count f) (none : All (LinesTakeNone bodies f.symbol many) f.blocks) where
  at_no_place : (place : ℕ) (callee : Function) → TakesAt bodies f place callee → ⊥
  at_no_place place callee takes =
      let block = all_at (LinesTakeNone bodies f.symbol many) takes.site.front takes.site.back takes.site.block (subst (λ (bs : List Block). All (LinesTakeNone bodies f.symbol many) bs) takes.stands.blocks none) in
      let line = all_at (LineTakesNone bodies f.symbol many) takes.site.before takes.site.after takes.site.call (subst (λ (ls : List Line). All (LineTakesNone bodies f.symbol many) ls) takes.stands.lines block) in
      line callee (record { room = takes.room; has_room = ap (λ (n : ℕ). n + takes.room) is ∙ takes.has_room; takes = takes.takes })

  none_walked : Walks 0 bodies 1 f f
  unfolding Walks
  none_walked = (λ place callee from takes. at_no_place place callee takes, refl)

  pub walk_of_none : IsWalk bodies f f
  walk_of_none = (0, none_walked)
