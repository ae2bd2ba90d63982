-- No two functions are made of a sound one.
use Rattle.std.proofs.Common.{◌≡◌, ◌∙◌, ℕ, zero, suc, Bool, true, false, List, Option, ap, subst, sym}
use Rattle.ir_tree.specs.Rules.{Sound}
use Rattle.ir_tree.specs.declared.function.Function.{Function}
use Rattle.ir_edit.specs.Numbered.{in_text_order}
use Rattle.ir_meaning.proofs.Entries.{apart}
use Rattle.block_trim.specs.MergeLaws.{MergeIsOne}
use Rattle.block_trim.specs.Merged.{IsMergeOf}
use Rattle.block_trim.specs.Laws.{TrimIsOne, TrimIsSound}
use Rattle.block_trim.specs.Trimmed.{IsTrimOf}
use Rattle.branch_simplify.specs.Laws.{SimplifiedIsSound}
use Rattle.branch_simplify.specs.Simplified.{simplified}
use Rattle.dead_code.specs.Laws.{NeededIsOne}
use Rattle.dead_code.specs.Least.{IsNeededOf}
use Rattle.ir_facts.specs.Steps.{AppliedIsOne, RoundsAreBetter}
use Rattle.slot_promote.specs.Laws.{PromotedIsSound}
use Rattle.slot_promote.specs.Promoted.{promoted_function}
use Rattle.back_end.specs.Laws.{MadeIsOne, TurnIsBetter}
use Rattle.back_end.specs.Inlinable.{AreSound}
use Rattle.back_end.specs.Made.{AreTurns, IsTurn, MadeWhere}
use Rattle.back_end.specs.Walk.{AreWalks}
use Rattle.back_end.specs.WalkLaws.{WalkIsBetter, WalkIsOne}

pub record OneLaws : Type 0 where
  pub walk : WalkIsBetter
  pub walk_one : WalkIsOne
  pub promoted_sound : PromotedIsSound
  pub turn : TurnIsBetter
  pub rounds : RoundsAreBetter
  pub branches_sound : SimplifiedIsSound
  pub trim_sound : TrimIsSound
  pub applied_one : AppliedIsOne
  pub trim_one : TrimIsOne
  pub merge_one : MergeIsOne
  pub needed_one : NeededIsOne

module _ (laws : OneLaws) where
  turn_is_one : (f g h : Function) → Sound f → IsTurn f g → IsTurn f h → g ≡ h
  turn_is_one f g h sound a b = laws.needed_one a.merged g h a.needed (subst (λ (m : Function). IsNeededOf m h) (sym merged) b.needed)
    where
      propagated : a.propagated ≡ b.propagated
      propagated = laws.applied_one f a.propagated b.propagated a.facts b.facts

      trimmed : a.trimmed ≡ b.trimmed
      trimmed = laws.trim_one (simplified a.propagated) a.trimmed b.trimmed a.trim (subst (λ (p : Function). IsTrimOf (simplified p) b.trimmed) (sym propagated) b.trim)

      -- the blocks that are joined have each their own number
      trimmed_sound : Sound a.trimmed
      trimmed_sound = laws.trim_sound (simplified a.propagated) a.trimmed a.trim (laws.branches_sound a.propagated (laws.rounds 16 f a.propagated sound a.facts).0)

      merged : a.merged ≡ b.merged
      merged = laws.merge_one a.trimmed a.merged b.merged (apart a.trimmed trimmed_sound.formed) a.merge (subst (λ (t : Function). IsMergeOf t b.merged) (sym trimmed) b.merge)

  turns_are_one : (n : ℕ) (f g h : Function) → Sound f → AreTurns n f g → AreTurns n f h → g ≡ h
  unfolding AreTurns
  turns_are_one zero f g h sound a b = a ∙ sym b
  turns_are_one (suc n) f g h sound (k, first, rest) (l, other, more) =
      turns_are_one n k g h (laws.turn f k sound first).0 rest (subst (λ (s : Function). AreTurns n s h) (turn_is_one f l k sound other first) more)

  module _ (bodies : List ℕ → Option Function) (sounds : AreSound bodies) where
    walks_are_one : (n : ℕ) (f g h : Function) → Sound f → AreWalks n bodies f g → AreWalks n bodies f h → g ≡ h
    unfolding AreWalks
    walks_are_one zero f g h sound a b = a ∙ sym b
    walks_are_one (suc n) f g h sound (k, first, rest) (l, other, more) =
        walks_are_one n k g h (laws.walk bodies f k sound sounds first).0 rest (subst (λ (s : Function). AreWalks n bodies s h) (laws.walk_one bodies f l k other first) more)

    walks_sound : (n : ℕ) (f g : Function) → Sound f → AreWalks n bodies f g → Sound g
    unfolding AreWalks
    walks_sound zero f g sound e = subst Sound (sym e) sound
    walks_sound (suc n) f g sound (h, one, rest) = walks_sound n h g (laws.walk bodies f h sound sounds one).0 rest

    where_is_one : (b : Bool) (f g h : Function) → Sound f → MadeWhere b bodies f g → MadeWhere b bodies f h → g ≡ h
    where_is_one true f g h sound a b = a ∙ sym b
    where_is_one false f g h sound a b =
        a.order
        ∙ ap in_text_order
        (turns_are_one 3 (promoted_function a.walked) a.turned b.turned (laws.promoted_sound a.walked (walks_sound 3 f a.walked sound a.walks)) a.turns
        (subst (λ (w : Function). AreTurns 3 (promoted_function w) b.turned) (walks_are_one 3 f b.walked a.walked sound b.walks a.walks) b.turns))
        ∙ sym b.order

  pub made_once : MadeIsOne
  made_once bodies f g h sound sounds a b = where_is_one bodies sounds f.optnone f g h sound a b
