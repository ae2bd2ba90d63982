use Rattle.std.proofs.Common.{◌≡◌, ◌∙◌, ◌≤◌, ◌+◌, ℕ, [], ◌∷◌, List, None, Option, ap, length, length-append, refl, subst, sym}
use Rattle.std.proofs.lemmas.List.Elements.{All-push, All-same}
use Rattle.lto_task.specs.declared.piece.Piece.{Piece}
use Rattle.back_pool.proofs.gather.empty.Goals as goal

abbrev IsEmpty : Option (List Piece) → Type 0
IsEmpty slot = slot ≡ None

pub loop-preserved : goal.loop-preserved
loop-preserved c = record {
  count = ap length c.push_reserved.ensures.items ∙ length-append c.loop.slots.items (None ∷ []) ∙ ap (λ (n : ℕ). n + 1) c.loop.invariant.count;
  none = All-same IsEmpty _ _ c.push_reserved.ensures.items (All-push IsEmpty c.loop.slots.items None c.loop.invariant.none refl);
  room = subst (λ (n : ℕ). c.args.count ≤ n) (sym c.push_reserved.ensures.capacity) c.loop.invariant.room;
}
