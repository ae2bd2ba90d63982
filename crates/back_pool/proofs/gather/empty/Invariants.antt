use Rattle.std.proofs.Common.{◌≡◌, ◌≤◌, All, None, length}
use Rattle.std.specs.Prelude.{vec_capacity}
use Rattle.back_pool.proofs.gather.empty.Given as goal

abbrev pub invariant-loop : goal.invariant-loop
invariant-loop l = record {
  count : length l.slots.items ≡ l.counter;
  none : All (λ slot. slot ≡ None) l.slots.items;
  room : l.count ≤ vec_capacity l.slots;
}
