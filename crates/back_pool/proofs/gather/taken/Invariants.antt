use Rattle.std.proofs.Common.{◌≡◌, ◌≤◌, ◌+◌, Some, length, map}
use Rattle.std.specs.Prelude.{vec_capacity}
use Rattle.back_pool.proofs.gather.taken.Given as goal

abbrev pub invariant-loop-slot : goal.invariant-loop-slot
invariant-loop-slot l = record {
  moved : l.yielded ≡ map Some l.list.items;
  room : length l.list.items + length l.slot-iterator.rest.items ≤ vec_capacity l.list;
}
