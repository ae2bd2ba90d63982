use Rattle.std.proofs.Common.{◌≡◌, length, take}
use Rattle.ir_flow.specs.Narrowing.{IsNarrowed}
use Rattle.ir_flow.proofs.narrow.narrow_all.Given as goal

abbrev pub invariant-loop-target : goal.invariant-loop-target
invariant-loop-target l = record {
  done : IsNarrowed (take l.target-index l.targets) l.fixed l.end l.initial.rows l.initial.waiting.queue.items l.rows l.waiting.queue.items;
  spare : length l.spare ≡ length l.end;
  count : length l.waiting.waiting ≡ length l.initial.waiting.waiting;
}
