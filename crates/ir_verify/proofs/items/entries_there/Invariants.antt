use Rattle.std.proofs.Common.{take}
use Rattle.std.specs.Prelude.{All}
use Rattle.ir_tree.specs.Rules.{IsThereAtEnd, place}
use Rattle.ir_tree.specs.declared.instr.Incoming.{Incoming}
use Rattle.ir_verify.proofs.items.entries_there.Given as goal

abbrev pub invariant-loop-entry : goal.invariant-loop-entry
invariant-loop-entry l = All (λ (e : Incoming). IsThereAtEnd l.function (place l.function.blocks e.from) e.value) (take l.entry-index l.entries)
