use Rattle.std.proofs.Common.{sym, subst, List, IsTrue, ◌↔◌}
use Rattle.std.specs.Prelude.{All}
use Rattle.ir_tree.specs.declared.instr.Incoming.{Incoming}
use Rattle.ir_tree.specs.Formed.{ArgumentFormed, IsBlock, OperandFormed}
use Rattle.ir_tree.specs.Items.{reads, phi_reads}
use Rattle.ir_tree.specs.Rules.{IsThereAtEnd, place}
use Rattle.ir_verify.proofs.Kept.{all_right, taken_formed}
use Rattle.ir_verify.proofs.items.taken_there.Goals as goal

pub entries_there-requires-clause-sources : goal.entries_there-requires-clause-sources
entries_there-requires-clause-sources c = subst (λ (es : List Incoming). All (λ e. IsBlock c.args.function.now e.from) es) (sym c.taken.ensures) c.requires.item.sources

pub entries_there-requires-clause-values : goal.entries_there-requires-clause-values
entries_there-requires-clause-values c =
    subst (λ (es : List Incoming). All (λ e. OperandFormed c.args.function.now e.value) es) (sym c.taken.ensures)
    (taken_formed c.args.function.now c.args.line.now.instr (all_right (ArgumentFormed c.args.function.now) (reads c.args.line.now.instr) (phi_reads c.args.line.now.instr) c.requires.item.operands))

pub returns : goal.returns
returns c =
    subst (λ (es : List Incoming). IsTrue c.entries_there.result ↔ All (λ e. IsThereAtEnd c.args.function.now (place c.args.function.now.blocks e.from) e.value) es) c.taken.ensures c.entries_there.ensures
