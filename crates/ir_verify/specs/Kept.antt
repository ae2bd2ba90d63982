-- The rules at a line, a phi and a terminator.
use Rattle.std.specs.Prelude.{All}
use Rattle.ir_tree.specs.Items.{reads, phi_reads, end_reads}
use Rattle.ir_tree.specs.Rules.{HasType, LineTypes, EndTypes}
use Rattle.ir_tree.specs.declared.block.Terminator.{Terminator}
use Rattle.ir_tree.specs.declared.function.Function.{Function}
use Rattle.ir_tree.specs.declared.instr.Line.{Line}

pub record LineTyped (f : Function) (l : Line) : Type 0 where
  pub reads : All (HasType f) (reads l.instr)
  pub phi : All (HasType f) (phi_reads l.instr)
  pub kind : LineTypes l.local l.instr

pub record EndTyped (f : Function) (t : Terminator) : Type 0 where
  pub reads : All (HasType f) (end_reads t)
  pub kind : EndTypes f t
