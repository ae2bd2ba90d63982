-- The law of the rule table.
use Rattle.std.specs.Prelude.{◌≡◌, false, Some}
use Rattle.ir_tree.specs.declared.instr.Instr.{Instr}
use Rattle.ir_tree.specs.declared.operand.Operand.{Operand}
use Rattle.ir_meaning.specs.Table.{may_choose, rule}
use Rattle.ir_meaning.specs.Facts.{RuleAlways, RuleSometimes}

-- the operand of each row may stand for what the instruction gives, under some free choice, and always where none is made
abbrev pub TableRight : Type 0
TableRight = (i : Instr) (v : Operand) → rule i ≡ Some v → RuleSometimes i v × (may_choose i ≡ false → RuleAlways i v)
