-- The arguments of a run, place by place.
use Rattle.std.specs.Prelude.{ℕ, Option, Some, None}
use Rattle.ir_tree.specs.declared.function.Param.{Param}
use Rattle.ir_tree.specs.declared.operand.Reg.{Reg}
use Rattle.ir_tree.specs.declared.operand.Reg.TheVariants.{Int, Ptr}
use Rattle.ir_parse_parts.specs.Literals.{IsWidth}
use Rattle.lto_words.specs.declared.list.Decimal.{Decimal}
use Rattle.run_program.specs.Starting.{argument}

-- integers are 1 to 64 bits wide
abbrev pub IsTyped : Reg → Type 0
IsTyped (Int w) = IsWidth w
IsTyped Ptr = Unit {0}

-- and so in what a function gives
abbrev pub IsGiven : Option Reg → Type 0
IsGiven None = Unit {0}
IsGiven (Some reg) = IsTyped reg

-- what a parameter takes, if there are one and an argument
abbrev pub argument_at : Option Param → Option Decimal → Option ℕ
argument_at None d = None
argument_at (Some p) None = None
argument_at (Some p) (Some d) = argument p.reg d
