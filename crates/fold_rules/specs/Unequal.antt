-- A symbol's address and null.
use Rattle.std.specs.Prelude.{ℕ, zero, suc, false, Option, None}
use Rattle.ir_tree.specs.declared.instr.Predicate.{Predicate}
use Rattle.ir_tree.specs.declared.operand.Operand.{Operand}
use Rattle.ir_meaning.specs.Table.{equality}

-- an equality of null and a symbol at this offset; past the first byte nothing is known
abbrev pub unequal_at : Predicate → ℕ → Option Operand
unequal_at p zero = equality p false
unequal_at p (suc n) = None
