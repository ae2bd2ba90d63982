-- Passes in a row, in one program.
use Rattle.std.proofs.Common.{ℕ, ◌≤◌, Option, Some, None, refl}
use Rattle.ir_tree.specs.declared.function.Function.{Function}
use Rattle.ir_meaning.specs.Near.{Replaces}
use Rattle.ir_meaning.specs.Program.{Program}
use Rattle.ir_meaning.specs.Formed.{IsFormed}
use Rattle.ir_meaning.specs.Laws.{InARow}
use Rattle.ir_meaning.proofs.Alike.Itself.{same_better}
use Rattle.ir_meaning.proofs.Between.Composed.{composed}
use Rattle.ir_meaning.proofs.Between.LargerBounds.{wider}

same_code : (p : Program) → IsFormed p → (b : ℕ) → 1 ≤ b → (c : Option Function) → Replaces p b c c
same_code p formed b le None = tt
same_code p formed b le (Some f) = wider p 1 b le f f (same_better p formed f)

pub in_a_row : InARow
in_a_row p formed b1 b2 le f g h fg gh = composed p p b1 b2 f g h
    (record { signature = refl; opening = refl; code = λ s. same_code p formed b2 le (p.code s) }) fg gh
