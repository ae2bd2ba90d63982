-- Where an index leads in a shape.
use Rattle.std.specs.Prelude.{◌≡◌, ℤ, List, ◌∷◌, [], Option, Some, None}
use Rattle.ir_tree.specs.Forms.{Form}
use Rattle.ir_meaning.specs.Address.{displacements_into}
use Rattle.lto_bits.specs.Word.{wrapped}
use Rattle.fold_rules.specs.declared.address.Step.{Step}

-- an index of the shape leads nowhere, or into a part and by so many bytes on, modulo 2 ^ 64, whatever indices follow
abbrev pub IsStep : Form → ℤ → Option Step → Type 0
IsStep shape i None = (is : List ℤ) → displacements_into shape (i ∷ is) ≡ []
IsStep shape i (Some s) = (by : ℤ) × (wrapped 64 s.bytes ≡ wrapped 64 by) × ((is : List ℤ) → displacements_into shape (i ∷ is) ≡ by ∷ displacements_into s.part.now is)
