-- Where an index leads in a shape.
use Rattle.std.specs.Prelude.{◌≡◌, ◌*ℤ◌, ℤ, pos, List, ◌∷◌, [], Option, Some, None}
use Rattle.ir_tree.specs.Forms.{Form}
use Rattle.ir_meaning.specs.Address.{displacements_into}
use Rattle.ir_machine.specs.declared.part.Step.{Step}

-- an index of the shape leads nowhere, or into a part and by so many bytes on, whatever indices follow
abbrev pub IsStep : Form → ℤ → Option Step → Type 0
IsStep shape i None = (is : List ℤ) → displacements_into shape (i ∷ is) ≡ []
IsStep shape i (Some s) = (is : List ℤ) → displacements_into shape (i ∷ is) ≡ (s.count *ℤ pos s.bytes) ∷ displacements_into s.part.now is
