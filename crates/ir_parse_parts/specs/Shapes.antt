-- A shape as it is written, type names and all.
use Rattle.std.specs.Prelude.{◌≡◌, refl, ℕ, Bool, List, [], ◌∷◌}
use Rattle.std.proofs.Common.{ap}
use Rattle.ir_lex.specs.Tok.{Tok}

mutual
  pub data Written : Type 0 where
    int : (width : ℕ) → Written
    pointer : Written
    array : (count : ℕ) (of : Written) → Written
    structure : (packed : Bool) (parts : WrittenParts) → Written
    named : (name : Tok) → Written

  pub data WrittenParts : Type 0 where
    no_parts : WrittenParts
    part : (first : Written) (rest : WrittenParts) → WrittenParts

abbrev pub parts_of : List Written → WrittenParts
parts_of [] = no_parts
parts_of (s ∷ more) = part s (parts_of more)

abbrev pub list_of : WrittenParts → List Written
list_of no_parts = []
list_of (part s more) = s ∷ list_of more

pub list_of_parts : (shapes : List Written) → list_of (parts_of shapes) ≡ shapes
list_of_parts [] = refl
list_of_parts (s ∷ more) = ap (λ rest. s ∷ rest) (list_of_parts more)
