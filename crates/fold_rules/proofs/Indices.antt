-- Offsets behind one more constant index.
use Rattle.std.proofs.Common.{◌≡◌, ℕ, List, [], ◌∷◌, Option, Some, None, option_map, ℤ, refl, ap}
use Rattle.ir_tree.specs.Forms.{Form}
use Rattle.ir_meaning.specs.Frame.{cons_index}
use Rattle.fold_rules.specs.Walking.{displacements_in}

pub behind_index : (f g : List ℤ → ℕ) (i : ℤ) (is : Option (List ℤ)) → ((js : List ℤ) → f js ≡ g (i ∷ js)) → option_map f is ≡ option_map g (cons_index (Some i) is)
behind_index f g i None h = refl
behind_index f g i (Some js) h = ap Some (h js)

pub none_behind : (o : Option Form) → displacements_in o [] ≡ []
none_behind None = refl
none_behind (Some f) = refl
