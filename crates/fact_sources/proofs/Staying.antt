-- What an edit that leaves numbers leaves as it is.
use Rattle.std.proofs.Common.{◌≡◌, ℕ, List, [], ◌∷◌, Option, None, Some, map, option_map, refl, ap}
use Rattle.ir_tree.specs.declared.block.Case.{Case}
use Rattle.ir_tree.specs.declared.function.Param.{Param}
use Rattle.ir_tree.specs.Edited.{case_edited, param_edited}

pub local_stays : (o : Option ℕ) → option_map (λ x. x) o ≡ o
local_stays None = refl
local_stays (Some x) = refl

pub cases_stay : (cs : List Case) → map (case_edited (λ x. x)) cs ≡ cs
cases_stay [] = refl
cases_stay (d ∷ cs) = ap (λ (more : List Case). d ∷ more) (cases_stay cs)

pub params_stay : (ps : List Param) → ps ≡ map (param_edited (λ x. x)) ps
params_stay [] = refl
params_stay (p ∷ ps) = ap (λ (more : List Param). p ∷ more) (params_stay ps)
