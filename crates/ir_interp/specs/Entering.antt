-- The locals that a function begins with.
use Rattle.std.specs.Prelude.{ℕ, ◌<◌, List, [], ◌∷◌}
use Rattle.ir_meaning.specs.Frame.{Locals}
use Rattle.ir_meaning.specs.declared.value.Value.{Value as MeantValue}

-- the parameters with their values
abbrev pub params_meant : List ℕ → List MeantValue → Locals
params_meant [] values = []
params_meant (x ∷ xs) [] = []
params_meant (x ∷ xs) (v ∷ vs) = (x, v) ∷ params_meant xs vs

-- so many registers are enough for these parameters
abbrev pub ParamsFit : ℕ → List ℕ → Type 0
ParamsFit n [] = Unit {0}
ParamsFit n (x ∷ xs) = (x < n) × ParamsFit n xs
