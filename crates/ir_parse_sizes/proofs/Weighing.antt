-- Shapes measured one behind the other.
use Rattle.std.proofs.Common.{◌≡◌, refl, ap, ℕ, List, [], ◌∷◌, Option, Result, Ok}
use Rattle.ir_parse_parts.specs.Shapes.{Written, parts_of}
use Rattle.ir_parse_names.specs.declared.fault.Fault.{Fault}
use Rattle.ir_parse_names.specs.Resolving.{◌>>=◌, each}
use Rattle.ir_parse_names.specs.Types.{Types}
use Rattle.ir_parse_sizes.specs.declared.measure.Measure.{Measure}
use Rattle.ir_parse_sizes.specs.declared.weigh.Known.{Known}
use Rattle.ir_parse_sizes.specs.Measures.{weigh, weigh_all}

pub weighed_each : (types : Types) (ks : List (Option Known)) (line : ℕ) (shapes : List Written) → weigh_all types ks line (parts_of shapes) ≡ each (weigh types ks line) shapes
weighed_each types ks line [] = refl
weighed_each types ks line (s ∷ more) = ap (λ (r : Result (List Measure) Fault). weigh types ks line s >>= λ m. r >>= λ ms. Ok (m ∷ ms)) (weighed_each types ks line more)
