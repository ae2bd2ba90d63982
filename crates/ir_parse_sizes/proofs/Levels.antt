-- The shapes of a constant address from the last level on.
use Rattle.std.proofs.Common.{◌≡◌, ap, ◌∙◌, ℕ, zero, suc, ◌+◌, ◌<◌, List, [], ◌∷◌, length, drop, get_or, Ok, Err}
use Rattle.ir_parse_parts.specs.declared.address.Level.{Level}
use Rattle.ir_parse_names.specs.declared.fault.Fault.{Fault}
use Rattle.ir_tree.specs.declared.failure.Failure.{Failure}
use Rattle.ir_tree.specs.declared.failure.Failure.TheVariants as errors
use Rattle.ir_parse_names.specs.Resolving.{ResolvesTo, ◌>>=◌}
use Rattle.ir_parse_names.specs.Stages.{Passes, passes, levels_within}
use Rattle.ir_parse_names.specs.Types.{Types, expanded}
use Rattle.ir_parse_names.proofs.Each.{here}

module _ (types : Types) (ls : List Level) (k : ℕ) (l : Level) (at : k < length ls) (is : l ≡ get_or ls k l) (h : levels_within types (drop (k + 1) ls) ≡ Ok tt) where
  step : levels_within types (drop k ls) ≡ passes (expanded types l.typed)
  step = ap (levels_within types) (here ls k l at is) ∙ ap (λ (r : Passes). r >>= λ _. passes (expanded types l.typed)) h

  level_fails : (fault : Fault) → passes (expanded types l.typed) ≡ Err fault → levels_within types (drop k ls) ≡ Err fault
  level_fails fault e = step ∙ e

-- a fault of the levels from one on is that of all
later : (types : Types) (fault : Fault) (k : ℕ) (ls : List Level) → levels_within types (drop k ls) ≡ Err fault → levels_within types ls ≡ Err fault
later types fault zero ls h = h
later types fault (suc k) [] h = absurd (cc h)
later types fault (suc k) (l ∷ ls) h = ap (λ (r : Passes). r >>= λ _. passes (expanded types l.typed)) (later types fault k ls h)

-- a fault at a level is that of the address
pub fails : {Y : Type 0} (w : Y → Unit {0}) (e : Failure Fault) (types : Types) (ls : List Level) (k : ℕ) (l : Level) → k < length ls → l ≡ get_or ls k l → levels_within types (drop (k + 1) ls) ≡ Ok tt
    → ResolvesTo w (Err e) (passes (expanded types l.typed)) → ResolvesTo w (Err e) (levels_within types ls)
fails w errors.NoMemory types ls k l at is h s = tt
fails w (errors.Fault fault) types ls k l at is h s = later types fault k ls (level_fails types ls k l at is h fault s)
