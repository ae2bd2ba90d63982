-- The least name of those at the first places of a list.
use Rattle.std.specs.Prelude.{◌≢◌, ℕ, ◌<◌, Bool, List, Option, Some, None, if◌then◌else◌}
use Rattle.std.specs.Cmp.Lexicographic.{slice_cmp}
use Rattle.std.specs.Ordering.{nat_cmp}
use Rattle.std.specs.declared.cmp.Ordering.TheVariants.{Greater}
use Rattle.ir_tree.specs.NameOrder.{comes_before}

-- a name with its place
abbrev pub Candidate : Type 0
Candidate = List ℕ × ℕ

abbrev pub lesser : Option Candidate → Candidate → Option Candidate
lesser None e = Some e
lesser (Some best) e = if comes_before e.0 best.0 then Some e else Some best

abbrev pub lesser_if : Bool → Option Candidate → Candidate → Option Candidate
lesser_if counts best e = if counts then lesser best e else best

abbrev pub AtMost : List ℕ → List ℕ → Type 0
AtMost a b = slice_cmp nat_cmp a b ≢ Greater

-- of the names that hold at a place below the end, this is the least; or there is none
abbrev pub IsBest : (ℕ → List ℕ → Type 0) → ℕ → Option Candidate → Type 0
IsBest holds end None = (k : ℕ) (name : List ℕ) → k < end → holds k name → ⊥
IsBest holds end (Some f) = (f.1 < end) × holds f.1 f.0 × ((k : ℕ) (name : List ℕ) → k < end → holds k name → AtMost f.0 name)
