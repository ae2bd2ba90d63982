-- Modules that can't be linked with one another.
use Rattle.std.specs.Prelude.{◌≡◌, ◌≢◌, ℕ, Bool, true, false, ◌&&◌, not, List, [], ◌∷◌, Option, Some, None, IsSome, if◌then◌else◌}
use Rattle.std.specs.Cmp.Lexicographic.{slice_cmp}
use Rattle.std.specs.List.{position_from}
use Rattle.std.specs.Ordering.{nat_cmp}
use Rattle.std.specs.Str.{bytes_eq}
use Rattle.std.specs.declared.cmp.Ordering.TheVariants.{Greater}
use Rattle.ir_tree.specs.declared.module.Module.{Module}
use Rattle.symbol_resolve.specs.Mentions.{Mention, mentions, modules_with, is_function, is_variable, is_strong}
use Rattle.symbol_resolve.specs.Prevailing.{first, second}
use Rattle.symbol_resolve.specs.declared.clash.Clash.{Clash}
use Rattle.symbol_resolve.specs.declared.clash.Clash.TheVariants as clash
use Rattle.ir_tree.specs.declared.target_line.TargetLine.{TargetLine}
use Rattle.ir_tree.specs.declared.target_line.TargetLine.TheVariants.{Datalayout, Triple}

-- ---- target lines

abbrev pub target_text : TargetLine → Module → List ℕ
target_text Datalayout m = m.datalayout
target_text Triple m = m.triple

-- an empty line counts as none
abbrev pub is_given : List ℕ → Bool
is_given [] = false
is_given (b ∷ bs) = true

abbrev pub differs : List ℕ → List ℕ → Bool
differs text other = is_given other && not (bytes_eq other text)

abbrev pub first_given : TargetLine → List Module → Option ℕ
first_given line ms = position_from (λ m. is_given (target_text line m)) 0 ms

-- the first module whose line is given and isn't this text
abbrev pub first_other : TargetLine → List ℕ → List Module → Option ℕ
first_other line text ms = position_from (λ m. differs text (target_text line m)) 0 ms

-- the line of the first module that has one
abbrev pub given_text : TargetLine → List Module → List ℕ
given_text line [] = []
given_text line (m ∷ ms) = if is_given (target_text line m) then target_text line m else given_text line ms

-- the first module that has the line, and the first that has it otherwise
pub record Differ (line : TargetLine) (ms : List Module) (a b : ℕ) : Type 0 where
  pub given : first_given line ms ≡ Some a
  pub other : first_other line (given_text line ms) ms ≡ Some b

abbrev pub Agree : TargetLine → List Module → Type 0
Agree line ms = first_other line (given_text line ms) ms ≡ None

-- ---- names

-- the name comes before each other of which the fact holds, in the order of their bytes
pub record IsLeast (holds : List ℕ → Type 0) (name : List ℕ) : Type 0 where
  pub one : holds name
  pub least : (other : List ℕ) → holds other → slice_cmp nat_cmp name other ≢ Greater

-- two modules define the name externally
abbrev pub IsDuplicate : List Mention → List ℕ → Type 0
IsDuplicate ms name = IsSome (second (modules_with is_strong ms name))

-- a function in one module, a variable in another
abbrev pub IsOfTwoKinds : List Mention → List ℕ → Type 0
IsOfTwoKinds ms name = IsSome (first (modules_with is_function ms name)) × IsSome (first (modules_with is_variable ms name))

-- ---- clashes, in the order in which they are told

-- the target lines agree
abbrev pub OneTarget : List Module → Type 0
OneTarget ms = Agree Datalayout ms × Agree Triple ms

abbrev pub NoDuplicate : List Module → Type 0
NoDuplicate ms = (name : List ℕ) → IsDuplicate (mentions ms) name → ⊥

abbrev pub Clashes : List Module → Clash → Type 0
Clashes ms (clash.TargetClash Datalayout a b) = Differ Datalayout ms a b
Clashes ms (clash.TargetClash Triple a b) = Agree Datalayout ms × Differ Triple ms a b
Clashes ms (clash.DuplicateSymbol name a b) =
    OneTarget ms × IsLeast (IsDuplicate (mentions ms)) name
    × (first (modules_with is_strong (mentions ms) name) ≡ Some a) × (second (modules_with is_strong (mentions ms) name) ≡ Some b)
Clashes ms (clash.KindClash name f v) =
    OneTarget ms × NoDuplicate ms × IsLeast (IsOfTwoKinds (mentions ms)) name
    × (first (modules_with is_function (mentions ms) name) ≡ Some f) × (first (modules_with is_variable (mentions ms) name) ≡ Some v)

-- none of these
pub record NoClash (ms : List Module) : Type 0 where
  pub target : OneTarget ms
  pub duplicate : NoDuplicate ms
  pub kind : (name : List ℕ) → IsOfTwoKinds (mentions ms) name → ⊥

-- two modules whose lines differ, where there are any
abbrev pub Differing : TargetLine → List Module → Option (ℕ × ℕ) → Type 0
Differing line ms None = Agree line ms
Differing line ms (Some p) = Differ line ms p.0 p.1
