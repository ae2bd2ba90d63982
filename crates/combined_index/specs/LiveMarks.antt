-- What is known of a link once its live symbols are marked.
use Rattle.std.specs.Prelude.{◌≡◌, ℕ, Bool, true, ◌&&◌, not, nat_eq, is_none, is_some, if◌then◌else◌, List, length, Contains, Option, Some, None, Result, Ok, Err, slice_get}
use Rattle.std.specs.List.{list_any, position_from}
use Rattle.ir_tree.specs.declared.operand.Symbol.{Symbol}
use Rattle.lto_sets.specs.Sets.{contains}
use Rattle.combined_index.specs.Combined.{Combined, number_of, prevailing_of}
use Rattle.combined_index.specs.declared.definition.Definition.{Definition}
use Rattle.combined_index.specs.Best.{IsBest}
use Rattle.combined_index.specs.Liveness.{IsExported, is_host}
use Rattle.ir_tree.specs.declared.failure.Failure.{Failure}
use Rattle.combined_index.specs.declared.refused.Refused.{Refused}
use Rattle.ir_tree.specs.declared.failure.Failure.TheVariants as error
use Rattle.combined_index.specs.declared.refused.Refused.TheVariants as refused

-- ---- exported names

abbrev pub if_defined : Combined → Option ℕ → Option ℕ
if_defined c None = None
if_defined c (Some n) = if is_some (prevailing_of c n) then Some n else None

-- the number of a name that is defined for others
abbrev pub exported : Combined → List ℕ → Option ℕ
exported c name = if_defined c (number_of c name)

-- the exported symbols are reached, and wait
pub record IsStarted (c : Combined) (roots : List (List ℕ)) (reached : List Bool) (waiting : List ℕ) : Type 0 where
  pub long : length reached ≡ length c.symbols
  pub sound : (b : ℕ) → contains reached b ≡ true → IsExported c roots b
  pub begun : (b : ℕ) → IsExported c roots b → contains reached b ≡ true
  pub marked : (b : ℕ) → Contains waiting b → contains reached b ≡ true
  pub waits : (b : ℕ) → contains reached b ≡ true → Contains waiting b

abbrev pub IsUnexportedAt : Combined → List (List ℕ) → ℕ → List ℕ → Type 0
IsUnexportedAt c roots k name = (slice_get roots k ≡ Some name) × (exported c name ≡ None)

-- ---- undefined names

abbrev pub is_lacking : Combined → List Bool → ℕ → Symbol → Bool
is_lacking c marks n s = contains marks n && (is_none s.home && (is_none (prevailing_of c n) && not (is_host s.name)))

abbrev pub IsLackingAt : Combined → List Bool → ℕ → List ℕ → Type 0
IsLackingAt c marks n name = (s : Symbol) × (slice_get c.symbols n ≡ Some s) × (s.name ≡ name) × (is_lacking c marks n s ≡ true)

-- a definition of a marked symbol that prevails and refers to n
abbrev pub refers : List Bool → ℕ → Definition → Bool
refers marks n d = d.prevails && (contains marks d.symbol && list_any (λ r. nat_eq r n) d.refs)

abbrev pub any_refers : List Bool → ℕ → List Definition → Bool
any_refers marks n ds = list_any (refers marks n) ds

-- some module refers to each symbol that is lacking
abbrev pub AreReferred : Combined → List Bool → Type 0
AreReferred c marks = (n : ℕ) (name : List ℕ) → IsLackingAt c marks n name → position_from (any_refers marks n) 0 c.modules ≡ None → ⊥

-- ---- the two checks

abbrev pub ChecksDefined : Combined → List Bool → Result (Unit {0}) (Failure Refused) → Type 0
ChecksDefined c marks (Ok done) = IsBest (IsLackingAt c marks) (length c.symbols) None
ChecksDefined c marks (Err (error.Fault (refused.Undefined name k))) =
    (n : ℕ) × IsBest (IsLackingAt c marks) (length c.symbols) (Some (name, n)) × (position_from (any_refers marks n) 0 c.modules ≡ Some k)
ChecksDefined c marks (Err (error.Fault (refused.NoExport name))) = ⊥
ChecksDefined c marks (Err error.NoMemory) = Unit {0}

abbrev pub ChecksExported : Combined → List (List ℕ) → Result (Unit {0}) (Failure Refused) → Type 0
ChecksExported c roots (Ok done) = IsBest (IsUnexportedAt c roots) (length roots) None
ChecksExported c roots (Err (error.Fault (refused.Undefined name k))) = ⊥
ChecksExported c roots (Err (error.Fault (refused.NoExport name))) = (k : ℕ) × IsBest (IsUnexportedAt c roots) (length roots) (Some (name, k))
ChecksExported c roots (Err error.NoMemory) = Unit {0}
