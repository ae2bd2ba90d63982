-- The chains of calls along which a module imports functions.
use Rattle.std.specs.Prelude.{◌≡◌, ◌*◌, ◌/◌, ℕ, zero, suc, Bool, true, false, ◌&&◌, not, nat_le, List, [], Contains, Option, Some, None}
use Rattle.std.specs.List.{list_any}
use Rattle.ir_tree.specs.declared.function.Linkage.{Linkage}
use Rattle.ir_tree.specs.Linkages.{is_replaceable}
use Rattle.ir_tree.specs.declared.function.Linkage.TheVariants as linkage
use Rattle.lto_sets.specs.Sets.{contains}
use Rattle.combined_index.specs.Combined.{Combined, prevailing_of, prevails_for}
use Rattle.combined_index.specs.declared.definition.Definition.{Definition}

-- ---- what may be imported

abbrev pub is_eligible : Definition → Bool
is_eligible d = not d.noinline && (not d.optnone && not (is_replaceable d.linkage))

-- a function of so many instructions at most; a variable is none
abbrev pub counts_within : ℕ → Option ℕ → Bool
counts_within most None = false
counts_within most (Some count) = nat_le count most

abbrev pub is_small : ℕ → Option Definition → Bool
is_small most None = false
is_small most (Some d) = is_eligible d && counts_within most d.count

-- the definition of the symbol that prevails is an eligible function of so many instructions at most
abbrev pub is_importable : Combined → ℕ → ℕ → Bool
is_importable c most g = is_small most (prevailing_of c g)

-- the most instructions that the function at place k of a chain may have: at the first place, 0, the limit, at each
-- further one seven tenths of what it was before, rounded down
abbrev pub threshold : ℕ → ℕ → ℕ
threshold limit zero = limit
threshold limit (suc k) = threshold limit k * 7 / 10

-- ---- chains, for a module that has these definitions

-- one of them is of this symbol and prevails
abbrev pub is_own : List Definition → ℕ → Bool
is_own own g = list_any (prevails_for g) own

-- one of them that prevails, of a live symbol, calls g
pub record IsCalled (live : List Bool) (own : List Definition) (g : ℕ) : Type 0 where
  pub caller : Definition
  pub there : Contains own caller
  pub prevails : caller.prevails ≡ true
  pub alive : contains live caller.symbol ≡ true
  pub calls : Contains caller.calls g

abbrev pub callees_of : Option Definition → List ℕ
callees_of None = []
callees_of (Some d) = d.calls

-- the callees of direct calls in the body of a function that prevails
abbrev pub callees : Combined → ℕ → List ℕ
callees c f = callees_of (prevailing_of c f)

-- g, which isn't the module's own, may stand at place k
pub record MayStand (c : Combined) (limit : ℕ) (own : List Definition) (k g : ℕ) : Type 0 where
  pub importable : is_importable c (threshold limit k) g ≡ true
  pub outside : is_own own g ≡ false

-- a chain of direct calls leads from a live definition of the module to g at place k
pub data Chain (c : Combined) (live : List Bool) (limit : ℕ) (own : List Definition) : ℕ → ℕ → Type 0 where
  begins : (g : ℕ) → IsCalled live own g → MayStand c limit own 0 g → Chain c live limit own 0 g
  goes_on : (k f g : ℕ) → Chain c live limit own k f → Contains (callees c f) g → MayStand c limit own (suc k) g → Chain c live limit own (suc k) g

abbrev pub IsImported : Combined → List Bool → ℕ → List Definition → ℕ → Type 0
IsImported c live limit own g = (k : ℕ) × Chain c live limit own k g
