-- What is live in a link, and what a link lacks.
use Rattle.std.specs.Prelude.{◌≡◌, ◌≤◌, ◌↔◌, ◌||◌, ℕ, Bool, true, false, IsTrue, List, [], length, Contains, Option, Some, None, Result, Ok, Err, slice_get, codes}
use Rattle.std.specs.Str.{bytes_eq}
use Rattle.lto_sets.specs.Sets.{contains}
use Rattle.symbol_resolve.specs.Clashes.{IsLeast}
use Rattle.combined_index.specs.Combined.{Combined, number_of, prevailing_of}
use Rattle.combined_index.specs.declared.definition.Definition.{Definition}
use Rattle.combined_index.specs.Reach.{IsReached}
use Rattle.ir_tree.specs.declared.failure.Failure.{Failure}
use Rattle.ir_tree.specs.declared.failure.Failure.TheVariants as error
use Rattle.combined_index.specs.declared.refused.Refused.{Refused}
use Rattle.combined_index.specs.declared.refused.Refused.TheVariants as refused

-- ---- what is live

-- the symbols that the definition of a symbol which prevails refers to
abbrev pub refs_of : Option Definition → List ℕ
refs_of None = []
refs_of (Some d) = d.refs

abbrev pub refs : Combined → ℕ → List ℕ
refs c n = refs_of (prevailing_of c n)

-- the symbol has a definition that prevails
abbrev pub IsDefined : Combined → ℕ → Type 0
IsDefined c n = (d : Definition) × (prevailing_of c n ≡ Some d)

-- the number is that of an exported name which is defined
abbrev pub IsExported : Combined → List (List ℕ) → ℕ → Type 0
IsExported c roots n = (name : List ℕ) × Contains roots name × (number_of c name ≡ Some n) × IsDefined c n

-- the least set that has the exported symbols and is closed under what definitions that prevail refer to
abbrev pub IsLive : Combined → List (List ℕ) → ℕ → Type 0
IsLive c roots = IsReached (IsExported c roots) (refs c)

-- ---- what is lacking

-- the functions that the system gives
abbrev pub is_host : List ℕ → Bool
is_host name = bytes_eq name (codes "putchar") || bytes_eq name (codes "getchar")

-- the symbol is this name's, and no module's own
abbrev pub IsNamed : Combined → ℕ → List ℕ → Type 0
IsNamed c n name = slice_get c.symbols n ≡ Some (record { home = None; name = name })

-- the definition of a live symbol refers to this one, which has none and isn't the system's
pub record IsLacking (c : Combined) (roots : List (List ℕ)) (n : ℕ) (name : List ℕ) : Type 0 where
  pub named : IsNamed c n name
  pub foreign : is_host name ≡ false
  pub undefined : prevailing_of c n ≡ None
  pub referred : (m : ℕ) × IsLive c roots m × Contains (refs c m) n

abbrev pub IsUndefined : Combined → List (List ℕ) → List ℕ → Type 0
IsUndefined c roots name = (n : ℕ) × IsLacking c roots n name

-- module k has a definition of a live symbol that prevails and refers to the symbol n
pub record RefersFrom (c : Combined) (roots : List (List ℕ)) (n k : ℕ) : Type 0 where
  pub definitions : List Definition
  pub definition : Definition
  pub there : slice_get c.modules k ≡ Some definitions
  pub one : Contains definitions definition
  pub prevails : definition.prevails ≡ true
  pub live : IsLive c roots definition.symbol
  pub refers : Contains definition.refs n

pub record IsFirstModule (c : Combined) (roots : List (List ℕ)) (n k : ℕ) : Type 0 where
  pub one : RefersFrom c roots n k
  pub first : (other : ℕ) → RefersFrom c roots n other → k ≤ other

-- the name is to be exported, and isn't defined
abbrev pub IsUnexported : Combined → List (List ℕ) → List ℕ → Type 0
IsUnexported c roots name = Contains roots name × ((n : ℕ) → number_of c name ≡ Some n → prevailing_of c n ≡ None)

-- ---- what a call gives

abbrev pub NoneUndefined : Combined → List (List ℕ) → Type 0
NoneUndefined c roots = (name : List ℕ) → IsUndefined c roots name → ⊥

abbrev pub AllExported : Combined → List (List ℕ) → Type 0
AllExported c roots = (name : List ℕ) → IsUnexported c roots name → ⊥

abbrev pub Refuses : Combined → List (List ℕ) → Refused → Type 0
Refuses c roots (refused.Undefined name k) =
    IsLeast (IsUndefined c roots) name × ((n : ℕ) × IsLacking c roots n name × IsFirstModule c roots n k)
Refuses c roots (refused.NoExport name) = NoneUndefined c roots × IsLeast (IsUnexported c roots) name

-- a mark for each symbol, which says whether it is live
pub record AreLive (c : Combined) (roots : List (List ℕ)) (marks : List Bool) : Type 0 where
  pub long : length marks ≡ length c.symbols
  pub live : (n : ℕ) → IsTrue (contains marks n) ↔ IsLive c roots n

-- what a call gives that may lack memory
abbrev pub Decides : Combined → List (List ℕ) → Result (List Bool) (Failure Refused) → Type 0
Decides c roots (Ok marks) = AreLive c roots marks × NoneUndefined c roots × AllExported c roots
Decides c roots (Err (error.Fault why)) = Refuses c roots why
Decides c roots (Err error.NoMemory) = Unit {0}
