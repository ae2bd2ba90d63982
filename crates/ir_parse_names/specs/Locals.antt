-- The numbers of locals: parameters, blocks and results share one counter (LangRef, "Identifiers").
use Rattle.std.specs.Prelude.{◌⊎◌, ℕ, ◌+◌, ◌^◌, ◌<◌, ◌≤◌, Bool, true, false, ◌||◌, nat_lt, is_some, if◌then◌else◌, List, [], ◌∷◌, ◌++◌, map, position, Option, None, Some, Result, Ok, Err}
use Rattle.std.specs.List.{position_or_len}
use Rattle.ir_lex.specs.Tok.{Tok}
use Rattle.ir_parse_names.specs.declared.fault.Fault.{Fault}
use Rattle.ir_parse_names.specs.declared.fault.NameFault.TheVariants.{Twice, Unknown}
use Rattle.ir_parse_names.specs.declared.locals.Sort.{Sort}
use Rattle.ir_parse_names.specs.declared.locals.Sort.TheVariants.{Value, Block}
use Rattle.ir_parse_names.specs.Keys.{Key, spelled, written, key_of, same_key}
use Rattle.ir_parse_names.specs.Resolving.{◌>>=◌}

-- the definitions so far in the order of the text, each with its sort, and the counter
pub record LocalTable : Type 0 where
  pub definitions : List (Key × Sort)
  pub counter : ℕ

abbrev pub none_known : LocalTable
none_known = record { definitions = []; counter = 0 }

-- the place of the first definition of the key
abbrev pub place_of : List (Key × Sort) → Key → Option ℕ
place_of definitions key = position (same_key key) (map (λ d. d.0) definitions)

-- its sort
abbrev pub sort_of : List (Key × Sort) → Key → Option Sort
sort_of [] key = None
sort_of (d ∷ ds) key = if same_key key d.0 then Some d.1 else sort_of ds key

abbrev pub stands : List (Key × Sort) → Key → Bool
stands definitions key = is_some (sort_of definitions key)

-- the counter goes on behind a written number
abbrev pub counted : ℕ → Key → ℕ
counted counter (spelled name) = counter
counted counter (written n) = n + 1

abbrev pub is_below : ℕ → Key → Bool
is_below counter (spelled name) = false
is_below counter (written n) = nat_lt n counter

abbrev pub with_key : LocalTable → Key → Sort → LocalTable
with_key known key sort = record { definitions = known.definitions ++ (key, sort) ∷ []; counter = counted known.counter key }

abbrev pub twice : ℕ → Fault
twice line = record { line = line; kind = Twice }

abbrev pub unknown : ℕ → Fault
unknown line = record { line = line; kind = Unknown }

-- a name is defined once, and a written number is at least the counter
abbrev pub with_definition : LocalTable → ℕ → Key → Sort → Result LocalTable Fault
with_definition known line key sort =
    if is_below known.counter key || stands known.definitions key then Err (twice line) else Ok (with_key known key sort)

-- what has no name takes the counter
abbrev pub with_name : LocalTable → Option Tok → Sort → Result LocalTable Fault
with_name known None sort = Ok (with_key known (written known.counter) sort)
with_name known (Some name) sort = with_definition known name.line (key_of name) sort

abbrev pub with_all : LocalTable → List (Option Tok × Sort) → Result LocalTable Fault
with_all known [] = Ok known
with_all known (d ∷ ds) = with_name known d.0 d.1 >>= λ k. with_all k ds

-- ---- uses

abbrev pub same_sort : Sort → Sort → Bool
same_sort Value Value = true
same_sort Value Block = false
same_sort Block Value = false
same_sort Block Block = true

abbrev pub is_used_as : Sort → Option Sort → Bool
is_used_as sort None = false
is_used_as sort (Some s) = same_sort sort s

-- the number of what is known by the key: its place in the text. A value is no block, and a block no value
abbrev pub numbered : LocalTable → Sort → ℕ → Key → Result ℕ Fault
numbered known sort line key =
    if is_used_as sort (sort_of known.definitions key) then Ok (position_or_len (same_key key) (map (λ d. d.0) known.definitions)) else Err (unknown line)

abbrev pub number_in : LocalTable → Sort → Tok → Result ℕ Fault
number_in known sort name = numbered known sort name.line (key_of name)

-- ---- each number that was written or counted is below the counter

abbrev pub IsBelow : ℕ → Key → Type 0
IsBelow counter (spelled name) = Unit {0}
IsBelow counter (written n) = n < counter

abbrev pub AreBelow : ℕ → List (Key × Sort) → Type 0
AreBelow counter [] = Unit {0}
AreBelow counter (d ∷ ds) = IsBelow counter d.0 × AreBelow counter ds

-- a key that may be the next: a name, a number that a text can write, or one up to the counter
abbrev pub MayFollow : ℕ → Key → Type 0
MayFollow counter (spelled name) = Unit {0}
MayFollow counter (written n) = (n < 2 ^ 32) ⊎ (n ≤ counter)
