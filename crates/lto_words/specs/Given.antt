-- What is given for the options and names of a command, and what it means.
use Rattle.std.specs.Prelude.{◌≡◌, ◌&&◌, ℕ, Bool, true, not, List, [], ◌∷◌, length, Option, Some, None, MatchOption, nat_le, codes}
use Rattle.std.specs.List.{list_any}
use Rattle.clap.specs.Words.{Row, Text, all_of, first_of, found_of, rows_of}
use Rattle.clap.specs.declared.parser.ArgMatches.{ArgMatches}
use Rattle.lto_words.specs.Table.{Numbered}
use Rattle.lto_words.specs.Values.{AreDecimals, AreNames, IsName, WritesNumber, is_empty}
use Rattle.lto_words.specs.declared.list.Decimal.{Decimal}

-- what the parse found for each option and for the names
unfoldable pub rows_in : ArgMatches → List Row
rows_in m = rows_of (found_of m)

-- the value of an option: its default where it isn't given, else what its text means
abbrev pub OrDefault : {T : Type 0} → (T → Type 0) → (Text → T → Type 0) → Option Text → T → Type 0
OrDefault IsDefault Means given x = MatchOption given (IsDefault x) (λ text. Means text x)

abbrev pub HasNumber : Numbered → List Row → ℕ → Type 0
HasNumber o rows = OrDefault (λ n. o.default ≡ Some n) (WritesNumber o.least o.most) (first_of o.name rows)

-- `--cache DIR`
abbrev pub HasCache : List Row → Option Text → Type 0
HasCache rows dir = MatchOption (first_of (codes "cache") rows) (dir ≡ None) (λ text. MatchOption dir ⊥ (IsName text))

-- `--export LIST`
abbrev pub HasExports : List Row → List Text → Type 0
HasExports rows = OrDefault (λ names. names ≡ codes "main" ∷ []) AreNames (first_of (codes "export") rows)

-- `--root NAME`
abbrev pub HasRoot : List Row → Text → Type 0
HasRoot rows = OrDefault (λ name. name ≡ codes "main") IsName (first_of (codes "root") rows)

-- `--args LIST`
abbrev pub HasArgs : List Row → List Decimal → Type 0
HasArgs rows = OrDefault (λ numbers. numbers ≡ []) AreDecimals (first_of (codes "args") rows)

-- the name of a file that has to be given
abbrev pub HasFile : Text → List Row → Text → Type 0
HasFile id rows = OrDefault (λ _. ⊥) IsName (first_of id rows)

-- 4,096 files at most, and no name is empty
abbrev pub are_files : List Text → Bool
are_files names = nat_le (length names) 4096 && not (list_any is_empty names)

-- `FILE..`
abbrev pub HasFiles : List Row → List Text → Type 0
HasFiles rows names = (all_of (codes "FILE") rows ≡ Some names) × (are_files names ≡ true)
