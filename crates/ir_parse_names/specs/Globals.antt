-- The names of globals: each is defined or declared once, and a number is at least the counter, which goes on behind it.
use Rattle.std.specs.Prelude.{ℕ, ◌+◌, Bool, false, ◌||◌, nat_lt, if◌then◌else◌, List, [], ◌∷◌, ◌++◌, Option, None, Some, Result, Ok, Err}
use Rattle.std.specs.List.{list_any}
use Rattle.std.specs.Str.{bytes_eq}
use Rattle.ir_lex.specs.Tok.{Tok}
use Rattle.ir_parse_names.specs.declared.fault.Fault.{Fault}
use Rattle.ir_parse_names.specs.Keys.{number_of}
use Rattle.ir_parse_names.specs.Locals.{twice}
use Rattle.ir_parse_names.specs.Symbols.{symbol_name}

-- the names so far in the order of the text, and the counter
pub record Globals : Type 0 where
  pub names : List (List ℕ)
  pub counter : ℕ

abbrev pub no_globals : Globals
no_globals = record { names = []; counter = 0 }

abbrev pub has_name : List (List ℕ) → List ℕ → Bool
has_name names name = list_any (bytes_eq name) names

abbrev pub is_low : ℕ → Option ℕ → Bool
is_low counter None = false
is_low counter (Some n) = nat_lt n counter

abbrev pub counted_by : ℕ → Option ℕ → ℕ
counted_by counter None = counter
counted_by counter (Some n) = n + 1

abbrev pub with_global : Globals → Tok → Result Globals Fault
with_global g name =
    if is_low g.counter (number_of name) || has_name g.names (symbol_name name) then Err (twice name.line)
    else Ok (record { names = g.names ++ symbol_name name ∷ []; counter = counted_by g.counter (number_of name) })
