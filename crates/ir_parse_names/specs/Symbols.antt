-- The names of symbols.
use Rattle.std.specs.Prelude.{ℕ, Bool, false, nat_eq, if◌then◌else◌, List, [], ◌∷◌, None}
use Rattle.ir_lex.specs.Quotes.{stripped, content}
use Rattle.ir_lex.specs.Tok.{Tok}
use Rattle.ir_tree.specs.declared.operand.Symbol.{Symbol}
use Rattle.ir_parse_names.specs.Keys.{is_numeral}

-- a zero stands before another digit
abbrev pub is_padded : List ℕ → Bool
is_padded [] = false
is_padded (d ∷ []) = false
is_padded (d ∷ e ∷ ds) = nat_eq d 48

-- decimal digits without zeros in front
abbrev pub trimmed : List ℕ → List ℕ
trimmed [] = []
trimmed (d ∷ []) = d ∷ []
trimmed (d ∷ e ∷ ds) = if nat_eq d 48 then trimmed (e ∷ ds) else d ∷ e ∷ ds

-- a number is a name too: its decimal digits
unfoldable pub symbol_name : Tok → List ℕ
symbol_name t = if is_numeral (stripped t.form t.text) then trimmed (stripped t.form t.text) else content t.form t.text

abbrev pub symbol_of : Tok → Symbol
symbol_of t = record { home = None; name = symbol_name t }
