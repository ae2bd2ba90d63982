-- The target lines of a module (LangRef, "Data Layout" and "Target Triple").
use Rattle.std.specs.Prelude.{ℕ, List, [], ◌∷◌, filter_map, Option, None, Some}
use Rattle.ir_lex.specs.Quotes.{content}
use Rattle.ir_lex.specs.Tok.{Tok}
use Rattle.ir_parse_parts.specs.declared.raw.Item.{Item}
use Rattle.ir_parse_parts.specs.declared.raw.Item.TheVariants as item

-- the string of an item that names the data layout, or the triple
abbrev pub layout_string : Item → Option Tok
layout_string (item.Datalayout string) = Some string
layout_string _ = None

abbrev pub triple_string : Item → Option Tok
triple_string (item.Triple string) = Some string
triple_string _ = None

-- the last of these, or the one before them
abbrev pub last_or : Option Tok → List Tok → Option Tok
last_or before [] = before
last_or before (t ∷ ts) = last_or (Some t) ts

-- what a string says; no string is the empty text
abbrev pub text_of : Option Tok → List ℕ
text_of None = []
text_of (Some string) = content string.form string.text

-- of several lines the last stands
abbrev pub datalayout_of : List Item → List ℕ
datalayout_of items = text_of (last_or None (filter_map layout_string items))

abbrev pub triple_of : List Item → List ℕ
triple_of items = text_of (last_or None (filter_map triple_string items))
