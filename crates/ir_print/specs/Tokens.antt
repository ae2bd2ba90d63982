-- Tokens as they are printed, each with the blank before it.
use Rattle.std.specs.Prelude.{ℕ, ◌-◌, ◌^◌, Bool, true, false, nat_eq, nat_lt, if◌then◌else◌, List, [], ◌∷◌, ◌++◌, codes, decimal}
use Rattle.ir_lex.specs.Pieces.{Piece}
use Rattle.ir_lex.specs.declared.token.TokenForm.{TokenForm}
use Rattle.ir_lex.specs.declared.token.TokenForm.TheVariants as forms
use Rattle.ir_tree.specs.Names.{quoted, escaped}

-- ---- blanks

abbrev pub tight : List ℕ
tight = []

abbrev pub space : List ℕ
space = 32 ∷ []

abbrev pub next_line : List ℕ
next_line = 10 ∷ []

abbrev pub indent : List ℕ
indent = 10 ∷ 32 ∷ 32 ∷ []

-- ---- tokens

abbrev pub piece : List ℕ → TokenForm → List ℕ → List Piece
piece blank kind [] = []
piece blank kind (c ∷ cs) = record { blank = blank; form = kind; first = c; others = cs } ∷ []

abbrev pub word : List ℕ → List ℕ → List Piece
word blank text = piece blank forms.Word text

abbrev pub mark : List ℕ → ℕ → List Piece
mark blank c = record { blank = blank; form = forms.Other; first = c; others = [] } ∷ []

abbrev pub comma : List Piece
comma = mark tight 44

abbrev pub local : List ℕ → ℕ → List Piece
local blank n = record { blank = blank; form = forms.Local; first = 37; others = decimal n } ∷ []

abbrev pub global : List ℕ → List ℕ → List Piece
global blank name = record { blank = blank; form = forms.Global; first = 64; others = quoted name } ∷ []

-- iN
abbrev pub width : List ℕ → ℕ → List Piece
width blank w = record { blank = blank; form = forms.Word; first = 105; others = decimal w } ∷ []

abbrev pub natural : List ℕ → ℕ → List Piece
natural blank n = piece blank forms.Number (decimal n)

-- N:
abbrev pub label_line : ℕ → List Piece
label_line n = piece next_line forms.Label (decimal n ++ 58 ∷ [])

abbrev pub closed : List ℕ → List ℕ
closed text = escaped text ++ 34 ∷ []

abbrev pub string : List ℕ → List ℕ → List Piece
string blank text = record { blank = blank; form = forms.Str; first = 34; others = closed text } ∷ []

abbrev pub byte_string : List ℕ → List ℕ → List Piece
byte_string blank text = record { blank = blank; form = forms.CStr; first = 99; others = 34 ∷ closed text } ∷ []

-- ---- numbers

-- bits of a width as a signed decimal
abbrev pub signed : ℕ → ℕ → List ℕ
signed w bits = if nat_lt bits (2 ^ (w - 1)) then decimal bits else 45 ∷ decimal (2 ^ w - bits)

abbrev pub signed_piece : List ℕ → ℕ → ℕ → List Piece
signed_piece blank w bits = piece blank forms.Number (signed w bits)

abbrev pub truth : ℕ → List ℕ
truth bits = if nat_eq bits 0 then codes "false" else codes "true"

-- true or false at width 1, else a signed decimal
abbrev pub number : List ℕ → ℕ → ℕ → List Piece
number blank w bits = if nat_eq w 1 then word blank (truth bits) else signed_piece blank w bits

-- a word where it is due
abbrev pub optional : List ℕ → Bool → List Piece
optional text true = word space text
optional text false = []
