-- Lines that name the target or the source, and comdats (LangRef, "Data Layout", "Target Triple", "Source Filename",
-- "Comdats").
use Rattle.std.specs.Prelude.{ℕ, Bool, true, false, ◌&&◌, nat_eq, if◌then◌else◌, Option, Some, None, Result, Ok, Err, List, [], ◌∷◌, drop, codes}
use Rattle.std.specs.Str.{bytes_eq}
use Rattle.ir_lex.specs.declared.token_kind.TokenKind.TheVariants as kinds
use Rattle.ir_lex.specs.TokenKinds.{number, begins_with}
use Rattle.ir_lex.specs.Quotes.{content}
use Rattle.ir_lex.specs.Tok.{Tok}
use Rattle.ir_parse_parts.specs.declared.fault.TokenFault.{TokenFault}
use Rattle.ir_parse_parts.specs.declared.fault.TokenFault.TheVariants.{Profile}
use Rattle.ir_parse_parts.specs.Forms.{Form, ◌>>=◌, either, gives, token}
use Rattle.ir_parse_parts.specs.Classes.{the, one_of, itself, refusal}
use Rattle.ir_parse_parts.specs.declared.raw.Item.{Item}
use Rattle.ir_parse_parts.specs.declared.raw.Item.TheVariants.{Datalayout, Triple}

-- ---- data layouts

-- the parts of a text between its separators
abbrev pub with_byte : ℕ → List (List ℕ) → List (List ℕ)
with_byte b [] = (b ∷ []) ∷ []
with_byte b (item ∷ more) = (b ∷ item) ∷ more

abbrev pub split_at : ℕ → List ℕ → List (List ℕ)
split_at separator [] = [] ∷ []
split_at separator (b ∷ bs) = if nat_eq b separator then [] ∷ split_at separator bs else with_byte b (split_at separator bs)

-- what stands before the first separator
abbrev pub until : ℕ → List ℕ → List ℕ
until separator [] = []
until separator (b ∷ bs) = if nat_eq b separator then [] else b ∷ until separator bs

-- what stands behind the first separator, if there is one
abbrev pub after : ℕ → List ℕ → Option (List ℕ)
after separator [] = None
after separator (b ∷ bs) = if nat_eq b separator then Some bs else after separator bs

-- sizes in bits begin with 64
unfoldable pub has_64_bits : List ℕ → Bool
has_64_bits sizes = bytes_eq (until 58 sizes) (codes "64")

-- an item of a layout that is little endian, with pointers of 64 bits in address space 0
unfoldable pub fits_item : List ℕ → Bool
fits_item item =
    if bytes_eq item (codes "E") then false
    else (if begins_with (codes "p:") item then has_64_bits (drop 2 item)
    else (if begins_with (codes "p0:") item then has_64_bits (drop 3 item)
    else true))

abbrev pub all_fit : List (List ℕ) → Bool
all_fit [] = true
all_fit (item ∷ more) = fits_item item && all_fit more

unfoldable pub fits_layout : List ℕ → Bool
fits_layout text = all_fit (split_at 45 text)

-- a string that is a layout that is supported; another string is refused as a part of the language that isn't read
unfoldable pub is_layout : Tok → Result Tok TokenFault
is_layout t = if nat_eq (number t.kind) (number kinds.Str) then (if fits_layout (content t.form t.text) then Ok t else Err Profile) else Err (refusal (number t.kind))

-- ---- lines

abbrev pub STRING : List ℕ
STRING = number kinds.Str ∷ []

unfoldable pub layout_line : Form Tok Item
layout_line = do
  _ ← the kinds.Datalayout
  _ ← the kinds.Equals
  layout ← token is_layout
  gives (Datalayout layout)

unfoldable pub triple_line : Form Tok Item
triple_line = do
  _ ← the kinds.Triple
  _ ← the kinds.Equals
  triple ← one_of STRING itself
  gives (Triple triple)

-- target datalayout = Str / target triple = Str
unfoldable pub target_line : Form Tok Item
target_line = do
  _ ← the kinds.Target
  either layout_line triple_line

-- source_filename = Str
unfoldable pub source_line : Form Tok (Unit {0})
source_line = do
  _ ← the kinds.SourceFilename
  _ ← the kinds.Equals
  the kinds.Str

-- Comdat = comdat any
unfoldable pub comdat_line : Form Tok (Unit {0})
comdat_line = do
  _ ← the kinds.ComdatName
  _ ← the kinds.Equals
  _ ← the kinds.Comdat
  the kinds.Any
