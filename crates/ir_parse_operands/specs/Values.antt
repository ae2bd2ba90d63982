-- Operands, with constant addresses among them (LangRef, "Constant Expressions"), over what spells a shape.
use Rattle.std.specs.Prelude.{ℕ, Bool, false, ◌||◌, nat_eq, Option, option_map, List, [], ◌∷◌, reverse}
use Rattle.std.specs.List.{fold}
use Rattle.ir_lex.specs.declared.token_kind.TokenKind.TheVariants as kinds
use Rattle.ir_lex.specs.TokenKinds.{number}
use Rattle.ir_lex.specs.Tok.{Tok}
use Rattle.ir_tree.specs.declared.operand.Reg.{Reg}
use Rattle.ir_parse_parts.specs.Forms.{Form, ◌>>=◌, either, gives, token, Star}
use Rattle.ir_parse_parts.specs.Rules.{is_class, is_valued}
use Rattle.ir_parse_parts.specs.Ahead.{STEPPING}
use Rattle.ir_parse_parts.specs.Classes.{tokens, refusal, the, one_of}
use Rattle.ir_parse_parts.specs.declared.address.Index.{Index}
use Rattle.ir_parse_parts.specs.declared.address.Level.{Level}
use Rattle.ir_parse_parts.specs.declared.address.Steps.{Steps}
use Rattle.ir_parse_parts.specs.declared.raw.Argument.{Argument}
use Rattle.ir_parse_parts.specs.declared.raw.Operand.{Operand}
use Rattle.ir_parse_parts.specs.declared.raw.Operand.TheVariants as operands
use Rattle.ir_parse_parts.specs.declared.shape.Typed.{Typed}
use Rattle.ir_parse_parts.specs.Literals.{literal}
use Rattle.ir_parse_parts.specs.Operands.{type_refusal, reg, integer, global_named, simple}

-- ptr
abbrev pub pointer : Form Tok (Unit {0})
pointer = token (is_class tokens type_refusal (number kinds.Ptr))

-- ---- flags of getelementptr

abbrev pub is_inbounds : Tok → Bool
is_inbounds t = nat_eq (number t.kind) (number kinds.Inbounds)

abbrev pub or_inbounds : Bool → Bool → Bool
or_inbounds any one = any || one

-- {inbounds/nuw/nusw}; whether `inbounds` is among them
unfoldable pub stepping : Form Tok Bool
stepping = do
  flags ← Star (one_of STEPPING is_inbounds)
  gives (fold or_inbounds false flags)

-- ---- indices of constant addresses

abbrev pub NUMBER : List ℕ
NUMBER = number kinds.Number ∷ []

abbrev pub index_of : ℕ → Tok → Option Index
index_of w t = option_map (λ bits. record { width = w; bits = bits; line = t.line }) (literal w t.text)

abbrev pub index_number : ℕ → Form Tok Index
index_number w = token (is_valued tokens refusal NUMBER (index_of w))

-- , iN Number
unfoldable pub index : Form Tok Index
index = do
  _ ← the kinds.Comma
  w ← integer
  index_number w

-- ---- constant addresses

abbrev pub GLOBAL : List ℕ
GLOBAL = number kinds.Global ∷ number kinds.NumberedGlobal ∷ number kinds.NumberedDefinition ∷ []

abbrev pub global : Form Tok Tok
global = token (is_valued tokens refusal GLOBAL global_named)

abbrev pub level : Typed → List Index → Level
level typed indices = record { typed = typed; indices = indices }

abbrev pub steps : Tok → List Level → Steps
steps name levels = record { name = name; levels = levels }

-- {, iN Number} ), which closes a level
unfoldable pub closing_one : Typed → Form Tok Level
closing_one typed = do
  indices ← Star index
  _ ← the kinds.CloseParen
  gives (level typed indices)

-- what closes these levels, one after another
abbrev pub closing : List Typed → Form Tok (List Level)
closing [] = gives []
closing (typed ∷ outer) = do
  one ← closing_one typed
  more ← closing outer
  gives (one ∷ more)

-- Global, behind the levels that are open, the outermost first
unfoldable pub reached : List Typed → Form Tok Operand
reached outer = do
  name ← global
  levels ← closing (reverse outer)
  gives (operands.Address (steps name levels))

module _ (shape : Form Tok Typed) where
  -- {inbounds/nuw/nusw} ( shape , ptr
  unfoldable pub opened : Form Tok Typed
  opened = do
    _ ← stepping
    _ ← the kinds.OpenParen
    typed ← shape
    _ ← the kinds.Comma
    _ ← pointer
    gives typed

  -- getelementptr {inbounds/nuw/nusw} ( shape , ptr
  unfoldable pub opening : Form Tok Typed
  opening = do
    _ ← the kinds.GetElementPtr
    opened

  -- behind the first level
  unfoldable pub address_behind : Typed → Form Tok Operand
  address_behind first = do
    inner ← Star opening
    reached (first ∷ inner)

  -- getelementptr {inbounds/nuw/nusw} ( shape , ptr (Global / address) {, iN Number} )
  unfoldable pub address : Form Tok Operand
  address = do
    first ← opening
    address_behind first

  -- Local / Number / true / false / null / poison / Global / address
  unfoldable pub operand : Reg → Form Tok Operand
  operand r = either address (simple r)

  -- reg operand
  unfoldable pub argument : Form Tok Argument
  argument = do
    r ← reg
    v ← operand r
    gives (record { reg = r; operand = v })
