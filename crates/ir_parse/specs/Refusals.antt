-- Why a token is refused with which no module goes on (LangRef, "Identifiers", "Type System").
use Rattle.std.specs.Prelude.{◌≡◌, ℕ, nat_eq, Bool, true, false, List, [], ◌∷◌, ◌++◌}
use Rattle.ir_lex.specs.TokenKinds.{number}
use Rattle.ir_lex.specs.Tok.{Tok}
use Rattle.ir_lex.specs.declared.token_kind.TokenKind.TheVariants as kinds
use Rattle.ir_parse_parts.specs.Alphabet.{among, is_literal, is_number}
use Rattle.ir_parse_parts.specs.Faults.{Extends, Viable}
use Rattle.ir_parse_parts.specs.Classes.{IsReal, tokens}
use Rattle.ir_parse_heads.specs.FunctionHeads.{GLOBAL, NUMBERED}
use Rattle.ir_parse_parts.specs.Operands.{REG}
use Rattle.ir_parse_heads.specs.Targets.{STRING}
use Rattle.ir_parse_operands.specs.ShapeForms.{OPEN_ANGLE, OPEN_BRACE}
use Rattle.ir_parse.specs.Modules.{any_module, whole_module}
use Rattle.ir_parse.specs.NamedCalls.{in_module}
use Rattle.ir_tree.specs.declared.fault_kind.FaultKind.{FaultKind}
use Rattle.ir_tree.specs.declared.fault_kind.FaultKind.TheVariants as unread

-- ---- what goes on

-- behind these tokens some module without the limits goes on with this one
abbrev pub GoesOn : List Tok → Tok → Type 0
GoesOn front u = Viable tokens any_module (front ++ u ∷ [])

-- with some token of these classes, which bytes spell, one goes on
abbrev pub SomeGoesOn : List ℕ → List Tok → Type 0
SomeGoesOn classes front = (u : Tok) × (among tokens classes u ≡ true) × IsReal u × GoesOn front u

-- with each of them one goes on
abbrev pub EachGoesOn : List ℕ → List Tok → Type 0
EachGoesOn classes front = (u : Tok) → among tokens classes u ≡ true → IsReal u → GoesOn front u

-- with no token of these classes one goes on
abbrev pub NoneGoesOn : List ℕ → List Tok → Type 0
NoneGoesOn classes front = (u : Tok) → among tokens classes u ≡ true → Extends any_module (front ++ u ∷ []) → ⊥

-- the token writes a number, and with another of its class some module goes on, within the limits
abbrev pub NumberGoesOn : List Tok → Tok → Type 0
NumberGoesOn front t = (is_number tokens t ≡ true) × (u : Tok) × (tokens.class u ≡ tokens.class t) × IsReal u × Viable tokens whole_module (front ++ u ∷ [])

-- it is a string, and with another one goes on
abbrev pub StringGoesOn : List Tok → Tok → Type 0
StringGoesOn front t = (among tokens STRING t ≡ true) × SomeGoesOn STRING front

-- ---- what is left out of the language

-- wherever it stands: words, integers of no bits or of more than 64, names that LLVM keeps for itself, `...`, `^` and a `#` before a word
abbrev pub REFUSED_EVERYWHERE : List ℕ
REFUSED_EVERYWHERE = number kinds.RefusedWord ∷ number kinds.RefusedAttribute ∷ number kinds.RefusedInteger ∷ number kinds.ReservedGlobal ∷ number kinds.RefusedMark ∷ []

-- `metadata`, `token`, types of floats and others
abbrev pub TYPE : List ℕ
TYPE = number kinds.RefusedType ∷ []

abbrev pub TARGET : List ℕ
TARGET = number kinds.Target ∷ []

-- iN that memory holds: i8, i16, i32, i64
abbrev pub MEMORY : List ℕ
MEMORY = number kinds.MemoryInteger ∷ []

-- iN of another N from 1 to 64
abbrev pub INTEGER : List ℕ
INTEGER = number kinds.RegisterInteger ∷ []

abbrev pub MARKER : List ℕ
MARKER = number kinds.LifetimeMarker ∷ []

-- a plain word
abbrev pub WORD : List ℕ
WORD = number kinds.Word ∷ []

-- the last of these tokens is such a one
abbrev pub last_is : (Tok → Bool) → List Tok → Bool
last_is p [] = false
last_is p (t ∷ []) = p t
last_is p (t ∷ u ∷ us) = last_is p (u ∷ us)

-- a number directly behind `<`
abbrev pub BeginsVector : List Tok → Tok → Type 0
BeginsVector front t = (nat_eq (number t.kind) (number kinds.Number) ≡ true) × (last_is (among tokens OPEN_ANGLE) front ≡ true)

-- the callee of a void call that has a name stands next
abbrev pub NamedVoidCall : List Tok → Type 0
NamedVoidCall front = in_module front tt

-- what is left out: some words wherever they stand, and others where one goes on that they stand for
pub data LeftOut (front : List Tok) (t : Tok) : Type 0 where
  everywhere : among tokens REFUSED_EVERYWHERE t ≡ true → LeftOut front t
  -- a type, where some type of a register goes on
  of_type : among tokens TYPE t ≡ true → SomeGoesOn REG front → LeftOut front t
  -- `target` there too, but not where a plain word goes on, as behind the head of a definition
  of_target : among tokens TARGET t ≡ true → SomeGoesOn REG front → NoneGoesOn WORD front → LeftOut front t
  -- an integer that memory doesn't hold, where each that memory holds goes on
  of_integer : among tokens INTEGER t ≡ true → EachGoesOn MEMORY front → LeftOut front t
  -- a name that is a number, where the name of another global goes on
  of_name : among tokens NUMBERED t ≡ true → SomeGoesOn GLOBAL front → LeftOut front t
  -- a lifetime marker, but as the callee of a void call that has a name: its call is dropped, and then nothing has the name
  of_marker : among tokens MARKER t ≡ true → (NamedVoidCall front → ⊥) → LeftOut front t
  -- a number directly behind `<`, where `{` goes on: where the shape of a packed structure, or its value, may begin
  of_vector : BeginsVector front t → SomeGoesOn OPEN_BRACE front → LeftOut front t

-- ---- why a token is refused

-- it passes no limit, and its number isn't out of range
abbrev pub WithinRange : List Tok → Tok → Type 0
WithinRange front t = (GoesOn front t → ⊥) × (NumberGoesOn front t → ⊥)

-- A limit is passed where a module without the limits goes on with the token, and a number is out of range where one goes on with another
-- number; where both is so, the number of a name is out of range, and a literal passes a limit. Of other tokens a string is a layout that
-- isn't supported where another string goes on; what is left out is told with its bytes; and the rest is against the syntax.
abbrev pub IsRefusedFor : List Tok → Tok → FaultKind → Type 0
IsRefusedFor front t unread.Limit = GoesOn front t × (NumberGoesOn front t → is_literal tokens t ≡ true)
IsRefusedFor front t unread.Number = NumberGoesOn front t × (GoesOn front t → is_literal tokens t ≡ false)
IsRefusedFor front t unread.Layout = WithinRange front t × StringGoesOn front t
IsRefusedFor front t (unread.Profile word) = (word ≡ t.text) × WithinRange front t × LeftOut front t
IsRefusedFor front t unread.Syntax = WithinRange front t × (StringGoesOn front t → ⊥) × (LeftOut front t → ⊥)
IsRefusedFor front t kind = ⊥
