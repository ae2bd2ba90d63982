-- Attributes of parameters, functions and calls, and groups of them (LangRef, "Parameter Attributes",
-- "Function Attributes", "Attribute Groups").
use Rattle.std.specs.Prelude.{ℕ, true, false, List, [], ◌∷◌, ◌++◌, map}
use Rattle.std.specs.List.{fold}
use Rattle.ir_lex.specs.declared.token_kind.TokenKind.TheVariants as kinds
use Rattle.ir_lex.specs.declared.token_kind.TokenKind.{TokenKind}
use Rattle.ir_lex.specs.TokenKinds.{number}
use Rattle.ir_lex.specs.Tok.{Tok}
use Rattle.ir_parse_parts.specs.Forms.{Form, ◌>>=◌, either, gives, optional, Star, token}
use Rattle.ir_parse_parts.specs.Rules.{is_valued}
use Rattle.ir_parse_parts.specs.Brackets.{group}
use Rattle.ir_parse_parts.specs.Classes.{tokens, refusal, the, one_of}
use Rattle.ir_parse_parts.specs.Decimals.{is_alignment}
use Rattle.ir_parse_parts.specs.Metadata.{attached}
use Rattle.ir_parse_parts.specs.Operands.{group_named}
use Rattle.ir_parse_heads.specs.declared.attributes.Attribute.{Attribute}
use Rattle.ir_parse_heads.specs.declared.attributes.Attribute.TheVariants.{Dropped, Noinline, Optnone, Group}
use Rattle.ir_parse_heads.specs.declared.attributes.Kept.{Kept}
use Rattle.ir_parse_heads.specs.declared.attributes.AttributePlace.{AttributePlace}
use Rattle.ir_parse_heads.specs.declared.attributes.AttributePlace.TheVariants as places
use Rattle.ir_parse_parts.specs.declared.raw.Item.{Item}
use Rattle.ir_parse_parts.specs.declared.raw.Item.TheVariants.{Attributes}
use Rattle.ir_parse_parts.specs.declared.brackets.Bracket.TheVariants.{Paren}

-- ---- of parameters and results

-- an alignment, or a group in brackets
unfoldable pub aligned : Form Tok (Unit {0})
aligned = either
    (do
      _ ← token is_alignment
      gives tt)
    (group Paren)

-- pattr = word / word (..) / align N / align (..)
unfoldable pub parameter_attribute : Form Tok (Unit {0})
parameter_attribute = either
    (the kinds.ParameterWord)
    (either
    (do
      _ ← the kinds.ParameterGroup
      group Paren)
    (do
      _ ← the kinds.Align
      aligned))

unfoldable pub parameter_attributes : Form Tok (Unit {0})
parameter_attributes = do
  _ ← Star parameter_attribute
  gives tt

-- ---- of functions and calls

-- words that begin no item, no instruction and no terminator, and belong to no part of the language that is left out
abbrev pub OTHER_WORDS : List TokenKind
OTHER_WORDS =
    kinds.MemoryInteger ∷ kinds.RegisterInteger ∷ kinds.Ptr ∷ kinds.Void ∷ kinds.RefusedType
    ∷ kinds.Datalayout ∷ kinds.Triple ∷ kinds.Type ∷ kinds.Opaque ∷ kinds.Comdat ∷ kinds.Any ∷ kinds.GlobalVariable ∷ kinds.Constant
    ∷ kinds.Private ∷ kinds.Internal ∷ kinds.External ∷ kinds.Linkonce ∷ kinds.LinkonceOdr ∷ kinds.Weak ∷ kinds.WeakOdr ∷ kinds.AvailableExternally
    ∷ kinds.Visibility ∷ kinds.UnnamedAddr ∷ kinds.CallingConvention ∷ kinds.ZeroInitializer ∷ kinds.Times ∷ kinds.True ∷ kinds.False ∷ kinds.Null ∷ kinds.Poison
    ∷ kinds.Inbounds ∷ kinds.Nusw ∷ kinds.Nuw ∷ kinds.Nsw ∷ kinds.Exact ∷ kinds.Disjoint ∷ kinds.Samesign ∷ kinds.Nneg
    ∷ kinds.Eq ∷ kinds.Ne ∷ kinds.Ugt ∷ kinds.Uge ∷ kinds.Ult ∷ kinds.Ule ∷ kinds.Sgt ∷ kinds.Sge ∷ kinds.Slt ∷ kinds.Sle ∷ kinds.To ∷ kinds.LabelType
    ∷ kinds.ParameterWord ∷ kinds.ParameterGroup ∷ kinds.Noinline ∷ kinds.Optnone ∷ []

abbrev pub WORDS : List ℕ
WORDS = map number (kinds.Word ∷ OTHER_WORDS)

-- behind a call an `align` is a word like others
abbrev pub CALL_WORDS : List ℕ
CALL_WORDS = number kinds.Align ∷ WORDS

-- in a group words that are refused elsewhere are dropped
abbrev pub GROUP_WORDS : List ℕ
GROUP_WORDS = number kinds.RefusedWord ∷ number kinds.RefusedInteger ∷ CALL_WORDS

-- the words that are attributes there
abbrev pub words_of : AttributePlace → List ℕ
words_of places.Head = WORDS
words_of places.Call = CALL_WORDS
words_of places.Group = GROUP_WORDS

-- what is kept of an attribute that is one word
abbrev pub kept_of : TokenKind → Attribute
kept_of kinds.Noinline = Noinline
kept_of kinds.Optnone = Optnone
kept_of h = Dropped

abbrev pub word_kept : Tok → Attribute
word_kept t = kept_of t.kind

-- [(..)] / [= Number]
unfoldable pub word_tail : Form Tok (Unit {0})
word_tail = either
    (group Paren)
    (either
    (do
      _ ← the kinds.Equals
      the kinds.Number)
    (gives tt))

-- Word [(..)] / Word = Number
unfoldable pub word_attribute : List ℕ → Form Tok Attribute
word_attribute words = do
  kept ← one_of words word_kept
  _ ← word_tail
  gives kept

-- = Str
unfoldable pub string_value : Form Tok (Unit {0})
string_value = do
  _ ← the kinds.Equals
  the kinds.Str

-- Str [= Str]
unfoldable pub string_attribute : Form Tok Attribute
string_attribute = do
  _ ← the kinds.Str
  _ ← optional string_value
  gives Dropped

unfoldable pub function_attribute : List ℕ → Form Tok Attribute
function_attribute words = either string_attribute (word_attribute words)

abbrev pub GROUP : List ℕ
GROUP = number kinds.Group ∷ []

-- the name of an attribute group, whose number is below 2^32
abbrev pub group_name : Form Tok Tok
group_name = token (is_valued tokens refusal GROUP group_named)

unfoldable pub group_attribute : Form Tok Attribute
group_attribute = do
  name ← group_name
  gives (Group name)

-- what stands behind the arguments of a call: {fattr / Group}
unfoldable pub call_attribute : Form Tok Attribute
call_attribute = either group_attribute (function_attribute CALL_WORDS)

unfoldable pub call_attributes : Form Tok (Unit {0})
call_attributes = do
  _ ← Star call_attribute
  gives tt

-- ---- behind the head of a function

-- align N / align [(..)] / align = Number
unfoldable pub head_alignment : Form Tok Attribute
head_alignment = do
  _ ← the kinds.Align
  _ ← either
      (do
        _ ← token is_alignment
        gives tt)
      word_tail
  gives Dropped

-- {fattr / unnamed_addr / local_unnamed_addr / Group / comdat [(Comdat)] / align N}: the words but `align` are words as others
unfoldable pub head_attribute : Form Tok Attribute
head_attribute = either group_attribute (either head_alignment (function_attribute WORDS))

unfoldable pub attached_attribute : Form Tok Attribute
attached_attribute = do
  _ ← attached
  gives Dropped

-- of a definition: metadata may stand among them
unfoldable pub definition_attribute : Form Tok Attribute
definition_attribute = either attached_attribute head_attribute

-- what is kept of attributes
abbrev pub with_attribute : Kept → Attribute → Kept
with_attribute k Dropped = k
with_attribute k Noinline = record { noinline = true; optnone = k.optnone; groups = k.groups }
with_attribute k Optnone = record { noinline = k.noinline; optnone = true; groups = k.groups }
with_attribute k (Group g) = record { noinline = k.noinline; optnone = k.optnone; groups = k.groups ++ g ∷ [] }

abbrev pub none_kept : Kept
none_kept = record { noinline = false; optnone = false; groups = [] }

unfoldable pub definition_attributes : Form Tok Kept
definition_attributes = do
  all ← Star definition_attribute
  gives (fold with_attribute none_kept all)

-- ---- attributes Group = { {fattr} }

-- what a group of attributes says
abbrev pub group_item : Tok → Kept → Item
group_item name k = Attributes name k.noinline k.optnone

unfoldable pub grouped : Form Tok Kept
grouped = do
  all ← Star (function_attribute GROUP_WORDS)
  gives (fold with_attribute none_kept all)

unfoldable pub attribute_group : Form Tok Item
attribute_group = do
  _ ← the kinds.Attributes
  name ← group_name
  _ ← the kinds.Equals
  _ ← the kinds.OpenBrace
  kept ← grouped
  _ ← the kinds.CloseBrace
  gives (group_item name kept)
