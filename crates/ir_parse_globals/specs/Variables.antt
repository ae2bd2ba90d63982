-- Global variables (LangRef, "Global Variables", "Linkage Types", "Comdats"), over what spells a shape.
use Rattle.std.specs.Prelude.{ℕ, Bool, true, false, nat_eq, Option, Some, None, List, [], ◌∷◌}
use Rattle.std.specs.List.{fold}
use Rattle.ir_lex.specs.declared.token_kind.TokenKind.TheVariants as kinds
use Rattle.ir_lex.specs.TokenKinds.{number}
use Rattle.ir_lex.specs.Tok.{Tok}
use Rattle.ir_tree.specs.declared.function.Linkage.{Linkage}
use Rattle.ir_tree.specs.declared.function.Linkage.TheVariants as linkages
use Rattle.ir_tree.specs.declared.operand.Reg.{Reg}
use Rattle.ir_parse_parts.specs.Forms.{Form, ◌>>=◌, either, gives, optional, Star, token}
use Rattle.ir_parse_parts.specs.Rules.{is_among, is_valued}
use Rattle.ir_parse_parts.specs.Classes.{tokens, the, one_of, itself}
use Rattle.ir_parse_parts.specs.Decimals.{is_alignment}
use Rattle.ir_parse_parts.specs.declared.raw.Init.{Init}
use Rattle.ir_parse_parts.specs.declared.raw.Item.{Item}
use Rattle.ir_parse_parts.specs.declared.raw.Item.TheVariants as items
use Rattle.ir_parse_parts.specs.declared.shape.Typed.{Typed}
use Rattle.ir_parse_heads.specs.FunctionHeads.{LINKAGES, linkage_word, QUALIFIERS, nothing_of, with_linkage, name_refusal}
use Rattle.ir_parse_parts.specs.Metadata.{attached}
use Rattle.ir_parse_parts.specs.Operands.{global_named}
use Rattle.ir_parse_globals.specs.Initialisers.{scalar_of, initialiser}

-- ---- before the shape

-- a name that is a number has `= private` or `= internal` behind it
abbrev pub NAMES : List ℕ
NAMES = number kinds.Global ∷ number kinds.NumberedDefinition ∷ []

abbrev pub variable_name : Form Tok Tok
variable_name = token (is_valued tokens name_refusal NAMES global_named)

-- without the limit on numbers
abbrev pub any_variable_name : Form Tok Tok
any_variable_name = token (is_among tokens name_refusal NAMES itself)

-- {drop}
unfoldable pub qualifiers : Form Tok (Unit {0})
qualifiers = do
  _ ← Star (one_of QUALIFIERS nothing_of)
  gives tt

-- [linkage] {drop}: the linkage that is written
unfoldable pub linked : Form Tok (Option Linkage)
linked = do
  l ← optional (one_of LINKAGES linkage_word)
  _ ← qualifiers
  gives l

abbrev pub KINDS : List ℕ
KINDS = number kinds.GlobalVariable ∷ number kinds.Constant ∷ []

abbrev pub is_constant : Tok → Bool
is_constant t = nat_eq (number t.kind) (number kinds.Constant)

-- ---- behind the shape

-- whether `external` is written, which is said of a variable that is only declared
abbrev pub is_declared : Option Linkage → Bool
is_declared (Some linkages.External) = true
is_declared l = false

-- an initialiser, unless the variable is only declared
abbrev pub value : Form Tok Typed → Bool → Option Reg → Form Tok (Option Init)
value shape true scalar = gives None
value shape false scalar = do
  i ← initialiser shape scalar
  gives (Some i)

-- ( Comdat )
unfoldable pub comdat_name : Form Tok (Unit {0})
comdat_name = do
  _ ← the kinds.OpenParen
  _ ← the kinds.ComdatName
  the kinds.CloseParen

-- comdat [(Comdat)]
unfoldable pub in_comdat : Form Tok (Option ℕ)
in_comdat = do
  _ ← the kinds.Comdat
  _ ← optional comdat_name
  gives None

-- align N
unfoldable pub aligned : Form Tok (Option ℕ)
aligned = do
  _ ← the kinds.Align
  n ← token is_alignment
  gives (Some n)

-- Meta node
unfoldable pub marked : Form Tok (Option ℕ)
marked = do
  _ ← attached
  gives None

-- , comdat [(Comdat)] / , align N / , Meta node: the alignment, where it is one
unfoldable pub further : Form Tok (Option ℕ)
further = do
  _ ← the kinds.Comma
  either in_comdat (either aligned marked)

-- the last alignment stands
abbrev pub with_align : Option ℕ → Option ℕ → Option ℕ
with_align n None = n
with_align n (Some last) = Some last

-- {, comdat [(Comdat)] / , align N / , Meta node}
unfoldable pub tail : Form Tok (Option ℕ)
tail = do
  all ← Star further
  gives (fold with_align None all)

-- ---- variables

-- what is written of a variable; one whose linkage isn't written is external
abbrev pub variable : Tok → Option Linkage → Bool → Typed → Option Init → Option ℕ → Item
variable name l constant typed init align = items.Variable (record { name = name; linkage = with_linkage linkages.External l; constant = constant; typed = typed; init = init; align = align; line = name.line })

-- shape [init] {, comdat [(Comdat)] / , align N / , Meta node}
unfoldable pub behind_kind : Form Tok Typed → Tok → Option Linkage → Bool → Form Tok Item
behind_kind shape name l constant = do
  typed ← shape
  init ← value shape (is_declared l) (scalar_of typed.shape)
  align ← tail
  gives (variable name l constant typed init align)

-- Global = [linkage] {drop} (global/constant) shape [init] {, comdat [(Comdat)] / , align N / , Meta node}, over what spells the name
unfoldable pub variable_line : Form Tok Tok → Form Tok Typed → Form Tok Item
variable_line variable_named shape = do
  name ← variable_named
  _ ← the kinds.Equals
  l ← linked
  constant ← one_of KINDS is_constant
  behind_kind shape name l constant
