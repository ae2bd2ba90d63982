-- What stands before the body of a function: its linkage, its result, its name and its parameters (LangRef, "Functions",
-- "Linkage Types").
use Rattle.std.specs.Prelude.{ℕ, Bool, true, false, if◌then◌else◌, nat_eq, ◌||◌, Option, Some, None, List, [], ◌∷◌, ◌++◌, map}
use Rattle.std.specs.List.{fold}
use Rattle.ir_lex.specs.declared.token_kind.TokenKind.TheVariants as kinds
use Rattle.ir_lex.specs.declared.token_kind.TokenKind as class
use Rattle.ir_lex.specs.TokenKinds.{number}
use Rattle.ir_lex.specs.Tok.{Tok}
use Rattle.ir_tree.specs.declared.function.Linkage.{Linkage}
use Rattle.ir_tree.specs.declared.function.Linkage.TheVariants as linkages
use Rattle.ir_tree.specs.declared.operand.Reg.{Reg}
use Rattle.ir_parse_parts.specs.Alphabet.{contains}
use Rattle.ir_parse_parts.specs.Chained.{Chain}
use Rattle.ir_parse_parts.specs.declared.fault.TokenFault.{TokenFault}
use Rattle.ir_parse_parts.specs.declared.fault.TokenFault.TheVariants.{Profile}
use Rattle.ir_parse_parts.specs.Forms.{Form, ◌>>=◌, either, gives, optional, Many, Star, token}
use Rattle.ir_parse_parts.specs.Rules.{is_class, is_valued}
use Rattle.ir_parse_heads.specs.Attributes.{parameter_attribute, parameter_attributes}
use Rattle.ir_parse_heads.specs.AttributesAt.{PARAMETER}
use Rattle.ir_parse_parts.specs.Classes.{tokens, refusal, the, one_of}
use Rattle.ir_parse_parts.specs.Operands.{reg, result, local, global_named, type_refusal}
use Rattle.ir_parse_heads.specs.declared.function_heads.Role.{Role}
use Rattle.ir_parse_heads.specs.declared.function_heads.Role.TheVariants as roles
use Rattle.ir_parse_parts.specs.declared.raw.FunctionHeader.{FunctionHeader}
use Rattle.ir_parse_parts.specs.declared.raw.Param.{Param}

-- ---- before the result

abbrev pub LINKAGES : List ℕ
LINKAGES = number kinds.Private ∷ number kinds.Internal ∷ number kinds.External ∷ number kinds.Linkonce ∷ number kinds.LinkonceOdr ∷ number kinds.Weak ∷ number kinds.WeakOdr ∷ number kinds.AvailableExternally ∷ []

-- what is only declared is external
abbrev pub linkages_of : Role → List ℕ
linkages_of roles.Declaration = number kinds.External ∷ []
linkages_of roles.Definition = LINKAGES

abbrev pub linkage_by : class.TokenKind → Linkage
linkage_by kinds.Private = linkages.Private
linkage_by kinds.Internal = linkages.Internal
linkage_by kinds.Linkonce = linkages.Linkonce
linkage_by kinds.LinkonceOdr = linkages.LinkonceOdr
linkage_by kinds.Weak = linkages.Weak
linkage_by kinds.WeakOdr = linkages.WeakOdr
linkage_by kinds.AvailableExternally = linkages.AvailableExternally
linkage_by h = linkages.External

abbrev pub linkage_word : Tok → Linkage
linkage_word t = linkage_by t.kind

-- words of visibility, of addresses and of calling conventions, which are dropped
abbrev pub QUALIFIERS : List ℕ
QUALIFIERS = number kinds.Visibility ∷ number kinds.UnnamedAddr ∷ number kinds.CallingConvention ∷ []

abbrev pub nothing_of : Tok → Unit {0}
nothing_of t = tt

-- a linkage, behind which none stands
unfoldable pub linking : Role → Form Tok (Option Linkage × Bool)
linking role = do
  l ← one_of (linkages_of role) linkage_word
  gives (Some l, true)

unfoldable pub qualifying : Bool → Form Tok (Option Linkage × Bool)
qualifying linked = do
  _ ← either (one_of QUALIFIERS nothing_of) parameter_attribute
  gives (None, linked)

-- linkage / drop / pattr, with a linkage before or not
abbrev pub leading : Role → Bool → Form Tok (Option Linkage × Bool)
leading role true = qualifying true
leading role false = either (linking role) (qualifying false)

abbrev pub at_will : Bool → Bool
at_will linked = true

abbrev pub with_linkage : Linkage → Option Linkage → Linkage
with_linkage l None = l
with_linkage l (Some written) = written

-- {linkage / drop / pattr}, at most one linkage: the one that is written, or `external`
unfoldable pub prefix : Role → Form Tok Linkage
prefix role = do
  all ← Chain at_will (leading role) false
  gives (fold with_linkage linkages.External all)

-- ---- names

abbrev pub is_local : Linkage → Bool
is_local linkages.Private = true
is_local linkages.Internal = true
is_local l = false

abbrev pub GLOBAL : List ℕ
GLOBAL = number kinds.Global ∷ []

abbrev pub NUMBERED : List ℕ
NUMBERED = number kinds.NumberedGlobal ∷ number kinds.NumberedDefinition ∷ []

-- a lifetime marker is only declared, and a name that is a number is local
abbrev pub names_of : Role → Linkage → List ℕ
names_of roles.Declaration l = number kinds.LifetimeMarker ∷ GLOBAL
names_of roles.Definition l = if is_local l then NUMBERED ++ GLOBAL else GLOBAL

abbrev pub name_refusal : ℕ → TokenFault
name_refusal n = if contains NUMBERED n then Profile else refusal n

abbrev pub function_name : Role → Linkage → Form Tok Tok
function_name role l = token (is_valued tokens name_refusal (names_of role l) global_named)

-- ---- parameters

-- reg {pattr} [Local]
unfoldable pub param : Form Tok Param
param = do
  r ← reg
  _ ← parameter_attributes
  name ← optional local
  gives (record { reg = r; name = name })

-- , param
unfoldable pub further_param : Form Tok Param
further_param = do
  _ ← the kinds.Comma
  param

-- param {, param}, so many at most behind the first
unfoldable pub some_params : ℕ → Form Tok (List Param)
some_params room = do
  first ← param
  more ← Many further_param room
  gives (first ∷ more)

-- ) where a type may stand
abbrev pub end_of_none : Form Tok (Unit {0})
end_of_none = token (is_class tokens type_refusal (number kinds.CloseParen))

-- what stands in brackets, and what closes them
unfoldable pub listed_params : ℕ → Form Tok (List Param)
listed_params room = either
    (do
      ps ← some_params room
      _ ← the kinds.CloseParen
      gives ps)
    (do
      _ ← end_of_none
      gives [])

-- ( [param {, param}] )
unfoldable pub params : ℕ → Form Tok (List Param)
params room = do
  _ ← the kinds.OpenParen
  listed_params room

-- the same without a limit on how many
unfoldable pub any_some_params : Form Tok (List Param)
any_some_params = do
  first ← param
  more ← Star further_param
  gives (first ∷ more)

unfoldable pub any_listed_params : Form Tok (List Param)
any_listed_params = either
    (do
      ps ← any_some_params
      _ ← the kinds.CloseParen
      gives ps)
    (do
      _ ← end_of_none
      gives [])

unfoldable pub any_params : Form Tok (List Param)
any_params = do
  _ ← the kinds.OpenParen
  any_listed_params

-- ---- heads

abbrev pub head_of : Linkage → Option Reg → Tok → List Param → FunctionHeader
head_of l r name ps = record { linkage = l; result = r; name = name; params = ps; noinline = false; optnone = false; groups = [] }

-- {linkage / drop / pattr} result Global ( [param {, param}] )
unfoldable pub head : Role → ℕ → Form Tok FunctionHeader
head role room = do
  l ← prefix role
  r ← result
  name ← function_name role l
  ps ← params room
  gives (head_of l r name ps)

unfoldable pub any_head : Role → Form Tok FunctionHeader
any_head role = do
  l ← prefix role
  r ← result
  name ← function_name role l
  ps ← any_params
  gives (head_of l r name ps)
