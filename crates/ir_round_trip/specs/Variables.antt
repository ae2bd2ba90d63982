-- What is read of printed variables and their initialisers (LangRef, "Global Variables", "Complex Constants").
use Rattle.std.specs.Prelude.{◌≡◌, ℕ, Option, Some, None, List, [], ◌∷◌}
use Rattle.ir_lex.specs.Tok.{Tok}
use Rattle.ir_lex.specs.declared.token.TokenForm.TheVariants as forms
use Rattle.ir_print.specs.Tokens.{closed}
use Rattle.ir_parse_parts.specs.declared.raw.Init as raw_init
use Rattle.ir_parse_parts.specs.declared.raw.InitHead as raw_head
use Rattle.ir_parse_parts.specs.declared.raw.InitHead.TheVariants as rh
use Rattle.ir_parse_parts.specs.declared.raw.InitPart as raw_part
use Rattle.ir_parse_parts.specs.declared.raw.InitPart.TheVariants as rp
use Rattle.ir_parse_parts.specs.declared.raw.Item.{Item}
use Rattle.ir_parse_parts.specs.declared.raw.Item.TheVariants as items
use Rattle.ir_parse_parts.specs.declared.raw.Variable as raw_variable
use Rattle.ir_tree.specs.Initials.{Initial, head_of, parts_of}
use Rattle.ir_tree.specs.declared.function.Linkage.{Linkage}
use Rattle.ir_tree.specs.declared.function.Linkage.TheVariants.{External}
use Rattle.ir_tree.specs.declared.function.Variable.{Variable}
use Rattle.ir_tree.specs.declared.init_node.InitHead.{InitHead}
use Rattle.ir_tree.specs.declared.init_node.InitHead.TheVariants.{Plain, Zeros, Bytes, Array, Struct}
use Rattle.ir_tree.specs.declared.init_node.InitPart.{InitPart}
use Rattle.ir_tree.specs.declared.init_node.InitPart.TheVariants.{Typed, End}
use Rattle.ir_round_trip.specs.PartsPrinted.{Paired, IsGlobal, IsOperand, written_shape}

-- ---- initialisers

-- a string of bytes as it is printed
pub record IsBytes (bytes : List ℕ) (string : Tok) : Type 0 where
  pub form : string.form ≡ forms.CStr
  pub text : string.text ≡ 99 ∷ 34 ∷ closed bytes

abbrev pub IsInitHead : InitHead → raw_head.InitHead → Type 0
IsInitHead (Plain x) (rh.Plain y) = IsOperand x y
IsInitHead Zeros rh.Zeros = Unit {0}
IsInitHead (Bytes text) (rh.Bytes string) = IsBytes text string
IsInitHead Array rh.Array = Unit {0}
IsInitHead (Struct packed) (rh.Struct p) = p ≡ packed
IsInitHead x y = ⊥

abbrev pub IsInitPart : InitPart → raw_part.InitPart → Type 0
IsInitPart (Typed form head) (rp.Typed typed h) = (typed.shape ≡ written_shape form) × IsInitHead head h
IsInitPart End rp.End = Unit {0}
IsInitPart p q = ⊥

-- the flat list of a tree is the flat list that is read
pub record IsInit (v : Initial) (i : raw_init.Init) : Type 0 where
  pub root : IsInitHead (head_of v) i.root
  pub parts : Paired IsInitPart (parts_of v []) i.parts

abbrev pub IsInitOf : Option Initial → Option raw_init.Init → Type 0
IsInitOf None None = Unit {0}
IsInitOf (Some v) (Some i) = IsInit v i
IsInitOf v i = ⊥

-- ---- variables

-- a variable without an initialiser is only declared
abbrev pub linkage_of : Option Initial → Linkage → Linkage
linkage_of None l = External
linkage_of (Some v) l = l

pub record IsVariable (v : Variable) (r : raw_variable.Variable) : Type 0 where
  pub name : IsGlobal v.symbol.name r.name
  pub linkage : r.linkage ≡ linkage_of v.init v.linkage
  pub constant : r.constant ≡ v.constant
  pub shape : r.typed.shape ≡ written_shape v.shape
  pub init : IsInitOf v.init r.init
  pub align : r.align ≡ Some v.align

abbrev pub IsVariableItem : Variable → Item → Type 0
IsVariableItem v (items.Variable r) = IsVariable v r
IsVariableItem v i = ⊥
