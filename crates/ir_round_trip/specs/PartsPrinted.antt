-- What is read of a printed tree: each local and each block is named by its number, each global by its printed name, and
-- the rest is as it stands in the tree (LangRef, "Identifiers", "Instruction Reference").
use Rattle.std.specs.Prelude.{◌≡◌, ℕ, false, Option, Some, None, List, [], ◌∷◌, ◌++◌, decimal}
use Rattle.ir_lex.specs.Tok.{Tok}
use Rattle.ir_lex.specs.declared.token.TokenForm.TheVariants as forms
use Rattle.ir_tree.specs.Forms.{Form, Forms, int, pointer, array, structure, no_parts, part}
use Rattle.ir_tree.specs.Names.{quoted}
use Rattle.ir_tree.specs.declared.block.Case.{Case}
use Rattle.ir_tree.specs.declared.block.Terminator.{Terminator}
use Rattle.ir_tree.specs.declared.block.Terminator.TheVariants.{Return, Jump, Branch, Switch, Unreachable}
use Rattle.ir_tree.specs.declared.function.Function.{Function}
use Rattle.ir_tree.specs.declared.function.Linkage.TheVariants.{External}
use Rattle.ir_tree.specs.declared.function.Param.{Param}
use Rattle.ir_tree.specs.declared.instr.Incoming.{Incoming}
use Rattle.ir_tree.specs.declared.instr.Instr.{Instr}
use Rattle.ir_tree.specs.declared.instr.Instr.TheVariants.{Binary, Icmp, Cast, Select, Freeze, Alloca, Load, Store, Address, Phi}
use Rattle.ir_tree.specs.declared.operand.Argument.{Argument}
use Rattle.ir_tree.specs.declared.operand.Operand.{Operand}
use Rattle.ir_tree.specs.declared.operand.Operand.TheVariants.{Local, Number, Null, Poison, Symbol}
use Rattle.ir_print.specs.Tokens.{closed}
use Rattle.ir_parse_parts.specs.Shapes as written
use Rattle.ir_parse_parts.specs.Shapes.{Written, WrittenParts}
use Rattle.ir_parse_parts.specs.declared.address.Index.{Index}
use Rattle.ir_parse_parts.specs.declared.address.Level.{Level}
use Rattle.ir_parse_parts.specs.declared.address.Steps.{Steps}
use Rattle.ir_parse_heads.specs.declared.attributes.Kept.{Kept}
use Rattle.ir_parse_parts.specs.declared.raw.Argument as raw_argument
use Rattle.ir_parse_parts.specs.declared.raw.Case as raw_case
use Rattle.ir_parse_parts.specs.declared.raw.FunctionHeader.{FunctionHeader}
use Rattle.ir_parse_parts.specs.declared.raw.Incoming as raw_incoming
use Rattle.ir_parse_parts.specs.declared.raw.Instr as raw_instr
use Rattle.ir_parse_parts.specs.declared.raw.Instr.TheVariants as ri
use Rattle.ir_parse_parts.specs.declared.raw.Item.{Item}
use Rattle.ir_parse_parts.specs.declared.raw.Item.TheVariants.{Datalayout, Triple}
use Rattle.ir_parse_parts.specs.declared.raw.Operand as raw_operand
use Rattle.ir_parse_parts.specs.declared.raw.Operand.TheVariants as ro
use Rattle.ir_parse_parts.specs.declared.raw.Param as raw_param
use Rattle.ir_parse_parts.specs.declared.raw.Terminator as raw_end
use Rattle.ir_parse_parts.specs.declared.raw.Terminator.TheVariants as re

-- each of the one stands for the other at its place, and there are as many
abbrev pub Paired : {A B : Type 0} → (A → B → Type 0) → List A → List B → Type 0
Paired R [] [] = Unit {0}
Paired R [] (b ∷ bs) = ⊥
Paired R (a ∷ as') [] = ⊥
Paired R (a ∷ as') (b ∷ bs) = R a b × Paired R as' bs

-- ---- names

-- the name of a local or a block that is its number
pub record IsNumber (n : ℕ) (name : Tok) : Type 0 where
  pub form : name.form ≡ forms.Local
  pub text : name.text ≡ 37 ∷ decimal n

-- a label that is the number of its block
pub record IsLabel (n : ℕ) (name : Tok) : Type 0 where
  pub form : name.form ≡ forms.Label
  pub text : name.text ≡ decimal n ++ 58 ∷ []

-- the name of a global as it is printed
pub record IsGlobal (bytes : List ℕ) (name : Tok) : Type 0 where
  pub form : name.form ≡ forms.Global
  pub text : name.text ≡ 64 ∷ quoted bytes

-- ---- shapes

abbrev mutual
  pub written_shape : Form → Written
  written_shape (int w) = written.int w
  written_shape pointer = written.pointer
  written_shape (array count of) = written.array count (written_shape of)
  written_shape (structure packed parts) = written.structure packed (written_parts parts)

  pub written_parts : Forms → WrittenParts
  written_parts no_parts = written.no_parts
  written_parts (part f fs) = written.part (written_shape f) (written_parts fs)

-- ---- operands

-- one step over bytes from a global
pub record IsDisplaced (bytes : List ℕ) (offset : ℕ) (steps : Steps) : Type 0 where
  pub name : IsGlobal bytes steps.name
  pub level : Level
  pub one_level : steps.levels ≡ level ∷ []
  pub over_bytes : level.typed.shape ≡ written.int 8
  pub index : Index
  pub one_index : level.indices ≡ index ∷ []
  pub width : index.width ≡ 64
  pub bits : index.bits ≡ offset

abbrev pub IsOperand : Operand → raw_operand.Operand → Type 0
IsOperand (Local n) (ro.Local name) = IsNumber n name
IsOperand (Number w bits) (ro.Number v read) = (v ≡ w) × (read ≡ bits)
IsOperand Null ro.Null = Unit {0}
IsOperand (Poison reg) (ro.Poison read) = read ≡ reg
IsOperand (Symbol symbol offset) (ro.Global name) = IsGlobal symbol.name name × (offset ≡ 0)
IsOperand (Symbol symbol offset) (ro.Address steps) = IsDisplaced symbol.name offset steps
IsOperand x y = ⊥

abbrev pub IsArgument : Argument → raw_argument.Argument → Type 0
IsArgument a b = (b.reg ≡ a.reg) × IsOperand a.operand b.operand

-- ---- instructions

abbrev pub IsIncoming : Incoming → raw_incoming.Incoming → Type 0
IsIncoming i j = IsOperand i.value j.value × IsNumber i.from j.from

abbrev pub IsInstr : Instr → raw_instr.Instr → Type 0
IsInstr (Binary op flags w left right) (ri.Binary o f v l r) = (o ≡ op) × (f ≡ flags) × (v ≡ w) × IsOperand left l × IsOperand right r
IsInstr (Icmp predicate reg left right) (ri.Icmp p g l r) = (p ≡ predicate) × (g ≡ reg) × IsOperand left l × IsOperand right r
IsInstr (Cast op from value to) (ri.Cast o g v h) = (o ≡ op) × (g ≡ from) × IsOperand value v × (h ≡ to)
IsInstr (Select condition if_true if_false) (ri.Select c t f) = IsOperand condition c × IsArgument if_true t × IsArgument if_false f
IsInstr (Freeze reg value) (ri.Freeze g v) = (g ≡ reg) × IsOperand value v
IsInstr (Alloca shape align) (ri.Alloca typed count a) = (typed.shape ≡ written_shape shape) × (count ≡ 1) × (a ≡ Some align)
IsInstr (Load reg address align) (ri.Load g x a) = (g ≡ reg) × IsOperand address x × (a ≡ Some align)
IsInstr (Store reg value address align) (ri.Store g v x a) = (g ≡ reg) × IsOperand value v × IsOperand address x × (a ≡ Some align)
IsInstr (Address inbounds shape base indices) (ri.Address b typed x is) =
    (b ≡ inbounds) × (typed.shape ≡ written_shape shape) × IsOperand base x × Paired IsArgument indices is
IsInstr (Phi reg edges) (ri.Phi g is) = (g ≡ reg) × Paired IsIncoming edges is
IsInstr i j = ⊥

-- ---- terminators

abbrev pub IsCase : Case → raw_case.Case → Type 0
IsCase c d = (d.reg ≡ c.reg) × (d.width ≡ c.width) × (d.bits ≡ c.bits) × IsNumber c.target d.target

abbrev pub IsAnswer : Option Argument → Option raw_argument.Argument → Type 0
IsAnswer None None = Unit {0}
IsAnswer (Some a) (Some b) = IsArgument a b
IsAnswer x y = ⊥

abbrev pub IsTerminator : Terminator → raw_end.Terminator → Type 0
IsTerminator (Return a) (re.Return b) = IsAnswer a b
IsTerminator (Jump n) (re.Jump name) = IsNumber n name
IsTerminator (Branch condition if_true if_false) (re.Branch c t f) = IsOperand condition c × IsNumber if_true t × IsNumber if_false f
IsTerminator (Switch w value default cases) (re.Switch v x d cs) = (v ≡ w) × IsOperand value x × IsNumber default d × Paired IsCase cases cs
IsTerminator Unreachable re.Unreachable = Unit {0}
IsTerminator t u = ⊥

-- ---- parameters

abbrev pub IsNamed : ℕ → Option Tok → Type 0
IsNamed n None = ⊥
IsNamed n (Some name) = IsNumber n name

abbrev pub IsParam : Param → raw_param.Param → Type 0
IsParam p q = (q.reg ≡ p.reg) × IsNamed p.local q.name

-- a declaration's parameters have no names
abbrev pub IsType : Param → raw_param.Param → Type 0
IsType p q = (q.reg ≡ p.reg) × (q.name ≡ None)

-- ---- heads of functions

-- what stands before the attributes and the body of a function
pub record IsHead (f : Function) (h : FunctionHeader) : Type 0 where
  pub linkage : h.linkage ≡ f.linkage
  pub result : h.result ≡ f.result
  pub name : IsGlobal f.symbol.name h.name
  pub params : Paired IsParam f.params h.params
  pub noinline : h.noinline ≡ false
  pub optnone : h.optnone ≡ false
  pub groups : h.groups ≡ []

-- the same of a declaration
pub record IsDeclared (f : Function) (h : FunctionHeader) : Type 0 where
  pub linkage : h.linkage ≡ External
  pub result : h.result ≡ f.result
  pub name : IsGlobal f.symbol.name h.name
  pub params : Paired IsType f.params h.params
  pub noinline : h.noinline ≡ false
  pub optnone : h.optnone ≡ false
  pub groups : h.groups ≡ []

-- the attributes of a definition
abbrev pub IsKept : Function → Kept → Type 0
IsKept f k = k ≡ record { noinline = f.noinline; optnone = f.optnone; groups = [] }

-- ---- lines that name the target

-- a string as it is printed
pub record IsString (bytes : List ℕ) (string : Tok) : Type 0 where
  pub form : string.form ≡ forms.Str
  pub text : string.text ≡ 34 ∷ closed bytes

abbrev pub IsLayout : List ℕ → Item → Type 0
IsLayout bytes i = (string : Tok) × (i ≡ Datalayout string) × IsString bytes string

abbrev pub IsTriple : List ℕ → Item → Type 0
IsTriple bytes i = (string : Tok) × (i ≡ Triple string) × IsString bytes string
