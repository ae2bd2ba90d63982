-- What is read of printed lines, blocks and functions: each name is the number that it is printed by, and all else is as it
-- stands in the tree (LangRef, "call Instruction", "Functions").
use Rattle.std.specs.Prelude.{◌≡◌, ℕ, Option, Some, None, List, [], ◌∷◌}
use Rattle.ir_lex.specs.Tok.{Tok}
use Rattle.ir_tree.specs.declared.block.Block.{Block}
use Rattle.ir_tree.specs.declared.function.Function.{Function}
use Rattle.ir_tree.specs.declared.instr.Instr.{Instr}
use Rattle.ir_tree.specs.declared.instr.Instr.TheVariants.{Call}
use Rattle.ir_tree.specs.declared.instr.Line.{Line}
use Rattle.ir_tree.specs.declared.operand.Argument.{Argument}
use Rattle.ir_tree.specs.declared.operand.Operand.{Operand}
use Rattle.ir_tree.specs.declared.operand.Reg.{Reg}
use Rattle.ir_parse_parts.specs.declared.raw.Block as raw_block
use Rattle.ir_parse_parts.specs.declared.raw.FunctionHeader.{FunctionHeader}
use Rattle.ir_parse_parts.specs.declared.raw.Instr as raw_instr
use Rattle.ir_parse_parts.specs.declared.raw.Instr.TheVariants as ri
use Rattle.ir_parse_parts.specs.declared.raw.Item.{Item}
use Rattle.ir_parse_parts.specs.declared.raw.Item.TheVariants as items
use Rattle.ir_parse_parts.specs.declared.raw.WrittenLine as raw_line
use Rattle.ir_round_trip.specs.Bodies.{stated}
use Rattle.ir_round_trip.specs.PartsPrinted.{Paired, IsLabel, IsGlobal, IsNamed, IsOperand, IsArgument, IsInstr, IsTerminator, IsParam, IsDeclared}

-- there is a value, with this property
abbrev pub IsSomeWith : {A : Type 0} → (A → Type 0) → Option A → Type 0
IsSomeWith {A} P o = (a : A) × (o ≡ Some a) × P a

-- ---- lines

abbrev pub IsCall : Option Reg → Operand → List Argument → raw_instr.Instr → Type 0
IsCall result callee arguments (ri.Call r f as') = (r ≡ result) × IsOperand callee f × Paired IsArgument arguments as'
IsCall result callee arguments i = ⊥

abbrev pub IsInstruction : Instr → raw_instr.Instr → Type 0
IsInstruction (Call result callee arguments) j = IsCall result callee arguments j
IsInstruction i j = IsInstr i j

-- the name of a result, where there is one
abbrev pub IsBound : Option ℕ → Option Tok → Type 0
IsBound None name = name ≡ None
IsBound (Some n) name = IsNamed n name

abbrev pub IsLine : Line → raw_line.WrittenLine → Type 0
IsLine l r = IsBound l.local r.name × IsInstruction l.instr r.instr

-- ---- blocks

-- the phis of a block and its instructions are its lines, in this order
pub record IsContent (b : Block) (r : raw_block.Block) : Type 0 where
  pub lines : Paired IsLine (stated b) r.lines
  pub end : IsTerminator b.end r.end

-- the entry, which has no label
abbrev pub IsEntry : Block → raw_block.Block → Type 0
IsEntry b r = (r.label ≡ None) × IsContent b r

abbrev pub IsLabelOf : ℕ → Option Tok → Type 0
IsLabelOf n None = ⊥
IsLabelOf n (Some label) = IsLabel n label

abbrev pub IsLabelled : Block → raw_block.Block → Type 0
IsLabelled b r = IsLabelOf b.number r.label × IsContent b r

abbrev pub AreBlocks : List Block → List raw_block.Block → Type 0
AreBlocks [] [] = Unit {0}
AreBlocks [] (r ∷ rs) = ⊥
AreBlocks (b ∷ bs) [] = ⊥
AreBlocks (b ∷ bs) (r ∷ rs) = IsEntry b r × Paired IsLabelled bs rs

-- ---- functions

-- what stands before the body of a definition
pub record IsDefined (f : Function) (h : FunctionHeader) : Type 0 where
  pub linkage : h.linkage ≡ f.linkage
  pub result : h.result ≡ f.result
  pub name : IsGlobal f.symbol.name h.name
  pub params : Paired IsParam f.params h.params
  pub noinline : h.noinline ≡ f.noinline
  pub optnone : h.optnone ≡ f.optnone
  pub groups : h.groups ≡ []

abbrev pub IsDefinition : Function → Item → Type 0
IsDefinition f (items.Definition h bs) = IsDefined f h × AreBlocks f.blocks bs
IsDefinition f i = ⊥

abbrev pub IsDeclaration : Function → Item → Type 0
IsDeclaration f (items.Declaration h) = IsDeclared f h
IsDeclaration f i = ⊥
