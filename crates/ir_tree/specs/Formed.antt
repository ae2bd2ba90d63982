-- Which trees of functions the grammar allows, whatever the number of their parameters, blocks, instructions and phi entries.
use Rattle.std.specs.Prelude.{◌≡◌, ℕ, ◌+◌, ◌<◌, ◌≤◌, ◌^◌, max, true, false, ◌⊎◌, List, [], ◌++◌, map, slice_get, All, Option, Some, None, IsSome}
use Rattle.ir_tree.specs.Forms.{Form, int, pointer, array, structure, Forms, no_parts, part}
use Rattle.ir_tree.specs.Layout.{IsLaidOut}
use Rattle.ir_tree.specs.Flow.{successors, locals, holds}
use Rattle.ir_tree.specs.Items.{Item, phi_item, line_item, end_item, items, operands, entries}
use Rattle.ir_tree.specs.declared.block.Case.{Case}
use Rattle.ir_tree.specs.declared.block.Terminator.{Terminator}
use Rattle.ir_tree.specs.declared.block.Terminator.TheVariants.{Switch}
use Rattle.ir_tree.specs.declared.function.Function.{Function}
use Rattle.ir_tree.specs.declared.function.Linkage.TheVariants.{External}
use Rattle.ir_tree.specs.declared.instr.BinaryOp.{BinaryOp}
use Rattle.ir_tree.specs.declared.instr.BinaryOp.TheVariants.{Add, Sub, Mul, Shl, Udiv, Sdiv, Lshr, Ashr}
use Rattle.ir_tree.specs.declared.instr.Flags.{Flags}
use Rattle.ir_tree.specs.declared.instr.Instr.{Instr}
use Rattle.ir_tree.specs.declared.instr.Instr.TheVariants as kind
use Rattle.ir_tree.specs.declared.operand.Argument.{Argument}
use Rattle.ir_tree.specs.declared.operand.Operand.{Operand}
use Rattle.ir_tree.specs.declared.operand.Operand.TheVariants as operand
use Rattle.ir_tree.specs.declared.operand.Reg.{Reg}
use Rattle.ir_tree.specs.declared.operand.Reg.TheVariants.{Int, Ptr}

-- no element stands in the list twice
abbrev pub Distinct : {X : Type 0} → List X → Type 0
Distinct {X} xs = (i j : ℕ) (x : X) → slice_get xs i ≡ Some x → slice_get xs j ≡ Some x → i ≡ j

-- ---- types, numbers and shapes

abbrev pub IsWidth : ℕ → Type 0
IsWidth w = (1 ≤ w) × (w ≤ 64)

abbrev pub IsReg : Reg → Type 0
IsReg (Int w) = IsWidth w
IsReg Ptr = Unit {0}

abbrev pub IsResult : Option Reg → Type 0
IsResult None = Unit {0}
IsResult (Some reg) = IsReg reg

-- the widths of integers in memory
abbrev pub IsStored : ℕ → Type 0
IsStored w = (w ≡ 8) ⊎ ((w ≡ 16) ⊎ ((w ≡ 32) ⊎ (w ≡ 64)))

abbrev pub IsScalar : Reg → Type 0
IsScalar (Int w) = IsStored w
IsScalar Ptr = Unit {0}

abbrev mutual
  pub AreStored : Form → Type 0
  AreStored (int w) = IsStored w
  AreStored pointer = Unit {0}
  AreStored (array n of) = AreStored of
  AreStored (structure packed parts) = AllStored parts

  pub AllStored : Forms → Type 0
  AllStored no_parts = Unit {0}
  AllStored (part f fs) = AreStored f × AllStored fs

-- how deep arrays and structs are nested
abbrev mutual
  pub nesting : Form → ℕ
  nesting (int w) = 0
  nesting pointer = 0
  nesting (array n of) = nesting of + 1
  nesting (structure packed parts) = deepest parts + 1

  pub deepest : Forms → ℕ
  deepest no_parts = 0
  deepest (part f fs) = max (nesting f) (deepest fs)

-- a shape that memory may hold: integers of 8, 16, 32 and 64 bits, at most 32 levels, at most 2 ^ 31 bytes in it and in each shape within
pub record IsShape (f : Form) : Type 0 where
  pub stored : AreStored f
  pub nested : nesting f ≤ 32
  pub sized : IsLaidOut f

-- a power of two up to 2 ^ 30
abbrev pub IsAlignment : ℕ → Type 0
IsAlignment a = (k : ℕ) × (k ≤ 30) × (a ≡ 2 ^ k)

-- ---- items of a function

-- the numbers of the blocks
abbrev pub numbers : Function → List ℕ
numbers f = map (λ b. b.number) f.blocks

abbrev pub IsLocal : Function → ℕ → Type 0
IsLocal f x = holds (locals f) x ≡ true

abbrev pub IsBlock : Function → ℕ → Type 0
IsBlock f n = holds (numbers f) n ≡ true

abbrev pub OperandFormed : Function → Operand → Type 0
OperandFormed f (operand.Local x) = IsLocal f x
OperandFormed f (operand.Number w bits) = IsWidth w × (bits < 2 ^ w)
OperandFormed f operand.Null = Unit {0}
OperandFormed f (operand.Poison reg) = IsReg reg
OperandFormed f (operand.Symbol symbol offset) = Unit {0}

abbrev pub ArgumentFormed : Function → Argument → Type 0
ArgumentFormed f a = IsReg a.reg × OperandFormed f a.operand

-- `nuw` and `nsw` belong to sums, differences, products and left shifts, `exact` to divisions and right shifts
abbrev pub FlagsFormed : BinaryOp → Flags → Type 0
FlagsFormed Add flags = flags.exact ≡ false
FlagsFormed Sub flags = flags.exact ≡ false
FlagsFormed Mul flags = flags.exact ≡ false
FlagsFormed Shl flags = flags.exact ≡ false
FlagsFormed Udiv flags = (flags.nuw ≡ false) × (flags.nsw ≡ false)
FlagsFormed Sdiv flags = (flags.nuw ≡ false) × (flags.nsw ≡ false)
FlagsFormed Lshr flags = (flags.nuw ≡ false) × (flags.nsw ≡ false)
FlagsFormed Ashr flags = (flags.nuw ≡ false) × (flags.nsw ≡ false)
FlagsFormed _ flags = (flags.nuw ≡ false) × (flags.nsw ≡ false) × (flags.exact ≡ false)

-- what an instruction has besides its operands
abbrev pub InstrFormed : Instr → Type 0
InstrFormed (kind.Binary op flags width left right) = FlagsFormed op flags
InstrFormed (kind.Cast op from value to) = IsReg to
InstrFormed (kind.Alloca shape align) = IsShape shape × IsAlignment align
InstrFormed (kind.Load reg address align) = IsScalar reg × IsAlignment align
InstrFormed (kind.Store reg value address align) = IsScalar reg × IsAlignment align
InstrFormed (kind.Address inbounds shape base indices) = IsShape shape
InstrFormed (kind.Call result callee arguments) = IsResult result
InstrFormed (kind.Phi reg incoming) = IsReg reg
InstrFormed _ = Unit {0}

-- a store has no result; a call without a result may still be named, which only its type then forbids
abbrev pub ResultFormed : Instr → Option ℕ → Type 0
ResultFormed (kind.Store reg value address align) local = local ≡ None
ResultFormed (kind.Call None callee arguments) local = Unit {0}
ResultFormed _ local = IsSome local

abbrev pub CaseFormed : Case → Type 0
CaseFormed c = IsReg c.reg × IsWidth c.width × (c.bits < 2 ^ c.width)

abbrev pub CasesFormed : Terminator → Type 0
CasesFormed (Switch width value default cases) = All CaseFormed cases
CasesFormed _ = Unit {0}

abbrev pub KindFormed : Function → Item → Type 0
KindFormed f (phi_item b phi) = IsReg phi.reg
KindFormed f (line_item b k l) = InstrFormed l.instr × ResultFormed l.instr l.local
KindFormed f (end_item b t) = CasesFormed t × All (IsBlock f) (successors t)

pub record ItemFormed (f : Function) (item : Item) : Type 0 where
  pub operands : All (ArgumentFormed f) (operands item)
  pub sources : All (λ e. IsBlock f e.from) (entries item)
  pub kind : KindFormed f item

-- ---- functions

-- a declaration has no linkage of its own and no attributes
abbrev pub DeclarationFormed : Function → Type 0
DeclarationFormed f = (f.linkage ≡ External) × (f.noinline ≡ false) × (f.optnone ≡ false)

pub record Formed (f : Function) : Type 0 where
  pub result : IsResult f.result
  pub params : All (λ p. IsReg p.reg) f.params
  -- each local and block has its own number
  pub once : Distinct (locals f ++ numbers f)
  pub items : All (ItemFormed f) (items f)
  pub declared : f.blocks ≡ [] → DeclarationFormed f
