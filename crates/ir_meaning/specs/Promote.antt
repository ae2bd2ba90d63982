-- Slot promotion: stack slots that are only loaded and stored become values.
use Rattle.std.specs.Prelude.{◌≡◌, ℕ, ◌≤◌, Bool, true, false, ◌==◌, if◌then◌else◌, List, [], ◌∷◌, ◌++◌, length, Option, Some, None}
use Rattle.ir_tree.specs.Forms.{Form}
use Rattle.ir_tree.specs.Layout.{size as size_of}
use Rattle.ir_tree.specs.declared.block.Block.{Block}
use Rattle.ir_tree.specs.declared.function.Function.{Function}
use Rattle.ir_tree.specs.declared.function.Param.{Param}
use Rattle.ir_tree.specs.declared.instr.Instr.{Instr}
use Rattle.ir_tree.specs.declared.instr.Instr.TheVariants.{Alloca, Load, Select, Store}
use Rattle.ir_tree.specs.declared.instr.Line.{Line}
use Rattle.ir_tree.specs.declared.instr.Phi.{Phi}
use Rattle.ir_tree.specs.declared.operand.Operand.{Operand}
use Rattle.ir_tree.specs.declared.operand.Operand.TheVariants.{Local, Number as Constant, Poison as PoisonOf}
use Rattle.ir_tree.specs.declared.operand.Reg.{Reg}
use Rattle.ir_meaning.specs.Act.{find_block}
use Rattle.ir_meaning.specs.Bytes.{reg_size}
use Rattle.ir_meaning.specs.Facts.{IsTarget, is_local, is_phi, phi_operand}
use Rattle.ir_meaning.specs.Needed.{EndReads, IsKept, PhisKept, UsesKept}
use Rattle.ir_meaning.specs.Rules.{IsStorable}

-- the value of each slot, as an operand
abbrev pub Current : Type 0
Current = ℕ → Operand

-- what an instruction does with a slot
pub data Use : Type 0 where
  Makes : (slot : ℕ) → Use
  Writes : (slot : ℕ) (operand : Operand) → Use
  Fetches : (slot : ℕ) → Use
  Other : Use

-- what is promoted, and by what
pub record Plan : Type 0 where
  pub slot : ℕ → Bool
  pub reg : ℕ → Reg
  pub uses : Line → Use
  -- the locals that are neither slots nor new
  pub keeps : ℕ → Bool
  -- by the number of a block: its new phis, the slots' values behind them and at its end
  pub news : ℕ → List Phi
  pub starts : ℕ → Current
  pub ends : ℕ → Current
  pub longest : ℕ

abbrev pub changed : ℕ → Operand → Current → Current
changed x o c y = if x == y then o else c y

abbrev pub behind : (ℕ → Reg) → Use → Current → Current
behind reg (Makes x) c = changed x (PoisonOf (reg x)) c
behind reg (Writes x o) c = changed x o c
behind reg (Fetches x) c = c
behind reg Other c = c

-- slots and their stores go, and a load is a select of the value
abbrev pub chosen_value : Reg → Operand → Instr
chosen_value reg v = Select (Constant 1 1) (record { reg = reg; operand = v }) (record { reg = reg; operand = v })

abbrev pub put : (ℕ → Reg) → Use → Current → Line → List Line → List Line
put reg (Makes x) c line rest = rest
put reg (Writes x o) c line rest = rest
put reg (Fetches x) c line rest = record { local = line.local; instr = chosen_value (reg x) (c x) } ∷ rest
put reg Other c line rest = line ∷ rest

abbrev pub lines_promoted : Plan → Current → List Line → List Line
lines_promoted t c [] = []
lines_promoted t c (line ∷ rest) = put t.reg (t.uses line) c line (lines_promoted t (behind t.reg (t.uses line) c) rest)

abbrev pub behind_all : Plan → Current → List Line → Current
behind_all t c [] = c
behind_all t c (line ∷ rest) = behind_all t (behind t.reg (t.uses line) c) rest

abbrev pub block_promoted : Plan → Block → Block
block_promoted t b = record b { phis = t.news b.number ++ b.phis; lines = lines_promoted t (t.starts b.number) b.lines }

abbrev pub blocks_promoted : Plan → List Block → List Block
blocks_promoted t [] = []
blocks_promoted t (b ∷ bs) = block_promoted t b ∷ blocks_promoted t bs

abbrev pub promoted : Plan → Function → Function
promoted t f = record f { blocks = blocks_promoted t f.blocks }

-- ---- when the plan is right

-- a new value of the local changes no slot, and no slot's value
abbrev pub LocalFree : Plan → Current → Option ℕ → Type 0
LocalFree t c None = Unit {0}
LocalFree t c (Some y) = (t.slot y ≡ false) × ((x : ℕ) → t.slot x ≡ true → is_local y (c x) ≡ false)

abbrev pub LineRight : Plan → Current → Use → Line → Type 0
LineRight t c (Makes x) line = (t.slot x ≡ true) × (line.local ≡ Some x) × IsStorable (t.reg x) × (shape : Form) × (align : ℕ) ×
    (line.instr ≡ Alloca shape align) × (size_of shape ≡ reg_size (t.reg x))
LineRight t c (Writes x o) line = (t.slot x ≡ true) × IsKept t.keeps o × IsStorable (t.reg x) × (align : ℕ) ×
    (line.instr ≡ Store (t.reg x) o (Local x) align)
LineRight t c (Fetches x) line = (t.slot x ≡ true) × LocalFree t c line.local × (align : ℕ) × (line.instr ≡ Load (t.reg x) (Local x) align)
LineRight t c Other line = LocalFree t c line.local × UsesKept t.keeps line.instr

abbrev pub LinesRight : Plan → Current → List Line → Type 0
LinesRight t c [] = Unit {0}
LinesRight t c (line ∷ rest) = LineRight t c (t.uses line) line × LinesRight t (behind t.reg (t.uses line) c) rest

-- the phis are of no locals that are kept
abbrev pub AreNew : (ℕ → Bool) → List Phi → Type 0
AreNew keeps [] = Unit {0}
AreNew keeps (p ∷ ps) = (keeps p.local ≡ false) × AreNew keeps ps

pub record BlockRight (t : Plan) (f : Function) (b : Block) : Type 0 where
  pub news : AreNew t.keeps (t.news b.number)
  pub phis : PhisKept t.keeps b.phis
  pub free : (x : ℕ) → t.slot x ≡ true → is_phi x b.phis ≡ false
  pub lines : LinesRight t (t.starts b.number) b.lines
  pub ends_are : (x : ℕ) → behind_all t (t.starts b.number) b.lines x ≡ t.ends b.number x
  pub end : EndReads t.keeps b.end
  -- on an edge a phi takes each slot's value
  pub targets : (n : ℕ) (y : Block) → IsTarget b.end n → find_block f.blocks n ≡ Some y → (x : ℕ) → t.slot x ≡ true →
      (v : ℕ) × (t.starts y.number x ≡ Local v) × (is_phi v (t.news y.number ++ y.phis) ≡ true) ×
      (phi_operand v b.number (t.news y.number ++ y.phis) ≡ Some (t.ends b.number x))
  pub short : length b.lines ≤ t.longest

abbrev pub BlocksRight : Plan → Function → List Block → Type 0
BlocksRight t f [] = Unit {0}
BlocksRight t f (b ∷ bs) = BlockRight t f b × BlocksRight t f bs

abbrev pub ParamsFree : (ℕ → Bool) → List Param → Type 0
ParamsFree slot [] = Unit {0}
ParamsFree slot (p ∷ ps) = (slot p.local ≡ false) × ParamsFree slot ps

pub record PlanRight (t : Plan) (f : Function) : Type 0 where
  pub blocks : BlocksRight t f f.blocks
  pub hidden : (x : ℕ) → t.slot x ≡ true → t.keeps x ≡ false
  pub params : ParamsFree t.slot f.params
  -- the entry has no new phis, since it has no predecessor
