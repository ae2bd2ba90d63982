-- Code against the program that it is of: each function's blocks by position, with parts that mean the same.
use Rattle.std.specs.Prelude.{◌≡◌, ℕ, zero, suc, ◌+◌, ◌<◌, ◌^◌, ◌==◌, if◌then◌else◌, List, [], ◌∷◌, length, slice_get, Option, Some, None}
use Rattle.ir_tree.specs.declared.block.Block.{Block as MeantBlock}
use Rattle.ir_tree.specs.declared.function.Function.{Function as MeantFunction}
use Rattle.ir_tree.specs.declared.function.Param.{Param}
use Rattle.ir_tree.specs.declared.instr.Line.{Line as MeantLine}
use Rattle.ir_tree.specs.declared.operand.Reg.{Reg}
use Rattle.ir_tree.specs.declared.operand.Symbol.{Symbol}
use Rattle.ir_meaning.specs.Act as act
use Rattle.ir_meaning.specs.Act.{Leads', Leaves, Stuck, exit_of, phis_bound}
use Rattle.ir_meaning.specs.Frame.{AFunction, Locals, Signature, value_of}
use Rattle.ir_meaning.specs.Memory.{Memory as MeantMemory}
use Rattle.ir_meaning.specs.Program.{Program, counted}
use Rattle.ir_machine.specs.Meant.{symbol_at}
use Rattle.ir_machine.specs.Memories.{KeepsHandles}
use Rattle.ir_machine.specs.declared.memory.Memory.{Memory}
use Rattle.ir_interp.specs.Phis.{ArePhisKnown, phis_meant}
use Rattle.ir_interp.specs.Tasks.{CanRun, IsTaskKnown}
use Rattle.ir_interp.specs.Calls.{AreKinds}
use Rattle.ir_interp.specs.Exits.{IsExitKnown, exit_meant}
use Rattle.ir_interp.specs.Lines.{IsLine}
use Rattle.ir_interp.specs.declared.line.CodeLine.{CodeLine}
use Rattle.ir_interp.specs.declared.code.Block.{Block}
use Rattle.ir_interp.specs.declared.code.Code.{Code}
use Rattle.ir_interp.specs.declared.code.Function.{Function}

abbrev pub function_in : Option (Option Function) → Option Function
function_in None = None
function_in (Some f) = f

-- the function of a symbol's index
abbrev pub function_of : Code → ℕ → Option Function
function_of code i = function_in (slice_get code.functions.items i)

abbrev pub block_in : Option Function → ℕ → Option Block
block_in None q = None
block_in (Some f) q = slice_get f.blocks.items q

-- the block at a position of a function
abbrev pub block_of : Code → ℕ → ℕ → Option Block
block_of code i q = block_in (function_of code i) q

-- ---- positions

-- the position of the first block of a number; behind all blocks where there is none
abbrev pub position : List MeantBlock → ℕ → ℕ
position [] n = 0
position (b ∷ bs) n = if b.number == n then 0 else suc (position bs n)

-- how many phis, instructions and terminators stand before the block at a position
abbrev pub counted_before : List MeantBlock → ℕ → ℕ
counted_before bs zero = 0
counted_before [] (suc q) = 0
counted_before (b ∷ bs) (suc q) = counted b + counted_before bs q

-- an exit that leads to positions in place of numbers
abbrev pub at_positions : List MeantBlock → act.Exit → act.Exit
at_positions bs (Leaves answer) = Leaves answer
at_positions bs (Leads' target) = Leads' (position bs target)
at_positions bs (Stuck cause) = Stuck cause

-- ---- code

-- the block at a position of a function, against the block of the definition
pub record IsBlock (names : List Symbol) (sig : Signature) (blocks : List MeantBlock) (q : ℕ) (b : MeantBlock) (c : Block) : Type 0 where
  pub number : c.number ≡ b.number
  pub before : c.before ≡ counted_before blocks q + length b.phis
  pub short : c.before + length b.lines + 1 < 2 ^ 64
  pub phis : (locals : Locals) (from : ℕ) (after : Locals) → phis_bound sig locals from b.phis after ≡ phis_meant names locals from c.phis.items after
  pub long : length c.lines.items ≡ length b.lines
  pub lines : (k : ℕ) (l : MeantLine) (line : CodeLine) → slice_get b.lines k ≡ Some l → slice_get c.lines.items k ≡ Some line → IsLine names sig l line
  pub exit : (locals : Locals) → exit_meant names locals c.exit ≡ at_positions blocks (exit_of (value_of sig locals) b.end)

abbrev pub locals_of : List Param → List ℕ
locals_of [] = []
locals_of (p ∷ ps) = p.local ∷ locals_of ps

-- the code of a function of the program
pub record IsFunction (names : List Symbol) (sig : Signature) (code : Code) (i : ℕ) (f : MeantFunction) (g : Function) : Type 0 where
  pub symbol : f.symbol ≡ symbol_at names i
  pub params : g.params.items ≡ locals_of f.params
  pub some : 0 < length f.blocks
  pub long : length g.blocks.items ≡ length f.blocks
  pub blocks : (q : ℕ) (b : MeantBlock) (c : Block) → slice_get f.blocks q ≡ Some b → slice_get g.blocks.items q ≡ Some c → IsBlock names sig f.blocks q b c
  -- its parameters are as many as those of its type
  pub typed : (params : List Reg) (result : Option Reg) → sig.kind (symbol_at names i) ≡ AFunction params result → length params ≡ length f.params

abbrev pub IsBody : List Symbol → Signature → Code → ℕ → Option MeantFunction → Option Function → Type 0
IsBody names sig code i None None = Unit {0}
IsBody names sig code i (Some f) (Some g) = IsFunction names sig code i f g
IsBody names sig code i _ _ = ⊥

-- the code of a program, where the symbols of its table are these
pub record IsCode (names : List Symbol) (p : Program) (code : Code) : Type 0 where
  pub kinds : AreKinds names p.signature code.entities.items
  pub long : length code.functions.items ≡ length names
  pub bodies : (i : ℕ) → i < length names → IsBody names p.signature code i (p.code (symbol_at names i)) (function_of code i)

-- ---- what is known before the run

pub record IsBlockKnown (names : List Symbol) (m : Memory) (memory : MeantMemory) (c : Block) : Type 0 where
  pub phis : ArePhisKnown names m memory c.phis.items
  pub lines : (k : ℕ) (line : CodeLine) → slice_get c.lines.items k ≡ Some line → IsTaskKnown names m memory line.task
  pub exit : IsExitKnown names m memory c.exit

-- the values that stand in the code are valid, and stay so where handles do
abbrev pub Knows : List Symbol → Code → Memory → MeantMemory → Type 0
Knows names code m memory = (m' : Memory) (memory' : MeantMemory) → KeepsHandles m memory m' memory' → (i q : ℕ) (c : Block) → block_of code i q ≡ Some c → IsBlockKnown names m' memory' c

-- each line can run: its widths, alignments, shapes and casts are those of sound code
abbrev pub IsRunnable : Code → Type 0
IsRunnable code = (i q : ℕ) (c : Block) (k : ℕ) (line : CodeLine) → block_of code i q ≡ Some c → slice_get c.lines.items k ≡ Some line → CanRun line.task
