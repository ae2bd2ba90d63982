-- Phis, terminators, blocks and functions, and the code that stands for them, where symbols have these addresses.
use Rattle.std.specs.Prelude.{◌≡◌, ℕ, ◌+◌, ◌<◌, ◌^◌, List, length, slice_get, All, Some, nat_eq}
use Rattle.std.specs.HashMap as hash
use Rattle.std.specs.List.{AllZip}
use Rattle.std.specs.Option.{unwrap_or}
use Rattle.ir_tree.specs.declared.block.Block.{Block as MeantBlock}
use Rattle.ir_tree.specs.declared.block.Case.{Case as MeantCase}
use Rattle.ir_tree.specs.declared.block.Terminator.{Terminator}
use Rattle.ir_tree.specs.declared.function.Function.{Function as MeantFunction}
use Rattle.ir_tree.specs.declared.instr.Incoming.{Incoming}
use Rattle.ir_tree.specs.declared.instr.Line.{Line as MeantLine}
use Rattle.ir_tree.specs.declared.instr.Phi.{Phi as MeantPhi}
use Rattle.ir_tree.specs.declared.operand.Symbol.{Symbol}
use Rattle.ir_meaning.specs.Act.{exit_of}
use Rattle.ir_meaning.specs.Frame.{Locals, Signature, value_of}
use Rattle.ir_meaning.specs.Memory.{Memory as MeantMemory}
use Rattle.ir_machine.specs.declared.memory.Memory.{Memory}
use Rattle.ir_interp.specs.declared.phis.Edge.{Edge}
use Rattle.ir_interp.specs.declared.phis.Phi.{Phi}
use Rattle.ir_interp.specs.Exits.{IsExitKnown, exit_meant}
use Rattle.ir_interp.specs.declared.exit.Case.{Case}
use Rattle.ir_interp.specs.declared.exit.Exit.{Exit}
use Rattle.ir_interp.specs.declared.line.CodeLine.{CodeLine}
use Rattle.ir_interp.specs.Code.{at_positions, counted_before, locals_of, position}
use Rattle.ir_interp.specs.declared.code.Block.{Block}
use Rattle.ir_interp.specs.declared.code.Function.{Function}
use Rattle.machine_code.specs.Addresses.{AreValid, HasAddresses}
use Rattle.machine_code.specs.Sources.{StandsFor}
use Rattle.machine_code.specs.Tasks.{IsSoundInstr, IsTask}
use Rattle.machine_code.specs.declared.addresses.Addresses.{Addresses}
use Rattle.machine_code.specs.declared.positions.Positions.{Positions}

-- ---- positions

-- the position of the block of a number; where none has it, how many blocks there are
abbrev pub position_in : Positions → ℕ → ℕ
position_in p n = unwrap_or (hash.get nat_eq p.by_number n) p.count

abbrev pub ArePositions : List MeantBlock → Positions → Type 0
ArePositions blocks p = (n : ℕ) → position_in p n ≡ position blocks n

-- ---- phis

pub record IsEdge (t : Addresses) (e : Incoming) (d : Edge) : Type 0 where
  pub from : d.from ≡ e.from
  pub stands : StandsFor t e.value d.source

pub record IsPhi (t : Addresses) (p : MeantPhi) (q : Phi) : Type 0 where
  pub local : q.local ≡ p.local
  pub edges : AllZip (IsEdge t) p.incoming q.edges.items

-- ---- lines

pub record IsLineFor (t : Addresses) (l : MeantLine) (line : CodeLine) : Type 0 where
  pub local : line.local ≡ l.local
  pub task : IsTask t l.instr line.task

-- ---- terminators

-- a case, with the position of the block that it leads to
pub record IsCase (blocks : List MeantBlock) (c : MeantCase) (d : Case) : Type 0 where
  pub bits : d.bits ≡ c.bits
  pub target : d.target ≡ position blocks c.target

-- it leads, whatever the locals, to the positions of the blocks to which the terminator leads; what is known of it before the run is valid
pub record IsExit (t : Addresses) (blocks : List MeantBlock) (e : Terminator) (x : Exit) : Type 0 where
  pub means : (names : List Symbol) (sig : Signature) → HasAddresses names sig t → (locals : Locals) → exit_meant names locals x ≡ at_positions blocks (exit_of (value_of sig locals) e)
  pub known : (names : List Symbol) (m : Memory) (memory : MeantMemory) → AreValid names m memory t → IsExitKnown names m memory x

-- ---- blocks and functions

-- a block before which so many phis, instructions and terminators stand
pub record IsBlockFor (t : Addresses) (blocks : List MeantBlock) (count : ℕ) (b : MeantBlock) (c : Block) : Type 0 where
  pub number : c.number ≡ b.number
  pub before : c.before ≡ count + length b.phis
  pub short : c.before + length b.lines + 1 < 2 ^ 64
  pub phis : AllZip (IsPhi t) b.phis c.phis.items
  pub lines : AllZip (IsLineFor t) b.lines c.lines.items
  pub exit : IsExit t blocks b.end c.exit

-- the blocks of a function, as far as they were made
abbrev pub AreBlocksFor : Addresses → List MeantBlock → List Block → Type 0
AreBlocksFor t blocks cs = (q : ℕ) (b : MeantBlock) (c : Block) → slice_get blocks q ≡ Some b → slice_get cs q ≡ Some c → IsBlockFor t blocks (counted_before blocks q) b c

pub record IsFunctionFor (t : Addresses) (f : MeantFunction) (g : Function) : Type 0 where
  pub params : g.params.items ≡ locals_of f.params
  -- a number for each parameter, phi, instruction and terminator
  pub registers : g.registers ≡ length f.params + counted_before f.blocks (length f.blocks)
  pub long : length g.blocks.items ≡ length f.blocks
  pub blocks : AreBlocksFor t f.blocks g.blocks.items

-- a function of which each instruction is one of a sound function
abbrev pub IsSoundBlock : MeantBlock → Type 0
IsSoundBlock b = All (λ l. IsSoundInstr l.instr) b.lines

abbrev pub HasSoundInstrs : MeantFunction → Type 0
HasSoundInstrs f = All IsSoundBlock f.blocks
