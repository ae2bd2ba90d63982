-- What still holds of frames and code when handles do.
use Rattle.std.proofs.Common.{ℕ, List, [], ◌∷◌}
use Rattle.ir_tree.specs.declared.operand.Symbol.{Symbol}
use Rattle.ir_meaning.specs.Frame.{Frame as MeantFrame}
use Rattle.ir_meaning.specs.Memory.{Memory as MeantMemory}
use Rattle.ir_meaning.specs.Program.{Program}
use Rattle.ir_machine.specs.Memories.{KeepsHandles}
use Rattle.ir_machine.specs.declared.memory.Memory.{Memory}
use Rattle.ir_interp.proofs.SourcesKept.{keep_locals}
use Rattle.ir_interp.specs.Code.{Knows}
use Rattle.ir_interp.specs.Frames.{IsFrame, Wait}
use Rattle.ir_interp.specs.declared.code.Code.{Code}
use Rattle.ir_interp.specs.declared.frame.Frame.{Frame}

pub keep_frame : (names : List Symbol) (p : Program) (m : Memory) (memory : MeantMemory) (m' : Memory) (memory' : MeantMemory) (f : Frame) (d : MeantFrame) → KeepsHandles m memory m' memory' →
    IsFrame names p m memory f d → IsFrame names p m' memory' f d
keep_frame names p m memory m' memory' f d k h = record {
  named = h.named;
  called = h.called;
  stands = h.stands;
  reads = keep_locals names m memory m' memory' f.registers d.locals k h.reads;
  awaits = h.awaits;
}

pub keep_wait : (names : List Symbol) (p : Program) (m : Memory) (memory : MeantMemory) (m' : Memory) (memory' : MeantMemory) (numbers : List ℕ) (fs : List Frame) (ds : List MeantFrame) →
    KeepsHandles m memory m' memory' → Wait names p m memory numbers fs ds → Wait names p m' memory' numbers fs ds
keep_wait names p m memory m' memory' numbers fs [] k h = h
keep_wait names p m memory m' memory' numbers fs (d ∷ ds) k (f, (rest, (front, (items, waiting, more)))) = (
  f,
  (
    rest,
    (
      front,
      (
        items,
        record { frame = keep_frame names p m memory m' memory' f d k waiting.frame; room = waiting.room; stacks = waiting.stacks },
        keep_wait names p m memory m' memory' front rest ds k more,
      ),
    ),
  ),
)

pub keep_knows : (names : List Symbol) (code : Code) (m : Memory) (memory : MeantMemory) (m' : Memory) (memory' : MeantMemory) → KeepsHandles m memory m' memory' → Knows names code m memory → Knows names code m' memory'
keep_knows names code m memory m' memory' k h m'' memory'' k' = h m'' memory'' (λ handle x. k' handle (k handle x))
