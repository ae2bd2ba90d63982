-- Registers and memory that stand for what they stood for.
use Rattle.std.proofs.Common.{◌≡◌, ℕ, List, [], ◌∷◌, ◌++◌, slice_get, refl, sym, ap, ◌∙◌}
use Rattle.ir_tree.specs.declared.operand.Symbol.{Symbol}
use Rattle.ir_meaning.specs.Frame.{Locals}
use Rattle.ir_meaning.specs.Memory.{Memory as MeantMemory}
use Rattle.ir_machine.specs.Memories.{KeepsHandles, Stands, block_at, numbers_of}
use Rattle.ir_machine.specs.declared.block.Block.{Block}
use Rattle.ir_machine.specs.declared.memory.Memory.{Memory}
use Rattle.ir_machine.proofs.Origins.{same_gains}
use Rattle.ir_interp.specs.Locals.{AreLocals, IsMemory, register_at}
use Rattle.ir_interp.specs.Ran.{StandFor}
use Rattle.ir_interp.specs.declared.registers.Registers.{Registers}
use Rattle.ir_interp.proofs.SourcesKept.{keep_locals, keep_memory}
use Rattle.ir_interp.proofs.Reading.{same_locals}

-- no memory was touched, and registers read the same
pub untouched : (names : List Symbol) (m : Memory) (memory : MeantMemory) (r r' : Registers) (locals : Locals) → ((x : ℕ) → register_at r' x ≡ register_at r x) →
    IsMemory names m memory → AreLocals names m memory r locals → StandFor names m memory m r' memory locals
untouched names m memory r r' locals same s a = record { holds = s; reads = same_locals names m memory r r' locals same a; keeps = λ h x. x }

pub numbers_behind : (bs : List Block) (b : Block) → numbers_of (bs ++ b ∷ []) ≡ numbers_of bs ++ b.number ∷ []
numbers_behind [] b = refl
numbers_behind (d ∷ bs) b = ap (λ (ns : List ℕ). d.number ∷ ns) (numbers_behind bs b)

-- the blocks that live are the same ones, and registers read the same
pub unmoved : (names : List Symbol) (m m' : Memory) (memory : MeantMemory) (r r' : Registers) (locals : Locals) → m'.blocks.items ≡ m.blocks.items → m'.made ≡ m.made → ((x : ℕ) → register_at r' x ≡ register_at r x) →
    IsMemory names m memory → AreLocals names m memory r locals → StandFor names m memory m' r' memory locals
unmoved names m m' memory r r' locals items made same s a = record {
  holds = keep_memory names m memory m' memory s stands keeps (same_gains m.blocks.items m'.blocks.items items);
  reads = keep_locals names m memory m' memory r' locals keeps (same_locals names m memory r r' locals same a);
  keeps = keeps;
} where
  at : (q : ℕ) → block_at m' q ≡ block_at m q
  at q = ap (λ (bs : List Block). slice_get bs q) items

  stands : Stands names m' memory
  stands = record {
    made = made ∙ s.stands.made;
    held = λ q b e. s.stands.held q b (sym (at q) ∙ e);
    rising = λ q o b d l e f. s.stands.rising q o b d l (sym (at q) ∙ e) (sym (at o) ∙ f);
  }

  keeps : KeepsHandles m memory m' memory
  keeps = λ h k. record {
    older = k.older;
    size = k.size;
    found = λ d e live. let f = k.found d e live in (f.0, (at h.position ∙ f.1.0, f.1.1));
  }
