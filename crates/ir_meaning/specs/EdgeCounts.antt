-- Phi entries and the edges that they stand for.
use Rattle.std.specs.Prelude.{◌≡◌, ℕ, All, Some, slice_get}
use Rattle.ir_tree.specs.Flow.{successors}
use Rattle.ir_tree.specs.Rules.{Sound}
use Rattle.ir_tree.specs.declared.block.Block.{Block}
use Rattle.ir_tree.specs.declared.function.Function.{Function}
use Rattle.ir_meaning.specs.Counted.{sources, times}

-- each phi of a block has as many entries that name another block as edges lead from that one to the phi's
abbrev pub EntriesAreEdges : Type 0
EntriesAreEdges =
    (f : Function) → Sound f → (b i : ℕ) (block from : Block) → slice_get f.blocks b ≡ Some block → slice_get f.blocks i ≡ Some from
    → All (λ p. times from.number (sources p.incoming) ≡ times block.number (successors from.end)) block.phis
