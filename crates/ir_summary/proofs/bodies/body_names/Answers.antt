use Rattle.std.proofs.Common.{◌∙◌, ◌++◌, sym, ap₂, List, ℕ, Bor}
use Rattle.ir_tree.specs.declared.block.Block.{Block}
use Rattle.ir_summary.specs.Once.{texts}
use Rattle.ir_summary.specs.Walked.{blocks_names}
use Rattle.ir_summary.proofs.Walks.{blocks_named}
use Rattle.ir_summary.proofs.bodies.body_names.Goals as goal

pub returns : goal.returns
returns c =
    c.in_ok-push_blocks.ensures
    ∙ ap₂ (λ (z : List (Bor (List ℕ))) (bs : List Block). texts z ++ blocks_names bs) c.new-names.ensures.items c.as_slice.ensures
    ∙ sym (blocks_named 0 c.args.function.now.blocks)
