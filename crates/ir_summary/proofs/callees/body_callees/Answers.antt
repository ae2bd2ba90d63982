use Rattle.std.proofs.Common.{◌∙◌, ◌++◌, sym, ap₂, List, ℕ, Bor}
use Rattle.ir_tree.specs.declared.block.Block.{Block}
use Rattle.ir_summary.specs.Once.{texts}
use Rattle.ir_summary.specs.Walked.{blocks_callees}
use Rattle.ir_summary.proofs.Walks.{blocks_call}
use Rattle.ir_summary.proofs.callees.body_callees.Goals as goal

pub returns : goal.returns
returns c =
    c.in_ok-push_blocks.ensures
    ∙ ap₂ (λ (z : List (Bor (List ℕ))) (bs : List Block). texts z ++ blocks_callees bs) c.new-names.ensures.items c.as_slice.ensures
    ∙ sym (blocks_call 0 c.args.function.now.blocks)
