use Rattle.std.proofs.Common.{◌∙◌, ◌++◌, ap, List, ℕ, Bor}
use Rattle.ir_tree.specs.declared.init_node.InitHead.{InitHead}
use Rattle.ir_tree.specs.declared.init_node.InitPart.{InitPart}
use Rattle.ir_summary.specs.Once.{texts}
use Rattle.ir_summary.specs.Walked.{head_named, parts_named}
use Rattle.ir_summary.proofs.Walks.{initial_named}
use Rattle.ir_summary.proofs.initials.init_names.Goals as goal

pub returns : goal.returns
returns c =
    c.in_ok-push_parts.ensures
    ∙ ap (λ (z : List (List ℕ)). z ++ parts_named c.flat.result.1.now) (c.in_ok-push_head.ensures ∙ ap (λ (z : List (Bor (List ℕ))). texts z ++ head_named c.flat.result.0.now) c.new-names.ensures.items)
    ∙ ap (λ (flat : InitHead × List InitPart). head_named flat.0 ++ parts_named flat.1) c.flat.ensures
    ∙ initial_named c.args.init.now
