use Rattle.std.proofs.Common.{◌++◌, ◌∙◌}
use Rattle.ir_tree.specs.Flow.{room}
use Rattle.ir_edit.specs.Numbered.{blocks_numbers, param_numbers}
use Rattle.inline_site.proofs.free.first_free.Goals as goal

pub returns : goal.returns
returns c = c.past_all-free.ensures ∙ (λ i. room (param_numbers (c.as_slice.ensures i) ++ blocks_numbers (c.as_slice-2.ensures i)))
