use Rattle.std.proofs.Common.{◌∙◌, sym}
use Rattle.ir_parse_operands.proofs.Choices.{aligned_behind_comma}
use Rattle.ir_parse_operands.proofs.Levels.{gives_as}
use Rattle.ir_parse_operands.proofs.alignments.align_at.Goals as goal

pub returns-in_ok-expect : goal.returns-in_ok-expect
returns-in_ok-expect c = gives_as _ _ _ _ (sym (aligned_behind_comma _ _ (sym c.comes.ensures ∙ c.if-comes.true) c.in_ok-expect.ensures)) c.aligned_at.ensures
