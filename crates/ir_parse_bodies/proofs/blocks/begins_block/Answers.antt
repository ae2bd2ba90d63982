use Rattle.std.proofs.Common.{sym, ◌∙◌}
use Rattle.std.proofs.Common.{true≢false}
use Rattle.ir_lex.specs.TokenKinds.{number}
use Rattle.ir_parse_bodies.proofs.BlockHeads.{by_end, by_label, by_line}
use Rattle.ir_parse_bodies.proofs.blocks.begins_block.Goals.{then-is, else-is}
use Rattle.ir_parse_bodies.proofs.blocks.begins_block.Goals as goal

pub returns-else-begins_line : goal.returns-else-begins_line
returns-else-begins_line c = elim c.if-is.branch [ then-is w ↦ absurd (true≢false (sym w.if-is.true ∙ sym w.value-is ∙ c.if-begins_line.false)) | else-is w ↦ c.begins_terminator.ensures ∙ sym (by_end (number c.args.head) w.if-is.ensures (sym w.begins_line.ensures ∙ sym w.value-is ∙ c.if-begins_line.false)) ]

pub returns-then-begins_line : goal.returns-then-begins_line
returns-then-begins_line c = c.if-begins_line.true ∙ sym (elim c.if-is.branch [ then-is w ↦ by_label (number c.args.head) w.if-is.ensures | else-is w ↦ by_line (number c.args.head) (sym w.begins_line.ensures ∙ sym w.value-is ∙ c.if-begins_line.true) ])
