use Rattle.std.proofs.Common.{List, ap, refl, sym, ◌∙◌}
use Rattle.ir_parse_parts.specs.declared.raw.WrittenLine.{WrittenLine}
use Rattle.ir_parse_bodies.specs.BlocksAt.{lines_from_at}
use Rattle.ir_parse_bodies.proofs.Grouping.{block_is}
use Rattle.ir_parse_bodies.specs.BlocksAt.{block_behind_at, lines_at}
use Rattle.ir_parse_bodies.proofs.Successions.{fails_as, fails_behind, passed_on, reads_behind}
use Rattle.ir_parse_operands.proofs.Additions.{first_fails}
use Rattle.ir_parse_bodies.proofs.blocks.begun_into.Goals as goal

pub returns : goal.returns
unfolding block_behind_at lines_at
returns c = block_is c.args.room c.args.tokens.now ∙ reads_behind c.in_ok-begun.ensures _ (reads_behind (ap (λ (front : List WrittenLine). lines_from_at c.args.room front c.maybe_label_at.new.tokens) (sym c.requires) ∙ c.in_ok-left.ensures) _ (reads_behind c.in_ok-terminator_into.ensures _ refl))

pub returns-in_err-begun : goal.returns-in_err-begun
unfolding block_behind_at lines_at
returns-in_err-begun c = passed_on _ _ _ _ c.from_residual.ensures (fails_as (block_is c.args.room c.args.tokens.now) _ (first_fails _ _ _ c.in_err-begun.ensures))

pub returns-in_err-left : goal.returns-in_err-left
unfolding block_behind_at lines_at
returns-in_err-left c = passed_on _ _ _ _ c.from_residual-in_err-left.ensures (fails_as (block_is c.args.room c.args.tokens.now) _ (fails_behind c.in_ok-begun.ensures _ _ (first_fails _ _ _ (fails_as (ap (λ (front : List WrittenLine). lines_from_at c.args.room front c.maybe_label_at.new.tokens) (sym c.requires)) _ c.in_err-left.ensures))))

pub returns-in_err-terminator_into : goal.returns-in_err-terminator_into
unfolding block_behind_at lines_at
returns-in_err-terminator_into c = passed_on _ _ _ _ c.from_residual-in_err-terminator_into.ensures (fails_as (block_is c.args.room c.args.tokens.now) _ (fails_behind c.in_ok-begun.ensures _ _ (fails_behind (ap (λ (front : List WrittenLine). lines_from_at c.args.room front c.maybe_label_at.new.tokens) (sym c.requires) ∙ c.in_ok-left.ensures) _ _ (first_fails _ _ _ c.in_err-terminator_into.ensures))))
