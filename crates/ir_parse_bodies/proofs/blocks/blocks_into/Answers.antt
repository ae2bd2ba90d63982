use Rattle.std.proofs.Common.{sym, ap, subst, ◌∙◌}
use Rattle.ir_parse_parts.specs.Readers.{Fails, follow}
use Rattle.ir_parse_operands.proofs.Levels.{gives_as}
use Rattle.ir_parse_bodies.specs.Adding.{joined_at}
use Rattle.ir_parse_bodies.specs.BlocksAt.{blocks_at}
use Rattle.ir_parse_bodies.proofs.Additions.{first_fails}
use Rattle.ir_parse_bodies.proofs.Grouping.{behind_first, blocks_is}
use Rattle.ir_parse_bodies.proofs.Successions.{passed_on}
use Rattle.ir_parse_bodies.proofs.blocks.blocks_into.Goals as goal

pub returns-in_err-left : goal.returns-in_err-left
returns-in_err-left c =
    let f : Fails c.in_err-left.field-0.0 (joined_at c.args.blocks.now.list.items (blocks_at c.args.further c.args.instructions) c.args.tokens.now) =
    subst (Fails c.in_err-left.field-0.0) (sym (blocks_is c.args.blocks.now.list.items c.args.further c.args.instructions c.args.tokens.now)) (first_fails _ _ (behind_first c.args.further) c.in_err-left.ensures) in
    passed_on _ _ _ _ c.from_residual.ensures f

pub returns : goal.returns
returns c =
    gives_as _ _ _ _ (sym (blocks_is c.args.blocks.now.list.items c.args.further c.args.instructions c.args.tokens.now ∙ ap (λ r. follow r (behind_first c.args.further)) c.in_ok-left.ensures)) c.further_blocks_into.ensures
