use Rattle.ir_parse_operands.proofs.TerminatorReadings.{terminator_begun}
use Rattle.std.proofs.Common.{sym}
use Rattle.ir_parse_parts.specs.MetadataAt.{attachments_at}
use Rattle.ir_parse_operands.proofs.Levels.{given_behind, gives_as}
use Rattle.ir_parse_operands.proofs.terminators.terminator_into.Goals as goal

pub returns : goal.returns
returns c =
    let t = c.behind_end_into.new.place in
    let e = c.in_ok-ending.ending in
    let behind = c.behind_end_into.new.tokens in
    gives_as _ _ _ _ (sym (terminator_begun c.args.tokens.now c.ending_at.new.tokens behind e t c.in_ok-ending.ensures c.in_ok-behind_end_into.ensures))
    (given_behind (record { terminator = t; line = e.line }) c.attachments_at.new.tokens c.attachments_at.result (attachments_at behind) c.attachments_at.ensures)
