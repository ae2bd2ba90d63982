use Rattle.std.proofs.Common.{sym, ◌∙◌}
use Rattle.ir_lex.specs.Tok.{tok}
use Rattle.ir_parse_bodies.proofs.FirstWords.{begun}
use Rattle.ir_parse_bodies.proofs.opcodes.begun_means.Goals as goal

pub returns-in-Ok : goal.returns-in-Ok
returns-in-Ok c = begun (tok c.args.t.now) _ (sym c.in-Ok.is ∙ c.opcode_means.ensures)

pub returns-in-Err : goal.returns-in-Err
returns-in-Err c = begun (tok c.args.t.now) _ (sym c.in-Err.is ∙ c.opcode_means.ensures)
