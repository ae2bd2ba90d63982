use Rattle.std.proofs.Common.{sym}
use Rattle.ir_lex.proofs.Free.{free_none}
use Rattle.ir_lex.proofs.rows.label_at.Goals as goal

pub returns-else-free-eq0-clause-exact : goal.returns-else-free-eq0-clause-exact
returns-else-free-eq0-clause-exact c = sym (free_none c.args.free c.args.bytes.now c.if-free-eq0.false c.requires)
