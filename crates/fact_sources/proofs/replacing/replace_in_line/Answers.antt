use Rattle.std.proofs.Common.{sym}
use Rattle.fact_sources.proofs.Staying.{local_stays}
use Rattle.fact_sources.proofs.replacing.replace_in_line.Goals as goal

pub returns : goal.returns
returns c = λ i. record { local = sym (local_stays c.args.line.now.local) i; instr = c.in_ok-replace_in_instr.ensures i }
