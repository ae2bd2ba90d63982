use Rattle.std.proofs.Common.{sym}
use Rattle.std.proofs.lemmas.Bool.{false≢true}
use Rattle.ir_facts.proofs.rounds.renewed.Goals as goal

pub returns-in-Ok-Some-clause-same : goal.returns-in-Ok-Some-clause-same
returns-in-Ok-Some-clause-same g c = λ e. absurd (false≢true (sym e))

pub returns-in-Ok-None-clause-new : goal.returns-in-Ok-None-clause-new
returns-in-Ok-None-clause-new g c = λ e. absurd (false≢true e)
