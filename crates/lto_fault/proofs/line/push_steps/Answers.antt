use Rattle.std.proofs.Common.{◌∙◌, sym}
use Rattle.lto_fault.proofs.line.push_steps.Goals as goal

pub returns-clause-pushed : goal.returns-clause-pushed
returns-clause-pushed g c = rw (sym (c.as_bytes-number.ensures.value ∙ c.format.ensures.text)) c.push_three.ensures.pushed
