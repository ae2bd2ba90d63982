use Rattle.std.proofs.Common.{◌∙◌, sym}
use Rattle.lto_fault.proofs.line.push_place.Goals as goal

pub returns-clause-pushed : goal.returns-clause-pushed
returns-clause-pushed g c = rw (sym c.as_slice.ensures, sym (c.as_bytes-number.ensures.value ∙ c.format.ensures.text)) c.push_named.ensures.pushed
