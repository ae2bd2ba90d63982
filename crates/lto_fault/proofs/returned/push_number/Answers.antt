use Rattle.std.proofs.Common.{◌∙◌, sym}
use Rattle.lto_fault.proofs.returned.push_number.Goals as goal

pub returns-clause-pushed : goal.returns-clause-pushed
returns-clause-pushed g c = rw (sym c.sign_words.ensures, sym (c.as_bytes-number.ensures.value ∙ c.format.ensures.text)) c.push_three.ensures.pushed
