use Rattle.inline_site.proofs.InlinedSound.{is_sound}
use Rattle.inline_site.proofs.laws.inlined_is_sound.Goals as goal

pub returns : goal.returns
returns c = is_sound
