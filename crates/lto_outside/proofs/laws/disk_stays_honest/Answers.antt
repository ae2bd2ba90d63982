use Rattle.lto_outside.proofs.Honesty.{staying, saving, failing}
use Rattle.lto_outside.proofs.laws.disk_stays_honest.Goals as goal

pub returns-clause-stay : goal.returns-clause-stay
returns-clause-stay g c = staying g.M.Meaning.fits

pub returns-clause-saved : goal.returns-clause-saved
returns-clause-saved g c = saving g.M.Meaning.fits

pub returns-clause-part : goal.returns-clause-part
returns-clause-part g c = failing g.M.Meaning.fits
