use Rattle.emit.proofs.Wholes.{is_sound, is_whole}
use Rattle.emit.proofs.laws.emission_is_whole.Goals as goal

pub returns : goal.returns
returns c = record { whole = is_whole; sound = is_sound }
