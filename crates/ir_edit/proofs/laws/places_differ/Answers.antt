use Rattle.ir_edit.proofs.Apart.{is_one_to_one}
use Rattle.ir_edit.proofs.laws.places_differ.Goals as goal

pub returns : goal.returns
returns c = is_one_to_one
