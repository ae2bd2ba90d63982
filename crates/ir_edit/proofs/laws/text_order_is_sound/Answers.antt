use Rattle.ir_edit.proofs.RenamedSound.{text_order_sound}
use Rattle.ir_edit.proofs.laws.text_order_is_sound.Goals as goal

pub returns : goal.returns
returns c = text_order_sound
