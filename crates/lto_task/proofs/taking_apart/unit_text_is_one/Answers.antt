use Rattle.lto_task.proofs.Apart.{text_is_one}
use Rattle.lto_task.proofs.taking_apart.unit_text_is_one.Goals as goal

pub returns : goal.returns
returns c = text_is_one
