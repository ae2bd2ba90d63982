use Rattle.ir_parse.proofs.ItemLists.{items_are}
use Rattle.ir_parse.proofs.spelled.items_are_written.Goals as goal

pub returns : goal.returns
returns c = items_are
