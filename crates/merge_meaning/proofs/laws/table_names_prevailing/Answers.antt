use Rattle.merge_meaning.proofs.Table.{table_names}
use Rattle.merge_meaning.proofs.laws.table_names_prevailing.Goals as goal

pub returns : goal.returns
returns c = table_names
