use Rattle.combined_index.proofs.Twice.{none_taken}
use Rattle.combined_index.proofs.naming.all_apart.Goals as goal

pub returns : goal.returns
returns c = (c.of.ensures, none_taken c.args.names c.as_slice.result.now c.in_ok-name.field-0 c.as_slice.ensures c.in_ok-name.ensures c.in_default.is)
