use Rattle.ir_parse.proofs.Formedness.{read_parsed}
use Rattle.ir_parse.proofs.laws.read_is_parsed.Goals as goal

pub returns : goal.returns
returns c = read_parsed c.functions_are_formed.ensures c.variables_are_formed.ensures c.lines_fit.ensures c.types_are_written.ensures c.tokens_are_sized.ensures c.items_are_written.ensures
