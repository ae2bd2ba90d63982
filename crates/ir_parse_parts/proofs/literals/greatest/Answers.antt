use Rattle.ir_parse_parts.proofs.Widths.{all_ones}
use Rattle.ir_parse_parts.proofs.literals.greatest.Goals as goal

pub returns : goal.returns
returns c = all_ones c.args.width c.requires.narrow
