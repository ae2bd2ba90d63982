use Rattle.std.proofs.Common.{arith}
use Rattle.lto_words.proofs.Cutting.{line_alone, line_ends}
use Rattle.lto_words.proofs.listing.first_line.Goals as goal

pub returns-in-Some-clause-lines : goal.returns-in-Some-clause-lines
returns-in-Some-clause-lines c = line_ends c.args.text.now c.in-Some.at c.in-Some.ensures.0 c.in-Some.ensures.1

pub returns-in-None-clause-lines : goal.returns-in-None-clause-lines
returns-in-None-clause-lines c = line_alone c.args.text.now c.requires (λ j within e. c.in-None.ensures j (omega arith) within e)
