use Rattle.std.proofs.Common.{◌∙◌}
use Rattle.clap.specs.Words.{found_of}
use Rattle.clap.proofs.WalkLemmas.{raw_values-rows}
use Rattle.lto_words.specs.Given.{rows_in}
use Rattle.lto_words.proofs.given.all_given.Goals as goal

pub returns : goal.returns
unfolding rows_in
returns c = c.get_raw.ensures ∙ raw_values-rows (found_of c.args.matches.now) c.args.name.now
