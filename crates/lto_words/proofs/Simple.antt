-- The table's command is simple, and no option has a rule on another.
use Rattle.std.proofs.Common.{◌≡◌, refl, true}
use Rattle.clap.specs.Words.{is_simple, is_simple_and_free}
use Rattle.clap.proofs.OnLiterals.{clap_on_literals}
use Rattle.lto_words.specs.Table.{thinlto}

pub simple : is_simple thinlto ≡ true
unfolding clap_on_literals thinlto
simple = refl

pub simple_and_free : is_simple_and_free thinlto ≡ true
unfolding clap_on_literals thinlto
simple_and_free = refl
