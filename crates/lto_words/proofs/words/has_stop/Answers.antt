use Rattle.std.proofs.Common.{◌∙◌, rules, string_bytes, tests}
use Rattle.std.proofs.lemmas.Iterator.{YieldsList-from_slice}
use Rattle.std.proofs.lemmas.Iterator.Search.{any_from_yields_List}
use Rattle.clap.proofs.WalkLemmas.{list_any-map}
use Rattle.lto_words.specs.Commands.{is_stop}
use Rattle.lto_words.proofs.words.has_stop.Goals as goal

pub returns : goal.returns
returns c =
    any_from_yields_List (λ s. is_stop (string_bytes s)) _ _ c.any.result c.any.ensures.ran (YieldsList-from_slice c.args.words.now cc) (λ x b q k. search (rules, tests))
    ∙ list_any-map is_stop (λ s. string_bytes s) c.args.words.now
