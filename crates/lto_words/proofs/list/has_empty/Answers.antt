use Rattle.std.proofs.Common.{◌∙◌, rules, tests, Bor}
use Rattle.std.proofs.lemmas.Iterator.{YieldsList-from_slice}
use Rattle.std.proofs.lemmas.Iterator.Search.{any_from_yields_List}
use Rattle.clap.specs.Words.{Text}
use Rattle.clap.proofs.WalkLemmas.{list_any-map}
use Rattle.lto_words.specs.Values.{is_empty}
use Rattle.lto_words.proofs.list.has_empty.Goals as goal

pub returns : goal.returns
returns c =
    any_from_yields_List (λ (s : Bor Text). is_empty s.now) _ _ c.any.result c.any.ensures.ran (YieldsList-from_slice c.args.list.now cc) (λ x b q k. search (rules, tests))
    ∙ list_any-map is_empty (λ (s : Bor Text). s.now) c.args.list.now
