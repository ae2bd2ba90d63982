use Rattle.std.proofs.Common.{◌∙◌, ap, sym, map, string_bytes}
use Rattle.clap.specs.Words.{App, fault_of, is_simple, is_simple_and_free, subcommand_of}
use Rattle.lto_words.specs.Commands.{Takes, entered}
use Rattle.lto_words.proofs.Reading.{no_fault}
use Rattle.lto_words.proofs.Simple.{simple, simple_and_free}
use Rattle.lto_words.proofs.words.parsed.Goals as goal

pub returns-in-Ok-try_get_matches_from : goal.returns-in-Ok-try_get_matches_from
unfolding Takes entered
returns-in-Ok-try_get_matches_from c =
    let words = map (λ s. string_bytes s) c.args.words.now in
    let table = c.in-Ok.ensures.app in
    let none = c.in-Ok-try_get_matches_from.ensures.kinds (ap is_simple_and_free table ∙ simple_and_free) in
    let found = c.in-Ok-try_get_matches_from.ensures.matches (ap is_simple table ∙ simple) in (
      ap (λ (a : App). fault_of a words) (sym table) ∙ none,
      found.1 ∙ ap (λ (a : App). subcommand_of a words) table,
    )

pub returns : goal.returns
unfolding Takes
returns c =
    let words = map (λ s. string_bytes s) c.args.words.now in
    let table = c.in-Ok.ensures.app in
    let kinds = c.in-Err.ensures.kinds (ap is_simple_and_free table ∙ simple_and_free) in
    λ takes.
    no_fault _ c.in-Err.error (ap (λ (a : App). fault_of a words) table ∙ takes) kinds (λ memory. c.in_default-kind.not-OutOfMemory (c.kind.ensures ∙ memory))
