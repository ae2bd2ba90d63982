use Rattle.std.proofs.Common.{◌∙◌, string_bytes, sym}
use Rattle.lto_words.proofs.Reading.{no_words, some_words}
use Rattle.lto_words.proofs.words.command.Goals as goal

pub returns-then-is_empty : goal.returns-then-is_empty
returns-then-is_empty c = no_words (λ s. string_bytes s) c.args.words.now _ (sym c.is_empty.ensures ∙ c.if-is_empty.true) c.in_ok-without_words.ensures

pub returns : goal.returns
returns c = some_words (λ s. string_bytes s) c.args.words.now c.given.result (sym c.is_empty.ensures ∙ c.if-is_empty.false) c.given.ensures
