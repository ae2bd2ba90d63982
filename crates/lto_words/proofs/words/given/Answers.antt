use Rattle.std.proofs.Common.{◌∙◌, map, string_bytes, sym}
use Rattle.lto_words.proofs.Reading.{not_parsed, read}
use Rattle.lto_words.proofs.words.given.Goals as goal

pub returns-in_err-matches : goal.returns-in_err-matches
returns-in_err-matches c =
    not_parsed (map (λ s. string_bytes s) c.args.words.now) c.from_residual.result c.in_err-matches.field-0.0 c.from_residual.ensures.1 c.in_err-matches.ensures

pub returns : goal.returns
returns c =
    read (map (λ s. string_bytes s) c.args.words.now) _ c.entered.result (sym c.has_stop.ensures ∙ c.if-has_stop.false) c.in_ok-matches.ensures.0 c.in_ok-matches.ensures.1 c.entered.ensures
