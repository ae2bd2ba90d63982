use Rattle.std.proofs.Common.{◌∙◌, ◌+◌, ◌++◌, ◌∷◌, [], List, ap, arith, drop}
use Rattle.clap.specs.Walk.{texts}
use Rattle.clap.specs.Words.{Text}
use Rattle.lto_words.proofs.Lists.{text_more, texts_done}
use Rattle.lto_words.proofs.list.rows_of.Goals as goal

pub loop-name-preserved : goal.loop-name-preserved
loop-name-preserved c =
    let rows = c.loop-name.rows in
    let names = c.args.names.now in
    ap (λ (z : List Text). z ++ texts (drop (c.loop-name.name-index + 1) names)) (c.in_ok-push.ensures.ok ∙ ap (λ (t : Text). rows ++ t ∷ []) (c.in_ok-copied.ensures ∙ c.as_bytes.ensures.value))
    ∙ text_more rows names c.loop-name.name-index _ c.loop-name-test.true c.loop-name.invariant

pub returns : goal.returns
returns c = texts_done c.loop-name.rows c.args.names.now c.loop-name.name-index (omega (arith, c.loop-name-test.false)) c.loop-name.invariant
