use Rattle.std.proofs.Common.{◌∙◌, ◌+◌, ◌++◌, ◌∷◌, [], List, ap, arith, drop}
use Rattle.clap.specs.Walk.{texts}
use Rattle.clap.specs.Words.{Text}
use Rattle.lto_words.proofs.Lists.{text_more, texts_done}
use Rattle.lto_words.proofs.given.file_names.Goals as goal

pub loop-name-preserved : goal.loop-name-preserved
loop-name-preserved c =
    let files = c.loop-name.files in
    let names = c.args.names.now in
    ap (λ (z : List Text). z ++ texts (drop (c.loop-name.name-index + 1) names)) (c.in_ok-push.ensures.ok ∙ ap (λ (t : Text). files ++ t ∷ []) c.in_ok-copied.ensures)
    ∙ text_more files names c.loop-name.name-index _ c.loop-name-test.true c.loop-name.invariant

pub returns : goal.returns
returns c = texts_done c.loop-name.files c.args.names.now c.loop-name.name-index (omega (arith, c.loop-name-test.false)) c.loop-name.invariant
