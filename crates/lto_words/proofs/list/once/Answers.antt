use Rattle.std.proofs.Common.{◌≡◌, ◌∙◌, ◌+◌, ap, arith, drop, fold, subst, List, Bor}
use Rattle.std.specs.Prelude.{IfOk}
use Rattle.clap.specs.Walk.{texts}
use Rattle.clap.specs.Words.{Text}
use Rattle.lto_words.specs.Values.{with_name}
use Rattle.lto_words.proofs.Lists.{name_more, names_done}
use Rattle.lto_words.proofs.list.once.Goals as goal

pub loop-part-init : goal.loop-part-init
loop-part-init c = ap (λ (z : List (Bor Text)). fold with_name (texts z) (texts c.args.parts.now)) c.new-seen.ensures.empty

pub loop-part-preserved : goal.loop-part-preserved
loop-part-preserved c =
    ap (λ (z : List (Bor Text)). fold with_name (texts z) (texts (drop (c.loop-part.part-index + 1) c.args.parts.now))) c.in_ok-insert.ensures.keys
    ∙ name_more c.loop-part.seen.keys c.args.parts.now c.loop-part.part-index _ (omega arith) c.loop-part.invariant

pub returns : goal.returns
returns c =
    let all = names_done c.loop-part.seen.keys c.args.parts.now c.loop-part.part-index (omega arith) c.loop-part.invariant in
    subst (λ (names : List Text). IfOk c.rows_of.result (λ rows. rows ≡ names)) (ap texts c.as_slice.ensures.keys ∙ all) c.rows_of.ensures
