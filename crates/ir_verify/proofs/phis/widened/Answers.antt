use Rattle.std.proofs.Common.{◌∙◌, ◌++◌, ◌∷◌, [], ℕ, List, get_or, ap, sym, arith}
use Rattle.std.proofs.lemmas.List.{take_more, take_all}
use Rattle.ir_verify.proofs.phis.widened.Goals as goal

pub loop-place-preserved : goal.loop-place-preserved
loop-place-preserved c =
    c.in_ok-push.ensures.items
    ∙ ap (λ (ns : List ℕ). ns ++ get_or c.args.row.now c.loop-place.place-index 0 ∷ []) c.loop-place.invariant
    ∙ sym (take_more c.args.row.now c.loop-place.place-index 0 c.loop-place-test.true)

pub returns : goal.returns
returns c = c.loop-place.invariant ∙ take_all c.loop-place.place-index c.args.row.now (omega arith)
