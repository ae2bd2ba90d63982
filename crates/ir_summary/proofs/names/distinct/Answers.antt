use Rattle.std.proofs.Common.{◌∙◌, ◌+◌, ◌++◌, ap, arith, drop, List, Bor, ℕ}
use Rattle.ir_summary.specs.Once.{texts}
use Rattle.ir_tree.specs.Once.{once}
use Rattle.ir_summary.proofs.Onces.{outside, all_outside, name_more, names_done}
use Rattle.ir_summary.proofs.names.distinct.Goals as goal

pub loop-name-init : goal.loop-name-init
loop-name-init c = ap (λ (z : List (Bor (List ℕ))). texts z ++ outside (texts z) (once (texts c.args.names.now))) c.new-seen.ensures.empty ∙ all_outside (once (texts c.args.names.now))

pub loop-name-preserved : goal.loop-name-preserved
loop-name-preserved c =
    ap (λ (z : List (Bor (List ℕ))). texts z ++ outside (texts z) (once (texts (drop (c.loop-name.name-index + 1) c.args.names.now)))) c.in_ok-insert.ensures.keys
    ∙ name_more c.loop-name.seen.keys c.args.names.now c.loop-name.name-index _ (omega arith) c.loop-name.invariant

pub returns : goal.returns
returns c = names_done c.loop-name.seen.keys c.args.names.now c.loop-name.name-index (omega arith) c.loop-name.invariant
