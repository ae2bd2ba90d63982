use Rattle.std.proofs.Common.{ap, subst, ◌∙◌, ◌+◌, ◌<◌, ◌≤◌, ◌≡◌, ℕ, List, length, get_or, arith}
use Rattle.ir_tree.specs.declared.block.Block.{Block}
use Rattle.ir_verify.specs.Orders.{Went}
use Rattle.ir_verify.proofs.Going.{went_nowhere, went_on}
use Rattle.ir_verify.proofs.Keys.{got_read}
use Rattle.ir_verify.proofs.Stood.{Onward, onward_start, onward_stands, onward_next, onward_all}
use Rattle.ir_verify.proofs.Walked.{end_below, went_all}
use Rattle.ir_verify.proofs.blocks.function_fault.Goals as goal

pub loop-place-init : goal.loop-place-init
loop-place-init c = record { onward = onward_start c.args.function.now; went = went_nowhere c.args.function.now c.args.lines.now c.args.number 0 c.args.found }

pub block_fault-requires-clause-stands : goal.block_fault-requires-clause-stands
block_fault-requires-clause-stands c = onward_stands c.args.function.now c.loop-place.place c.loop-place.at c.index-blocks-place.result (got_read c.args.function.now.blocks c.loop-place.place c.index-blocks-place.result (subst (λ (bs : List Block). c.loop-place.place < length bs) c.as_slice-blocks.ensures c.loop-place-test.true) (c.index-blocks-place.is ∙ ap (λ (bs : List Block). get_or bs c.loop-place.place c.index-blocks-place.result) c.as_slice-blocks.ensures)) c.loop-place.invariant.onward

pub behind-at-requires : goal.behind-at-requires
behind-at-requires c =
    let below = end_below c.args.function.now c.args.lines.now c.requires.formed c.requires.lined c.loop-place.place c.index-blocks-place.result c.loop-place.at
    (onward_stands c.args.function.now c.loop-place.place c.loop-place.at c.index-blocks-place.result (got_read c.args.function.now.blocks c.loop-place.place c.index-blocks-place.result (subst (λ (bs : List Block). c.loop-place.place < length bs) c.as_slice-blocks.ensures c.loop-place-test.true) (c.index-blocks-place.is ∙ ap (λ (bs : List Block). get_or bs c.loop-place.place c.index-blocks-place.result) c.as_slice-blocks.ensures)) c.loop-place.invariant.onward) in
    omega (arith, below, c.len.ensures, c.len-in-loop-place.ensures)

pub loop-place-preserved : goal.loop-place-preserved
loop-place-preserved c =
    let next : c.loop-place.at + length c.index-blocks-place.result.phis + length c.index-blocks-place.result.lines + 1 ≡ c.behind-at.result = omega (arith, c.behind-at.ensures, c.len.ensures, c.len-in-loop-place.ensures) in
    record {
      onward = subst (λ (n : ℕ). Onward c.args.function.now (c.loop-place.place + 1) n) next (onward_next c.args.function.now c.loop-place.place c.loop-place.at c.index-blocks-place.result (got_read c.args.function.now.blocks c.loop-place.place c.index-blocks-place.result (subst (λ (bs : List Block). c.loop-place.place < length bs) c.as_slice-blocks.ensures c.loop-place-test.true) (c.index-blocks-place.is ∙ ap (λ (bs : List Block). get_or bs c.loop-place.place c.index-blocks-place.result) c.as_slice-blocks.ensures)) c.loop-place.invariant.onward);
      went = went_on c.args.function.now c.args.lines.now c.args.number 0 c.loop-place.at c.behind-at.result c.args.found c.loop-place.best c.in_ok-best.best c.loop-place.invariant.went
          (subst (λ (n : ℕ). Went c.args.function.now c.args.lines.now c.args.number c.loop-place.at c.loop-place.best n c.in_ok-best.best) next c.in_ok-best.ensures);
    }

pub returns : goal.returns
returns c =
    let past : length c.args.function.now.blocks ≤ c.loop-place.place = omega (arith, c.loop-place-test.false, ap (λ (bs : List Block). length bs) c.as_slice-blocks.ensures) in
    went_all c.args.function.now c.args.lines.now c.args.number c.loop-place.at c.args.found c.loop-place.best c.requires.formed (onward_all c.args.function.now c.loop-place.place c.loop-place.at past c.loop-place.invariant.onward) c.loop-place.invariant.went

pub block_fault-requires-clause-walk : goal.block_fault-requires-clause-walk
block_fault-requires-clause-walk c = record { known = c.requires.known; formed = c.requires.formed; lined = c.requires.lined }
