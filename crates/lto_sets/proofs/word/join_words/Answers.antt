use Rattle.std.proofs.Common.{◌<◌, ◌≤◌, length, get_or, ap, arith, refl, sym}
use Rattle.std.specs.Prelude.{bit_or}
use Rattle.lto_sets.proofs.Turns.{IsDone-none, IsDone-more, IsDone-all}
use Rattle.lto_sets.proofs.word.join_words.Goals as goal

pub loop-i-init : goal.loop-i-init
loop-i-init c = IsDone-none (λ x y. bit_or x y) c.args.words.now c.args.others.now

pub loop-i-preserved : goal.loop-i-preserved
loop-i-preserved c =
    let inside : c.loop-i.i < length c.loop-i.words = omega arith in
    IsDone-more (λ x y. bit_or x y) c.args.words.now c.args.others.now c.loop-i.words c.loop-i.i _ inside
    (ap (λ w. bit_or w (get_or c.args.others.now c.loop-i.i 0)) (c.loop-i.invariant.rest c.loop-i.i (omega arith))) c.loop-i.invariant

pub returns : goal.returns
returns c =
    let end : length c.args.words.now ≤ c.loop-i.i = omega arith in
    IsDone-all (λ x y. bit_or x y) c.args.words.now c.args.others.now c.loop-i.words c.loop-i.i refl end (sym c.requires) c.loop-i.invariant
