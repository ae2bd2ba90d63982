use Rattle.std.proofs.Common.{◌∙◌, ◌<◌, ◌&&◌, ◌||◌, Bool, nat_eq, length, get_or, ap, arith}
use Rattle.std.specs.HashSet as hash
use Rattle.lto_sets.specs.Sets.{contains}
use Rattle.block_trim.specs.Places.{stands}
use Rattle.block_trim.proofs.Standing.{one_place}
use Rattle.block_trim.proofs.reached.numbers_at.Goals as goal

pub loop-place-preserved : goal.loop-place-preserved
loop-place-preserved c = λ n.
    let lt : c.loop-place.place < length c.args.blocks.now = omega (arith, c.loop-place-test.true, c.size-place-end.ensures, c.requires) in
    one_place (contains c.args.places.now) c.args.blocks.now c.loop-place.place n c.index-blocks-place.result lt (hash.contains nat_eq c.loop-place.numbers n) (hash.contains nat_eq c.add_if.new.numbers n)
    (stands (contains c.args.places.now) 0 c.args.blocks.now n)
    (c.in_ok-add_if.ensures n ∙ ap (λ (b : Bool). hash.contains nat_eq c.loop-place.numbers n || (nat_eq (get_or c.args.blocks.now c.loop-place.place c.index-blocks-place.result).number n && b)) c.has.ensures) (c.loop-place.invariant n)
