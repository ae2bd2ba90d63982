use Rattle.std.proofs.Common.{◌∙◌, List, ap, nat_eq}
use Rattle.std.specs.HashSet as hash
use Rattle.lto_sets.specs.Sets.{contains}
use Rattle.ir_tree.specs.declared.block.Block.{Block}
use Rattle.block_trim.specs.Places.{stands}
use Rattle.block_trim.proofs.Standing.{reached_by_places}
use Rattle.block_trim.proofs.reached.reached_numbers.Goals as goal

pub returns : goal.returns
returns c =
    reached_by_places c.args.f.now (contains c.args.places.now) (hash.contains nat_eq c.in_ok-numbers.numbers) c.requires.1
    (λ n. c.in_ok-numbers.ensures n ∙ ap (λ (bs : List Block). stands (contains c.args.places.now) 0 bs n) c.as_slice.ensures)
