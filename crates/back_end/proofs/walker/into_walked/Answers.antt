use Rattle.std.proofs.Common.{◌∙◌, List, ap, subst}
use Rattle.std.specs.Prelude.{All}
use Rattle.ir_tree.specs.declared.block.Block.{Block}
use Rattle.inline_site.specs.Sites.{counted_in}
use Rattle.back_end.specs.Walking.{LinesTakeNone, bodies_in}
use Rattle.back_end.proofs.NoneTaken.{walk_of_none}
use Rattle.back_end.proofs.walker.into_walked.Goals as goal

pub returns-then-not-taken-clause-walk : goal.returns-then-not-taken-clause-walk
returns-then-not-taken-clause-walk c =
    walk_of_none (bodies_in c.args.bodies.now) c.args.f c.in_ok-count.count (c.in_ok-count.ensures ∙ ap counted_in c.as_slice.ensures)
    (subst (λ (bs : List Block). All (LinesTakeNone (bodies_in c.args.bodies.now) c.args.f.symbol c.in_ok-count.count) bs) c.as_slice-2.ensures (c.any_taken-taken.ensures c.if-not-taken.true))
