use Rattle.std.proofs.Common.{◌≡◌, ◌∙◌, ◌<◌, ℕ, nat_eq, List, Some, length, get_or, drop, sym, ap, arith}
use Rattle.std.specs.Prelude.{◌&&◌}
use Rattle.std.specs.HashSet as hash
use Rattle.ir_tree.specs.Flow.{leading, leading_to}
use Rattle.ir_tree.specs.declared.block.Block.{Block}
use Rattle.block_trim.specs.Working.{has_one_edge, may_go}
use Rattle.block_trim.proofs.Loops.{element_at, may_step}
use Rattle.block_trim.proofs.candidates.candidates.Goals as goal

pub loop-place-preserved : goal.loop-place-preserved
loop-place-preserved c = λ n.
    may_step (has_one_edge c.args.f.now.blocks) c.args.f.now.blocks c.loop-place.place c.index-blocks-place.result n (hash.contains nat_eq c.loop-place.numbers n) (hash.contains nat_eq c.add_if.new.numbers n) c.is_candidate-wanted.result
    (may_go (has_one_edge c.args.f.now.blocks) (drop 1 c.args.f.now.blocks) n) below is (c.in_ok-add_if.ensures n) wanted (c.loop-place.invariant n)
  where
    below : c.loop-place.place < length c.args.f.now.blocks
    below = omega (arith, ap (λ (bs : List Block). length bs) c.as_slice-blocks.ensures)

    is : c.index-blocks-place.result ≡ get_or c.args.f.now.blocks c.loop-place.place c.index-blocks-place.result
    is = c.index-blocks-place.is ∙ ap (λ (bs : List Block). get_or bs c.loop-place.place c.index-blocks-place.result) c.as_slice-blocks.ensures

    edges : length c.of.result.now ≡ length (leading c.index-blocks-place.result.number 0 c.args.f.now.blocks)
    edges = ap (λ (l : List ℕ). length l)
        (c.of.ensures ∙ c.requires.graph.same c.loop-place.place below
        ∙ ap (leading_to c.args.f.now.blocks) (element_at c.args.f.now.blocks c.loop-place.place c.index-blocks-place.result below ∙ ap (λ (b : Block). Some b) (sym is)))

    wanted : c.is_candidate-wanted.result ≡ (nat_eq (length c.index-blocks-place.result.phis) 0 && has_one_edge c.args.f.now.blocks c.index-blocks-place.result.number)
    wanted = c.is_candidate-wanted.ensures ∙ ap (λ (k : ℕ). nat_eq (length c.index-blocks-place.result.phis) 0 && nat_eq k 1) edges
