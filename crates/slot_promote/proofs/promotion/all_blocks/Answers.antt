use Rattle.std.proofs.Common.{◌≡◌, ◌∙◌, ℕ, List, Option, ap, length, arith}
use Rattle.ir_flow.specs.Graph.{row}
use Rattle.slot_promote.specs.Promoted.{blocks_with, ends_with, first_phi}
use Rattle.slot_promote.specs.Tables.{ends_in, first_in, place_in}
use Rattle.slot_promote.proofs.Loops.{whole_blocks}
use Rattle.slot_promote.proofs.promotion.all_blocks.Goals as goal

pub block_ends-requires : goal.block_ends-requires
block_ends-requires c = ap length c.as_slice.ensures.value ∙ c.in_ok-firsts.ensures.length ∙ c.requires.edges

pub blocks-requires : goal.blocks-requires
blocks-requires c = record {
  firsts = ap length c.as_slice-2.ensures.value ∙ c.in_ok-firsts.ensures.length ∙ c.requires.edges;
  ends = ap length c.as_slice-3.ensures.value ∙ c.in_ok-ends.ensures.length;
  edges = c.requires.edges;
  inside = c.requires.inside;
}

pub returns : goal.returns
returns c =
    c.in_ok-rows.ensures
    ∙ (λ i. blocks_with (place_in c.args.slots.now) c.args.slots.now.list.items (ends_in (place_in c.args.slots.now) (c.as_slice-3.ensures.value i)) (row c.args.edges.now) (first_in (c.as_slice-2.ensures.value i)) 0 c.args.old.now)
    ∙ whole_blocks (place_in c.args.slots.now) c.args.slots.now.list.items (row c.args.edges.now) (first_phi (row c.args.edges.now) (length c.args.slots.now.list.items) c.args.next) c.in_ok-ends.ends.items c.in_ok-firsts.firsts.items c.args.old.now
    (λ p. c.in_ok-firsts.ensures.firsts p ∙ ap (λ (k : ℕ). first_phi (row c.args.edges.now) k c.args.next p) count)
    (λ p. c.in_ok-ends.ensures.ends p ∙ ap (λ (fs : List (Option ℕ)). ends_with (place_in c.args.slots.now) (first_in fs) c.args.old.now p) c.as_slice.ensures.value)
  where
    count : c.len.result ≡ length c.args.slots.now.list.items
    count = omega (arith, c.len.ensures)
