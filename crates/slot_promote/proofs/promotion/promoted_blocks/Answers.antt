use Rattle.std.proofs.Common.{◌∙◌, sym, ap, length}
use Rattle.ir_flow.proofs.Reaching.{row-inside}
use Rattle.slot_promote.specs.Tables.{place_in}
use Rattle.slot_promote.proofs.Loops.{whole_function}
use Rattle.slot_promote.proofs.promotion.promoted_blocks.Goals as goal

pub all_blocks-requires : goal.all_blocks-requires
all_blocks-requires c = record {
  edges = c.requires.graph.long ∙ ap length (sym c.as_slice.ensures);
  inside = row-inside c.args.f.now c.args.edges.now c.requires.graph;
}

pub returns : goal.returns
returns c =
    c.in_ok-blocks.ensures
    ∙ whole_function c.args.f.now (place_in c.args.slots.now) c.args.slots.now.list.items c.args.edges.now c.next_number-next.result c.as_slice.result.now
    c.requires.places c.requires.list c.requires.graph c.next_number-next.ensures c.as_slice.ensures
