use Rattle.std.proofs.Common.{List, nat_eq, ap, ◌∙◌, subst, sym}
use Rattle.std.specs.BTreeMap.{get}
use Rattle.std.specs.HashSet.{contains}
use Rattle.std.specs.Ordering.{nat_cmp}
use Rattle.ir_tree.specs.declared.block.Block.{Block}
use Rattle.ir_flow.specs.Dominating.{dominance}
use Rattle.fact_sources.specs.Above.{is_above}
use Rattle.fact_sources.specs.Apart.{is_listed}
use Rattle.fact_sources.specs.Places.{AreNumbered, ArePlaced}
use Rattle.ir_facts.specs.Clear.{all_inner, all_over}
use Rattle.ir_facts.specs.Askable.{BlocksHaveWidths}
use Rattle.ir_facts.proofs.scopes.scopes_of.Goals as goal

pub returns : goal.returns
returns c =
    let at = get nat_cmp c.in_ok-places.places in
    let blocks = c.as_slice-blocks.ensures in
    record {
      inner = λ x. c.in_ok-inner.ensures x ∙ ap (λ (bs : List Block). is_listed x (all_inner (contains nat_eq c.args.outside.now) bs)) blocks;
      over = λ x. c.in_ok-over.ensures x ∙ ap (λ (bs : List Block). is_listed x (all_over at (is_above (dominance c.in_ok-above.above)) 0 bs)) blocks;
      placed = subst (λ (bs : List Block). ArePlaced bs at) blocks c.in_ok-places.ensures;
      numbered = subst (λ (bs : List Block). AreNumbered bs (get nat_cmp c.in_ok-numbers.numbers)) blocks c.in_ok-numbers.ensures;
      above = c.in_ok-above.ensures;
    }

pub inner_of-requires : goal.inner_of-requires
inner_of-requires c = record { sized = subst BlocksHaveWidths (sym c.as_slice-blocks.ensures) c.requires.sized }

pub over_of-requires : goal.over_of-requires
over_of-requires c = record { sized = subst BlocksHaveWidths (sym c.as_slice-blocks.ensures) c.requires.sized }
