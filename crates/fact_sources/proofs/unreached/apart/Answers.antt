use Rattle.std.proofs.Common.{List, ◌++◌, length, sym, ◌∙◌, ap}
use Rattle.lto_sets.specs.Sets.{contains}
use Rattle.ir_tree.specs.declared.block.Block.{Block}
use Rattle.fact_sources.specs.Apart.{given_apart, is_listed}
use Rattle.fact_sources.proofs.unreached.apart.Goals as goal

pub push_apart-requires : goal.push_apart-requires
push_apart-requires c = c.requires.0 ∙ ap (λ (bs : List Block). length bs) (sym c.as_slice.ensures)

pub returns : goal.returns
returns c = record {
  reached = c.args.reached.now;
  reach = c.requires;
  is = λ x.
      c.in_ok-set.ensures x
      ∙ ap (is_listed x)
      (c.deref.ensures.value ∙ c.in_ok-push_apart.ensures
      ∙ (λ i. c.new-locals.ensures.items i ++ given_apart (contains c.args.reached.now) 0 (c.as_slice.ensures i)));
}
