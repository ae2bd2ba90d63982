use Rattle.std.proofs.Common.{◌∙◌, ◌++◌, ◌∷◌, [], ◌&&◌, ap, sym, cond, List, ℕ, arith}
use Rattle.combined_index.specs.Entries.{is_module}
use Rattle.combined_index.specs.Indexed.{symbol_at}
use Rattle.lto_sets.specs.Sets.{contains}
use Rattle.combined_index.proofs.Filled.{filter_next}
use Rattle.combined_index.proofs.lists.listed.Goals as goal

pub loop-number-preserved : goal.loop-number-preserved
loop-number-preserved c = record {
  len = c.in_ok-put.ensures.len ∙ c.loop-number.invariant.len;
  rows = λ i lt.
      c.in_ok-put.ensures.put i (omega (arith, lt, c.loop-number.invariant.len))
      ∙ ap (λ (z : List ℕ). z ++ cond (is_module i c.marked_home-home.result) (c.loop-number.number ∷ []) []) (c.loop-number.invariant.rows i lt)
      ∙ sym (filter_next (λ n. contains c.args.marks.now n && is_module i (symbol_at c.args.symbols.now n).home) c.loop-number.number (is_module i c.marked_home-home.result) (c.marked_home-home.ensures i));
}
