use Rattle.std.proofs.Common.{◌≡◌, ◌∙◌, ap, false, length, rules, sym, List}
use Rattle.std.proofs.lemmas.List.{length-replicate}
use Rattle.combined_index.specs.declared.definition.Definition.{Definition}
use Rattle.combined_index.specs.Brought.{rows}
use Rattle.combined_index.proofs.Filled.{length-rows, lists_promoted}
use Rattle.combined_index.proofs.promotion.promoted.Goals as goal

pub returns : goal.returns
returns c = record {
  modules = length-rows c.in_ok-lists.lists.items ∙ c.in_ok-lists.ensures.len ∙ ap (λ (z : List (List Definition)). length z) c.modules.ensures.modules;
  promoted = λ home lt.
      lists_promoted c.args.index.now (rows c.args.imports.now) c.symbols-symbols.result.now c.in_ok-marks.marks c.mark_all.new.marks _ home _ c.symbols-symbols.ensures.symbols c.in_ok-marks.ensures c.in_ok-mark_all.ensures.marked
      (c.in_ok-lists.ensures.listed home (rw c.modules.ensures.modules lt));
}

pub mark_all-requires : goal.mark_all-requires
mark_all-requires c = sym (ap length c.in_ok-marks.ensures ∙ length-replicate _ false ∙ search rules)

pub listed-requires : goal.listed-requires
listed-requires c =
    let marked : length c.in_ok-marks.marks ≡ length c.args.index.now.symbols = ap length c.in_ok-marks.ensures ∙ length-replicate _ false ∙ search rules in
    ap length c.symbols-symbols.ensures.symbols ∙ sym marked ∙ sym c.mark_all.ensures.len
