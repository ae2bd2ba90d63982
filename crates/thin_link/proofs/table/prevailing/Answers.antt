use Rattle.std.proofs.Common.{◌≡◌, ◌∙◌, ◌+◌, ◌<◌, ◌++◌, [], List, Option, length, take, take_all, get_or, ap, ap₂, arith, subst, sym}
use Rattle.std.proofs.lemmas.List.{get_or_read, with_items_is}
use Rattle.ir_tree.specs.declared.operand.Symbol.{Symbol}
use Rattle.combined_index.specs.declared.definition.Definition.{Definition}
use Rattle.thin_link.specs.Listed.{all_listed, listed_from}
use Rattle.thin_link.specs.Rows.{IsTable}
use Rattle.thin_link.specs.declared.entry.Entry.{Entry}
use Rattle.thin_link.proofs.Listings.{one_module}
use Rattle.thin_link.proofs.table.prevailing.Goals as goal

pub loop-number-preserved : goal.loop-number-preserved
loop-number-preserved c =
    let old = ap (λ (t : List (Option Entry)). length t) c.deref_mut.ensures.value in
    let count : length c.put_all.new.table ≡ length c.args.index.now.symbols = omega (arith, c.put_all.ensures.len, old, c.loop-number.invariant.len) in
    let whole = with_items_is c.loop-number.table c.put_all.new.table (omega (arith, c.put_all.ensures.len, old, c.loop-number.table.ok.0)) in
    let modules = ap (λ (ms : List (List Definition)). length ms) c.modules-definitions-items.ensures.modules in
    let inside : c.loop-number.number < length c.args.index.now.modules = omega (arith, modules, c.loop-number-test.true) in
    let here : c.as_slice.result.now ≡ get_or c.args.index.now.modules c.loop-number.number [] =
    c.as_slice.ensures
    ∙ get_or_read c.modules-definitions-items.result.now c.loop-number.number c.definitions-item.result c.loop-number-test.true c.definitions-item.is []
    ∙ ap (λ (ms : List (List Definition)). get_or ms c.loop-number.number []) c.modules-definitions-items.ensures.modules in
    record {
      len = ap (λ (t : List (Option Entry)). length t) whole ∙ count;
      table =
          subst (λ (t : List (Option Entry)). IsTable t (listed_from c.args.index.now.symbols 0 (take (c.loop-number.number + 1) c.args.index.now.modules))) (sym whole)
          (subst (IsTable c.put_all.new.table)
          (ap₂ (λ (ss : List Symbol) (ds : List Definition). listed_from c.args.index.now.symbols 0 (take c.loop-number.number c.args.index.now.modules) ++ all_listed ss c.loop-number.number ds)
          c.symbols-symbols.ensures.symbols here
          ∙ sym (one_module c.args.index.now.symbols c.loop-number.number c.args.index.now.modules inside))
          (c.put_all.ensures.table (listed_from c.args.index.now.symbols 0 (take c.loop-number.number c.args.index.now.modules))
          (subst (λ (t : List (Option Entry)). IsTable t (listed_from c.args.index.now.symbols 0 (take c.loop-number.number c.args.index.now.modules))) (sym c.deref_mut.ensures.value)
          c.loop-number.invariant.table)));
    }

pub put_all-requires-clause-size : goal.put_all-requires-clause-size
put_all-requires-clause-size c = ap (λ (t : List (Option Entry)). length t) c.deref_mut.ensures.value ∙ c.loop-number.invariant.len ∙ ap (λ (ss : List Symbol). length ss) (sym c.symbols-symbols.ensures.symbols)

pub returns : goal.returns
returns c =
    let whole : length c.modules-definitions-items.result.now ≡ length c.args.index.now.modules = ap (λ (ms : List (List Definition)). length ms) c.modules-definitions-items.ensures.modules in
    subst (λ (ms : List (List Definition)). IsTable c.loop-number.table.items (listed_from c.args.index.now.symbols 0 ms)) (take_all c.loop-number.number c.args.index.now.modules (omega (arith, whole, c.loop-number-test.false)))
    c.loop-number.invariant.table
