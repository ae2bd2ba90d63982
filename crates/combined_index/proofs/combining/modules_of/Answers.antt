use Rattle.std.proofs.Common.{◌≡◌, ◌∙◌, ◌+◌, ◌++◌, ◌∷◌, [], ℕ, suc, List, ap, append_assoc, arith, drop, map, rules, subst, sym}
use Rattle.ir_summary.specs.declared.summary.Summary.{Summary}
use Rattle.combined_index.specs.Entries.{Entry, entries, entries_from}
use Rattle.combined_index.specs.Numbered.{NumbersEntries, NumbersModules, symbols}
use Rattle.combined_index.specs.declared.definition.Definition.{Definition}
use Rattle.combined_index.proofs.Numberings.{module_more}
use Rattle.combined_index.proofs.Wholes.{module_left}
use Rattle.combined_index.proofs.combining.modules_of.Goals as goal

pub loop-module-preserved : goal.loop-module-preserved
loop-module-preserved c =
    let table = c.args.resolution.now in
    let i = c.loop-module.module-index in
    let k = c.loop-module.number in
    let d = c.module-item.result in
    let one = entries table k d.items in
    let done = c.loop-module.invariant.0 in
    let old = symbols c.args.table.now.keys in
    let mid = symbols c.loop-module.table.keys in
    let new = symbols c.definitions_of.new.table.keys in
    let rest = map (λ m. m.items) (drop (i + 1) c.args.summaries.now) in
    let next : c.in-Some.next ≡ suc k = search rules in
    let numbered : NumbersEntries mid one new c.in_ok-definitions_of.field-0 =
    subst (λ (z : List Summary). NumbersEntries mid (entries table k z) new c.in_ok-definitions_of.field-0) c.deref.ensures.value c.in_ok-definitions_of.ensures in (
      done ++ one ∷ [],
      append_assoc done (one ∷ []) (entries_from table c.in-Some.next rest)
          ∙ ap (λ (n : ℕ). done ++ (one ∷ entries_from table n rest)) next
          ∙ ap (λ (z : List (List Entry)). done ++ z) (sym {A = List (List Entry)} (module_left (λ m. m.items) table k c.args.summaries.now i d (omega arith) c.module-item.is))
          ∙ c.loop-module.invariant.1,
      subst (λ (z : List (List Definition)). NumbersModules old (done ++ one ∷ []) new z) (sym c.in_ok-push.ensures.items)
          (module_more old mid new done c.loop-module.modules.items one c.in_ok-definitions_of.field-0 c.loop-module.invariant.2 numbered),
    )
