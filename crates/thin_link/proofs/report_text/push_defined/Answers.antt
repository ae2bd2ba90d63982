use Rattle.std.proofs.Common.{◌∙◌, ◌<◌, ◌++◌, ℕ, List, length, map, ap, subst, sym}
use Rattle.std.proofs.lemmas.List.Sorted.{All-permutation}
use Rattle.std.proofs.lemmas.Result.{IfOk-weaker}
use Rattle.ir_tree.specs.declared.operand.Symbol.{Symbol}
use Rattle.thin_link.specs.Lines.{definition_line, text_of}
use Rattle.thin_link.specs.Listed.{IsInOrder, Listed, all_listed}
use Rattle.thin_link.specs.Rows.{AreBelow, all_shown}
use Rattle.thin_link.specs.declared.entry.Entry.{Entry}
use Rattle.thin_link.proofs.report_text.push_defined.Goals as goal

pub push_definitions-requires : goal.push_definitions-requires
push_definitions-requires c =
    subst (λ (es : List Entry). AreBelow (length c.args.live.now) es) (sym c.deref.ensures.value)
    (subst (λ (n : ℕ). AreBelow n c.sort_entries.new.entries.items) (sym c.requires.live)
    (All-permutation (λ (e : Entry). e.definition.now.symbol < length c.args.index.now.symbols) c.in_ok-entries.entries.items c.sort_entries.new.entries.items c.sort_entries.ensures.same
    (subst (λ (n : ℕ). AreBelow n c.in_ok-entries.entries.items) (ap length c.symbols.ensures.symbols) c.in_ok-entries.ensures.below)))

pub returns : goal.returns
returns c =
    IfOk-weaker c.push_definitions.result _ _
    (λ _ is. record {
      order = all_shown c.sort_entries.new.entries.items;
      sorted = subst (λ (ls : List Listed). IsInOrder ls (all_shown c.sort_entries.new.entries.items))
          (c.in_ok-entries.ensures.entries ∙ ap (λ (ss : List Symbol). all_listed ss c.args.number c.args.definitions.now) c.symbols.ensures.symbols) c.in_ok-sort_entries.ensures.order;
      added = is ∙ ap (λ (es : List Entry). c.args.out.now.items ++ text_of (map (definition_line c.args.live.now) (all_shown es))) c.deref.ensures.value;
    })
    c.push_definitions.ensures
