use Rattle.std.proofs.Common.{◌∙◌, ◌++◌, List, map, ap, subst}
use Rattle.std.proofs.lemmas.Result.{IfOk-weaker}
use Rattle.thin_link.specs.Lines.{import_line, text_of}
use Rattle.thin_link.specs.Listed.{IsInOrder, Listed}
use Rattle.thin_link.specs.Rows.{all_shown}
use Rattle.thin_link.specs.declared.entry.Entry.{Entry}
use Rattle.thin_link.proofs.report_text.push_imported.Goals as goal

pub returns : goal.returns
returns c =
    IfOk-weaker c.push_imports.result _ _
    (λ _ is. λ before held. record {
      order = all_shown c.sort_entries.new.entries.items;
      sorted =
          subst (λ (ls : List Listed). IsInOrder ls (all_shown c.sort_entries.new.entries.items)) (c.in_ok-entries.ensures before held) c.in_ok-sort_entries.ensures.order;
      added = is ∙ ap (λ (es : List Entry). c.args.out.now.items ++ text_of (map import_line (all_shown es))) c.deref.ensures.value;
    })
    c.push_imports.ensures
