use Rattle.std.proofs.Common.{◌≡◌, ◌∙◌, ◌<◌, ◌++◌, ◌∷◌, [], ℕ, List, Option, Vec, Global, length, get_or, ap, arith, subst, sym}
use Rattle.std.proofs.lemmas.List.{get_or-map, get_or_read}
use Rattle.combined_index.specs.declared.definition.Definition.{Definition}
use Rattle.thin_link.specs.Lines.{definition_line, import_line, module_line}
use Rattle.thin_link.specs.Listed.{all_first, all_listed, listed_from}
use Rattle.thin_link.specs.Pushing.{AddsLines}
use Rattle.thin_link.specs.Rows.{IsTable, rows}
use Rattle.thin_link.specs.declared.entry.Entry.{Entry}
use Rattle.thin_link.proofs.Parts.{written-more}
use Rattle.thin_link.proofs.report_text.report.Goals as goal

pub loop-number-preserved : goal.loop-number-preserved
loop-number-preserved c =
    let modules = ap (λ (ms : List (List Definition)). length ms) c.modules-definitions-items.ensures.modules in
    let in_files : c.loop-number.number < length c.args.files.now = omega (arith, modules, c.loop-number-test.true, c.requires.files) in
    let in_imports : c.loop-number.number < length c.args.imports.now = omega (arith, modules, c.loop-number-test.true, c.requires.imports) in
    let file : c.as_slice.result.now ≡ get_or c.args.files.now c.loop-number.number [] =
    c.as_slice.ensures ∙ get_or_read c.args.files.now c.loop-number.number c.index-files-number.result in_files c.index-files-number.is [] in
    let definitions : c.as_slice-in-loop-number.result.now ≡ get_or c.args.index.now.modules c.loop-number.number [] =
    c.as_slice-in-loop-number.ensures
    ∙ get_or_read c.modules-definitions-items.result.now c.loop-number.number c.definitions-item.result c.loop-number-test.true c.definitions-item.is []
    ∙ ap (λ (ms : List (List Definition)). get_or ms c.loop-number.number []) c.modules-definitions-items.ensures.modules in
    let imports : c.as_slice-in-loop-number-2.result.now ≡ get_or (rows c.args.imports.now) c.loop-number.number [] =
    c.as_slice-in-loop-number-2.ensures.value ∙ ap (λ (v : Vec ℕ Global). v.items) c.index-imports-number.is
    ∙ sym (get_or-map (λ (v : Vec ℕ Global). v.items) c.args.imports.now c.loop-number.number c.index-imports-number.result [] in_imports) in
    written-more c.args.index.now c.args.live.now (rows c.args.imports.now) c.args.files.now c.loop-number.number c.loop-number.out.items c.push_module.new.out.items
    c.push_defined.new.out.items c.push_imported.new.out.items c.loop-number.invariant
    (c.in_ok-push_module.ensures ∙ ap (λ (name : List ℕ). c.loop-number.out.items ++ (module_line c.loop-number.number name ++ 10 ∷ [])) file)
    (subst (λ (ds : List Definition). AddsLines (definition_line c.args.live.now) (all_listed c.args.index.now.symbols c.loop-number.number ds) c.push_module.new.out.items c.push_defined.new.out.items)
    definitions c.in_ok-push_defined.ensures)
    (subst
    (λ (ns : List ℕ).
    AddsLines import_line (all_first (listed_from c.args.index.now.symbols 0 c.args.index.now.modules) ns) c.push_defined.new.out.items c.push_imported.new.out.items)
    imports
    (c.in_ok-push_imported.ensures (listed_from c.args.index.now.symbols 0 c.args.index.now.modules)
    (subst (λ (t : List (Option Entry)). IsTable t (listed_from c.args.index.now.symbols 0 c.args.index.now.modules)) (sym c.deref.ensures.value) c.in_ok-table.ensures)))

pub bounds-imports-number : goal.bounds-imports-number
bounds-imports-number c =
    let modules = ap (λ (ms : List (List Definition)). length ms) c.modules-definitions-items.ensures.modules in
    omega (arith, modules, c.loop-number-test.true, c.requires.imports)
