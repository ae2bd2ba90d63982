use Rattle.std.proofs.Common.{◌≡◌, ◌∙◌, ◌<◌, ◌^◌, ap, arith, length, map, Err, IfOk, Ok, Result}
use Rattle.combined_index.specs.Entries.{combined}
use Rattle.combined_index.specs.Indexed.{IsCombined}
use Rattle.combined_index.specs.Numbered.{NumbersModules, symbols}
use Rattle.combined_index.proofs.Wholes.{is_combined, is_index}
use Rattle.combined_index.proofs.combining.index_of.Goals as goal

pub of-requires : goal.of-requires
of-requires c =
    let keys = c.modules_of.new.table.keys in
    let few : length keys < 2 ^ 32 = omega (arith, c.len.ensures.len, c.if-len-gt4294967295.false) in
    is_index c.args.table.now.keys keys _ c.in_ok-modules.modules.items c.in_ok-symbols.symbols.items c.as_slice.ensures.unique few c.in_ok-modules.ensures
    (c.in_ok-symbols.ensures ∙ ap symbols c.as_slice.ensures.keys)

mapped : {X E : Type 0} (r : Result X E) (P Q : X → Type 0) → ((x : X) → P x → Q x) → IfOk r P → IfOk r Q
mapped (Ok x) P Q h p = h x p
mapped (Err e) P Q h p = p

pub returns : goal.returns
returns c =
    let keys = c.modules_of.new.table.keys in
    let few : length keys < 2 ^ 32 = omega (arith, c.len.ensures.len, c.if-len-gt4294967295.false) in
    let table = c.args.resolution.now in
    let all = map (λ m. m.items) c.args.summaries.now in
    let start = c.args.table.now.keys in
    let modules = c.in_ok-modules.modules.items in
    let numbered : NumbersModules (symbols start) (combined table all) (symbols keys) modules = c.in_ok-modules.ensures in
    let named : c.in_ok-symbols.symbols.items ≡ symbols keys = c.in_ok-symbols.ensures ∙ ap symbols c.as_slice.ensures.keys in
    mapped c.of.result _ (IsCombined table all)
    (λ index same.
    is_combined table all start keys modules c.in_ok-symbols.symbols.items index c.requires numbered named
    (is_index start keys (combined table all) modules c.in_ok-symbols.symbols.items c.as_slice.ensures.unique few numbered named) same)
    c.of.ensures
