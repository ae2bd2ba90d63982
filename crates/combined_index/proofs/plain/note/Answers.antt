use Rattle.std.proofs.Common.{◌≡◌, ◌∙◌, ◌&&◌, ℕ, ap, ap₂, sym, rules, Bool, true, cond, is_none, List, Some}
use Rattle.std.specs.Str.{bytes_eq}
use Rattle.combined_index.specs.Tables.{Plain, looked_up}
use Rattle.combined_index.proofs.Plains.{looked_then}
use Rattle.combined_index.proofs.plain.note.Goals as goal

pub returns-in_ok-insert : goal.returns-in_ok-insert
returns-in_ok-insert c = λ name.
    let homeless : is_none c.args.symbol.now.home ≡ true = search rules in
    ap (λ (z : Plain). looked_up z name) c.in_ok-insert.ensures.entries
    ∙ looked_then c.args.plain.now.entries c.in_ok-name.name c.args.number name
    ∙ ap₂ (λ (b : Bool) (z : List ℕ). cond (b && bytes_eq name z) (Some c.args.number) (looked_up c.args.plain.now.entries name)) (sym homeless)
    (c.in_ok-name.ensures.items ∙ c.as_slice.ensures)
