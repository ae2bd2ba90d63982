use Rattle.std.proofs.Common.{Bool, ◌&&◌, sym, ap, ◌∙◌}
use Rattle.std.specs.Str.{bytes_eq}
use Rattle.fold_rules.proofs.operands.is_same_symbol.Goals as goal

pub returns-then-is_same_home : goal.returns-then-is_same_home
returns-then-is_same_home c =
    let own = c.args.left.now.name in
    let other = c.args.right.now.name in
    c.equals.ensures ∙ ap (bytes_eq own) c.as_slice.ensures
    ∙ ap (λ (b : Bool). b && bytes_eq own other) (sym c.if-is_same_home.true ∙ c.is_same_home.ensures)
