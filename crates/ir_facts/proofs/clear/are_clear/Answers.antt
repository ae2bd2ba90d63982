use Rattle.std.proofs.Common.{nat_eq, ◌∙◌, ap}
use Rattle.std.specs.HashSet.{contains}
use Rattle.ir_meaning.specs.Facts.{is_phi}
use Rattle.ir_facts.specs.Clear.{lines_clear}
use Rattle.ir_facts.specs.Scopes.{bars}
use Rattle.ir_facts.proofs.clear.are_clear.Goals as goal

pub returns : goal.returns
returns c =
    let bar = c.args.bar.now in
    c.in_ok-clear.ensures
    ∙ (λ i. lines_clear (bars bar.scopes.now bar.place) (contains nat_eq c.args.own.now) (λ x. (c.in_ok-front.ensures x ∙ ap (is_phi x) c.as_slice.ensures) i) (c.as_slice-2.ensures i))
