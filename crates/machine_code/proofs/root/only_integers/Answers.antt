use Rattle.std.proofs.Common.{Bool, if◌then◌else◌, Some, None, sym, ap, ◌∙◌}
use Rattle.machine_code.proofs.root.only_integers.Goals as goal

pub returns-then-are_integers : goal.returns-then-are_integers
returns-then-are_integers c = sym (ap (λ (b : Bool). if b then Some c.args.types.now else None) (sym c.are_integers.ensures ∙ c.if-are_integers.true))

pub returns-else-are_integers : goal.returns-else-are_integers
returns-else-are_integers c = sym (ap (λ (b : Bool). if b then Some c.args.types.now else None) (sym c.are_integers.ensures ∙ c.if-are_integers.false))
