use Rattle.std.proofs.Common.{◌∙◌, ◌++◌, ℕ, List, append_assoc, ap, codes}
use Rattle.std.proofs.lemmas.Result.{IfOk-weaker}
use Rattle.emit.specs.Chosen.{line_due}
use Rattle.emit.specs.Joins.{getchar_line, putchar_line}
use Rattle.emit.proofs.host.push_hosts.Goals as goal

pub returns : goal.returns
returns c =
    let first = line_due c.args.kept.now.keys c.args.units.now (codes "getchar") getchar_line in
    let second = line_due c.args.kept.now.keys c.args.units.now (codes "putchar") putchar_line in
    IfOk-weaker c.push_line-2.result _ _
    (λ _ is. is ∙ ap (λ (l : List ℕ). l ++ second) c.in_ok-push_line.ensures ∙ append_assoc c.args.out.now first second)
    c.push_line-2.ensures
