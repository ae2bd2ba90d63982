use Rattle.std.proofs.lemmas.Result.{IfOk-weaker}
use Rattle.emit.specs.Graphs.{is_key}
use Rattle.emit.proofs.dropping.marks_of.Goals as goal

pub returns : goal.returns
returns c =
    IfOk-weaker c.marks_by.result _ _
    (λ marks are. record { keeps = is_key c.in_ok-kept.kept.keys; reached = c.in_ok-kept.ensures; are = are })
    c.marks_by.ensures
