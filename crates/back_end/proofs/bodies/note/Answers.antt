use Rattle.std.proofs.Common.{◌∙◌, ap, Some, cond, ℕ, List, rules}
use Rattle.std.specs.Str.{bytes_eq}
use Rattle.back_end.specs.Walking.{named}
use Rattle.back_end.proofs.Table.{noted_then, put_in}
use Rattle.back_end.proofs.bodies.note.Goals as goal

pub returns-in_ok-insert : goal.returns-in_ok-insert
returns-in_ok-insert c = λ name.
    put_in c.args.table.now c.insert.new.self c.as_slice.result.now _ c.in_ok-insert.ensures.updates name
    ∙ ap (λ (bs : List ℕ). cond (bytes_eq bs name) (Some c.in-Function.f) (named c.args.table.now name)) c.as_slice.ensures
    ∙ noted_then c.args.limit c.args.global.now c.in-Function.f c.in-Function.is (search rules) name (named c.args.table.now name)
