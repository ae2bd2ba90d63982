use Rattle.std.proofs.Common.{◌∙◌, ◌++◌, length}
use Rattle.std.specs.List.{flat_map}
use Rattle.std.proofs.lemmas.Result.{IfOk-weaker}
use Rattle.lto_task.specs.Units.{name_line}
use Rattle.lto_task.proofs.Apart.{heading, line_one, piece_is, piece_read}
use Rattle.lto_task.proofs.Splitting.{no_split}
use Rattle.lto_task.proofs.taking_apart.Reader.piece.Goals as goal

pub returns-in_default : goal.returns-in_default
returns-in_default c = λ p more w is. no_split 10 c.args.self.now.rest.now (heading p) (flat_map name_line p.refs ++ (p.text ++ more)) c.in_default.ensures (is ∙ piece_is p more)

pub returns-in_default-2 : goal.returns-in_default-2
returns-in_default-2 c = λ p more w is.
    (rw c.in_default-2.is at c.in_ok-heading.ensures) p.name (length p.refs) (length p.text) w.name w.count w.bytes
    (line_one p c.args.self.now.rest.now c.in-Some.line.now c.line.new.self.rest.now more w c.in-Some.ensures.0 c.in-Some.ensures.1 is).0

pub returns : goal.returns
returns c =
    IfOk-weaker c.content.result _ _
    (piece_read c.args.self.now.rest.now c.in-Some.line.now c.line.new.self.rest.now c.content.new.self.rest.now c.in-Some-2.heading.name c.in-Some-2.heading.refs c.in-Some-2.heading.bytes c.in-Some.ensures.0 c.in-Some.ensures.1
    (rw c.in-Some-2.is at c.in_ok-heading.ensures)) c.content.ensures
