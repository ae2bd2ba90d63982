use Rattle.std.proofs.Common.{◌∙◌, sym}
use Rattle.std.proofs.lemmas.Result.{IfOk-weaker}
use Rattle.ir_tree.specs.Names.{quoted}
use Rattle.lto_task.specs.Units.{name_text}
use Rattle.lto_task.proofs.Headings.{line_is, named, text_lacks}
use Rattle.lto_task.proofs.Splitting.{first_split_one, no_split}
use Rattle.lto_task.proofs.taking_apart.Reader.name_line.Goals as goal

pub returns-in_default : goal.returns-in_default
returns-in_default c = λ n more all is. no_split 10 c.args.self.now.rest.now (name_text n) more c.in_default.ensures (is ∙ line_is n more)

pub returns-in-None : goal.returns-in-None
returns-in-None c = λ n more all is.
    c.in-None.ensures (quoted n)
    (first_split_one 10 c.in-Some.line.now c.line.new.self.rest.now (name_text n) more c.in-Some.ensures.0 (text_lacks n all) (sym c.in-Some.ensures.1 ∙ is ∙ line_is n more)).0

pub returns-in-Some-behind : goal.returns-in-Some-behind
returns-in-Some-behind c =
    IfOk-weaker c.name.result _ _
    (λ o h. named c.args.self.now.rest.now c.in-Some.line.now c.line.new.self.rest.now c.in-Some-behind.written.now o c.in-Some.ensures.0 c.in-Some.ensures.1 c.in-Some-behind.ensures h) c.name.ensures
