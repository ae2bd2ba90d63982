use Rattle.std.proofs.Common.{false, List, Ok, sym, ap, ◌∙◌, arith}
use Rattle.ir_parse_parts.specs.declared.raw.Argument.{Argument}
use Rattle.ir_parse_operands.proofs.Choices.{attachment_behind_attachment, attachment_behind_index, index_behind_index, index_fails}
use Rattle.ir_parse_parts.specs.Readers.{Fails}
use Rattle.ir_parse_operands.specs.Addressing.{keep}
use Rattle.ir_parse_operands.specs.Adding.{gathered_at}
use Rattle.ir_parse_operands.specs.AddressingAt.{behind_comma_at}
use Rattle.ir_parse_operands.specs.ValuesAt.{argument_at}
use Rattle.ir_parse_operands.proofs.Additions.{pushed_fails, pushed_read}
use Rattle.ir_parse_operands.proofs.addressing.behind_comma_into.Goals as goal

pub returns-in_ok-attached_at-2 : goal.returns-in_ok-attached_at-2
returns-in_ok-attached_at-2 c = attachment_behind_index c.args.indices.now.items c.args.attached c.args.tokens.now c.attached_at-then-comes_meta.new.tokens c.if-attached.false (sym c.comes_meta.ensures ∙ c.if-comes_meta.true) c.in_ok-attached_at-2.ensures

pub returns-then-attached : goal.returns-then-attached
returns-then-attached c = attachment_behind_attachment c.args.indices.now.items c.args.attached c.args.tokens.now c.attached_at.new.tokens c.if-attached.true c.in_ok-attached_at.ensures

pub returns-in_ok-argument_into : goal.returns-in_ok-argument_into
returns-in_ok-argument_into c =
    let ts = c.args.tokens.now in
    let a = pushed_read c.args.indices.now.items c.argument_into.new.indices.items c.argument_into.new.tokens (argument_at ts) c.in_ok-argument_into.ensures in
    index_behind_index c.args.indices.now.items c.args.attached ts c.argument_into.new.tokens a.0 c.if-attached.false (sym c.comes_meta.ensures ∙ c.if-comes_meta.false) a.1
    ∙ ap (λ (xs : List Argument). Ok ((xs, false), c.argument_into.new.tokens)) (sym a.2)

pub returns-in_err-argument_into : goal.returns-in_err-argument_into
returns-in_err-argument_into c =
    let e = c.in_err-argument_into.field-0.0 in
    let ts = c.args.tokens.now in
    let front = c.args.indices.now.items in
    let f : Fails e (gathered_at keep front (behind_comma_at c.args.attached) ts) =
    index_fails e front c.args.attached ts c.if-attached.false (sym c.comes_meta.ensures ∙ c.if-comes_meta.false) (pushed_fails front e (argument_at ts) c.in_err-argument_into.ensures) in
    grind (arith, f)
