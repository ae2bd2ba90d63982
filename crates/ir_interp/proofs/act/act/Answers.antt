use Rattle.std.proofs.Common.{◌≡◌, List, slice_get, Some, None, option_copied, sym, ap, subst, ◌∙◌}
use Rattle.ir_interp.specs.declared.line.CodeLine.{CodeLine}
use Rattle.ir_interp.proofs.Nexting.{next_line, no_line, block_there}
use Rattle.ir_interp.proofs.Positions.{got_none, got_some, copied_none}
use Rattle.ir_interp.proofs.Telling.{then_err, then_ok}
use Rattle.ir_interp.proofs.act.act.Goals as goal

pub returns-in-Some-get-clause-ok : goal.returns-in-Some-get-clause-ok
returns-in-Some-get-clause-ok c = then_ok c.run.result c.run.ensures.ok (λ did done z s.
    let here = sym c.block.ensures ∙ ap option_copied c.in-Some.is in
    let at = subst (λ (lines : List CodeLine). slice_get lines c.args.frame.now.line ≡ Some c.in-Some-get.line.now) c.deref.ensures.value
    (got_some c.deref.result.now c.args.frame.now.line c.get.result c.in-Some-get.line c.in-Some-get.is c.get.ensures.lookup.1 c.get.ensures.lookup.3) in
    let n = next_line z c.args.code.now c.args.memory.now c.args.frame.now c.in-Some.block.now c.in-Some-get.line.now s here at in
    done z n.0 n.1.0 s n.1.1)

pub returns-in-None-clause-ok : goal.returns-in-None-clause-ok
returns-in-None-clause-ok c = then_ok c.leave_block.result c.leave_block.ensures.ok (λ did done z s.
    let here = sym c.block.ensures ∙ ap option_copied c.in-Some.is in
    let past = subst (λ (lines : List CodeLine). slice_get lines c.args.frame.now.line ≡ None) c.deref.ensures.value (got_none c.deref.result.now c.args.frame.now.line c.get.result c.in-None.is c.get.ensures.lookup.3) in
    done z c.args.choice c.args.given s here (no_line z c.args.code.now c.args.memory.now c.args.frame.now c.in-Some.block.now s here past))

pub returns-in-Some-get-clause-err : goal.returns-in-Some-get-clause-err
returns-in-Some-get-clause-err c = then_err c.run.result c.run.ensures.err (λ done z s.
    let here = sym c.block.ensures ∙ ap option_copied c.in-Some.is in
    let at = subst (λ (lines : List CodeLine). slice_get lines c.args.frame.now.line ≡ Some c.in-Some-get.line.now) c.deref.ensures.value
    (got_some c.deref.result.now c.args.frame.now.line c.get.result c.in-Some-get.line c.in-Some-get.is c.get.ensures.lookup.1 c.get.ensures.lookup.3) in
    let n = next_line z c.args.code.now c.args.memory.now c.args.frame.now c.in-Some.block.now c.in-Some-get.line.now s here at in
    done z n.0 n.1.0 s n.1.1)

pub returns-in_default-clause-ok : goal.returns-in_default-clause-ok
returns-in_default-clause-ok c = λ z s. absurd (block_there z c.args.code.now c.args.memory.now c.args.frame.now s (sym c.block.ensures ∙ copied_none c.block.result c.in_default.not-Some))

pub run-requires-clause-can : goal.run-requires-clause-can
run-requires-clause-can c =
    let here = sym c.block.ensures ∙ ap option_copied c.in-Some.is in
    let at = subst (λ (lines : List CodeLine). slice_get lines c.args.frame.now.line ≡ Some c.in-Some-get.line.now) c.deref.ensures.value
    (got_some c.deref.result.now c.args.frame.now.line c.get.result c.in-Some-get.line c.in-Some-get.is c.get.ensures.lookup.1 c.get.ensures.lookup.3) in
    c.requires c.args.frame.now.function c.args.frame.now.block c.in-Some.block.now c.args.frame.now.line c.in-Some-get.line.now here at
