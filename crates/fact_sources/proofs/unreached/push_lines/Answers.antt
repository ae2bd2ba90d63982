use Rattle.std.proofs.Common.{◌≡◌, ℕ, ◌++◌, append-nil, Option, Vec, Global, refl, sym, ap, ◌∙◌}
use Rattle.ir_tree.specs.declared.instr.Line.{Line}
use Rattle.ir_edit.specs.Numbered.{line_numbers, local_number}
use Rattle.ir_edit.proofs.Stepping.{given_more}
use Rattle.fact_sources.proofs.Stepping.{walked}
use Rattle.ir_flow.proofs.Searched.{none_left}
use Rattle.fact_sources.proofs.unreached.push_lines.Goals.{in-Some+in_ok-push, in_default}
use Rattle.fact_sources.proofs.unreached.push_lines.Goals as goal

pub loop-line-preserved : goal.loop-line-preserved
loop-line-preserved c =
    let old = c.loop-line.locals.items in
    let pushed : c.match-line.locals.items ≡ old ++ local_number c.line-item.result.local = elim c.match-line.branch [
      | in-Some+in_ok-push w ↦
          ap (λ (v : Vec ℕ Global). v.items) w.locals-is ∙ w.in_ok-push.ensures.items ∙ ap (λ (o : Option ℕ). old ++ local_number o) (sym w.in-Some.is)
      | in_default w ↦
          ap (λ (v : Vec ℕ Global). v.items) w.locals-is ∙ sym (append-nil old) ∙ ap (λ (o : Option ℕ). old ++ local_number o) (sym (none_left c.line-item.result.local w.in_default.not-Some))
    ] in
    given_more (λ (l : Line). local_number l.local) line_numbers (λ l ls. refl) c.args.lines.now c.loop-line.line-index c.line-item.result old c.match-line.locals.items c.loop-line-test.true
    c.line-item.is pushed
    ∙ c.loop-line.invariant

pub returns : goal.returns
returns c = walked line_numbers c.args.lines.now c.loop-line.line-index c.loop-line.locals.items refl c.loop-line-test.false ∙ c.loop-line.invariant
