use Rattle.std.proofs.Common.{◌≡◌, suc, ◌+◌, arith, ◌∷◌, drop, nat_eq, sym, ap, ◌∙◌, ◌||◌}
use Rattle.std.proofs.Math.Seq.{drop-cons}
use Rattle.std.specs.HashSet.{contains}
use Rattle.ir_tree.specs.declared.instr.Line.{Line}
use Rattle.ir_facts.specs.Scopes.{bars}
use Rattle.ir_facts.proofs.Clearing.{line_clear, line_unclear}
use Rattle.std.proofs.lemmas.List.{at_drop_all}
use Rattle.ir_facts.specs.Clear.{lines_clear}
use Rattle.fact_sources.specs.Membership.{beside}
use Rattle.fact_sources.specs.Naming.{instr_names}
use Rattle.fact_sources.proofs.Stepping.{cut_at}
use Rattle.ir_facts.proofs.clear.lines_clear.Goals.{then-instr_names-via-then-instr_names, then-instr_names-via-else-instr_names+then-instr_names-2}
use Rattle.ir_facts.proofs.clear.lines_clear.Goals as goal

pub loop-line-preserved : goal.loop-line-preserved
loop-line-preserved c =
    let lines = c.args.lines.now in
    let i = c.loop-line.line-index in
    let line = c.line-item.result in
    let one : suc i ≡ i + 1 = omega arith in
    let more = drop-cons lines i line c.loop-line-test.true ∙ ap (λ (l : Line). l ∷ drop (suc i) lines) (sym c.line-item.is) ∙ ap (λ j. line ∷ drop j lines) one in
    line_clear (bars c.args.bar.now.scopes.now c.args.bar.now.place) (contains nat_eq c.args.own.now) (contains nat_eq c.loop-line.front) (contains nat_eq c.insert_given.new.front) line
    (drop (i + 1) lines) (drop i lines) more (sym c.instr_names.ensures ∙ c.if-instr_names.false) (sym c.instr_names-else-instr_names.ensures ∙ c.if-instr_names-2.false) c.in_ok-insert_given.ensures
    ∙ c.loop-line.invariant

pub returns : goal.returns
returns c =
    sym (at_drop_all (lines_clear (bars c.args.bar.now.scopes.now c.args.bar.now.place) (contains nat_eq c.args.own.now) (contains nat_eq c.loop-line.front)) c.args.lines.now c.loop-line.line-index c.loop-line-test.false)
    ∙ c.loop-line.invariant

pub returns-then-instr_names : goal.returns-then-instr_names
returns-then-instr_names c =
    let bar = bars c.args.bar.now.scopes.now c.args.bar.now.place in
    let own = contains nat_eq c.args.own.now in
    let front = contains nat_eq c.loop-line.front in
    let lines = c.args.lines.now in
    let i = c.loop-line.line-index in
    let line = c.line-item.result in
    line_unclear bar own front line (drop (i + 1) lines) (drop i lines) (cut_at lines i line c.loop-line-test.true c.line-item.is)
    (elim c.then-instr_names.branch [
      | then-instr_names-via-then-instr_names w ↦ ap (λ t. t || instr_names (beside own front) line.instr) (sym c.instr_names.ensures ∙ w.if-instr_names.true)
      | then-instr_names-via-else-instr_names+then-instr_names-2 w ↦
          λ j. (sym c.instr_names.ensures ∙ w.if-instr_names.false) j || (sym w.instr_names-else-instr_names.ensures ∙ w.if-instr_names-2.true) j
    ])
    ∙ c.loop-line.invariant
