use Rattle.std.proofs.Common.{ℕ, sym, subst, ap, ◌∙◌}
use Rattle.ir_lex.specs.Rows.{LabelFree, before_colon}
use Rattle.ir_lex.proofs.Free.{run_free}
use Rattle.ir_lex.proofs.rows.seek_label.Goals as goal

pub returns-then-bare-eq0-clause-free : goal.returns-then-bare-eq0-clause-free
returns-then-bare-eq0-clause-free c =
    let reach = c.run-reach.ensures.exact in
    subst (λ (n : ℕ). LabelFree n c.args.bytes.now) (sym reach) (run_free c.args.bytes.now (ap (λ (n : ℕ). before_colon n c.args.bytes.now) (sym reach) ∙ sym c.before_colon-bare.ensures.exact ∙ c.if-bare-eq0.true))
