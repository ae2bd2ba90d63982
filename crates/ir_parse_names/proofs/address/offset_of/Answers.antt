use Rattle.std.proofs.Common.{ℕ, ◌+◌, ◌%◌, ◌^◌, Ok, Err, sym, ap, ◌∙◌}
use Rattle.std.proofs.lemmas.Result.{err_from_is_err_and}
use Rattle.ir_parse_parts.specs.declared.address.Index.{Index}
use Rattle.ir_tree.specs.declared.failure.Failure.{Failure}
use Rattle.ir_parse_names.specs.declared.fault.Fault.{Fault}
use Rattle.ir_parse_names.specs.Addresses.{offset_of, plus}
use Rattle.ir_parse_names.proofs.Failing.{fails_too}
use Rattle.ir_parse_names.proofs.Firsts.{first_and_rest}
use Rattle.ir_parse_names.proofs.address.offset_of.Goals as goal

-- what stands in place of an item where there is none
abbrev none : Index
none = record { width = 0; bits = 0; line = 0 }

pub returns-in_ok-inner-in-len1-up : goal.returns-in_ok-inner-in-len1-up
returns-in_ok-inner-in-len1-up c =
    ap (offset_of c.args.shape.now) (first_and_rest c.args.indices.now none c.in-len1-up.len_at_least)
    ∙ ap (plus _) c.in_ok-inner-in-len1-up.ensures
    ∙ ap (λ (n : ℕ). Ok ((n + c.in_ok-inner-in-len1-up.inner) % 2 ^ 64)) (sym c.scaled.ensures)

pub returns-in_err-inner-in-len1-up : goal.returns-in_err-inner-in-len1-up
returns-in_err-inner-in-len1-up c =
    let e : Failure Fault = c.in_err-inner-in-len1-up.field-0.0 in
    let p = err_from_is_err_and c.from_residual.result c.from_residual.ensures.1 in
    fails_too {V = ℕ} (λ n. n) (λ n. n) c.from_residual.result e _ _ (p.1 ∙ ap (λ (x : Failure Fault). Err x) p.2) c.in_err-inner-in-len1-up.ensures
    (λ d h. ap (offset_of c.args.shape.now) (first_and_rest c.args.indices.now none c.in-len1-up.len_at_least) ∙ ap (plus _) h)
