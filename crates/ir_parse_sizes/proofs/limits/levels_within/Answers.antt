use Rattle.std.proofs.Common.{◌≡◌, ◌-◌, ◌+◌, ap, sym, ◌∙◌, subst, drop, Result, Ok, Err, arith}
use Rattle.std.proofs.lemmas.Result.{err_from_is_err_and}
use Rattle.ir_parse_parts.specs.declared.address.Level.{Level}
use Rattle.ir_tree.specs.declared.failure.Failure.{Failure}
use Rattle.ir_parse_names.specs.declared.fault.Fault.{Fault}
use Rattle.ir_parse_names.specs.Resolving.{ResolvesTo}
use Rattle.ir_parse_names.specs.Stages.{passes, levels_within}
use Rattle.ir_parse_names.specs.Types.{expanded}
use Rattle.ir_parse_sizes.proofs.Levels.{fails}
use Rattle.ir_parse_sizes.proofs.limits.levels_within.Goals as goal

pub returns-in_err-shape_within : goal.returns-in_err-shape_within
returns-in_err-shape_within c =
    let types = c.args.types.now in
    let levels = c.args.levels.now in
    let level = c.index-levels-left.result in
    let e : Failure Fault = c.in_err-shape_within.field-0.0 in
    let p = err_from_is_err_and c.from_residual.result c.from_residual.ensures.1 in
    let same : c.from_residual.result ≡ Err e = p.1 ∙ ap (λ (x : Failure Fault). Err x) p.2 in
    let again : c.each.left ≡ c.each.left - 1 + 1 = omega arith in
    let passed = subst (λ n. levels_within types (drop n levels) ≡ Ok tt) again c.each.invariant.passed in
    let refused = subst (λ (l : Level). ResolvesTo {X = Unit {0}} {Y = Unit {0}} (λ u. u) (Err e) (passes (expanded types l.typed))) (sym c.index-levels-left.is) c.in_err-shape_within.ensures in
    subst (λ (r : Result (Unit {0}) (Failure Fault)). ResolvesTo {X = Unit {0}} {Y = Unit {0}} (λ u. u) r (levels_within types levels)) (sym same)
    (fails (λ (u : Unit {0}). u) e types levels (c.each.left - 1) level (omega (arith, c.each.invariant.within)) c.index-levels-left.is passed refused)
