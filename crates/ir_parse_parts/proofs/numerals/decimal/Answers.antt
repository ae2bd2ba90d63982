use Rattle.std.proofs.Common.{◌≤◌, ℕ, subst, arith}
use Rattle.ir_parse_parts.proofs.Digits.{past}
use Rattle.ir_parse_parts.proofs.numerals.decimal.Goals as goal

pub returns-in_default : goal.returns-in_default
returns-in_default c = subst (λ (m : ℕ). 18446744073709551616 ≤ m) c.each.invariant (past c.args.digits.now c.each.digit-index c.each.n _ (omega arith) (omega (arith, c.in_default.ensures)))

pub returns-in_default-checked_add : goal.returns-in_default-checked_add
returns-in_default-checked_add c = subst (λ (m : ℕ). 18446744073709551616 ≤ m) c.each.invariant (past c.args.digits.now c.each.digit-index c.each.n _ (omega arith) (omega (arith, c.in-Some.ensures, c.saturating_sub.ensures, c.from.ensures, c.in_default-checked_add.ensures)))
