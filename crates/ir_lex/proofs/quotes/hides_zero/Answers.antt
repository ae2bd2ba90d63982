use Rattle.std.proofs.Common.{◌-◌, drop, take, length, List, ℕ, sym, ap, refl, ◌∙◌}
use Rattle.ir_lex.specs.Quotes.{has_zero, unescaped}
use Rattle.ir_lex.proofs.Escapes.{unescaped_first, zero_first, zero_behind, nothing_left}
use Rattle.ir_lex.proofs.quotes.hides_zero.Goals as goal

pub returns-then-escape-eq0 : goal.returns-then-escape-eq0
returns-then-escape-eq0 c =
    let o = unescaped_first c.each.rest.now (drop c.spelled_at-escape.result.behind (take (length c.each.rest.now - 1) (drop 1 c.each.rest.now))) c.spelled_at-escape.result c.in-len1-up.len_at_least c.spelled_at-escape.ensures.exact refl in
    zero_first c.spelled_at-escape.result.byte (unescaped (drop c.spelled_at-escape.result.behind (take (length c.each.rest.now - 1) (drop 1 c.each.rest.now)))) c.if-escape-eq0.true ∙ sym (c.each.invariant ∙ ap has_zero o)

pub each-preserved : goal.each-preserved
each-preserved c =
    let o = unescaped_first c.each.rest.now c.split_at.result.1.now c.spelled_at-escape.result c.in-len1-up.len_at_least c.spelled_at-escape.ensures.exact c.split_at.ensures.back in
    c.each.invariant ∙ ap has_zero o ∙ zero_behind c.spelled_at-escape.result.byte (unescaped c.split_at.result.1.now) c.if-escape-eq0.false

pub returns : goal.returns
unfolding unescaped
returns c = sym (c.each.invariant ∙ ap (λ (x : List ℕ). has_zero (unescaped x)) (nothing_left c.each.rest.now c.in_default.len_below))
