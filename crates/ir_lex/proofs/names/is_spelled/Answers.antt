use Rattle.std.proofs.Common.{refl, sym, ◌∙◌}
use Rattle.ir_lex.specs.Quotes.{unescaped}
use Rattle.ir_lex.proofs.Escapes.{unescaped_first, equal_on, equal_not, equal_none, equal_ended, equal_longer}
use Rattle.ir_lex.proofs.names.is_spelled.Goals as goal

pub returns-in-empty : goal.returns-in-empty
returns-in-empty c = sym (c.each.invariant ∙ equal_none c.each.left.now c.each.rest.now c.in-len1-up.len_at_least c.in-empty.len_below)

pub returns-then-escape-wanted : goal.returns-then-escape-wanted
returns-then-escape-wanted c = sym (c.each.invariant ∙ equal_not c.each.left.now _ _ c.spelled_at-escape.result.byte c.in-len1-up.len_at_least (unescaped_first c.each.rest.now _ c.spelled_at-escape.result c.in-len1-up-rest.len_at_least c.spelled_at-escape.ensures.exact refl) c.if-escape-wanted.true)

pub each-preserved : goal.each-preserved
each-preserved c = c.each.invariant ∙ equal_on c.each.left.now _ (unescaped c.split_at.result.1.now) c.spelled_at-escape.result.byte c.in-len1-up.len_at_least (unescaped_first c.each.rest.now c.split_at.result.1.now c.spelled_at-escape.result c.in-len1-up-rest.len_at_least c.spelled_at-escape.ensures.exact c.split_at.ensures.back) c.if-escape-wanted.false

pub returns-in-empty-rest : goal.returns-in-empty-rest
returns-in-empty-rest c = sym (c.each.invariant ∙ equal_ended c.each.left.now c.each.rest.now c.in_default.len_below c.in-empty-rest.len_below)

pub returns-in_default-rest : goal.returns-in_default-rest
returns-in_default-rest c = sym (c.each.invariant ∙ equal_longer c.each.left.now c.each.rest.now c.in_default.len_below c.in_default-rest.len_at_least)
