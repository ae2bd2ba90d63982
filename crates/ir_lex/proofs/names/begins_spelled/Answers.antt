use Rattle.std.proofs.Common.{refl, sym, ◌∙◌}
use Rattle.ir_lex.specs.Quotes.{unescaped}
use Rattle.ir_lex.proofs.Escapes.{unescaped_first, begins_on, begins_not, begins_none}
use Rattle.ir_lex.proofs.names.begins_spelled.Goals as goal

pub returns-in-empty : goal.returns-in-empty
returns-in-empty c = sym (c.each.invariant ∙ begins_none c.each.left.now c.each.rest.now c.in-len1-up.len_at_least c.in-empty.len_below)

pub returns-then-escape-wanted : goal.returns-then-escape-wanted
returns-then-escape-wanted c = sym (c.each.invariant ∙ begins_not c.each.left.now _ _ c.spelled_at-escape.result.byte c.in-len1-up.len_at_least (unescaped_first c.each.rest.now _ c.spelled_at-escape.result c.in-len1-up-rest.len_at_least c.spelled_at-escape.ensures.exact refl) c.if-escape-wanted.true)

pub each-preserved : goal.each-preserved
each-preserved c = c.each.invariant ∙ begins_on c.each.left.now _ (unescaped c.split_at.result.1.now) c.spelled_at-escape.result.byte c.in-len1-up.len_at_least (unescaped_first c.each.rest.now c.split_at.result.1.now c.spelled_at-escape.result c.in-len1-up-rest.len_at_least c.spelled_at-escape.ensures.exact c.split_at.ensures.back) c.if-escape-wanted.false
