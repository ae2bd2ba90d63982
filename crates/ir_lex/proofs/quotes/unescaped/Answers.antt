use Rattle.std.proofs.Common.{◌∷◌, [], ◌++◌, List, ℕ, sym, ap, ◌∙◌, append_assoc}
use Rattle.std.proofs.lemmas.List.{append-nil}
use Rattle.ir_lex.specs.Quotes.{unescaped}
use Rattle.ir_lex.proofs.Escapes.{unescaped_first, nothing_left}
use Rattle.ir_lex.proofs.quotes.unescaped.Goals as goal

pub each-preserved : goal.each-preserved
each-preserved c =
    let o = unescaped_first c.each.rest.now c.split_at.result.1.now c.spelled_at-escape.result c.in-len1-up.len_at_least c.spelled_at-escape.ensures.exact c.split_at.ensures.back in
    let rest : List ℕ = unescaped c.split_at.result.1.now in
    c.each.invariant ∙ ap (λ (x : List ℕ). c.each.out.items ++ x) o ∙ sym (append_assoc c.each.out.items (c.spelled_at-escape.result.byte ∷ []) rest) ∙ ap (λ (x : List ℕ). x ++ rest) (sym c.in_ok-push.ensures.items)

pub returns : goal.returns
unfolding unescaped
returns c = sym (append-nil c.each.out.items) ∙ sym (c.each.invariant ∙ ap (λ (x : List ℕ). c.each.out.items ++ unescaped x) (nothing_left c.each.rest.now c.in_default.len_below))
