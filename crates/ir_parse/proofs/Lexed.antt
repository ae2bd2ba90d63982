-- A text has one list of tokens up to its end or to the first bytes that are none.
use Rattle.std.proofs.Common.{◌≡◌, ℕ, ◌+◌, Bool, true, false, List, [], refl, sym, ap, ◌∙◌}
use Rattle.std.proofs.lemmas.List.{append-nil}
use Rattle.ir_lex.specs.Lexing.{Stands, IsLexed}
use Rattle.ir_lex.specs.Order.{feeds}
use Rattle.ir_lex.specs.Tok.{Tok}
use Rattle.ir_lex.proofs.Order.{line_there}
use Rattle.ir_lex.proofs.Unique.{same_list, not_both, same_fault}

same_end : (bytes : List ℕ) (ts us : List Tok) (m n : ℕ) → Stands bytes ts m [] → Stands bytes us n [] → m ≡ n
same_end bytes ts us m n s r =
    let a = line_there bytes ts m [] s in
    let b = line_there bytes us n [] r in
    let fronts : a.0 ≡ b.0 = sym (append-nil a.0) ∙ sym a.1 ∙ b.1 ∙ append-nil b.0 in
    a.2 ∙ ap (λ (f : List ℕ). 1 + feeds f) fronts ∙ sym b.2

pub one_text : (bytes : List ℕ) (ts us : List Tok) (b c : Bool) (m n : ℕ) → IsLexed bytes ts b m → IsLexed bytes us c n → (ts ≡ us) × (b ≡ c) × (m ≡ n)
one_text bytes ts us true true m n s r = (same_list bytes ts us (m, s) (n, r), refl, same_end bytes ts us m n s r)
one_text bytes ts us true false m n s r = absurd (not_both bytes ts us n (m, s) r)
one_text bytes ts us false true m n s r = absurd (not_both bytes us ts m (n, r) s)
one_text bytes ts us false false m n s r = let e = same_fault bytes ts us m n s r in (e.0, refl, e.1)
