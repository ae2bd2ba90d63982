-- Alignments that the grammar spells are powers of two.
use Rattle.std.proofs.Common.{◌≡◌, ℕ, zero, suc, ◌+◌, ◌^◌, ◌≤◌, ◌&&◌, not, nat_eq, true, ◌⊎◌, inl, inr, List, [], ◌∷◌, Ok, refl, sym, subst, arith}
use Rattle.std.specs.List.{AllByRecursion as Each}
use Rattle.std.proofs.lemmas.Bool.{and_parts, eqb-true, or_cases}
use Rattle.ir_lex.specs.TokenKinds.{number}
use Rattle.ir_lex.specs.Rows.{begins}
use Rattle.ir_lex.specs.declared.token_kind.TokenKind.TheVariants as kinds
use Rattle.ir_parse_parts.specs.Alphabet.{contains}
use Rattle.ir_parse_parts.specs.Forms as form
use Rattle.ir_parse_parts.specs.declared.fault.TokenFault.TheVariants.{Number}
use Rattle.ir_parse_parts.specs.Classes.{refusal}
use Rattle.ir_parse_parts.specs.Decimals.{ALIGNMENTS, alignment_of, decimal, is_alignment}
use Rattle.ir_parse_operands.specs.Alignments as alignments
use Rattle.ir_tree.specs.Formed.{IsAlignment}
use Rattle.ir_parse.specs.Written.{AlignWritten}
use Rattle.ir_parse.proofs.Means.{Means, accepted, either_means, follow, nothing, skip, token_means}

-- ---- powers of two

-- so many of them, from the k-th on
abbrev powers : ℕ → ℕ → List ℕ
powers k zero = []
powers k (suc n) = 2 ^ k ∷ powers (k + 1) n

powers_fit : (k n : ℕ) → k + n ≤ 31 → Each IsAlignment (powers k n)
powers_fit k zero h = tt
powers_fit k (suc n) h = ((k, omega arith, refl), powers_fit (k + 1) n (omega arith))

one_of : (ms : List ℕ) → Each IsAlignment ms → (m : ℕ) → contains ms m ≡ true → IsAlignment m
one_of [] h m c = absurd cc
one_of (n ∷ ms) h m c = by (or_cases (nat_eq m n) (contains ms m) c) (one_of ms h.1 m)
  where
    by : (nat_eq m n ≡ true) ⊎ (contains ms m ≡ true) → (contains ms m ≡ true → IsAlignment m) → IsAlignment m
    by (inl e) more = subst IsAlignment (sym (eqb-true m n e)) h.0
    by (inr e) more = more e

listed : (m : ℕ) → contains ALIGNMENTS m ≡ true → IsAlignment m
listed m c = one_of (powers 0 31) (powers_fit 0 31 (omega arith)) m c

-- ---- where they are written

number_written : (text : List ℕ) (n : ℕ) → alignment_of text ≡ Ok n → IsAlignment n
unfolding alignment_of
number_written text n e =
    let yes = accepted (contains ALIGNMENTS (decimal text) && not (begins 45 text)) (Ok (decimal text)) Number n e in
    let same : decimal text ≡ n = cc (yes.1) in subst IsAlignment same (listed (decimal text) (and_parts (contains ALIGNMENTS (decimal text)) (not (begins 45 text)) yes.0).0)

pub alignment_written : Means (form.token is_alignment) IsAlignment
unfolding is_alignment
alignment_written = token_means (λ t n s h. number_written t.text n (accepted (nat_eq (number t.kind) (number kinds.Number)) (alignment_of t.text) (refusal (number t.kind)) n h).1)

pub aligned_written : Means alignments.aligned AlignWritten
unfolding alignments.aligned
aligned_written = either_means (skip _ (λ _. follow alignment_written (λ n h. skip _ (λ _. nothing h)))) (skip _ (λ _. skip _ (λ _. nothing tt)))

pub align_written : Means alignments.align AlignWritten
unfolding alignments.align
align_written = either_means (skip _ (λ _. aligned_written)) (nothing tt)
