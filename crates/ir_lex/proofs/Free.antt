-- Places at which no label begins.
use Rattle.std.proofs.Common.{◌≡◌, ℕ, zero, suc, max, ◌-◌, ◌&&◌, nat_lt, Bool, true, false, List, [], ◌∷◌, drop, refl, sym, ap, subst, ◌∙◌, if◌then◌else◌, arith}
use Rattle.ir_lex.specs.Bytes.{has, run}
use Rattle.ir_lex.specs.declared.bytes.Set.TheVariants.{LabelBytes}
use Rattle.ir_lex.specs.Rows.{LabelFree, before_colon, begins, label_len, string_len}

off : (t : Bool) (n : ℕ) → (if t && false then n else 0) ≡ 0
off true n = refl
off false n = refl

none_before : (n : ℕ) (bs : List ℕ) → begins 58 (drop n bs) ≡ false → before_colon n bs ≡ 0
none_before n bs c = rw c (off (nat_lt 0 n) (suc n))

quote_none : (b : ℕ) (bs : List ℕ) → has LabelBytes b ≡ true → string_len (b ∷ bs) ≡ 0
unfolding has string_len
quote_none b bs h = grind arith

both : (a b : ℕ) → a ≡ 0 → b ≡ 0 → max a b ≡ 0
both a b e f = omega (arith, e, f)

run_more : (b : ℕ) (bs : List ℕ) → has LabelBytes b ≡ true → run LabelBytes (b ∷ bs) ≡ suc (run LabelBytes bs)
run_more b bs h = rw h refl

here : (b : ℕ) (bs : List ℕ) → has LabelBytes b ≡ true → begins 58 (drop (run LabelBytes bs) bs) ≡ false → label_len (b ∷ bs) ≡ 0
unfolding label_len
here b bs h c =
    both _ _ (ap (λ (n : ℕ). before_colon n (b ∷ bs)) (run_more b bs h) ∙ none_before (suc (run LabelBytes bs)) (b ∷ bs) c)
    (ap (λ (n : ℕ). before_colon n (b ∷ bs)) (quote_none b bs h))

no_colon : (n : ℕ) (c : Bool) → (if nat_lt 0 (suc n) && c then suc (suc n) else 0) ≡ 0 → c ≡ false
no_colon n true e = absurd (positive n (e_of n e))
  where
    positive : (n : ℕ) → suc (suc n) ≡ 0 → ⊥
    positive n e = omega (arith, e)

    e_of : (n : ℕ) → (if nat_lt 0 (suc n) && true then suc (suc n) else 0) ≡ 0 → suc (suc n) ≡ 0
    e_of n e = grind arith
no_colon n false e = refl

-- a run of label bytes that no colon ends
pub run_free : (bs : List ℕ) → before_colon (run LabelBytes bs) bs ≡ 0 → LabelFree (run LabelBytes bs) bs
run_free [] e = tt
run_free (b ∷ bs) e = by_first (has LabelBytes b) refl e (run_free bs)
  where
    by_first : (t : Bool) → has LabelBytes b ≡ t → before_colon (if t then suc (run LabelBytes bs) else 0) (b ∷ bs) ≡ 0 → (before_colon (run LabelBytes bs) bs ≡ 0 → LabelFree (run LabelBytes bs) bs)
        → LabelFree (if t then suc (run LabelBytes bs) else 0) (b ∷ bs)
    by_first true h e again =
        let c : begins 58 (drop (run LabelBytes bs) bs) ≡ false = no_colon (run LabelBytes bs) (begins 58 (drop (run LabelBytes bs) bs)) e in
        (here b bs h c, again (none_before (run LabelBytes bs) bs c))
    by_first false h e again = tt

pub free_none : (n : ℕ) (bs : List ℕ) → (n ≡ 0 → ⊥) → LabelFree n bs → label_len bs ≡ 0
unfolding label_len string_len
free_none zero bs h f = absurd (h refl)
free_none (suc n) [] h f = refl
free_none (suc n) (b ∷ bs) h f = f.0

free_nil : (n : ℕ) → LabelFree n []
free_nil zero = tt
free_nil (suc n) = tt

less_none : (n : ℕ) → n - 0 ≡ n
less_none n = omega arith

less_more : (n k : ℕ) → suc n - suc k ≡ n - k
less_more n k = omega arith

none_less : (k : ℕ) → 0 - k ≡ 0
none_less k = omega arith

free_behind : (n k : ℕ) (bs : List ℕ) → LabelFree n bs → LabelFree (n - k) (drop k bs)
free_behind n zero bs f = subst (λ (m : ℕ). LabelFree m bs) (sym (less_none n)) f
free_behind n (suc k) [] f = free_nil (n - suc k)
free_behind zero (suc k) (b ∷ bs) f = subst (λ (m : ℕ). LabelFree m (drop k bs)) (sym (none_less (suc k))) tt
free_behind (suc n) (suc k) (b ∷ bs) f = subst (λ (m : ℕ). LabelFree m (drop k bs)) (sym (less_more n k)) (free_behind n k bs f.1)

-- behind a token and the blanks that follow it
pub free_on : (n len at left on : ℕ) (bs behind next : List ℕ) → LabelFree n bs → behind ≡ drop len bs → next ≡ drop at behind → left ≡ n - len → on ≡ left - at → LabelFree on next
free_on n len at left on bs behind next f b e l o = rw (o, l, e, b) (free_behind (n - len) at (drop len bs) (free_behind n len bs f))
