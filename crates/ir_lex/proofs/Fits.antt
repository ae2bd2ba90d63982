-- What the longest row is, by the first byte.
use Rattle.std.proofs.Common.{◌≡◌, ℕ, suc, ◌+◌, ◌<◌, ◌≤◌, true, false, cond, nat_eq, nat_lt, List, ◌∷◌, refl, ◌∙◌, arith, add-one}
use Rattle.std.proofs.lemmas.Grind.{common_steps}
use Rattle.ir_lex.specs.declared.token.TokenForm.{TokenForm}
use Rattle.ir_lex.specs.declared.token.TokenForm.TheVariants as forms
use Rattle.ir_lex.specs.declared.rows.Fit.{Fit}
use Rattle.std.specs.Char.{is_ascii_digit, is_ascii_graphic}
use Rattle.std.specs.Int.{is_in_range}
use Rattle.ir_lex.specs.Bytes.{starts_word, run, has}
use Rattle.ir_lex.specs.Rows.{Plain, fit, better, rest_fit, behind, number_len, word_len, meta_len, dots_len, other_len, string_len, name_len}
use Rattle.ir_lex.specs.declared.bytes.Set.TheVariants.{Digits, WordBytes, MetaBytes}

pub local_fit : (bs : List ℕ) → rest_fit (37 ∷ bs) ≡ better (fit forms.Local (cond (nat_lt 0 (name_len bs)) (suc (name_len bs)) 0)) (fit forms.Other 1)
unfolding rest_fit number_len word_len meta_len dots_len other_len string_len has
local_fit bs = grind (arith, common_steps)

pub global_fit : (bs : List ℕ) → rest_fit (64 ∷ bs) ≡ better (fit forms.Global (cond (nat_lt 0 (name_len bs)) (suc (name_len bs)) 0)) (fit forms.Other 1)
unfolding rest_fit number_len word_len meta_len dots_len other_len string_len has
global_fit bs = grind (arith, common_steps)

pub comdat_fit : (bs : List ℕ) → rest_fit (36 ∷ bs) ≡ better (fit forms.Comdat (cond (nat_lt 0 (name_len bs)) (suc (name_len bs)) 0)) (fit forms.Other 1)
unfolding rest_fit number_len word_len meta_len dots_len other_len string_len has
comdat_fit bs = grind (arith, common_steps)

pub group_fit : (bs : List ℕ) → rest_fit (35 ∷ bs) ≡ better (fit forms.Group (cond (nat_lt 0 (run Digits bs)) (suc (run Digits bs)) 0)) (fit forms.Other 1)
unfolding rest_fit number_len word_len meta_len dots_len other_len string_len has
group_fit bs = grind (arith, common_steps)

pub signed_fit : (bs : List ℕ) → rest_fit (45 ∷ bs) ≡ better (fit forms.Number (cond (nat_lt 0 (run Digits bs)) (suc (run Digits bs)) 0)) (fit forms.Other 1)
unfolding rest_fit number_len word_len meta_len dots_len other_len string_len has
signed_fit bs = grind (arith, common_steps)

pub meta_fit : (bs : List ℕ) → rest_fit (33 ∷ bs) ≡ fit forms.Meta (suc (run MetaBytes bs))
unfolding rest_fit number_len word_len meta_len dots_len other_len string_len has
meta_fit bs = grind (arith, common_steps)

pub string_fit : (bs : List ℕ) → rest_fit (34 ∷ bs) ≡ better (fit forms.Number 0) (fit forms.Str (string_len (34 ∷ bs)))
unfolding rest_fit number_len word_len meta_len dots_len other_len has
string_fit bs = grind (arith, common_steps)

pub dots_fit : (bs : List ℕ) → rest_fit (46 ∷ bs) ≡ better (fit forms.Dots (dots_len (46 ∷ bs))) (fit forms.Other 1)
unfolding rest_fit number_len word_len meta_len other_len string_len has
dots_fit bs = grind (arith, common_steps)

neq : (c k : ℕ) → (c ≡ k → ⊥) → nat_eq c k ≡ false
neq c k h = grind arith

neq_below : (c k : ℕ) → c < k → nat_eq c k ≡ false
neq_below c k h = grind arith

neq_above : (c k : ℕ) → k < c → nat_eq c k ≡ false
neq_above c k h = grind arith

in_is_in_range : (a b c : ℕ) → is_in_range a b c ≡ true → (a ≤ c) × (c ≤ b)
in_is_in_range a b c h = grind arith

between_of : (a b c : ℕ) → a ≤ c → c ≤ b → is_in_range a b c ≡ true
between_of a b c h i = grind arith

digit_plain : (c : ℕ) → 48 ≤ c → c ≤ 57 → Plain c
digit_plain c h i = record {
  e37 = neq_above c 37 (omega arith);
  e64 = neq_below c 64 (omega arith);
  e36 = neq_above c 36 (omega arith);
  e35 = neq_above c 35 (omega arith);
  e45 = neq_above c 45 (omega arith);
  e33 = neq_above c 33 (omega arith);
  e34 = neq_above c 34 (omega arith);
  e46 = neq_above c 46 (omega arith);
}

pub digit_fit : (c : ℕ) (bs : List ℕ) → is_ascii_digit c ≡ true → rest_fit (c ∷ bs) ≡ fit forms.Number (suc (run Digits bs))
unfolding rest_fit number_len word_len meta_len dots_len other_len string_len has
digit_fit c bs h =
    let r = in_is_in_range 48 57 c h in
    let p = digit_plain c r.0 r.1 in
    let w : starts_word c ≡ false = no_word c r.0 r.1 in
    let o : is_ascii_graphic c ≡ true = between_of 33 126 c (omega (arith, r.0)) (omega (arith, r.1)) in
    let e99 : nat_eq c 99 ≡ false = neq_below c 99 (omega (arith, r.1)) in
    rw (h, p.e45, w, p.e37, p.e64, p.e36, p.e33, p.e35, p.e34, e99, p.e46, o) (grind (arith, common_steps))
  where
    no_word : (c : ℕ) → 48 ≤ c → c ≤ 57 → starts_word c ≡ false
    no_word c h i = grind arith

word_plain : (c : ℕ) → starts_word c ≡ true → Plain c × (is_ascii_digit c ≡ false) × (is_ascii_graphic c ≡ true)
word_plain c h = (
  record {
    e37 = neq c 37 (λ e. grind arith);
    e64 = neq c 64 (λ e. grind arith);
    e36 = neq c 36 (λ e. grind arith);
    e35 = neq c 35 (λ e. grind arith);
    e45 = neq c 45 (λ e. grind arith);
    e33 = neq c 33 (λ e. grind arith);
    e34 = neq c 34 (λ e. grind arith);
    e46 = neq c 46 (λ e. grind arith);
  },
  no_digit c h,
  in_range c h,
)
  where
    no_digit : (c : ℕ) → starts_word c ≡ true → is_ascii_digit c ≡ false
    no_digit c h = grind arith

    in_range : (c : ℕ) → starts_word c ≡ true → is_ascii_graphic c ≡ true
    in_range c h = grind arith

pub word_fit : (c : ℕ) (bs : List ℕ) → starts_word c ≡ true → rest_fit (c ∷ bs) ≡ better (fit forms.Word (suc (run WordBytes bs))) (fit forms.CStr (behind 99 string_len (c ∷ bs)))
unfolding rest_fit number_len word_len meta_len dots_len other_len string_len has
word_fit c bs h =
    let q = word_plain c h in
    let p = q.0 in
    rw (h, q.1, p.e45, p.e37, p.e64, p.e36, p.e33, p.e35, p.e34, p.e46, q.2) (grind (arith, common_steps))

pub other_fit : (c : ℕ) (bs : List ℕ) → Plain c → is_ascii_digit c ≡ false → starts_word c ≡ false → rest_fit (c ∷ bs) ≡ better (fit forms.Number 0) (fit forms.Other (cond (is_ascii_graphic c) 1 0))
unfolding rest_fit number_len word_len meta_len dots_len other_len string_len has
other_fit c bs p d w = rw (d, w, p.e45, p.e37, p.e64, p.e36, p.e33, p.e35, p.e34, p.e46) (grind (arith, common_steps))

-- ---- at what the code has

pub arm : (k : TokenForm) (c : ℕ) (len : List ℕ → ℕ) (first n : ℕ) (rest bytes : List ℕ) (r : Fit) → ((bs : List ℕ) → rest_fit (c ∷ bs) ≡ better (fit k (cond (nat_lt 0 (len bs)) (suc (len bs)) 0)) (fit forms.Other 1))
    → bytes ≡ first ∷ rest → first ≡ c → n ≡ len rest → r ≡ better (fit k (cond (nat_lt 0 n) (n + 1) 0)) (fit forms.Other 1) → r ≡ rest_fit bytes
arm k c len first n rest bytes r law whole is e h = rw (whole, is, law rest, ← e) (h ∙ rw add-one refl)

pub arm_of : (c first : ℕ) (rest bytes : List ℕ) (r : Fit) → bytes ≡ first ∷ rest → first ≡ c → r ≡ rest_fit (c ∷ rest) → r ≡ rest_fit bytes
arm_of c first rest bytes r whole is h = rw (whole, is) h

pub is_plain : (c : ℕ) → (c ≡ 37 → ⊥) → (c ≡ 64 → ⊥) → (c ≡ 36 → ⊥) → (c ≡ 35 → ⊥) → (c ≡ 45 → ⊥) → (c ≡ 33 → ⊥) → (c ≡ 34 → ⊥) → (c ≡ 46 → ⊥) → Plain c
is_plain c a b d e f g h i = record { e37 = neq c 37 a; e64 = neq c 64 b; e36 = neq c 36 d; e35 = neq c 35 e; e45 = neq c 45 f; e33 = neq c 33 g; e34 = neq c 34 h; e46 = neq c 46 i }
