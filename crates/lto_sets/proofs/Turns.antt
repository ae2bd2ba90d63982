-- One word after another.
use Rattle.std.proofs.Common.{◌≡◌, ℕ, ◌+◌, ◌<◌, ◌≤◌, List, length, get_or, set, refl, sym, ◌∙◌, ap, arith, inl, inr}
use Rattle.std.proofs.lemmas.Bool.{cases_lt, cases_eq}
use Rattle.std.proofs.lemmas.List.{get_or-set_same, get_or-set_other, get_or_past}

-- below i each word is done, and from i on it is as it was
pub record IsDone (f : ℕ → ℕ → ℕ) (old others words : List ℕ) (i : ℕ) : Type 0 where
  pub done : (k : ℕ) → k < i → get_or words k 0 ≡ f (get_or old k 0) (get_or others k 0)
  pub rest : (k : ℕ) → i ≤ k → get_or words k 0 ≡ get_or old k 0

pub IsDone-none : (f : ℕ → ℕ → ℕ) (old others : List ℕ) → IsDone f old others old 0
IsDone-none f old others = record { done = λ k h. absurd (omega arith); rest = λ k h. refl }

pub IsDone-more : (f : ℕ → ℕ → ℕ) (old others words : List ℕ) (i w : ℕ) → i < length words → w ≡ f (get_or old i 0) (get_or others i 0) → IsDone f old others words i → IsDone f old others (set words i w) (i + 1)
IsDone-more f old others words i w h e d = record {
  done = λ k p.
      elim (cases_eq k i) [
        | inl same ↦ ap (λ n. get_or (set words i w) n 0) same ∙ get_or-set_same words i w 0 h ∙ e ∙ sym (ap (λ n. f (get_or old n 0) (get_or others n 0)) same)
        | inr other ↦ get_or-set_other words i k w 0 other ∙ d.done k (omega (arith, other))
      ];
  rest = λ k p.
      let other : k ≡ i → ⊥ = λ e. omega (arith, e) in
      get_or-set_other words i k w 0 other ∙ d.rest k (omega arith);
}

pub IsDone-all : (f : ℕ → ℕ → ℕ) (old others words : List ℕ) (i : ℕ) → f 0 0 ≡ 0 → length old ≤ i → length others ≡ length old → IsDone f old others words i → (k : ℕ) → get_or words k 0 ≡ f (get_or old k 0) (get_or others k 0)
IsDone-all f old others words i z h e d k =
    elim (cases_lt k i) [
      | inl below ↦ d.done k below
      | inr above ↦
          let past : length old ≤ k = omega arith in
          let past' : length others ≤ k = omega arith in
          d.rest k above ∙ get_or_past old k 0 past ∙ sym z
          ∙ ap (λ n. f n 0) (sym (get_or_past old k 0 past)) ∙ ap (λ n. f (get_or old k 0) n) (sym (get_or_past others k 0 past'))
    ]
