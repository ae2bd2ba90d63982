-- There is one first token at which no reading goes on.
use Rattle.std.proofs.Common.{◌≡◌, ℕ, zero, suc, ◌<◌, ◌≤◌, List, [], ◌∷◌, ◌++◌, length, refl, sym, ap, subst, ◌∙◌, append_assoc, arith, ◌⊎◌, inl, inr}
use Rattle.std.proofs.lemmas.List.{length-append}
use Rattle.ir_parse_parts.specs.Alphabet.{Alphabet}
use Rattle.ir_parse_parts.specs.Faults.{Extends, Dead, StopsAt}
use Rattle.ir_parse_parts.specs.Forms.{Form}

-- a prefix of what goes on goes on
shorter : {T A : Type 0} (g : Form T A) (front more : List T) → Extends g (front ++ more) → Extends g front
shorter {T} g front more v = (more ++ v.0, v.1, subst (λ (x : List T). g x v.1) (append_assoc front more v.0) v.2)

-- of two cuts of one list the one that leaves more is a prefix of the other, by a token at least
earlier : {T : Type 0} (front rest front' rest' : List T) → front ++ rest ≡ front' ++ rest' → length rest' < length rest → (t : T) × (mid : List T) × (more : List T) × (rest ≡ t ∷ more) × (front' ≡ front ++ t ∷ mid)
earlier [] rest [] rest' e lt = absurd (omega (arith, ap length e))
earlier [] rest (u ∷ front') rest' e lt = (u, front', front' ++ rest', e, refl)
earlier (t ∷ front) rest [] rest' e lt = absurd (omega (arith, ap length e, length-append front rest))
earlier {T} (t ∷ front) rest (u ∷ front') rest' e lt =
    let h : t ≡ u = cc in
    let r : front ++ rest ≡ front' ++ rest' = cc in
    let i = earlier front rest front' rest' r lt in
    (i.0, i.1, i.2, i.3, ap (λ (x : T). x ∷ front') (sym h) ∙ ap (λ (x : List T). t ∷ x) i.4)

module _ {T : Type 0} (alphabet : Alphabet T) where
  not_earlier : {A : Type 0} (g : Form T A) (ts : List T) (n m : ℕ) → StopsAt alphabet g ts n → StopsAt alphabet g ts m → m < n → ⊥
  not_earlier {A} g ts n m s r lt =
      let e = earlier s.front s.rest r.front r.rest (sym s.whole ∙ r.whole) (omega (arith, s.here, r.here)) in
      let d : Dead g s.front (e.0 ∷ e.2) = subst (λ (x : List T). Dead g s.front x) e.3 s.dead in
      d (shorter g (s.front ++ e.0 ∷ []) e.1 (subst (λ (x : List T). Extends g x) (e.4 ∙ sym (append_assoc s.front (e.0 ∷ []) e.1)) (r.before.0, r.before.1, r.before.2)))

  pub one_place : {A : Type 0} (g : Form T A) (ts : List T) (n m : ℕ) → StopsAt alphabet g ts n → StopsAt alphabet g ts m → n ≡ m
  one_place g ts n m s r = by_order (ordered n m)
    where
      ordered : (n m : ℕ) → (n < m) ⊎ (m ≤ n)
      ordered n m = by_compare n m
        where
          by_compare : (n m : ℕ) → (n < m) ⊎ (m ≤ n)
          by_compare n zero = inr (omega arith)
          by_compare zero (suc m) = inl (omega arith)
          by_compare (suc n) (suc m) = elim (by_compare n m) [ inl l ↦ inl (omega arith) | inr l ↦ inr (omega arith) ]

      by_order : (n < m) ⊎ (m ≤ n) → n ≡ m
      by_order (inl l) = absurd (not_earlier g ts m n r s l)
      by_order (inr l) = by_other (ordered m n)
        where
          by_other : (m < n) ⊎ (n ≤ m) → n ≡ m
          by_other (inl k) = absurd (not_earlier g ts n m s r k)
          by_other (inr k) = omega (arith, l, k)
