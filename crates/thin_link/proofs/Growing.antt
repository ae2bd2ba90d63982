-- What is seen grows, a number at a time.
use Rattle.std.proofs.Common.{◌≡◌, ◌∙◌, ◌⊎◌, inl, inr, ℕ, zero, suc, ◌+◌, ◌<◌, Bool, true, false, cond, nat_eq, List, [], ◌∷◌, ◌++◌, length, set, refl, sym, ap, subst, arith, length-append}
use Rattle.std.proofs.lemmas.Bool.{cases_eq, false≢true, ne_eqb}
use Rattle.std.proofs.lemmas.List.{get_or-set_same, get_or-set_other, length-set}
use Rattle.std.proofs.lemmas.List.Elements.{Contains-append_cases, Contains-append_left, Contains-append_right, Contains-push, Contains-push_cases}
use Rattle.std.proofs.lemmas.List.Sums.{sum_by_push}
use Rattle.std.specs.List.{Contains}
use Rattle.lto_sets.specs.Sets.{contains}
use Rattle.thin_link.specs.Walking.{Grown, copies, room, unseen}
use Rattle.thin_link.proofs.Lists.{alone, nothing, one_copy}

unseen-set : (s : List Bool) (n : ℕ) → n < length s → contains s n ≡ false → unseen (set s n true) + 1 ≡ unseen s
unseen-set [] n h f = absurd (omega arith)
unseen-set (true ∷ s) zero h f = absurd (false≢true (sym f))
unseen-set (false ∷ s) zero h f = omega arith
unseen-set (true ∷ s) (suc n) h f = let k : n < length s = omega arith in unseen-set s n k f
unseen-set (false ∷ s) (suc n) h f =
    let k : n < length s = omega arith in
    let r : unseen (set s n true) + 1 ≡ unseen s = unseen-set s n k f in omega arith

module _ (ok : ℕ → Bool) where
  -- nothing is looked at
  pub grown-none : (s : List Bool) (w : List ℕ) → Grown ok s w [] s w
  grown-none s w = record {
    long = refl;
    fewer = refl;
    once = λ n. refl;
    stays = λ n h. h;
    there = λ n h p. absurd (nothing n h);
    from = λ n h. inl h;
    keeps = λ n h. h;
    held = λ n h. inl h;
  }

  -- a number that doesn't pass, or is seen already
  pub grown-passed : (s : List Bool) (w : List ℕ) (x : ℕ) → (ok x ≡ true → contains s x ≡ true) → Grown ok s w (x ∷ []) s w
  grown-passed s w x seen = record {
    long = refl;
    fewer = refl;
    once = λ n. refl;
    stays = λ n h. h;
    there = λ n h p. ap (contains s) (sym (alone x n h)) ∙ seen (ap ok (alone x n h) ∙ p);
    from = λ n h. inl h;
    keeps = λ n h. h;
    held = λ n h. inl h;
  }

  -- a number that passes and isn't
  pub grown-new : (s : List Bool) (w : List ℕ) (x : ℕ) → x < length s → contains s x ≡ false → ok x ≡ true → Grown ok s w (x ∷ []) (set s x true) (w ++ x ∷ [])
  grown-new s w x inside free passes = record {
    long = length-set s x true;
    fewer = omega (arith, unseen-set s x inside free, length-append w (x ∷ []));
    once = λ n. elim (cases_eq n x) [ inl e ↦ subst (λ (m : ℕ). copies m (w ++ x ∷ []) + room (set s x true) m ≡ copies m w + room s m) (sym e) once_same | inr o ↦ once_other n o ];
    stays = stay;
    there = λ n h p. ap (contains (set s x true)) (sym (alone x n h)) ∙ here;
    from = λ n h. elim (came n h) [ inl e ↦ inr (subst (Contains (w ++ x ∷ [])) (sym e) (Contains-push w x)) | inr k ↦ inl k ];
    keeps = λ n h. Contains-append_left w (x ∷ []) n h;
    held = λ n h. elim (Contains-push_cases w x n h) [ inl k ↦ inl k | inr e ↦ inr (subst (λ (m : ℕ). (contains s m ≡ false) × Contains (x ∷ []) m × (ok m ≡ true)) e (free, Contains-push [] x, passes)) ];
  }
    where
      here : contains (set s x true) x ≡ true
      here = get_or-set_same s x true false inside

      came : (n : ℕ) → contains (set s x true) n ≡ true → (n ≡ x) ⊎ (contains s n ≡ true)
      came n h = elim (cases_eq n x) [ inl e ↦ inl e | inr o ↦ inr (sym (get_or-set_other s x n true false o) ∙ h) ]

      stay : (n : ℕ) → contains s n ≡ true → contains (set s x true) n ≡ true
      stay n h = elim (cases_eq n x) [ inl e ↦ ap (contains (set s x true)) e ∙ here | inr o ↦ get_or-set_other s x n true false o ∙ h ]

      once_same : copies x (w ++ x ∷ []) + room (set s x true) x ≡ copies x w + room s x
      once_same =
          let more : copies x (w ++ x ∷ []) ≡ copies x w + 1 = sum_by_push (λ y. cond (nat_eq x y) 1 0) w x ∙ ap (λ (b : Bool). copies x w + cond b 1 0) (one_copy x) in
          let none : room (set s x true) x ≡ 0 = ap (λ (b : Bool). cond b 0 1) here in
          let one : room s x ≡ 1 = ap (λ (b : Bool). cond b 0 1) free in
          omega (arith, more, none, one)

      once_other : (n : ℕ) → (n ≡ x → ⊥) → copies n (w ++ x ∷ []) + room (set s x true) n ≡ copies n w + room s n
      once_other n o =
          let same : copies n (w ++ x ∷ []) ≡ copies n w + 0 = sum_by_push (λ y. cond (nat_eq n y) 1 0) w x ∙ ap (λ (b : Bool). copies n w + cond b 1 0) (ne_eqb n x o) in
          let still : room (set s x true) n ≡ room s n = ap (λ (b : Bool). cond b 0 1) (get_or-set_other s x n true false o) in
          omega (arith, same, still)

  -- further numbers
  pub grown-more : (s t u : List Bool) (w v z ns ms : List ℕ) → Grown ok s w ns t v → Grown ok t v ms u z → Grown ok s w (ns ++ ms) u z
  grown-more s t u w v z ns ms g f = record {
    long = f.long ∙ g.long;
    fewer = f.fewer ∙ g.fewer;
    once = λ n. f.once n ∙ g.once n;
    stays = λ n h. f.stays n (g.stays n h);
    there = λ n h p. elim (Contains-append_cases ns ms n h) [ inl k ↦ f.stays n (g.there n k p) | inr k ↦ f.there n k p ];
    from = λ n h. elim (f.from n h) [ inl k ↦ elim (g.from n k) [ inl l ↦ inl l | inr l ↦ inr (f.keeps n l) ] | inr k ↦ inr k ];
    keeps = λ n h. f.keeps n (g.keeps n h);
    held = λ n h. elim (f.held n h) [
      | inl k ↦ elim (g.held n k) [ inl l ↦ inl l | inr l ↦ inr (l.0, Contains-append_left ns ms n l.1, l.2) ]
      | inr k ↦ inr (unseen_before n k.0, Contains-append_right ns ms n k.1, k.2)
    ];
  }
    where
      unseen_before : (n : ℕ) → contains t n ≡ false → contains s n ≡ false
      unseen_before n h = by (contains s n) refl
        where
          by : (b : Bool) → contains s n ≡ b → contains s n ≡ false
          by true e = absurd (false≢true (sym h ∙ g.stays n e))
          by false e = e
