-- The least name, as one more is looked at.
use Rattle.std.proofs.Common.{◌≡◌, ◌∙◌, ◌⊎◌, inl, inr, ℕ, ◌+◌, ◌<◌, Bool, true, false, cond, List, Option, Some, None, refl, sym, ap, subst, arith}
use Rattle.std.proofs.lemmas.Bool.{cases_eq}
use Rattle.std.proofs.lemmas.Cmp.{nat_list_cmp_total}
use Rattle.std.specs.Cmp.Lexicographic.{slice_cmp}
use Rattle.std.specs.Ordering.{nat_cmp, ordering_reverse}
use Rattle.std.specs.declared.cmp.Ordering.{Ordering}
use Rattle.std.specs.declared.cmp.Ordering.TheVariants.{Less, Equal, Greater}
use Rattle.combined_index.specs.Best.{AtMost, Candidate, IsBest, lesser}
use Rattle.ir_tree.specs.NameOrder.{comes_before, is_less}

-- ---- order

abbrev cmp : List ℕ → List ℕ → Ordering
cmp = slice_cmp nat_cmp

turned : (a b : List ℕ) → cmp a b ≡ ordering_reverse (cmp b a)
turned = nat_list_cmp_total.antisymm

itself : (a : List ℕ) → AtMost a a
itself a h = let twice : Greater ≡ Less = sym h ∙ turned a a ∙ ap ordering_reverse h in cc

less_then : (a b : List ℕ) → comes_before a b ≡ true → AtMost a b
less_then a b h g = let no : is_less Greater ≡ true = sym (ap is_less g) ∙ h in cc

not_less_then : (a b : List ℕ) → comes_before a b ≡ false → AtMost b a
not_less_then a b h g = let no : is_less Less ≡ false = sym (ap is_less (turned a b ∙ ap ordering_reverse g)) ∙ h in cc

-- what is less than one is at most what that one is at most
less_through : (a b c : List ℕ) → comes_before a b ≡ true → AtMost b c → AtMost a c
less_through a b c ab bc more = by (cmp a b) (cmp b c) refl refl (sym ab)
  where
    by : (x y : Ordering) → cmp a b ≡ x → cmp b c ≡ y → true ≡ is_less (cmp a b) → ⊥
    by Less Less h g less = let both : Greater ≡ Less = sym more ∙ nat_list_cmp_total.trans a b c h g in cc
    by Less Equal h g less =
        let back : cmp b a ≡ cmp c a = nat_list_cmp_total.congr b c a g in
        let same : cmp a c ≡ cmp a b = turned a c ∙ ap ordering_reverse (sym back) ∙ sym (turned a b) in
        let both : Greater ≡ Less = sym more ∙ same ∙ h in cc
    by Less Greater h g less = bc g
    by Equal y h g less = let no : true ≡ false = less ∙ ap is_less h in cc
    by Greater y h g less = let no : true ≡ false = less ∙ ap is_less h in cc

-- ---- one more place

module _ (holds : ℕ → List ℕ → Type 0) where
  -- below the next end is below this one, or at it
  upto : (i k : ℕ) → k < i + 1 → (k < i) ⊎ (k ≡ i)
  upto i k h = elim (cases_eq k i) [ inl e ↦ inr e | inr o ↦ inl (omega (arith, h, o)) ]

  pub best-none : IsBest holds 0 None
  best-none k name h there = absurd (omega (arith, h))

  -- nothing holds there
  pub best-same : (i : ℕ) (best : Option Candidate) → ((name : List ℕ) → holds i name → ⊥) → IsBest holds i best → IsBest holds (i + 1) best
  best-same i None not old = λ k name h there.
      elim (upto i k h) [ inl l ↦ old k name l there | inr e ↦ not name (subst (λ (z : ℕ). holds z name) e there) ]
  best-same i (Some f) not old = (
    let l : f.1 < i = old.0 in omega (arith, l),
    old.1,
    λ k name h there. elim (upto i k h) [ inl l ↦ old.2 k name l there | inr e ↦ absurd (not name (subst (λ (z : ℕ). holds z name) e there)) ],
  )

  -- this name alone does
  pub best-more : (i : ℕ) (best : Option Candidate) (name : List ℕ) → holds i name → ((other : List ℕ) → holds i other → other ≡ name) → IsBest holds i best → IsBest holds (i + 1) (lesser best (name, i))
  best-more i None name here one old = (
    omega arith,
    here,
    λ k other h there. elim (upto i k h) [
      | inl l ↦ absurd (old k other l there)
      | inr e ↦ subst (AtMost name) (sym (one other (subst (λ (z : ℕ). holds z other) e there))) (itself name)
    ],
  )
  best-more i (Some f) name here one old = by (comes_before name f.0) refl
    where
      by : (b : Bool) → comes_before name f.0 ≡ b → IsBest holds (i + 1) (cond (comes_before name f.0) (Some (name, i)) (Some f))
      by true less = subst (λ (b : Bool). IsBest holds (i + 1) (cond b (Some (name, i)) (Some f))) (sym less) (
        omega arith,
        here,
        λ k other h there. elim (upto i k h) [
          | inl l ↦ less_through name f.0 other less (old.2 k other l there)
          | inr e ↦ subst (AtMost name) (sym (one other (subst (λ (z : ℕ). holds z other) e there))) (itself name)
        ],
      )
      by false less = subst (λ (b : Bool). IsBest holds (i + 1) (cond b (Some (name, i)) (Some f))) (sym less) (
        (let l : f.1 < i = old.0 in omega (arith, l)),
        old.1,
        λ k other h there. elim (upto i k h) [
          | inl l ↦ old.2 k other l there
          | inr e ↦ subst (AtMost f.0) (sym (one other (subst (λ (z : ℕ). holds z other) e there))) (not_less_then name f.0 less)
        ],
      )
