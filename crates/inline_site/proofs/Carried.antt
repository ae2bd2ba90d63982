-- What is available at the start of a block, by sets of places: a set that the predecessors of each member carry on.
use Rattle.std.proofs.Common.{◌≡◌, ℕ, suc, ◌<◌, ◌≤◌, nat_eq, nat_lt, ◌&&◌, ◌||◌, ◌⊎◌, inl, inr, Bool, true, false, List, [], ◌∷◌, Option, Some, None, length, refl, sym, ◌∙◌, ap, subst, arith, if◌then◌else◌}
use Rattle.std.specs.Prelude.{slice_get}
use Rattle.std.proofs.lemmas.Bool.{and_from, and_parts, eqb-true, eq-eqb, lt-ltb, ltb-true, or_cases, or_left, or_right}
use Rattle.std.proofs.lemmas.Option.{slice_get_within}
use Rattle.ir_tree.specs.Flow.{AtEnds, Available, IsJustified, Justified, availability, defined_in, definitions, edges, entry_row, holds, leading_to, locals, parameters, room, successors}
use Rattle.ir_tree.specs.declared.block.Block.{Block}
use Rattle.ir_tree.specs.declared.function.Function.{Function}
use Rattle.ir_meaning.specs.Counted.{times}
use Rattle.ir_meaning.proofs.Counting.{edges_from, here, later, out_to}
use Rattle.inline_site.proofs.Numbered.{below, in_holds}

-- the local comes to the start of each block of the set: to the entry as a parameter, and to another from the end of each predecessor
pub record Carries (h : Function) (y : ℕ) (set : ℕ → Bool) : Type 0 where
  pub entry : set 0 ≡ true → holds (parameters h) y ≡ true
  pub other : (p q : ℕ) (b c : Block) → slice_get h.blocks p ≡ Some b → slice_get h.blocks q ≡ Some c → set p ≡ true → (p ≡ 0 → ⊥) → 1 ≤ times b.number (successors c.end)
      → (set q ≡ true) ⊎ (holds (definitions c) y ≡ true)

module _ (h : Function) (y : ℕ) where
  abbrev row_of : (ℕ → Bool) → ℕ → ℕ → Bool
  row_of set p x = nat_eq x y && (nat_lt p (length h.blocks) && set p)

  marked : (set : ℕ → Bool) (p : ℕ) (b : Block) → slice_get h.blocks p ≡ Some b → set p ≡ true → row_of set p y ≡ true
  marked set p b at m =
      and_from (nat_eq y y) (nat_lt p (length h.blocks) && set p) (eq-eqb y y refl)
      (and_from (nat_lt p (length h.blocks)) (set p) (lt-ltb p (length h.blocks) (slice_get_within h.blocks p b at)) m)

  module _ (set : ℕ → Bool) (carries : Carries h y set) where
    from_end : (p : ℕ) (b : Block) → slice_get h.blocks p ≡ Some b → set p ≡ true → (p ≡ 0 → ⊥) → (q : ℕ) → 1 ≤ times q (edges h p) → (row_of set q y || defined_in (slice_get h.blocks q) y) ≡ true
    from_end p b at m other q some = by (slice_get h.blocks q) refl
      where
        many : times q (edges h p) ≡ out_to b.number (slice_get h.blocks q)
        many = edges_from h p b at q

        by : (o : Option Block) → slice_get h.blocks q ≡ o → (row_of set q y || defined_in (slice_get h.blocks q) y) ≡ true
        by None e = let none : times q (edges h p) ≡ 0 = many ∙ ap (out_to b.number) e in absurd (omega (arith, some, none))
        by (Some c) e = from (carries.other p q b c at e m other (let all : times q (edges h p) ≡ times b.number (successors c.end) = many ∙ ap (out_to b.number) e in omega (arith, some, all)))
          where
            from : (set q ≡ true) ⊎ (holds (definitions c) y ≡ true) → (row_of set q y || defined_in (slice_get h.blocks q) y) ≡ true
            from (inl k) = or_left (row_of set q y) (defined_in (slice_get h.blocks q) y) (marked set q c e k)
            from (inr k) = or_right (row_of set q y) (defined_in (slice_get h.blocks q) y) (ap (λ (o : Option Block). defined_in o y) e ∙ k)

    all_ends : (qs : List ℕ) → ((q : ℕ) → 1 ≤ times q qs → (row_of set q y || defined_in (slice_get h.blocks q) y) ≡ true) → AtEnds (availability h) (row_of set) y qs
    all_ends [] step = tt
    all_ends (q ∷ qs) step = (step q (here q q qs refl), all_ends qs (λ r some. step r (later r q qs some)))

    justified : (p : ℕ) → p < length h.blocks → set p ≡ true → Justified (availability h) (row_of set) p y (entry_row p (parameters h))
    justified p lt m = by (nat_eq p 0) refl
      where
        ends : (o : Option Block) → slice_get h.blocks p ≡ o → (p ≡ 0 → ⊥) → (q : ℕ) → 1 ≤ times q (edges h p) → (row_of set q y || defined_in (slice_get h.blocks q) y) ≡ true
        ends None e other q some = let none : times q (edges h p) ≡ 0 = ap (λ (o : Option Block). times q (leading_to h.blocks o)) e in absurd (omega (arith, some, none))
        ends (Some b) e other q some = from_end p b e m other q some

        by : (t : Bool) → nat_eq p 0 ≡ t → Justified (availability h) (row_of set) p y (if t then Some (holds (parameters h)) else None)
        by true e = carries.entry (ap set (sym (eqb-true p 0 e)) ∙ m)
        by false e = all_ends (edges h p) (ends (slice_get h.blocks p) refl (λ is. let clash : true ≡ false = sym (eq-eqb p 0 is) ∙ e in cc clash))

    family : holds (locals h) y ≡ true → IsJustified (availability h) (row_of set)
    family there p x mark =
        let one : (nat_eq x y ≡ true) × ((nat_lt p (length h.blocks) && set p) ≡ true) = and_parts (nat_eq x y) (nat_lt p (length h.blocks) && set p) mark in
        let two : (nat_lt p (length h.blocks) ≡ true) × (set p ≡ true) = and_parts (nat_lt p (length h.blocks)) (set p) one.1 in
        let same : y ≡ x = sym (eqb-true x y one.0) in
        let lt : p < length h.blocks = ltb-true p (length h.blocks) two.0 in (
          lt,
          subst (λ (z : ℕ). z < room (locals h)) same (below y (locals h) (in_holds y (locals h) there)),
          subst (λ (z : ℕ). Justified (availability h) (row_of set) p z (entry_row p (parameters h))) same (justified p lt two.1),
        )

    pub available_by : holds (locals h) y ≡ true → (p : ℕ) (b : Block) → slice_get h.blocks p ≡ Some b → set p ≡ true → Available h p y
    available_by there p b at m = (row_of set, family there, marked set p b at m)

  at_end : (rows : ℕ → ℕ → Bool) (q : ℕ) (qs : List ℕ) → AtEnds (availability h) rows y qs → 1 ≤ times q qs → (rows q y || defined_in (slice_get h.blocks q) y) ≡ true
  at_end rows q [] ends some = absurd (omega (arith, some))
  at_end rows q (r ∷ rs) ends some = by (nat_eq r q) refl some (at_end rows q rs ends.1)
    where
      by : (t : Bool) → nat_eq r q ≡ t → 1 ≤ (if t then suc (times q rs) else times q rs) → (1 ≤ times q rs → (rows q y || defined_in (slice_get h.blocks q) y) ≡ true)
          → (rows q y || defined_in (slice_get h.blocks q) y) ≡ true
      by true e some more = subst (λ (n : ℕ). (rows n y || defined_in (slice_get h.blocks n) y) ≡ true) (eqb-true r q e) ends.0
      by false e some more = more some

  carries_on : (rows : ℕ → ℕ → Bool) → IsJustified (availability h) rows → Carries h y (λ p. rows p y)
  carries_on rows just = record {
    entry = λ m. (just 0 y m).2;
    other = λ p q b c at_p at_q m other some. by p q b c at_p at_q other some (nat_eq p 0) refl (just p y m).2;
  }
    where
      by : (p q : ℕ) (b c : Block) → slice_get h.blocks p ≡ Some b → slice_get h.blocks q ≡ Some c → (p ≡ 0 → ⊥) → 1 ≤ times b.number (successors c.end)
          → (t : Bool) → nat_eq p 0 ≡ t → Justified (availability h) rows p y (if t then Some (holds (parameters h)) else None) → (rows q y ≡ true) ⊎ (holds (definitions c) y ≡ true)
      by p q b c at_p at_q other some true e j = absurd (other (eqb-true p 0 e))
      by p q b c at_p at_q other some false e j =
          let many : times q (edges h p) ≡ times b.number (successors c.end) = edges_from h p b at_p q ∙ ap (out_to b.number) at_q in
          or_cases (rows q y) (holds (definitions c) y)
          (sym (ap (λ (o : Option Block). rows q y || defined_in o y) at_q) ∙ at_end rows q (edges h p) j (omega (arith, many, some)))

  -- what is available comes by such a set
  pub carried_of : (p : ℕ) → Available h p y → (set : ℕ → Bool) × Carries h y set × (set p ≡ true)
  carried_of p (rows, just, mark) = ((λ q. rows q y), carries_on rows just, mark)
