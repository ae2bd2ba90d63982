-- Phi entries that stay as edges are lost.
use Rattle.std.proofs.Common.{◌≡◌, ℕ, zero, suc, ◌+◌, ◌-◌, ◌≤◌, ◌<◌, nat_eq, Bool, true, false, cond, List, [], ◌∷◌, Some, map, refl, sym, ◌∙◌, ap, subst, arith, if◌then◌else◌}
use Rattle.std.specs.Prelude.{All, count_by, nat_le, slice_get}
use Rattle.std.proofs.lemmas.Bool.{eqb-true, leb-true, leb-false}
use Rattle.std.proofs.lemmas.List.Elements.{All-cons, All-head, All-tail}
use Rattle.std.proofs.lemmas.List.Recursion.{is_count_by}
use Rattle.ir_tree.specs.declared.instr.Incoming.{Incoming}
use Rattle.ir_meaning.specs.Counted.{sources, times}
use Rattle.branch_simplify.specs.Simplified.{entries_left}

module _ (lost : ℕ → ℕ) where
  -- of each block as many entries go as edges are lost
  pub count_left : (n : ℕ) (es : List Incoming) → times n (sources (entries_left lost es)) ≡ times n (sources es) - lost n
  count_left n [] = omega arith
  count_left n (e ∷ es) = by (nat_eq e.from n) (nat_le (lost e.from) (times e.from (sources es))) refl refl (count_left n es)
    where
      sum : times n (sources (entries_left lost es)) ≡ times n (sources es) - lost n → lost n ≤ times n (sources es)
          → suc (times n (sources (entries_left lost es))) ≡ suc (times n (sources es)) - lost n
      sum h le = omega (arith, h, le)

      by : (t u : Bool) → nat_eq e.from n ≡ t → nat_le (lost e.from) (times e.from (sources es)) ≡ u → times n (sources (entries_left lost es)) ≡ times n (sources es) - lost n
          → times n (sources (if u then e ∷ entries_left lost es else entries_left lost es)) ≡ (if t then suc (times n (sources es)) else times n (sources es)) - lost n
      by true true x y h =
          let le : lost n ≤ times n (sources es) = subst (λ (i : ℕ). lost i ≤ times i (sources es)) (eqb-true e.from n x) (leb-true (lost e.from) (times e.from (sources es)) y) in
          ap (λ (b : Bool). if b then suc (times n (sources (entries_left lost es))) else times n (sources (entries_left lost es))) x ∙ sum h le
      by true false x y h =
          let lt : times n (sources es) < lost n = subst (λ (i : ℕ). times i (sources es) < lost i) (eqb-true e.from n x) (leb-false (lost e.from) (times e.from (sources es)) y) in
          omega (arith, h, lt)
      by false true x y h = ap (λ (b : Bool). if b then suc (times n (sources (entries_left lost es))) else times n (sources (entries_left lost es))) x ∙ h
      by false false x y h = h

  pub all_left : {X : Type 0} (P : X → Type 0) (g : Incoming → X) (es : List Incoming) → All P (map g es) → All P (map g (entries_left lost es))
  all_left P g [] h = h
  all_left P g (e ∷ es) h = by (nat_le (lost e.from) (times e.from (sources es))) (all_left P g es (All-tail P (g e) (map g es) h))
    where
      by : (b : Bool) → All P (map g (entries_left lost es)) → All P (map g (if b then e ∷ entries_left lost es else entries_left lost es))
      by true more = All-cons P (g e) (map g (entries_left lost es)) (All-head P (g e) (map g es) h) more
      by false more = more

  pub each_left : (P : Incoming → Type 0) (es : List Incoming) → All P es → All P (entries_left lost es)
  each_left P [] h = h
  each_left P (e ∷ es) h = by (nat_le (lost e.from) (times e.from (sources es))) (each_left P es (All-tail P e es h))
    where
      by : (b : Bool) → All P (entries_left lost es) → All P (if b then e ∷ entries_left lost es else entries_left lost es)
      by true more = All-cons P e (entries_left lost es) (All-head P e es h) more
      by false more = more

  -- each entry that stays was there
  pub was_there : (es : List Incoming) (i : ℕ) (d : Incoming) → slice_get (entries_left lost es) i ≡ Some d → (j : ℕ) × (slice_get es j ≡ Some d)
  was_there [] i d e = (i, e)
  was_there (x ∷ es) i d e = by (nat_le (lost x.from) (times x.from (sources es))) i e (λ j. was_there es j d)
    where
      further : (j : ℕ) × (slice_get es j ≡ Some d) → (j : ℕ) × (slice_get (x ∷ es) j ≡ Some d)
      further (j, g) = (suc j, g)

      by : (b : Bool) (i : ℕ) → slice_get (if b then x ∷ entries_left lost es else entries_left lost es) i ≡ Some d
          → ((k : ℕ) → slice_get (entries_left lost es) k ≡ Some d → (j : ℕ) × (slice_get es j ≡ Some d)) → (j : ℕ) × (slice_get (x ∷ es) j ≡ Some d)
      by true zero e more = (0, e)
      by true (suc i) e more = further (more i e)
      by false i e more = further (more i e)

  abbrev passing : (Incoming → Bool) → List Incoming → ℕ
  passing q [] = 0
  passing q (e ∷ es) = cond (q e) (1 + passing q es) (passing q es)

  fewer_pass : (q : Incoming → Bool) (es : List Incoming) → passing q (entries_left lost es) ≤ passing q es
  fewer_pass q [] = omega arith
  fewer_pass q (e ∷ es) = by (nat_le (lost e.from) (times e.from (sources es))) (q e) refl (fewer_pass q es)
    where
      by : (u t : Bool) → q e ≡ t → passing q (entries_left lost es) ≤ passing q es → passing q (if u then e ∷ entries_left lost es else entries_left lost es) ≤ cond t (1 + passing q es) (passing q es)
      by true t x h = subst (λ (b : Bool). cond b (1 + passing q (entries_left lost es)) (passing q (entries_left lost es)) ≤ cond t (1 + passing q es) (passing q es)) (sym x) (on t)
        where
          on : (t : Bool) → cond t (1 + passing q (entries_left lost es)) (passing q (entries_left lost es)) ≤ cond t (1 + passing q es) (passing q es)
          on true = omega (arith, h)
          on false = h
      by false true x h = omega (arith, h)
      by false false x h = h

  pub fewer : (q : Incoming → Bool) (es : List Incoming) → count_by q (entries_left lost es) ≤ count_by q es
  fewer q es =
      let a : passing q (entries_left lost es) ≡ count_by q (entries_left lost es) = is_count_by (passing q) q refl (λ x xs. refl) (entries_left lost es) in
      let b : passing q es ≡ count_by q es = is_count_by (passing q) q refl (λ x xs. refl) es in
      let c : passing q (entries_left lost es) ≤ passing q es = fewer_pass q es in
      omega (arith, a, b, c)
