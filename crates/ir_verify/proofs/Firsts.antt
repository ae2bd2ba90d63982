-- The first entry for each block, among the first entries of a phi.
use Rattle.std.proofs.Common.{◌≡◌, ℕ, ◌+◌, ◌<◌, Bool, true, false, List, length, refl, sym, ap, subst, ◌∙◌, arith, inl, inr, ◌⊎◌}
use Rattle.std.specs.Prelude.{nat_eq, cond, slice_get, Option, Some, None}
use Rattle.std.proofs.lemmas.Bool.{cases_eq}
use Rattle.ir_tree.specs.declared.instr.Incoming.{Incoming}
use Rattle.ir_verify.specs.Edged.{Agree}
use Rattle.ir_verify.proofs.Keys.{got_below}

pub record Firsts (first : ℕ → Option ℕ) (es : List Incoming) (n : ℕ) : Type 0 where
  pub known : (q k : ℕ) → first q ≡ Some k → (e : Incoming) × (k < n) × (slice_get es k ≡ Some e) × (e.from ≡ q)
  pub met : (j : ℕ) (d : Incoming) → j < n → slice_get es j ≡ Some d → (k : ℕ) × (e : Incoming) × (first d.from ≡ Some k) × (slice_get es k ≡ Some e) × (e.value ≡ d.value)

one_got : {X : Type 0} (o : Option X) (a b : X) → o ≡ Some a → o ≡ Some b → a ≡ b
one_got o a b e d = let s = sym e ∙ d in cc

pub firsts_start : (first : ℕ → Option ℕ) (es : List Incoming) → ((q : ℕ) → first q ≡ None) → Firsts first es 0
firsts_start first es none = record { known = λ q k e. absurd (let d = none q in cc); met = λ j d l g. absurd (omega arith) }

module _ (first : ℕ → Option ℕ) (es : List Incoming) (n : ℕ) (d : Incoming) (here : slice_get es n ≡ Some d) (h : Firsts first es n) where
  -- the entry agrees with the first one for its block
  pub firsts_same : (k : ℕ) (e : Incoming) → first d.from ≡ Some k → slice_get es k ≡ Some e → e.value ≡ d.value → Firsts first es (n + 1)
  firsts_same k e is at same = record {
    known = λ q j f. (let w = h.known q j f in (w.0, omega (arith, w.1), w.2, w.3));
    met = λ j c l g. elim (cases_eq j n) [
      | inl q ↦ (let one = one_got (slice_get es n) d c here (subst (λ (i : ℕ). slice_get es i ≡ Some c) q g) in
          subst (λ (c : Incoming). (k : ℕ) × (e : Incoming) × (first c.from ≡ Some k) × (slice_get es k ≡ Some e) × (e.value ≡ c.value)) one (k, e, is, at, same))
      | inr q ↦ h.met j c (omega arith) g
    ];
  }

  -- the entry is the first for its block
  pub firsts_new : (new : ℕ → Option ℕ) → ((q : ℕ) → new q ≡ cond (nat_eq d.from q) (Some n) (first q)) → first d.from ≡ None → Firsts new es (n + 1)
  firsts_new new is none = record {
    known = λ q k f. known_new q k (cases_eq d.from q) f;
    met = λ j c l g. elim (cases_eq j n) [
      | inl q ↦ (let one = one_got (slice_get es n) d c here (subst (λ (i : ℕ). slice_get es i ≡ Some c) q g) in
          subst (λ (c : Incoming). (k : ℕ) × (e : Incoming) × (new c.from ≡ Some k) × (slice_get es k ≡ Some e) × (e.value ≡ c.value)) one (n, d, own, here, refl))
      | inr q ↦ met_old j c (cases_eq d.from c.from) (omega arith) g
    ];
  }
    where
      own : new d.from ≡ Some n
      own = let t : nat_eq d.from d.from ≡ true = grind arith in is d.from ∙ ap (λ (b : Bool). cond b (Some n) (first d.from)) t

      other : (q : ℕ) → (d.from ≡ q → ⊥) → new q ≡ first q
      other q apart = let f : nat_eq d.from q ≡ false = grind arith in is q ∙ ap (λ (b : Bool). cond b (Some n) (first q)) f

      known_new : (q k : ℕ) → (d.from ≡ q) ⊎ (d.from ≡ q → ⊥) → new q ≡ Some k → (e : Incoming) × (k < n + 1) × (slice_get es k ≡ Some e) × (e.from ≡ q)
      known_new q k (inl s) f =
          let at = one_got (new q) n k (subst (λ (z : ℕ). new z ≡ Some n) s own) f in
          (d, omega arith, subst (λ (z : ℕ). slice_get es z ≡ Some d) at here, s)
      known_new q k (inr s) f = let w = h.known q k (sym (other q s) ∙ f) in (w.0, omega (arith, w.1), w.2, w.3)

      met_old : (j : ℕ) (c : Incoming) → (d.from ≡ c.from) ⊎ (d.from ≡ c.from → ⊥) → j < n → slice_get es j ≡ Some c → (k : ℕ) × (e : Incoming) × (new c.from ≡ Some k) × (slice_get es k ≡ Some e) × (e.value ≡ c.value)
      met_old j c (inl s) l g = let w = h.met j c l g in absurd (let e = sym (subst (λ (z : ℕ). first z ≡ None) s none) ∙ w.2 in cc)
      met_old j c (inr s) l g = let w = h.met j c l g in (w.0, w.1, other c.from s ∙ w.2, w.3, w.4)

  -- entries for one block that differ
  pub firsts_differ : (k : ℕ) (e : Incoming) → first d.from ≡ Some k → slice_get es k ≡ Some e → (e.value ≡ d.value → ⊥) → Agree es → ⊥
  firsts_differ k e is at apart agree =
      let w = h.known d.from k is in
      let one = one_got (slice_get es k) w.0 e w.2 at in
      apart (agree k n e d at here (subst (λ (c : Incoming). c.from ≡ d.from) one w.3))

pub firsts_agree : (first : ℕ → Option ℕ) (es : List Incoming) (n : ℕ) → length es ≡ n → Firsts first es n → Agree es
firsts_agree first es n long h = λ i j e d g f s.
    let v = h.met i e (omega (arith, got_below es i e g)) g in
    let w = h.met j d (omega (arith, got_below es j d f)) f in
    let at = one_got (first d.from) v.0 w.0 (subst (λ (z : ℕ). first z ≡ Some v.0) s v.2) w.2 in
    let one = one_got (slice_get es w.0) v.1 w.1 (subst (λ (z : ℕ). slice_get es z ≡ Some v.1) at v.3) w.3 in
    sym v.4 ∙ ap (λ (c : Incoming). c.value) one ∙ w.4
