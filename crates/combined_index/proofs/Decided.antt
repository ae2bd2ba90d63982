-- What is marked is promoted, and nothing else.
use Rattle.std.proofs.Common.{◌≡◌, ◌∙◌, ◌+◌, ◌||◌, ◌&&◌, ◌↔◌, not, ℕ, zero, suc, refl, sym, ap, ap₂, subst, Bool, true, false, List, [], ◌∷◌, Option, Some, None, Contains, nat_eq, slice_index_or, eqb-true, eq-eqb, arith}
use Rattle.std.proofs.lemmas.List.Elements.{Contains-get_or, Contains-append_right}
use Rattle.std.specs.List.{list_any}
use Rattle.combined_index.specs.Combined.{Combined, prevailing_of}
use Rattle.combined_index.specs.Entries.{is_module}
use Rattle.combined_index.specs.Indexed.{symbol_at}
use Rattle.combined_index.specs.declared.definition.Definition.{Definition}
use Rattle.combined_index.specs.Brought.{is_brought, is_in_one, refers}
use Rattle.combined_index.specs.Promotions.{IsPromoted, is_local_to}

never : false ≡ true → ⊥
never e = cc

or_true : (a : Bool) → (a || true) ≡ true
or_true true = refl
or_true false = refl

any_is : (f : ℕ → Bool) (xs : List ℕ) → list_any f xs ≡ true → (x : ℕ) × Contains xs x × (f x ≡ true)
any_is f [] h = absurd (never h)
any_is f (x ∷ xs) h = by (f x) refl (λ e. any_is f xs (sym (ap (λ (b : Bool). b || list_any f xs) e) ∙ h))
  where
    by : (b : Bool) → f x ≡ b → (f x ≡ false → (y : ℕ) × Contains xs y × (f y ≡ true)) → (y : ℕ) × Contains (x ∷ xs) y × (f y ≡ true)
    by true e rest = (x, Contains-get_or (x ∷ xs) 0 x (omega arith), e)
    by false e rest = let r = rest e in (r.0, Contains-append_right (x ∷ []) xs r.0 r.1, r.2)

any_of : (f : ℕ → Bool) (xs : List ℕ) (x : ℕ) → Contains xs x → f x ≡ true → list_any f xs ≡ true
any_of f [] x (k, lt, e) t = absurd (omega arith)
any_of f (y ∷ ys) x (zero, lt, e) t = ap (λ (b : Bool). b || list_any f ys) (ap f e ∙ t)
any_of f (y ∷ ys) x (suc k, lt, e) t = ap (λ (b : Bool). f y || b) (any_of f ys x (k, omega arith, e) t) ∙ or_true (f y)

refers_is : (o : Option Definition) (n : ℕ) → refers o n ≡ true → (d : Definition) × (o ≡ Some d) × Contains d.refs n
refers_is None n h = absurd (never h)
refers_is (Some d) n h = let r = any_is (nat_eq n) d.refs h in (d, refl, subst (Contains d.refs) (sym (eqb-true n r.0 r.2)) r.1)

refers_of : (o : Option Definition) (d : Definition) (n : ℕ) → o ≡ Some d → Contains d.refs n → refers o n ≡ true
refers_of o d n e has = ap (λ (z : Option Definition). refers z n) e ∙ any_of (nat_eq n) d.refs n has (eq-eqb n n refl)

module _ (c : Combined) where
  brought_is : (k : ℕ) (imports : List (List ℕ)) (n : ℕ) → is_brought c k imports n ≡ true
      → (i : ℕ) × (is_local_to c (k + i) n ≡ false) × (is_in_one c (slice_index_or imports i []) n ≡ true)
  brought_is k [] n h = absurd (never h)
  brought_is k (fs ∷ rest) n h = by (is_local_to c k n) (is_in_one c fs n) refl refl (brought_is (suc k) rest n)
    where
      Brought : Type 0
      Brought = (i : ℕ) × (is_local_to c (k + i) n ≡ false) × (is_in_one c (slice_index_or (fs ∷ rest) i []) n ≡ true)

      further : (i : ℕ) × (is_local_to c (suc k + i) n ≡ false) × (is_in_one c (slice_index_or rest i []) n ≡ true) → Brought
      further (i, e, t) = let same : k + suc i ≡ suc k + i = omega arith in (suc i, ap (λ (m : ℕ). is_local_to c m n) same ∙ e, t)

      by : (a b : Bool) → is_local_to c k n ≡ a → is_in_one c fs n ≡ b
          → (is_brought c (suc k) rest n ≡ true → (i : ℕ) × (is_local_to c (suc k + i) n ≡ false) × (is_in_one c (slice_index_or rest i []) n ≡ true)) → Brought
      by true b e f ih = further (ih (sym (ap (λ (a : Bool). not a && is_in_one c fs n || is_brought c (suc k) rest n) e) ∙ h))
      by false true e f ih = let same : k + 0 ≡ k = omega arith in (0, ap (λ (m : ℕ). is_local_to c m n) same ∙ e, f)
      by false false e f ih = further (ih (sym (ap₂ (λ (a b : Bool). not a && b || is_brought c (suc k) rest n) e f) ∙ h))

  brought_of : (k : ℕ) (imports : List (List ℕ)) (n i : ℕ) → is_local_to c (k + i) n ≡ false → is_in_one c (slice_index_or imports i []) n ≡ true → is_brought c k imports n ≡ true
  brought_of k [] n i e t = absurd (never t)
  brought_of k (fs ∷ rest) n zero e t =
      let same : k ≡ k + 0 = omega arith in
      ap₂ (λ (a b : Bool). not a && b || is_brought c (suc k) rest n) (ap (λ (m : ℕ). is_local_to c m n) same ∙ e) t
  brought_of k (fs ∷ rest) n (suc i) e t =
      let same : suc k + i ≡ k + suc i = omega arith in
      ap (λ (b : Bool). not (is_local_to c k n) && is_in_one c fs n || b) (brought_of (suc k) rest n i (ap (λ (m : ℕ). is_local_to c m n) same ∙ e) t)
      ∙ or_true (not (is_local_to c k n) && is_in_one c fs n)

-- a symbol has one home
one_home : (o : Option ℕ) (a b : ℕ) → is_module a o ≡ true → is_module b o ≡ true → a ≡ b
one_home None a b h g = absurd (never h)
one_home (Some k) a b h g = sym (eqb-true k a h) ∙ eqb-true k b g

both : (a b : Bool) → (a && b) ≡ true → (a ≡ true) × (b ≡ true)
both true b h = (refl, h)
both false b h = absurd (never h)

module _ (c : Combined) (imports : List (List ℕ)) (home n : ℕ) where
  pub decided : ((is_brought c 0 imports n && is_local_to c home n) ≡ true) ↔ IsPromoted c imports home n
  decided = (to, from)
    where
      to : (is_brought c 0 imports n && is_local_to c home n) ≡ true → IsPromoted c imports home n
      to h =
          let parts = both (is_brought c 0 imports n) (is_local_to c home n) h in
          let at = brought_is c 0 imports n parts.0 in
          let same : 0 + at.0 ≡ at.0 = omega arith in
          let foreign : is_local_to c at.0 n ≡ false = ap (λ (m : ℕ). is_local_to c m n) (sym same) ∙ at.1 in
          let one = any_is (λ f. refers (prevailing_of c f) n) (slice_index_or imports at.0 []) at.2 in
          let body = refers_is (prevailing_of c one.0) n one.2 in
          record {
            local = parts.1;
            importer = at.0;
            other = λ e. never (sym foreign ∙ ap (λ (m : ℕ). is_local_to c m n) e ∙ parts.1);
            function = one.0;
            imported = one.1;
            body = body.0;
            prevails = body.1;
            refers = body.2;
          }

      from : IsPromoted c imports home n → (is_brought c 0 imports n && is_local_to c home n) ≡ true
      from p =
          let same : 0 + p.importer ≡ p.importer = omega arith in
          let brought : is_brought c 0 imports n ≡ true =
          brought_of c 0 imports n p.importer (ap (λ (m : ℕ). is_local_to c m n) same ∙ foreign (is_local_to c p.importer n) refl)
          (any_of (λ f. refers (prevailing_of c f) n) (slice_index_or imports p.importer []) p.function p.imported (refers_of (prevailing_of c p.function) p.body n p.prevails p.refers)) in
          ap₂ (λ (a b : Bool). a && b) brought p.local
        where
          foreign : (b : Bool) → is_local_to c p.importer n ≡ b → is_local_to c p.importer n ≡ false
          foreign true e = absurd (p.other (one_home (symbol_at c.symbols n).home p.importer home e p.local))
          foreign false e = e
