-- Lists over links that grow.
use Rattle.std.proofs.Common.{◌≡◌, ℕ, zero, suc, ◌+◌, ◌<◌, ◌≤◌, Bool, true, false, cond, nat_eq, List, [], ◌∷◌, ◌++◌, length, get_or, set, Option, Some, None, refl, sym, ap, subst, ◌∙◌, inl, inr, arith}
use Rattle.std.specs.Prelude.{slice_get}
use Rattle.std.proofs.lemmas.Bool.{cases_eq, cases_lt, eq-eqb, ne_eqb}
use Rattle.std.proofs.lemmas.List.{get_or-set_same, get_or-set_other, length_push, get_or_append_left, get_or_push}
use Rattle.std.proofs.lemmas.Option.{slice_get_within, same_Some}
use Rattle.ir_tree.specs.Flow.{repeated}
use Rattle.ir_flow.specs.declared.chains.Link.{Link}
use Rattle.ir_flow.specs.Chained.{past, IsLinked, IsChain, AreChains, AreRows}
use Rattle.ir_flow.specs.Graph.{row}

get-more : {X : Type 0} (xs ys : List X) (i : ℕ) (x : X) → slice_get xs i ≡ Some x → slice_get (xs ++ ys) i ≡ Some x
get-more [] ys i x e = absurd cc
get-more (y ∷ xs) ys zero x e = e
get-more (y ∷ xs) ys (suc i) x e = get-more xs ys i x e

get-less : {X : Type 0} (xs : List X) (y : X) (i : ℕ) → i < length xs → slice_get (xs ++ y ∷ []) i ≡ slice_get xs i
get-less [] y i h = absurd (omega arith)
get-less (x ∷ xs) y zero h = refl
get-less (x ∷ xs) y (suc i) h = let k : i < length xs = omega arith in get-less xs y i k

get-last : {X : Type 0} (xs : List X) (y : X) → slice_get (xs ++ y ∷ []) (length xs) ≡ Some y
get-last [] y = refl
get-last (x ∷ xs) y = get-last xs y

chain-more : (links : List Link) (x : Link) (head : Option ℕ) (vs : List ℕ) → IsChain links head vs → IsChain (links ++ x ∷ []) head vs
chain-more links x head [] e = e
chain-more links x head (v ∷ vs) (i, next, e, s, rest) = (i, next, e, get-more links (x ∷ []) i _ s, chain-more links x next vs rest)

pub chains-put : (links : List Link) (heads : List (Option ℕ)) (lists : ℕ → List ℕ) (key value : ℕ) (next : Option ℕ) → key < length heads → next ≡ get_or heads key None → AreChains links heads lists
    → AreChains (links ++ record { value = value; next = next } ∷ []) (set heads key (Some (length links))) (λ k. cond (nat_eq key k) (value ∷ lists k) (lists k))
chains-put links heads lists key value next h is all k inside =
    elim (cases_eq k key) [
      | inl same ↦
          let new : List Link = links ++ record { value = value; next = next } ∷ [] in
          let P : ℕ → Type 0 = λ j. IsChain new (get_or (set heads key (Some (length links))) j None) (cond (nat_eq key j) (value ∷ lists j) (lists j)) in
          subst P (sym same)
          (subst (λ (o : Option ℕ). IsChain new o (cond (nat_eq key key) (value ∷ lists key) (lists key))) (sym (get_or-set_same heads key (Some (length links)) None h))
          (subst (λ (t : Bool). IsChain new (Some (length links)) (cond t (value ∷ lists key) (lists key))) (sym (eq-eqb key key refl))
          (length links, next, refl, get-last links _, chain-more links _ next (lists key) (subst (λ (o : Option ℕ). IsChain links o (lists key)) (sym is) (all key h)))))
      | inr other ↦
          let new : List Link = links ++ record { value = value; next = next } ∷ [] in
          let far : key ≡ k → ⊥ = λ e. other (sym e) in
          let old : k < length heads = inside_of heads key (Some (length links)) k inside in
          subst (λ (o : Option ℕ). IsChain new o (cond (nat_eq key k) (value ∷ lists k) (lists k))) (sym (get_or-set_other heads key k (Some (length links)) None other))
          (subst (λ (t : Bool). IsChain new (get_or heads k None) (cond t (value ∷ lists k) (lists k))) (sym (ne_eqb key k far))
          (chain-more links _ (get_or heads k None) (lists k) (all k old)))
    ]
  where
    inside_of : (heads : List (Option ℕ)) (i : ℕ) (o : Option ℕ) (k : ℕ) → k < length (set heads i o) → k < length heads
    inside_of [] i o k h = h
    inside_of (x ∷ xs) zero o k h = h
    inside_of (x ∷ xs) (suc i) o zero h = omega arith
    inside_of (x ∷ xs) (suc i) o (suc k) h =
        let less : k < length (set xs i o) = omega arith in
        let less' : k < length xs = inside_of xs i o k less in
        omega arith

pub linked-put : (links : List Link) (heads : List (Option ℕ)) (key value : ℕ) (next : Option ℕ) → key < length heads → next ≡ get_or heads key None → IsLinked links heads
    → IsLinked (links ++ record { value = value; next = next } ∷ []) (set heads key (Some (length links)))
linked-put links heads key value next h is linked = record {
  back = λ i link e.
      elim (cases_lt i (length links)) [
        | inl below ↦ linked.back i link (sym (get-less links _ i below) ∙ e)
        | inr above ↦
            let last : i < length (links ++ record { value = value; next = next } ∷ []) = slice_get_within _ i link e in
            let at : i ≡ length links = omega (arith, length_push links (record { value = value; next = next })) in
            let this : record { value = value; next = next } ≡ link = same_Some _ _ (sym (get-last links (record { value = value; next = next })) ∙ ap (slice_get (links ++ record { value = value; next = next } ∷ [])) (sym at) ∙ e) in
            let small : past next ≤ length links = subst (λ (o : Option ℕ). past o ≤ length links) (sym is) (linked.heads_in key) in
            subst (λ (l : Link). past l.next ≤ i) this (omega (arith, at, small))
      ];
  heads_in = λ k.
      elim (cases_eq k key) [
        | inl same ↦
            subst (λ (j : ℕ). past (get_or (set heads key (Some (length links))) j None) ≤ length (links ++ record { value = value; next = next } ∷ [])) (sym same)
            (subst (λ (o : Option ℕ). past o ≤ length (links ++ record { value = value; next = next } ∷ [])) (sym (get_or-set_same heads key (Some (length links)) None h)) (omega (arith, length_push links (record { value = value; next = next }))))
        | inr other ↦
            subst (λ (o : Option ℕ). past o ≤ length (links ++ record { value = value; next = next } ∷ [])) (sym (get_or-set_other heads key k (Some (length links)) None other)) (omega (arith, linked.heads_in k, length_push links (record { value = value; next = next })))
      ];
}

pub chains-same : (links : List Link) (heads : List (Option ℕ)) (lists others : ℕ → List ℕ) → ((k : ℕ) → lists k ≡ others k) → AreChains links heads lists → AreChains links heads others
chains-same links heads lists others e all k h = subst (λ (vs : List ℕ). IsChain links (get_or heads k None) vs) (e k) (all k h)

-- one more key in front
pub repeated-more : (p k t : ℕ) (ts keys rest : List ℕ) → keys ≡ t ∷ ts → cond (nat_eq t k) (p ∷ (repeated p k ts ++ rest)) (repeated p k ts ++ rest) ≡ repeated p k keys ++ rest
repeated-more p k t ts keys rest e = by (nat_eq t k) refl ∙ ap (λ xs. repeated p k xs ++ rest) (sym e)
  where
    by : (b : Bool) → nat_eq t k ≡ b → cond (nat_eq t k) (p ∷ (repeated p k ts ++ rest)) (repeated p k ts ++ rest) ≡ repeated p k (t ∷ ts) ++ rest
    by true h = rw h refl
    by false h = rw h refl

pub rows-more : (n : ℕ) (lists : ℕ → List ℕ) (rows : List (List ℕ)) (r : List ℕ) → AreRows n lists rows → r ≡ lists n → AreRows (n + 1) lists (rows ++ r ∷ [])
rows-more n lists rows r all e = (
  omega (arith, length_push rows r, all.0),
  λ k h. elim (cases_lt k n) [
    | inl below ↦ get_or_append_left rows (r ∷ []) [] k (omega (arith, all.0)) ∙ all.1 k below
    | inr above ↦
        let at : k ≡ n = omega arith in
        ap (row (rows ++ r ∷ [])) at ∙ get_or_push rows r [] n all.0 ∙ e ∙ ap lists (sym at)
  ],
)

pub walk-step : (links : List Link) (i : ℕ) (link : Link) (at : Option ℕ) (left : List ℕ) → at ≡ Some i → slice_get links i ≡ Some link → IsChain links at left → (vs : List ℕ) × (left ≡ link.value ∷ vs) × IsChain links link.next vs
walk-step links i link at [] e s c = absurd cc
walk-step links i link at (v ∷ vs) e s (j, next, f, t, rest) =
    let same : i ≡ j = same_Some i j (sym e ∙ f) in
    let this : link ≡ record { value = v; next = next } = same_Some link (record { value = v; next = next }) (sym s ∙ ap (slice_get links) same ∙ t) in
    (vs, ap (λ (l : Link). l.value ∷ vs) (sym this), subst (λ (l : Link). IsChain links l.next vs) (sym this) rest)

pub walk-end : (links : List Link) (at : Option ℕ) (left : List ℕ) → ((i : ℕ) → at ≡ Some i → ⊥) → IsChain links at left → left ≡ []
walk-end links at [] n c = refl
walk-end links at (v ∷ vs) n c = absurd (n c.0 c.2)
