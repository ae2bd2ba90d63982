-- The graph of references, one name and one reference further.
use Rattle.std.proofs.Common.{◌≡◌, ◌∙◌, ◌⊎◌, inl, inr, ◌<◌, ℕ, zero, suc, Bool, true, false, cond, List, [], ◌∷◌, ◌++◌, length, get_or, slice_get, slice_set, option_map, Some, Bor, refl, sym, ap, subst, arith}
use Rattle.std.proofs.lemmas.Bool.{cases_eq, false≢true, or_parts}
use Rattle.std.proofs.lemmas.List.{get_or-set_other, get_or-set_same, get_or_read, length-set, length_push}
use Rattle.std.proofs.lemmas.List.Elements.{Contains-append_left, Contains-push, Contains-push_cases}
use Rattle.std.proofs.lemmas.Option.{slice_get-map}
use Rattle.std.proofs.lemmas.Slice.Eq.{bytes_eq-Decides}
use Rattle.std.specs.List.{Contains, list_any}
use Rattle.std.specs.Str.{bytes_eq}
use Rattle.indexmap.specs.IndexSet.{insert_key}
use Rattle.ir_tree.specs.Formed.{Distinct}
use Rattle.combined_index.specs.Rows.{row}
use Rattle.ir_summary.specs.Once.{texts}
use Rattle.emit.specs.Graphs.{AreStarts, Edge, IsNumber, Linked, edge}

abbrev pub alike : Bor (List ℕ) → Bor (List ℕ) → Bool
alike x y = bytes_eq x.now y.now

abbrev Keys : Type 0
Keys = List (Bor (List ℕ))

inside : {X : Type 0} {x y : X} → Some x ≡ Some y → x ≡ y
inside e = cc

-- ---- numbers, with one more name

still : (keys : Keys) (k : Bor (List ℕ)) (x : List ℕ) (n : ℕ) → IsNumber keys x n → IsNumber (keys ++ k ∷ []) x n
still [] k x n h = absurd (cc h)
still (y ∷ ys) k x zero h = h
still (y ∷ ys) k x (suc n) h = still ys k x n h

last : (keys : Keys) (k : Bor (List ℕ)) → IsNumber (keys ++ k ∷ []) k.now (length keys)
last [] k = refl
last (y ∷ ys) k = last ys k

still_or_last : (keys : Keys) (k : Bor (List ℕ)) (x : List ℕ) (n : ℕ) → IsNumber (keys ++ k ∷ []) x n → IsNumber keys x n ⊎ ((n ≡ length keys) × (k.now ≡ x))
still_or_last [] k x zero h = inr (refl, inside h)
still_or_last [] k x (suc n) h = absurd (cc h)
still_or_last (y ∷ ys) k x zero h = inl h
still_or_last (y ∷ ys) k x (suc n) h = further (still_or_last ys k x n h)
  where
    further : IsNumber ys x n ⊎ ((n ≡ length ys) × (k.now ≡ x)) → IsNumber ys x n ⊎ ((suc n ≡ suc (length ys)) × (k.now ≡ x))
    further (inl e) = inl e
    further (inr e) = inr (ap suc e.0, e.1)

pub number_within : (keys : Keys) (x : List ℕ) (n : ℕ) → IsNumber keys x n → n < length keys
number_within [] x n h = absurd (cc h)
number_within (y ∷ ys) x zero h = omega arith
number_within (y ∷ ys) x (suc n) h = let rest : n < length ys = number_within ys x n h in omega arith

-- a key that isn't there has no number
unknown : (keys : Keys) (k : Bor (List ℕ)) (n : ℕ) → list_any (alike k) keys ≡ false → IsNumber keys k.now n → ⊥
unknown [] k n f h = cc h
unknown (y ∷ ys) k zero f h =
    let here : bytes_eq k.now y.now ≡ false = (or_parts (bytes_eq k.now y.now) (list_any (alike k) ys) f).0 in
    false≢true (sym here ∙ (bytes_eq-Decides k.now y.now).1 (sym (inside h)))
unknown (y ∷ ys) k (suc n) f h = unknown ys k n (or_parts (bytes_eq k.now y.now) (list_any (alike k) ys) f).1 h

-- a key stands at the number of its name
pub stored : (keys : Keys) (k found : Bor (List ℕ)) (n : ℕ) → slice_get keys n ≡ Some found → alike k found ≡ true → IsNumber keys k.now n
stored keys k found n at same =
    slice_get-map (λ (key : Bor (List ℕ)). key.now) keys n ∙ ap (option_map (λ (key : Bor (List ℕ)). key.now)) at
    ∙ ap (λ (name : List ℕ). Some name) (sym ((bytes_eq-Decides k.now found.now).0 same))

distinct_more : (keys : Keys) (k : Bor (List ℕ)) → list_any (alike k) keys ≡ false → Distinct (texts keys) → Distinct (texts (keys ++ k ∷ []))
distinct_more keys k free once i j x at_i at_j = by (still_or_last keys k x i at_i) (still_or_last keys k x j at_j)
  where
    by : IsNumber keys x i ⊎ ((i ≡ length keys) × (k.now ≡ x)) → IsNumber keys x j ⊎ ((j ≡ length keys) × (k.now ≡ x)) → i ≡ j
    by (inl a) (inl b) = once i j x a b
    by (inl a) (inr b) = absurd (unknown keys k i free (subst (λ (name : List ℕ). IsNumber keys name i) (sym b.1) a))
    by (inr a) (inl b) = absurd (unknown keys k j free (subst (λ (name : List ℕ). IsNumber keys name j) (sym a.1) b))
    by (inr a) (inr b) = a.0 ∙ sym b.0

-- ---- rows, with one more

row_empty : (rows : List (List ℕ)) (new : List ℕ) (n : ℕ) → new ≡ [] → row (rows ++ new ∷ []) n ≡ row rows n
row_empty [] new zero is = is
row_empty [] new (suc n) is = refl
row_empty (r ∷ rs) new zero is = refl
row_empty (r ∷ rs) new (suc n) is = row_empty rs new n is

module _ (rows : List (List ℕ)) (n m : ℕ) (old new : List ℕ) (lt : n < length rows) (old_is : old ≡ get_or rows n old) (new_is : new ≡ old ++ m ∷ []) where
  row_here : row (slice_set rows n new) n ≡ row rows n ++ m ∷ []
  row_here = get_or-set_same rows n new [] lt ∙ new_is ∙ ap (λ (l : List ℕ). l ++ m ∷ []) (get_or_read rows n old lt old_is [])

  put_from : (i k : ℕ) → Contains (row (slice_set rows n new) i) k → Contains (row rows i) k ⊎ ((n ≡ i) × (m ≡ k))
  put_from i k h = by (cases_eq i n)
    where
      by : (i ≡ n) ⊎ (i ≡ n → ⊥) → Contains (row rows i) k ⊎ ((n ≡ i) × (m ≡ k))
      by (inr other) = inl (subst (λ (l : List ℕ). Contains l k) (get_or-set_other rows n i new [] other) h)
      by (inl e) =
          elim (Contains-push_cases (row rows n) m k (subst (λ (l : List ℕ). Contains l k) row_here (subst (λ (j : ℕ). Contains (row (slice_set rows n new) j) k) e h))) [
            | inl there ↦ inl (subst (λ (j : ℕ). Contains (row rows j) k) (sym e) there)
            | inr same ↦ inr (sym e, same)
          ]

  put_old : (i k : ℕ) → Contains (row rows i) k → Contains (row (slice_set rows n new) i) k
  put_old i k h = by (cases_eq i n)
    where
      by : (i ≡ n) ⊎ (i ≡ n → ⊥) → Contains (row (slice_set rows n new) i) k
      by (inr other) = subst (λ (l : List ℕ). Contains l k) (sym (get_or-set_other rows n i new [] other)) h
      by (inl e) =
          subst (λ (j : ℕ). Contains (row (slice_set rows n new) j) k) (sym e)
          (subst (λ (l : List ℕ). Contains l k) (sym row_here)
          (Contains-append_left (row rows n) (m ∷ []) k (subst (λ (j : ℕ). Contains (row rows j) k) e h)))

  put_new : Contains (row (slice_set rows n new) n) m
  put_new = subst (λ (l : List ℕ). Contains l m) (sym row_here) (Contains-push (row rows n) m)

-- ---- the graph

pub linked_none : Linked [] [] []
linked_none = record {
  long = refl;
  once = λ i j x at_i at_j. absurd (cc at_i);
  sound = λ n m h. let lt : h.0 < 0 = h.1 in absurd (omega (arith, lt));
  complete = λ from to h. let lt : h.0 < 0 = h.1 in absurd (omega (arith, lt));
}

-- a name that is there already
same_keys : (keys : Keys) (k : Bor (List ℕ)) → list_any (alike k) keys ≡ true → insert_key alike keys k ≡ keys
same_keys keys k there = ap (λ (b : Bool). cond b keys (keys ++ k ∷ [])) there

more_keys : (keys : Keys) (k : Bor (List ℕ)) → list_any (alike k) keys ≡ false → insert_key alike keys k ≡ keys ++ k ∷ []
more_keys keys k free = ap (λ (b : Bool). cond b keys (keys ++ k ∷ [])) free

-- numbers stay
pub number_stays : (keys then : Keys) (k : Bor (List ℕ)) → then ≡ insert_key alike keys k → (x : List ℕ) (n : ℕ) → IsNumber keys x n → IsNumber then x n
number_stays keys then k is x n h = subst (λ (ks : Keys). IsNumber ks x n) (sym is) (by (list_any (alike k) keys) refl)
  where
    by : (b : Bool) → list_any (alike k) keys ≡ b → IsNumber (insert_key alike keys k) x n
    by true there = subst (λ (ks : Keys). IsNumber ks x n) (sym (same_keys keys k there)) h
    by false free = subst (λ (ks : Keys). IsNumber ks x n) (sym (more_keys keys k free)) (still keys k x n h)

pub linked_same : (es : List Edge) (keys then : Keys) (k : Bor (List ℕ)) (rows : List (List ℕ)) → then ≡ insert_key alike keys k → list_any (alike k) keys ≡ true → Linked es keys rows → Linked es then rows
linked_same es keys then k rows is there l = subst (λ (ks : Keys). Linked es ks rows) (sym (is ∙ same_keys keys k there)) l

pub linked_more : (es : List Edge) (keys then : Keys) (k : Bor (List ℕ)) (rows : List (List ℕ)) (new : List ℕ) → then ≡ insert_key alike keys k → list_any (alike k) keys ≡ false → new ≡ []
    → Linked es keys rows → Linked es then (rows ++ new ∷ [])
linked_more es keys then k rows new is free empty l = subst (λ (ks : Keys). Linked es ks (rows ++ new ∷ [])) (sym (is ∙ more_keys keys k free)) (record {
  long = let a = length_push rows new in let b = length_push keys k in omega (arith, a, b, l.long);
  once = distinct_more keys k free l.once;
  sound = λ n m h.
      let e = l.sound n m (subst (λ (r : List ℕ). Contains r m) (row_empty rows new n empty) h) in
      (e.0, e.1, still keys k e.0 n e.2, still keys k e.1 m e.3, e.4);
  complete = λ from to h.
      let e = l.complete from to h in
      (e.0, e.1, still keys k from e.0 e.2, still keys k to e.1 e.3, subst (λ (r : List ℕ). Contains r e.1) (sym (row_empty rows new e.0 empty)) e.4);
})

-- as many rows as names, whether the name was there or not
pub long_same : (keys then : Keys) (k : Bor (List ℕ)) (rows : List (List ℕ)) → then ≡ insert_key alike keys k → list_any (alike k) keys ≡ true → length rows ≡ length keys → length rows ≡ length then
long_same keys then k rows is there long = long ∙ sym (ap (λ (ks : Keys). length ks) (is ∙ same_keys keys k there))

pub long_more : (keys then : Keys) (k : Bor (List ℕ)) (rows : List (List ℕ)) (new : List ℕ) → then ≡ insert_key alike keys k → list_any (alike k) keys ≡ false → length rows ≡ length keys
    → length (rows ++ new ∷ []) ≡ length then
long_more keys then k rows new is free long =
    let a = length_push rows new in
    let b = length_push keys k in
    let c : length then ≡ length (keys ++ k ∷ []) = ap (λ (ks : Keys). length ks) (is ∙ more_keys keys k free) in
    omega (arith, a, b, c, long)

-- one reference more
pub linked_edge : (es : List Edge) (keys : Keys) (rows : List (List ℕ)) (from to : List ℕ) (n m : ℕ) (old new : List ℕ) → n < length rows → old ≡ get_or rows n old → new ≡ old ++ m ∷ []
    → IsNumber keys from n → IsNumber keys to m → Linked es keys rows → Linked (es ++ edge from to) keys (slice_set rows n new)
linked_edge es keys rows from to n m old new lt old_is new_is from_is to_is l = record {
  long = length-set rows n new ∙ l.long;
  once = l.once;
  sound = λ i k h. sound i k (put_from rows n m old new lt old_is new_is i k h);
  complete = λ a b h. complete a b (Contains-push_cases es (from, to) (a, b) h);
}
  where
    sound : (i k : ℕ) → Contains (row rows i) k ⊎ ((n ≡ i) × (m ≡ k)) → (a b : List ℕ) × IsNumber keys a i × IsNumber keys b k × Contains (es ++ edge from to) (a, b)
    sound i k (inl there) = let e = l.sound i k there in (e.0, e.1, e.2, e.3, Contains-append_left es (edge from to) (e.0, e.1) e.4)
    sound i k (inr same) =
        (from, to, subst (λ (j : ℕ). IsNumber keys from j) same.0 from_is, subst (λ (j : ℕ). IsNumber keys to j) same.1 to_is, Contains-push es (from, to))

    complete : (a b : List ℕ) → Contains es (a, b) ⊎ (◌≡◌ {A = Edge} (from, to) (a, b)) → (i k : ℕ) × IsNumber keys a i × IsNumber keys b k × Contains (row (slice_set rows n new) i) k
    complete a b (inl there) = let e = l.complete a b there in (e.0, e.1, e.2, e.3, put_old rows n m old new lt old_is new_is e.0 e.1 e.4)
    complete a b (inr same) = (
      n,
      m,
      subst (λ (name : List ℕ). IsNumber keys name n) (ap (λ (p : Edge). p.0) same) from_is,
      subst (λ (name : List ℕ). IsNumber keys name m) (ap (λ (p : Edge). p.1) same) to_is,
      put_new rows n m old new lt old_is new_is,
    )

-- ---- starts

pub starts_none : (keys : Keys) (starts : List ℕ) → starts ≡ [] → AreStarts keys [] starts
starts_none keys starts is = record {
  sound = λ n h. let none : length starts ≡ 0 = ap (λ (l : List ℕ). length l) is in absurd (omega (arith, h.1, none));
  complete = λ name h. let lt : h.0 < 0 = h.1 in absurd (omega (arith, lt));
}

-- one exported name more
pub starts_more : (keys then : Keys) (exports : List (List ℕ)) (starts more : List ℕ) (name : List ℕ) (n : ℕ)
    → ((x : List ℕ) (k : ℕ) → IsNumber keys x k → IsNumber then x k) → IsNumber then name n → more ≡ starts ++ n ∷ []
    → AreStarts keys exports starts → AreStarts then (exports ++ name ∷ []) more
starts_more keys then exports starts more name n stays here is s = subst (AreStarts then (exports ++ name ∷ [])) (sym is) (record {
  sound = λ k h. sound k (Contains-push_cases starts n k h);
  complete = λ x h. complete x (Contains-push_cases exports name x h);
})
  where
    sound : (k : ℕ) → Contains starts k ⊎ (n ≡ k) → (x : List ℕ) × Contains (exports ++ name ∷ []) x × IsNumber then x k
    sound k (inl there) = let e = s.sound k there in (e.0, Contains-append_left exports (name ∷ []) e.0 e.1, stays e.0 k e.2)
    sound k (inr same) = (name, Contains-push exports name, subst (λ (j : ℕ). IsNumber then name j) same here)

    complete : (x : List ℕ) → Contains exports x ⊎ (name ≡ x) → (k : ℕ) × Contains (starts ++ n ∷ []) k × IsNumber then x k
    complete x (inl there) = let e = s.complete x there in (e.0, Contains-append_left starts (n ∷ []) e.0 e.1, stays x e.0 e.2)
    complete x (inr same) = (n, Contains-push starts n, subst (λ (y : List ℕ). IsNumber then y n) same here)
