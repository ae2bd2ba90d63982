-- Final names, as one more is noted.
use Rattle.std.proofs.Common.{◌≡◌, ◌∙◌, ◌⊎◌, inl, inr, ◌<◌, ◌||◌, ◌↔◌, ℕ, zero, suc, refl, sym, ap, subst, Bool, true, false, cond, List, [], ◌∷◌, ◌++◌, Option, Some, None, Bor, slice_get, get_or, length, drop, ◌+◌, not, ap₂, add-one, append_assoc, drop-cons, arith}
use Rattle.std.proofs.lemmas.Slice.Eq.{bytes_eq-Decides}
use Rattle.std.specs.List.{list_any}
use Rattle.std.specs.Str.{bytes_eq}
use Rattle.indexmap.specs.IndexSet.{insert_key}
use Rattle.combined_index.specs.Finals.{IsTaken, NoneTaken}
use Rattle.combined_index.specs.Noted.{IsGiven, LeastTaken, Noted, lesser, text_of}
use Rattle.ir_tree.specs.NameOrder.{comes_before}
use Rattle.combined_index.proofs.Order.{AtMost, at_most_before, at_most_itself, at_most_not_before, at_most_through}

abbrev pub Names : Type 0
Names = List (Option (List ℕ))

inside : {X : Type 0} {x y : X} → Some x ≡ Some y → x ≡ y
inside e = cc

no_some : {X : Type 0} {x : X} → None ≡ Some x → ⊥
no_some e = cc

-- ---- one more place

-- what stands at a place stands there with one more behind
still : (names : Names) (x : Option (List ℕ)) (i : ℕ) (y : Option (List ℕ)) → slice_get names i ≡ Some y → slice_get (names ++ x ∷ []) i ≡ Some y
still [] x i y h = absurd (no_some h)
still (z ∷ zs) x zero y h = h
still (z ∷ zs) x (suc i) y h = still zs x i y h

last : (names : Names) (x : Option (List ℕ)) → slice_get (names ++ x ∷ []) (length names) ≡ Some x
last [] x = refl
last (z ∷ zs) x = last zs x

-- and what stands there now did before, or is the last
before_or_last : (names : Names) (x : Option (List ℕ)) (i : ℕ) (y : Option (List ℕ)) → slice_get (names ++ x ∷ []) i ≡ Some y
    → (slice_get names i ≡ Some y) ⊎ ((i ≡ length names) × (x ≡ y))
before_or_last [] x zero y h = inr (refl, inside h)
before_or_last [] x (suc i) y h = absurd (no_some h)
before_or_last (z ∷ zs) x zero y h = inl h
before_or_last (z ∷ zs) x (suc i) y h = further (before_or_last zs x i y h)
  where
    further : (slice_get zs i ≡ Some y) ⊎ ((i ≡ length zs) × (x ≡ y)) → (slice_get zs i ≡ Some y) ⊎ ((suc i ≡ suc (length zs)) × (x ≡ y))
    further (inl e) = inl e
    further (inr e) = inr (ap suc e.0, e.1)

within : (names : Names) (i : ℕ) (y : Option (List ℕ)) → slice_get names i ≡ Some y → i < length names
within [] i y h = absurd (no_some h)
within (z ∷ zs) zero y h = omega arith
within (z ∷ zs) (suc i) y h = let rest = within zs i y h in omega arith

-- ---- one more name

given_still : (names : Names) (x : Option (List ℕ)) (n : List ℕ) → IsGiven names n → IsGiven (names ++ x ∷ []) n
given_still names x n (i, h) = (i, still names x i (Some n) h)

given_last : (names : Names) (n : List ℕ) → IsGiven (names ++ Some n ∷ []) n
given_last names n = (length names, last names (Some n))

given_then : (names : Names) (x : Option (List ℕ)) (n : List ℕ) → IsGiven (names ++ x ∷ []) n → IsGiven names n ⊎ (x ≡ Some n)
given_then names x n (i, h) = by (before_or_last names x i (Some n) h)
  where
    by : (slice_get names i ≡ Some (Some n)) ⊎ ((i ≡ length names) × (x ≡ Some n)) → IsGiven names n ⊎ (x ≡ Some n)
    by (inl e) = inl (i, e)
    by (inr e) = inr e.1

taken_still : (names : Names) (x : Option (List ℕ)) (n : List ℕ) → IsTaken names n → IsTaken (names ++ x ∷ []) n
taken_still names x n (i, j, lt, h, g) = (i, j, lt, still names x i (Some n) h, still names x j (Some n) g)

taken_last : (names : Names) (n : List ℕ) → IsGiven names n → IsTaken (names ++ Some n ∷ []) n
taken_last names n (i, h) = (i, length names, within names i (Some n) h, still names (Some n) i (Some n) h, last names (Some n))

taken_then : (names : Names) (x : Option (List ℕ)) (n : List ℕ) → IsTaken (names ++ x ∷ []) n → IsTaken names n ⊎ (IsGiven names n × (x ≡ Some n))
taken_then names x n (i, j, lt, h, g) = by (before_or_last names x i (Some n) h) (before_or_last names x j (Some n) g)
  where
    by : (slice_get names i ≡ Some (Some n)) ⊎ ((i ≡ length names) × (x ≡ Some n)) → (slice_get names j ≡ Some (Some n)) ⊎ ((j ≡ length names) × (x ≡ Some n))
        → IsTaken names n ⊎ (IsGiven names n × (x ≡ Some n))
    by (inl e) (inl f) = inl (i, j, lt, e, f)
    by (inl e) (inr f) = inr ((i, e), f.1)
    by (inr e) (inl f) = let low = within names j (Some n) f in absurd (omega (arith, e.0))
    by (inr e) (inr f) = absurd (omega (arith, e.0, f.0))

-- ---- the names that are known

abbrev alike : Bor (List ℕ) → Bor (List ℕ) → Bool
alike x y = bytes_eq x.now y.now

abbrev pub is_key : List (Bor (List ℕ)) → List ℕ → Bool
is_key keys n = list_any (λ key. bytes_eq n key.now) keys

key_then : (keys : List (Bor (List ℕ))) (k : Bor (List ℕ)) (n : List ℕ) → is_key (keys ++ k ∷ []) n ≡ (is_key keys n || bytes_eq n k.now)
key_then [] k n = or_none (bytes_eq n k.now)
  where
    or_none : (b : Bool) → (b || false) ≡ b
    or_none true = refl
    or_none false = refl
key_then (x ∷ xs) k n = ap (λ (b : Bool). bytes_eq n x.now || b) (key_then xs k n) ∙ grouped (bytes_eq n x.now)
  where
    grouped : (a : Bool) → (a || (is_key xs n || bytes_eq n k.now)) ≡ ((a || is_key xs n) || bytes_eq n k.now)
    grouped true = refl
    grouped false = refl

abbrev KeysAre : List (Bor (List ℕ)) → Names → Type 0
KeysAre keys names = (n : List ℕ) → (is_key keys n ≡ true) ↔ IsGiven names n

-- a name that was there
keys_same : (keys : List (Bor (List ℕ))) (names : Names) (k : List ℕ) → KeysAre keys names → IsGiven names k → KeysAre keys (names ++ Some k ∷ [])
keys_same keys names k are there n = (λ h. given_still names (Some k) n ((are n).0 h), λ g. (are n).1 (by (given_then names (Some k) n g)))
  where
    by : IsGiven names n ⊎ (Some k ≡ Some n) → IsGiven names n
    by (inl g) = g
    by (inr e) = subst (IsGiven names) (inside e) there

-- and one that wasn't
keys_more : (keys : List (Bor (List ℕ))) (names : Names) (k : Bor (List ℕ)) → KeysAre keys names → KeysAre (keys ++ k ∷ []) (names ++ Some k.now ∷ [])
keys_more keys names k are n = (λ h. to (is_key keys n) (bytes_eq n k.now) refl refl (sym (key_then keys k n) ∙ h), λ g. key_then keys k n ∙ back (given_then names (Some k.now) n g))
  where
    to : (a b : Bool) → is_key keys n ≡ a → bytes_eq n k.now ≡ b → (is_key keys n || bytes_eq n k.now) ≡ true → IsGiven (names ++ Some k.now ∷ []) n
    to true b ea eb h = given_still names (Some k.now) n ((are n).0 ea)
    to false true ea eb h = subst (IsGiven (names ++ Some k.now ∷ [])) (sym ((bytes_eq-Decides n k.now).0 eb)) (given_last names k.now)
    to false false ea eb h = let never : false ≡ true = sym (λ i. ea i || eb i) ∙ h in cc

    or_true : (a : Bool) → (a || true) ≡ true
    or_true true = refl
    or_true false = refl

    back : IsGiven names n ⊎ (Some k.now ≡ Some n) → (is_key keys n || bytes_eq n k.now) ≡ true
    back (inl g) = ap (λ (b : Bool). b || bytes_eq n k.now) ((are n).1 g)
    back (inr e) = ap (λ (b : Bool). is_key keys n || b) ((bytes_eq-Decides n k.now).1 (sym (inside e))) ∙ or_true (is_key keys n)

-- ---- the least

-- a name that wasn't given takes none
least_same : (names : Names) (k : List ℕ) (best : Option (List ℕ)) → (IsGiven names k → ⊥) → LeastTaken names best → LeastTaken (names ++ Some k ∷ []) best
least_same names k best unseen is = by best is
  where
    before : (n : List ℕ) → IsTaken (names ++ Some k ∷ []) n → IsTaken names n
    before n t = which (taken_then names (Some k) n t)
      where
        which : IsTaken names n ⊎ (IsGiven names n × (Some k ≡ Some n)) → IsTaken names n
        which (inl t) = t
        which (inr g) = absurd (unseen (subst (IsGiven names) (sym (inside g.1)) g.0))

    by : (best : Option (List ℕ)) → LeastTaken names best → LeastTaken (names ++ Some k ∷ []) best
    by None free = λ n t. free n (before n t)
    by (Some b) is = record { one = taken_still names (Some k) b is.one; least = λ other t. is.least other (before other t) }

-- a name that was given is taken
least_then : (names : Names) (k : List ℕ) (best : Option (List ℕ)) → IsGiven names k → LeastTaken names best → LeastTaken (names ++ Some k ∷ []) (lesser best k)
least_then names k None there free = record { one = taken_last names k there; least = λ other t. least other (taken_then names (Some k) other t) }
  where
    least : (other : List ℕ) → IsTaken names other ⊎ (IsGiven names other × (Some k ≡ Some other)) → AtMost k other
    least other (inl t) = absurd (free other t)
    least other (inr g) = subst (AtMost k) (inside g.1) (at_most_itself k)
least_then names k (Some b) there is = by (comes_before k b) refl
  where
    low : (r : List ℕ) → AtMost r k → AtMost r b → (other : List ℕ) → IsTaken (names ++ Some k ∷ []) other → AtMost r other
    low r rk rb other t = which (taken_then names (Some k) other t)
      where
        which : IsTaken names other ⊎ (IsGiven names other × (Some k ≡ Some other)) → AtMost r other
        which (inl t) = at_most_through r b other rb (is.least other t)
        which (inr g) = subst (AtMost r) (inside g.1) rk

    by : (v : Bool) → comes_before k b ≡ v → LeastTaken (names ++ Some k ∷ []) (lesser (Some b) k)
    by true h =
        subst (LeastTaken (names ++ Some k ∷ [])) (sym (ap (λ (c : Bool). cond c (Some k) (Some b)) h))
        (record { one = taken_last names k there; least = low k (at_most_itself k) (at_most_before k b h) })
    by false h =
        subst (LeastTaken (names ++ Some k ∷ [])) (sym (ap (λ (c : Bool). cond c (Some k) (Some b)) h))
        (record { one = taken_still names (Some k) b is.one; least = low b (at_most_not_before k b h) (at_most_itself b) })

-- ---- all of it

pub none_noted : Noted [] [] None
none_noted = record {
  given = λ n. (λ h. absurd (never h), λ g. absurd (no_some g.1));
  least = λ n t. no_some t.3;
}
  where
    never : false ≡ true → ⊥
    never e = cc

-- a symbol that isn't live has no name
pub noted_nameless : (names : Names) (keys : List (Bor (List ℕ))) (best : Option (List ℕ)) → Noted names keys best → Noted (names ++ None ∷ []) keys best
noted_nameless names keys best noted = record {
  given = λ n. (λ h. given_still names None n ((noted.given n).0 h), λ g. (noted.given n).1 (given n (given_then names None n g)));
  least = by best noted.least;
}
  where
    given : (n : List ℕ) → IsGiven names n ⊎ (None ≡ Some n) → IsGiven names n
    given n (inl g) = g
    given n (inr e) = absurd (no_some e)

    before : (n : List ℕ) → IsTaken names n ⊎ (IsGiven names n × (None ≡ Some n)) → IsTaken names n
    before n (inl t) = t
    before n (inr g) = absurd (no_some g.1)

    by : (best : Option (List ℕ)) → LeastTaken names best → LeastTaken (names ++ None ∷ []) best
    by None free = λ n t. free n (before n (taken_then names None n t))
    by (Some b) is = record { one = taken_still names None b is.one; least = λ other t. is.least other (before other (taken_then names None other t)) }

-- a name that comes first
pub noted_new : (names : Names) (keys : List (Bor (List ℕ))) (best : Option (List ℕ)) (k : Bor (List ℕ)) → is_key keys k.now ≡ false
    → Noted names keys best → Noted (names ++ Some k.now ∷ []) (insert_key alike keys k) best
noted_new names keys best k e noted =
    subst (λ (ks : List (Bor (List ℕ))). Noted (names ++ Some k.now ∷ []) ks best) (sym (ap (λ (b : Bool). cond b keys (keys ++ k ∷ [])) e))
    (record { given = keys_more keys names k noted.given; least = least_same names k.now best (λ g. let never : false ≡ true = sym e ∙ (noted.given k.now).1 g in cc) noted.least })

-- a name that comes again
pub noted_again : (names : Names) (keys : List (Bor (List ℕ))) (best : Option (List ℕ)) (k : Bor (List ℕ)) → is_key keys k.now ≡ true
    → Noted names keys best → Noted (names ++ Some k.now ∷ []) (insert_key alike keys k) (lesser best k.now)
noted_again names keys best k e noted =
    subst (λ (ks : List (Bor (List ℕ))). Noted (names ++ Some k.now ∷ []) ks (lesser best k.now)) (sym (ap (λ (b : Bool). cond b keys (keys ++ k ∷ [])) e))
    (record { given = keys_same keys names k.now noted.given ((noted.given k.now).0 e); least = least_then names k.now best ((noted.given k.now).0 e) noted.least })

-- ---- as the code has it

not_true : (b : Bool) → not b ≡ true → b ≡ false
not_true true h = sym h
not_true false h = refl

not_false : (b : Bool) → not b ≡ false → b ≡ true
not_false true h = refl
not_false false h = sym h

module _ (names : Names) (keys then : List (Bor (List ℕ))) (best : Option (List ℕ)) (k : Bor (List ℕ)) (x : Option (List ℕ)) where
  pub note_new : x ≡ Some k.now → then ≡ insert_key alike keys k → not (is_key keys k.now) ≡ true → Noted names keys best → Noted (names ++ x ∷ []) then best
  note_new is keys_are free noted =
      subst (λ (ks : List (Bor (List ℕ))). Noted (names ++ x ∷ []) ks best) (sym keys_are)
      (subst (λ (y : Option (List ℕ)). Noted (names ++ y ∷ []) (insert_key alike keys k) best) (sym is) (noted_new names keys best k (not_true (is_key keys k.now) free) noted))

  pub note_again : x ≡ Some k.now → then ≡ insert_key alike keys k → not (is_key keys k.now) ≡ false → (least : Option (List ℕ)) → least ≡ lesser best k.now
      → Noted names keys best → Noted (names ++ x ∷ []) then least
  note_again is keys_are there least least_is noted =
      subst (Noted (names ++ x ∷ []) then) (sym least_is)
      (subst (λ (ks : List (Bor (List ℕ))). Noted (names ++ x ∷ []) ks (lesser best k.now)) (sym keys_are)
      (subst (λ (y : Option (List ℕ)). Noted (names ++ y ∷ []) (insert_key alike keys k) (lesser best k.now)) (sym is) (noted_again names keys best k (not_false (is_key keys k.now) there) noted)))

-- one more item is done
pub one_done : (done names : Names) (i : ℕ) (x : Option (List ℕ)) → i < length names → x ≡ get_or names i x → done ++ drop i names ≡ names
    → (done ++ x ∷ []) ++ drop (i + 1) names ≡ names
one_done done names i x lt is so_far =
    append_assoc done (x ∷ []) (drop (i + 1) names)
    ∙ ap (λ (z : Names). done ++ z) (ap₂ (λ (y : Option (List ℕ)) (n : ℕ). y ∷ drop n names) is (add-one i) ∙ sym (drop-cons names i x lt)) ∙ so_far

-- where no name is told
pub none_taken : (names given : Names) (told : Option (Bor (List ℕ))) → given ≡ names → LeastTaken given (text_of told) → told ≡ None → NoneTaken names
none_taken names given told is least none = subst NoneTaken is (subst (λ (o : Option (Bor (List ℕ))). LeastTaken given (text_of o)) none least)
