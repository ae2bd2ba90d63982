-- Names in the order in which they come first, as one more comes.
use Rattle.std.proofs.Common.{◌≡◌, ◌∙◌, ◌||◌, ℕ, sym, ap, refl, Bool, true, false, not, cond, List, [], ◌∷◌, ◌++◌, filter}
use Rattle.std.proofs.lemmas.Cmp.{nat_list_eq_equiv}
use Rattle.std.specs.List.{list_any}
use Rattle.std.specs.Str.{bytes_eq}
use Rattle.ir_tree.specs.Once.{once, without}

abbrev pub is_in : List (List ℕ) → List ℕ → Bool
is_in names n = list_any (bytes_eq n) names

-- one more name, behind the others where it isn't there
abbrev pub and_name : List (List ℕ) → List ℕ → List (List ℕ)
and_name names n = cond (is_in names n) names (names ++ n ∷ [])

pub filter_true : {X : Type 0} (p : X → Bool) (x : X) (xs : List X) → p x ≡ true → filter p (x ∷ xs) ≡ x ∷ filter p xs
filter_true p x xs e = ap (λ (b : Bool). cond b (x ∷ filter p xs) (filter p xs)) e

pub filter_false : {X : Type 0} (p : X → Bool) (x : X) (xs : List X) → p x ≡ false → filter p (x ∷ xs) ≡ filter p xs
filter_false p x xs e = ap (λ (b : Bool). cond b (x ∷ filter p xs) (filter p xs)) e

pub filter_both : {X : Type 0} (p : X → Bool) (xs ys : List X) → filter p (xs ++ ys) ≡ filter p xs ++ filter p ys
filter_both {X = X} p [] ys = refl
filter_both {X = X} p (x ∷ xs) ys = by (p x) refl (filter_both p xs ys)
  where
    by : (b : Bool) → p x ≡ b → filter p (xs ++ ys) ≡ filter p xs ++ filter p ys → filter p ((x ∷ xs) ++ ys) ≡ filter p (x ∷ xs) ++ filter p ys
    by true e rest =
        filter_true p x (xs ++ ys) e ∙ ap (λ (z : List X). x ∷ z) rest ∙ sym (ap (λ (z : List X). z ++ filter p ys) (filter_true p x xs e))
    by false e rest =
        filter_false p x (xs ++ ys) e ∙ rest ∙ sym (ap (λ (z : List X). z ++ filter p ys) (filter_false p x xs e))

-- a name that isn't left out is found among the others as before
found_without : (n x : List ℕ) (names : List (List ℕ)) → bytes_eq n x ≡ false → is_in (without x names) n ≡ is_in names n
found_without n x [] apart = refl
found_without n x (y ∷ ys) apart = by (bytes_eq x y) refl (found_without n x ys apart)
  where
    other : bytes_eq x y ≡ true → bytes_eq n y ≡ false
    other e = nat_list_eq_equiv.symm n y ∙ sym (nat_list_eq_equiv.congr x y n e) ∙ nat_list_eq_equiv.symm x n ∙ apart

    by : (b : Bool) → bytes_eq x y ≡ b → is_in (without x ys) n ≡ is_in ys n → is_in (without x (y ∷ ys)) n ≡ is_in (y ∷ ys) n
    by true e rest =
        ap (λ (z : List (List ℕ)). is_in z n) (filter_false (λ other. not (bytes_eq x other)) y ys (ap not e)) ∙ rest
        ∙ sym (ap (λ (b : Bool). b || is_in ys n) (other e))
    by false e rest =
        ap (λ (z : List (List ℕ)). is_in z n) (filter_true (λ other. not (bytes_eq x other)) y ys (ap not e)) ∙ ap (λ (b : Bool). bytes_eq n y || b) rest

-- the name x before what comes of one more name n
name_before : (x n : List ℕ) (names : List (List ℕ)) → x ∷ without x (and_name names n) ≡ and_name (x ∷ without x names) n
name_before x n names = by (bytes_eq n x) (is_in names n) refl refl
  where
    here : bytes_eq n x ≡ true → without x (names ++ n ∷ []) ≡ without x names
    here e =
        filter_both (λ other. not (bytes_eq x other)) names (n ∷ [])
        ∙ ap (λ (z : List (List ℕ)). without x names ++ z) (filter_false (λ other. not (bytes_eq x other)) n [] (ap not (nat_list_eq_equiv.symm x n ∙ e)))
        ∙ nothing (without x names)
      where
        nothing : (z : List (List ℕ)) → z ++ [] ≡ z
        nothing [] = refl
        nothing (y ∷ ys) = ap (λ (l : List (List ℕ)). y ∷ l) (nothing ys)

    apart : bytes_eq n x ≡ false → without x (names ++ n ∷ []) ≡ without x names ++ n ∷ []
    apart e =
        filter_both (λ other. not (bytes_eq x other)) names (n ∷ [])
        ∙ ap (λ (z : List (List ℕ)). without x names ++ z) (filter_true (λ other. not (bytes_eq x other)) n [] (ap not (nat_list_eq_equiv.symm x n ∙ e)))

    by : (same there : Bool) → bytes_eq n x ≡ same → is_in names n ≡ there → x ∷ without x (and_name names n) ≡ and_name (x ∷ without x names) n
    by true true e f =
        ap (λ (b : Bool). x ∷ without x (cond b names (names ++ n ∷ []))) f
        ∙ sym (ap (λ (b : Bool). cond (b || is_in (without x names) n) (x ∷ without x names) ((x ∷ without x names) ++ n ∷ [])) e)
    by true false e f =
        ap (λ (b : Bool). x ∷ without x (cond b names (names ++ n ∷ []))) f
        ∙ ap (λ (z : List (List ℕ)). x ∷ z) (here e)
        ∙ sym (ap (λ (b : Bool). cond (b || is_in (without x names) n) (x ∷ without x names) ((x ∷ without x names) ++ n ∷ [])) e)
    by false true e f =
        ap (λ (b : Bool). x ∷ without x (cond b names (names ++ n ∷ []))) f
        ∙ sym (ap (λ (b : Bool). cond b (x ∷ without x names) ((x ∷ without x names) ++ n ∷ []))
        (ap (λ (b : Bool). b || is_in (without x names) n) e ∙ found_without n x names e ∙ f))
    by false false e f =
        ap (λ (b : Bool). x ∷ without x (cond b names (names ++ n ∷ []))) f
        ∙ ap (λ (z : List (List ℕ)). x ∷ z) (apart e)
        ∙ sym (ap (λ (b : Bool). cond b (x ∷ without x names) ((x ∷ without x names) ++ n ∷ []))
        (ap (λ (b : Bool). b || is_in (without x names) n) e ∙ found_without n x names e ∙ f))

-- one more name goes behind the others, unless it came before
pub once_more : (names : List (List ℕ)) (n : List ℕ) → once (names ++ n ∷ []) ≡ and_name (once names) n
once_more [] n = refl
once_more (x ∷ xs) n = ap (λ (z : List (List ℕ)). x ∷ without x z) (once_more xs n) ∙ name_before x n (once xs)
