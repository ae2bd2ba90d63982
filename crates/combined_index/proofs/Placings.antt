-- Where the first definition that prevails stands, as one more comes.
use Rattle.std.proofs.Common.{◌≡◌, ◌≢◌, ◌∙◌, ◌&&◌, ◌<◌, ◌+◌, ℕ, zero, suc, sym, ap, ap₂, subst, refl, Bool, true, false, cond, List, [], ◌∷◌, ◌++◌, length, take, find, Option, Some, None, nat_eq, is_none, slice_get, slice_set, slice_index_or, get_or-set_same, get_or-set_other, append_assoc}
use Rattle.std.proofs.lemmas.List.{take_more}
use Rattle.std.proofs.lemmas.Option.{slice_get_read}
use Rattle.std.specs.Cmp.{unsigned_Decides, nat_eq_equiv}
use Rattle.combined_index.specs.Combined.{prevails_for}
use Rattle.combined_index.specs.Tables.{ArePlaced, IsFound, found}
use Rattle.combined_index.specs.declared.definition.Definition.{Definition}
use Rattle.combined_index.specs.declared.places.DefinitionPlace.{DefinitionPlace}

-- ---- the first that passes

pub find_kept : {X : Type 0} (p : X → Bool) (xs : List X) (x y : X) → find p xs ≡ Some y → find p (xs ++ x ∷ []) ≡ Some y
find_kept p [] x y h = absurd (none h)
  where
    none : None ≡ Some y → ⊥
    none h = cc
find_kept p (a ∷ xs) x y h = by (p a) refl (find_kept p xs x y)
  where
    by : (b : Bool) → p a ≡ b → (find p xs ≡ Some y → find p (xs ++ x ∷ []) ≡ Some y) → find p ((a ∷ xs) ++ x ∷ []) ≡ Some y
    by true e rest = ap (λ (b : Bool). cond b (Some a) (find p (xs ++ x ∷ []))) e ∙ sym (ap (λ (b : Bool). cond b (Some a) (find p xs)) e) ∙ h
    by false e rest = ap (λ (b : Bool). cond b (Some a) (find p (xs ++ x ∷ []))) e ∙ rest (sym (ap (λ (b : Bool). cond b (Some a) (find p xs)) e) ∙ h)

pub find_last : {X : Type 0} (p : X → Bool) (xs : List X) (x : X) → find p xs ≡ None → find p (xs ++ x ∷ []) ≡ cond (p x) (Some x) None
find_last p [] x h = refl
find_last p (a ∷ xs) x h = by (p a) refl (find_last p xs x)
  where
    no : Some a ≡ None → ⊥
    no h = cc

    by : (b : Bool) → p a ≡ b → (find p xs ≡ None → find p (xs ++ x ∷ []) ≡ cond (p x) (Some x) None) → find p ((a ∷ xs) ++ x ∷ []) ≡ cond (p x) (Some x) None
    by true e rest = absurd (no (sym (ap (λ (b : Bool). cond b (Some a) (find p xs)) e) ∙ h))
    by false e rest = ap (λ (b : Bool). cond b (Some a) (find p (xs ++ x ∷ []))) e ∙ rest (sym (ap (λ (b : Bool). cond b (Some a) (find p xs)) e) ∙ h)

pub find_passed : {X : Type 0} (p : X → Bool) (xs : List X) (x : X) → p x ≡ false → find p (xs ++ x ∷ []) ≡ find p xs
find_passed p [] x h = ap (λ (b : Bool). cond b (Some x) None) h
find_passed {X = X} p (a ∷ xs) x h = ap (λ (z : Option X). cond (p a) (Some a) z) (find_passed p xs x h)

-- ---- one more definition

module _ (modules : List (List Definition)) (before : List Definition) (d : Definition) (places : List (Option DefinitionPlace)) (placed : ArePlaced modules places before) where
  passed : (n : ℕ) → prevails_for n d ≡ false → IsFound modules (slice_index_or places n None) (find (prevails_for n) (before ++ d ∷ []))
  passed n h = subst (λ (z : Option Definition). IsFound modules (slice_index_or places n None) z) (sym (find_passed (prevails_for n) before d h)) (placed n)

  -- a definition that doesn't prevail
  pub passed_over : d.prevails ≡ false → ArePlaced modules places (before ++ d ∷ [])
  passed_over h n = passed n (ap (λ (b : Bool). b && nat_eq d.symbol n) h)

  elsewhere : (n : ℕ) → nat_eq d.symbol n ≡ false → prevails_for n d ≡ false
  elsewhere n h = ap (λ (b : Bool). d.prevails && b) h ∙ never d.prevails
    where
      never : (b : Bool) → (b && false) ≡ false
      never true = refl
      never false = refl

  apart : (n : ℕ) → nat_eq d.symbol n ≡ false → n ≢ d.symbol
  apart n h e = let wrong : true ≡ false = sym (ap (nat_eq d.symbol) e ∙ nat_eq_equiv.refl d.symbol) ∙ h in cc

  -- the first that prevails for its symbol
  pub placed_here : (here : DefinitionPlace) → found modules here ≡ Some d → d.prevails ≡ true → d.symbol < length places → is_none (slice_index_or places d.symbol None) ≡ true
      → ArePlaced modules (slice_set places d.symbol (Some here)) (before ++ d ∷ [])
  placed_here here at wins lt free n = by (nat_eq d.symbol n) refl
    where
      empty : (p : Option DefinitionPlace) → is_none p ≡ true → IsFound modules p (find (prevails_for d.symbol) before) → find (prevails_for d.symbol) before ≡ None
      empty None h f = f
      empty (Some p) h f = absurd (no h)
        where
          no : false ≡ true → ⊥
          no h = cc

      own : IsFound modules (slice_index_or (slice_set places d.symbol (Some here)) d.symbol None) (find (prevails_for d.symbol) (before ++ d ∷ []))
      own =
          subst (λ (z : Option DefinitionPlace). IsFound modules z (find (prevails_for d.symbol) (before ++ d ∷ []))) (sym (get_or-set_same places d.symbol (Some here) None lt)) (
            d,
            find_last (prevails_for d.symbol) before d (empty (slice_index_or places d.symbol None) free (placed d.symbol))
                ∙ ap₂ (λ (a b : Bool). cond (a && b) (Some d) None) wins (nat_eq_equiv.refl d.symbol),
            at,
          )

      by : (b : Bool) → nat_eq d.symbol n ≡ b → IsFound modules (slice_index_or (slice_set places d.symbol (Some here)) n None) (find (prevails_for n) (before ++ d ∷ []))
      by true h = subst (λ (m : ℕ). IsFound modules (slice_index_or (slice_set places d.symbol (Some here)) m None) (find (prevails_for m) (before ++ d ∷ []))) ((unsigned_Decides d.symbol n).0 h) own
      by false h =
          subst (λ (z : Option DefinitionPlace). IsFound modules z (find (prevails_for n) (before ++ d ∷ []))) (sym (get_or-set_other places d.symbol n (Some here) None (apart n h)))
          (passed n (elsewhere n h))

  -- another did before
  pub placed_before : is_none (slice_index_or places d.symbol None) ≡ false → ArePlaced modules places (before ++ d ∷ [])
  placed_before taken n = by (nat_eq d.symbol n) refl
    where
      kept : (p : Option DefinitionPlace) → is_none p ≡ false → IsFound modules p (find (prevails_for d.symbol) before) → IsFound modules p (find (prevails_for d.symbol) (before ++ d ∷ []))
      kept None h f = absurd (no h)
        where
          no : true ≡ false → ⊥
          no h = cc
      kept (Some p) h f = (f.0, find_kept (prevails_for d.symbol) before d f.0 f.1, f.2)

      by : (b : Bool) → nat_eq d.symbol n ≡ b → IsFound modules (slice_index_or places n None) (find (prevails_for n) (before ++ d ∷ []))
      by true h =
          subst (λ (m : ℕ). IsFound modules (slice_index_or places m None) (find (prevails_for m) (before ++ d ∷ []))) ((unsigned_Decides d.symbol n).0 h)
          (kept (slice_index_or places d.symbol None) taken (placed d.symbol))
      by false h = passed n (elsewhere n h)

  -- the place that is there is written again
  pub placed_again : d.symbol < length places → is_none (slice_index_or places d.symbol None) ≡ false
      → ArePlaced modules (slice_set places d.symbol (slice_index_or places d.symbol None)) (before ++ d ∷ [])
  placed_again lt taken = subst (λ (z : List (Option DefinitionPlace)). ArePlaced modules z (before ++ d ∷ [])) (sym (again places d.symbol)) (placed_before taken)
    where
      again : (ps : List (Option DefinitionPlace)) (i : ℕ) → slice_set ps i (slice_index_or ps i None) ≡ ps
      again [] i = refl
      again (p ∷ ps) zero = refl
      again (p ∷ ps) (suc i) = ap (λ (z : List (Option DefinitionPlace)). p ∷ z) (again ps i)

-- ---- the definitions of a module, one after another

pub found_at : (modules : List (List Definition)) (k i : ℕ) (ds : List Definition) (d : Definition) → slice_index_or modules k [] ≡ ds → i < length ds → d ≡ slice_index_or ds i d
    → found modules (record { number = k; index = i }) ≡ Some d
found_at modules k i ds d is lt at = ap (λ (z : List Definition). slice_get z i) is ∙ slice_get_read ds (length ds) i d refl lt at

pub one_further : (modules : List (List Definition)) (places : List (Option DefinitionPlace)) (before ds : List Definition) (i : ℕ) (d : Definition) → i < length ds → d ≡ slice_index_or ds i d
    → ArePlaced modules places ((before ++ take i ds) ++ d ∷ []) → ArePlaced modules places (before ++ take (i + 1) ds)
one_further modules places before ds i d lt at =
    subst (ArePlaced modules places)
    (append_assoc before (take i ds) (d ∷ [])
    ∙ ap (λ (z : List Definition). before ++ z) (ap (λ (z : Definition). take i ds ++ z ∷ []) at ∙ sym (take_more ds i d lt)))
