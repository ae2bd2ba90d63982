-- The exported names are reached one by one.
use Rattle.std.proofs.Common.{◌≡◌, ◌∙◌, ◌⊎◌, inl, inr, ℕ, ◌+◌, ◌<◌, Bool, true, false, cond, List, [], ◌∷◌, ◌++◌, length, replicate, Option, Some, None, refl, sym, ap, subst, arith}
use Rattle.std.proofs.lemmas.List.{length-replicate}
use Rattle.std.proofs.lemmas.List.Elements.{Contains-append_left, Contains-push, Contains-push_cases}
use Rattle.std.specs.List.{Contains, position_from}
use Rattle.std.specs.Option.{is_some}
use Rattle.combined_index.specs.Combined.{Combined, is_plain, number_of, prevailing_of}
use Rattle.combined_index.specs.declared.definition.Definition.{Definition}
use Rattle.combined_index.specs.Liveness.{IsDefined, IsExported, refs}
use Rattle.combined_index.specs.LiveMarks.{IsStarted, exported, if_defined}
use Rattle.combined_index.specs.Reach.{starts}
use Rattle.combined_index.specs.Walking.{Grown, IsWalk}
use Rattle.combined_index.proofs.Growing.{alone}
use Rattle.combined_index.proofs.Starts.{no_member}

none_some : {X : Type 0} {x : X} → None ≡ Some x → ⊥
none_some h = cc

pub some_same : {X : Type 0} {x y : X} → Some x ≡ Some y → x ≡ y
some_same h = cc

position_inside : {X : Type 0} (t : X → Bool) (i : ℕ) (xs : List X) (n : ℕ) → position_from t i xs ≡ Some n → n < i + length xs
position_inside t i [] n h = absurd (none_some h)
position_inside t i (x ∷ xs) n h = by (t x) h (λ rest. position_inside t (i + 1) xs n rest)
  where
    by : (b : Bool) → cond b (Some i) (position_from t (i + 1) xs) ≡ Some n → (position_from t (i + 1) xs ≡ Some n → n < (i + 1) + length xs) → n < i + length (x ∷ xs)
    by true e ih = let same : i ≡ n = some_same e in omega (arith, same)
    by false e ih = let more : n < (i + 1) + length xs = ih e in omega (arith, more)

-- ---- the number of an exported name

pub exported_is : (c : Combined) (name : List ℕ) (n : ℕ) → exported c name ≡ Some n → (number_of c name ≡ Some n) × IsDefined c n
exported_is c name n h = by (number_of c name) refl h
  where
    defined : (m : ℕ) (o : Option Definition) → prevailing_of c m ≡ o → cond (is_some o) (Some m) None ≡ Some n → (m ≡ n) × IsDefined c n
    defined m None is e = absurd (none_some e)
    defined m (Some d) is e = let same : m ≡ n = some_same e in (same, (d, subst (λ (k : ℕ). prevailing_of c k ≡ Some d) same is))

    by : (o : Option ℕ) → number_of c name ≡ o → if_defined c o ≡ Some n → (number_of c name ≡ Some n) × IsDefined c n
    by None is e = absurd (none_some e)
    by (Some m) is e = let found : (m ≡ n) × IsDefined c n = defined m (prevailing_of c m) refl e in (is ∙ ap (λ (k : ℕ). Some k) found.0, found.1)

pub exported_there : (c : Combined) (name : List ℕ) (n : ℕ) → number_of c name ≡ Some n → IsDefined c n → exported c name ≡ Some n
exported_there c name n is d = ap (if_defined c) is ∙ ap (λ (o : Option Definition). cond (is_some o) (Some n) None) d.1

pub exported_inside : (c : Combined) (name : List ℕ) (n : ℕ) → exported c name ≡ Some n → n < length c.symbols
exported_inside c name n h =
    let inside : n < 0 + length c.symbols = position_inside (is_plain name) 0 c.symbols n (exported_is c name n h).0 in
    omega (arith, inside)

-- ---- one more name

module _ (c : Combined) (roots : List (List ℕ)) (name : List ℕ) where
  earlier : (b : ℕ) → IsExported c roots b → IsExported c (roots ++ name ∷ []) b
  earlier b e = (e.0, Contains-append_left roots (name ∷ []) e.0 e.1, e.2, e.3)

  which : (b : ℕ) → IsExported c (roots ++ name ∷ []) b → IsExported c roots b ⊎ (exported c name ≡ Some b)
  which b e =
      elim (Contains-push_cases roots name e.0 e.1) [
        | inl k ↦ inl (e.0, k, e.2, e.3)
        | inr same ↦ inr (exported_there c name b (ap (number_of c) same ∙ e.2) e.3)
      ]

  pub start-more : (s t : List Bool) (w v : List ℕ) (n : ℕ) → Some n ≡ exported c name → Grown s w (n ∷ []) t v → IsStarted c roots s w → IsStarted c (roots ++ name ∷ []) t v
  start-more s t w v n is g old = record {
    long = g.long ∙ old.long;
    sound = λ b h. elim (g.from b h) [ inl k ↦ earlier b (old.sound b k) | inr k ↦ subst (IsExported c (roots ++ name ∷ [])) (alone n b k) here ];
    begun = λ b e. elim (which b e) [
      | inl k ↦ g.stays b (old.begun b k)
      | inr k ↦ g.there b (subst (Contains (n ∷ [])) (some_same (is ∙ k)) (Contains-push [] n))
    ];
    marked = λ b h. elim (g.held b h) [ inl k ↦ g.stays b (old.marked b k) | inr k ↦ g.there b k ];
    waits = λ b h. elim (g.new b h) [ inl k ↦ g.waits b (old.waits b k) | inr k ↦ k ];
  }
    where
      found : (number_of c name ≡ Some n) × IsDefined c n
      found = exported_is c name n (sym is)

      here : IsExported c (roots ++ name ∷ []) n
      here = (name, Contains-push roots name, found.0, found.1)

  pub start-same : (s : List Bool) (w : List ℕ) → None ≡ exported c name → IsStarted c roots s w → IsStarted c (roots ++ name ∷ []) s w
  start-same s w is old = record {
    long = old.long;
    sound = λ b h. earlier b (old.sound b h);
    begun = λ b e. elim (which b e) [ inl k ↦ old.begun b k | inr k ↦ absurd (none_some (is ∙ k)) ];
    marked = old.marked;
    waits = old.waits;
  }

nothing : {X : Type 0} (b : X) → Contains {X = X} [] b → ⊥
nothing b h = let k : h.0 < 0 = h.1 in absurd (omega (arith, k))

pub start-none : (c : Combined) (n : ℕ) (s : List Bool) (w : List ℕ) → n ≡ length c.symbols → s ≡ replicate n false → w ≡ [] → IsStarted c [] s w
start-none c n s w long s_is w_is = subst (λ (z : List Bool). IsStarted c [] z w) (sym s_is) (subst (λ (z : List ℕ). IsStarted c [] (replicate n false) z) (sym w_is) (record {
  long = length-replicate n false ∙ long;
  sound = λ b h. absurd (no_member n b h);
  begun = λ b e. absurd (nothing e.0 e.1);
  marked = λ b h. absurd (nothing b h);
  waits = λ b h. absurd (no_member n b h);
}))

-- a walk begins there
pub started : (c : Combined) (roots : List (List ℕ)) (s : List Bool) (w : List ℕ) → IsStarted c roots s w → IsWalk (IsExported c roots) (refs c) s w
started c roots s w old = record {
  sound = λ b h. starts b (old.sound b h);
  begun = old.begun;
  marked = old.marked;
  followed = λ b h. inl (old.waits b h);
}
