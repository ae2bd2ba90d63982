-- The reader of pieces one behind another, each from the state that the one before left and at most so many, reads them.
use Rattle.std.proofs.Common.{◌≡◌, ℕ, zero, suc, Bool, true, false, ◌||◌, ◌⊎◌, inl, inr, List, [], ◌∷◌, ◌++◌, refl, sym, ap, subst, ◌∙◌}
use Rattle.std.proofs.lemmas.List.{append-nil}
use Rattle.ir_parse_parts.specs.Alphabet.{Alphabet, AllReal, is_number}
use Rattle.ir_parse_parts.specs.Chained.{Chain}
use Rattle.ir_parse_parts.specs.Forms as form
use Rattle.ir_parse_parts.specs.Forms.{Form}
use Rattle.ir_parse_parts.specs.Lawful.{Lawful}
use Rattle.ir_parse_parts.specs.Readers.{Reader, ◌>>=◌, done}
use Rattle.ir_parse_parts.proofs.Composed.{Begun, append_is_nil, cons_is, cons_not_nil, gives_lawful, both_lawful, pick_lawful, barred_lawful, same_form, widened}
use Rattle.ir_parse_bodies.specs.Successive.{Successive, successive_at}

never : false ≡ true → ⊥
never e = cc

left_only : (b : Bool) → b || false ≡ true → b ≡ true
left_only true d = refl
left_only false d = d

or_right : (a b : Bool) → b ≡ true → a || b ≡ true
or_right true b e = refl
or_right false b e = e

module _ {T S A : Type 0} (alphabet : Alphabet T) (final : S → Bool) (always : (s : S) → final s ≡ true) (piece wide : S → Form T (A × S)) (one : S → Reader T (A × S)) (begins first more : T → Bool) (laws : (s : S) → Lawful alphabet (piece s) (wide s) (one s) first more false)
    (alike : (t u : T) → is_number alphabet t ≡ true → alphabet.class u ≡ alphabet.class t → begins t ≡ begins u) (within : (t : T) → first t ≡ true → begins t ≡ true) (apart : (t : T) → more t ≡ true → begins t ≡ true → ⊥)
    (opens : (s : S) (t : T) → begins t ≡ true → (more' : List T) × (x : A × S) × wide s (t ∷ more') x × AllReal alphabet more') where
  abbrev after : T → Bool
  after t = more t || begins t

  -- ---- where none may stand

  none_there : (s : S) (ts : List T) (as' : List A) → form.gives [] ts as' → Successive piece zero s ts as'
  none_there s ts as' n = subst (λ (x : List A). Successive piece zero s ts x) (sym n.1) n.0

  none_back : (s : S) (ts : List T) (as' : List A) → Successive piece zero s ts as' → form.gives [] ts as'
  none_back s ts [] e = (e, refl)
  none_back s ts (a ∷ as') e = absurd e

  none_over : (s : S) (ts : List T) (as' : List A) → form.gives [] ts as' → Chain final wide s ts as'
  none_over s ts as' n = subst (λ (x : List A). Chain final wide s ts x) (sym n.1) (always s, n.0)

  chain_opens : (s : S) (t : T) → begins t ≡ true → (more' : List T) × (as' : List A) × Chain final wide s (t ∷ more') as' × AllReal alphabet more'
  chain_opens s t e =
      let o = opens s t e in
      (o.0, o.1.0 ∷ [], (t ∷ o.0, [], o.1.1, sym (append-nil (t ∷ o.0)), o.2, (always o.1.1, refl)), o.3)

  chain_starts : (s : S) (t : T) (ts : List T) (as' : List A) → Chain final wide s (t ∷ ts) as' → first t ≡ true
  chain_starts s t ts [] c = absurd (cons_not_nil t ts c.1)
  chain_starts s t ts (a ∷ as') (p, q, next, e, d, c) = by_front p e d
    where
      by_front : (p : List T) → t ∷ ts ≡ p ++ q → wide s p (a, next) → first t ≡ true
      by_front [] e d = absurd (never ((laws s).broad.nothing (a, next) d))
      by_front (u ∷ p) e d = ap first (cons_is t u ts (p ++ q) e).0 ∙ (laws s).broad.starts u p (a, next) d

  none_or_begun : (s : S) (ts : List T) (as' : List A) → Chain final wide s ts as' → form.gives [] ts as' ⊎ Begun begins ts
  none_or_begun s ts [] c = inl (c.1, refl)
  none_or_begun s [] (a ∷ as') (p, q, next, e, d, c) = absurd (never ((laws s).broad.nothing (a, next) (subst (λ (y : List T). wide s y (a, next)) (append_is_nil p q (sym e)).0 d)))
  none_or_begun s (t ∷ ts) (a ∷ as') c = inr (within t (chain_starts s t ts (a ∷ as') c))

  none_starts : (s : S) (t : T) (ts : List T) (as' : List A) → Successive piece zero s (t ∷ ts) as' → first t ≡ true
  none_starts s t ts [] e = absurd (cons_not_nil t ts e)
  none_starts s t ts (a ∷ as') e = absurd e

  none_lawful : (s : S) → Lawful alphabet (Successive piece zero s) (Chain final wide s) (successive_at begins one zero s) first after true
  none_lawful s =
      let b = barred_lawful alphabet (Successive piece zero s) (form.gives []) (Chain final wide s) (done []) begins (λ _. false) (λ _. false) true (same_form alphabet (gives_lawful alphabet []) (none_there s) (none_back s) (λ ts as' n. n) (λ ts as' n. n)) (none_over s) (none_or_begun s)
      (λ t u n m. inl (alike t u n m)) (λ t e. absurd (never e)) (chain_opens s) in
      let w = widened alphabet (λ t. false || begins t) after b (λ t e. e) (λ t e. or_right (more t) (begins t) e) in
      record {
        sound = w.sound;
        complete = w.complete;
        starts = none_starts s;
        nothing = w.nothing;
        some = w.some;
        viable = w.viable;
        local = w.local;
        number = w.number;
        swap = w.swap;
        contains = w.contains;
        limit = w.limit;
        broad = record { starts = chain_starts s; nothing = w.broad.nothing; reads = w.broad.reads };
      }

  -- ---- where some may stand

  abbrev one_more : ℕ → S → Form T (List A)
  one_more room s = form.◌>>=◌ (piece s) (λ x. form.◌>>=◌ (Successive piece room x.1) (λ l. form.gives (x.0 ∷ l)))

  abbrev wide_more : S → Form T (List A)
  wide_more s = form.◌>>=◌ (wide s) (λ x. form.◌>>=◌ (Chain final wide x.1) (λ l. form.gives (x.0 ∷ l)))

  there : (room : ℕ) (s : S) (ts : List T) (as' : List A) → form.either (one_more room s) (form.gives []) ts as' → Successive piece (suc room) s ts as'
  unfolding form.either form.◌>>=◌
  there room s ts as' (inl (p, q, x, e, d, (q', r, l, e', d', n))) =
      let whole : ts ≡ p ++ q' = e ∙ ap (λ (y : List T). p ++ y) (e' ∙ ap (λ (y : List T). q' ++ y) n.0 ∙ append-nil q') in
      subst (λ (y : List A). Successive piece (suc room) s ts y) (sym n.1) (p, q', x.1, whole, d, d')
  there room s ts as' (inr n) = subst (λ (y : List A). Successive piece (suc room) s ts y) (sym n.1) n.0

  back : (room : ℕ) (s : S) (ts : List T) (as' : List A) → Successive piece (suc room) s ts as' → form.either (one_more room s) (form.gives []) ts as'
  unfolding form.either form.◌>>=◌
  back room s ts [] e = inr (e, refl)
  back room s ts (a ∷ as') (p, q, next, e, d, d') = inl (p, q, (a, next), e, d, (q, [], as', sym (append-nil q), d', (refl, refl)))

  over : (s : S) (ts : List T) (as' : List A) → form.either (wide_more s) (form.gives []) ts as' → Chain final wide s ts as'
  unfolding form.either form.◌>>=◌
  over s ts as' (inl (p, q, x, e, d, (q', r, l, e', d', n))) =
      let whole : ts ≡ p ++ q' = e ∙ ap (λ (y : List T). p ++ y) (e' ∙ ap (λ (y : List T). q' ++ y) n.0 ∙ append-nil q') in
      subst (λ (y : List A). Chain final wide s ts y) (sym n.1) (p, q', x.1, whole, d, d')
  over s ts as' (inr n) = none_over s ts as' n

  under : (s : S) (ts : List T) (as' : List A) → Chain final wide s ts as' → form.either (wide_more s) (form.gives []) ts as'
  unfolding form.either form.◌>>=◌
  under s ts [] c = inr (c.1, refl)
  under s ts (a ∷ as') (p, q, next, e, d, c) = inl (p, q, (a, next), e, d, (q, [], as', sym (append-nil q), c, (refl, refl)))

  first_only : (t : T) → first t || false ≡ true → first t ≡ true
  first_only t d = left_only (first t) d

  first_left : (t : T) → (first t || false) || false ≡ true → first t ≡ true
  first_left t d = left_only (first t) (left_only (first t || false) d)

  after_right : (t : T) → ((after t || more t) || false) || begins t ≡ true → after t ≡ true
  after_right t d = or4 (more t) (begins t) d
    where
      or4 : (m b : Bool) → (((m || b) || m) || false) || b ≡ true → m || b ≡ true
      or4 true b d = refl
      or4 false true d = refl
      or4 false false d = d

  pub successive_lawful : (room : ℕ) (s : S) → Lawful alphabet (Successive piece room s) (Chain final wide s) (successive_at begins one room s) first after true
  successive_lawful zero s = none_lawful s
  successive_lawful (suc room) s =
      let inner = λ (x : A × S). both_lawful alphabet (Successive piece room x.1) (Chain final wide x.1) (successive_at begins one room x.1) (λ l. form.gives (x.0 ∷ l)) (λ l. form.gives (x.0 ∷ l)) (λ l. done (x.0 ∷ l)) first after (λ _. false) (λ _. false) true true (successive_lawful room x.1) (λ l. gives_lawful alphabet (x.0 ∷ l)) (λ t e d. absurd (never d)) in
      let outer = both_lawful alphabet (piece s) (wide s) (one s) (λ x. form.◌>>=◌ (Successive piece room x.1) (λ l. form.gives (x.0 ∷ l))) (λ x. form.◌>>=◌ (Chain final wide x.1) (λ l. form.gives (x.0 ∷ l))) (λ x. successive_at begins one room x.1 >>= λ l. done (x.0 ∷ l)) first more first after false true (laws s) (λ x. widened alphabet first after (inner x) first_only (λ t d. d)) (λ t e d. apart t e (within t d)) in
      let picked = pick_lawful alphabet (one_more room s) (form.gives []) (wide_more s) (form.gives []) (one s >>= λ x. successive_at begins one room x.1 >>= λ l. done (x.0 ∷ l)) (done []) begins _ _ (λ _. false) (λ _. false) true outer (gives_lawful alphabet []) alike (λ t d. within t (left_only (first t) d)) (λ t d. absurd (never d)) in
      same_form alphabet (widened alphabet first after picked first_left after_right) (there room s) (back room s) (over s) (under s)
