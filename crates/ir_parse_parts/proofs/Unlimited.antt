-- As many of a form as there are, where the form without limits may refuse what begins it for its range: no limit is passed there.
use Rattle.std.proofs.Common.{◌≡◌, ℕ, zero, suc, ◌+◌, ◌≤◌, Bool, true, false, ◌||◌, List, [], ◌∷◌, ◌++◌, length, Result, Ok, Err, refl, sym, ap, subst, ◌∙◌, arith, inl, inr}
use Rattle.std.proofs.lemmas.List.{append-nil, length-append}
use Rattle.ir_parse_parts.specs.declared.fault.Fault.{Fault}
use Rattle.ir_parse_parts.specs.declared.fault.TokenFault.{TokenFault}
use Rattle.ir_parse_parts.specs.Alphabet.{Alphabet, is_literal, is_number}
use Rattle.ir_parse_parts.specs.Forms as form
use Rattle.ir_parse_parts.specs.Forms.{Form, Many, Star}
use Rattle.ir_parse_parts.specs.Faults.{LimitGoesOn}
use Rattle.ir_parse_parts.specs.Lawful.{ends, Swapped, Lawful, UpTo}
use Rattle.ir_parse_parts.specs.Readers.{Reader, done, ◌>>=◌, pick, many_at, star_at}
use Rattle.ir_parse_parts.proofs.Composed.{both_lawful, gives_lawful, pick_lawful, same_form, widened}

module _ {T : Type 0} (alphabet : Alphabet T) {A : Type 0} (g wide : Form T A) (f : Reader T A) (begins first more : T → Bool) (law : Lawful alphabet g wide f first more false) (alike : (t u : T) → is_number alphabet t ≡ true → alphabet.class u ≡ alphabet.class t → begins t ≡ begins u) (within : (t : T) → first t ≡ true → begins t ≡ true) (apart : (t : T) → more t ≡ true → begins t ≡ true → ⊥) where
  -- at most so many, and no fault behind them
  abbrev first_at : ℕ → Reader T (List A)
  first_at zero = done []
  first_at (suc room) = pick begins (f >>= λ a. first_at room >>= λ as'. done (a ∷ as')) (done [])

  abbrev after : T → Bool
  after t = more t || begins t

  module _ (form_of : Form T A) where
    abbrev one_more : ℕ → Form T (List A)
    one_more room = form.◌>>=◌ form_of (λ a. form.◌>>=◌ (Many form_of room) (λ as'. form.gives (a ∷ as')))

    there : (room : ℕ) (ts : List T) (as' : List A) → form.either (one_more room) (form.gives []) ts as' → Many form_of (suc room) ts as'
    unfolding form.either form.◌>>=◌
    there room ts as' (inl (p, q, a, e, s, (q', r, l, e', s', n))) =
        let whole : ts ≡ p ++ q' = e ∙ ap (λ (x : List T). p ++ x) (e' ∙ ap (λ (x : List T). q' ++ x) n.0 ∙ append-nil q') in
        subst (λ (x : List A). Many form_of (suc room) ts x) (sym n.1) (p, q', whole, s, s')
    there room ts as' (inr n) = subst (λ (x : List A). Many form_of (suc room) ts x) (sym n.1) n.0

    back : (room : ℕ) (ts : List T) (as' : List A) → Many form_of (suc room) ts as' → form.either (one_more room) (form.gives []) ts as'
    unfolding form.either form.◌>>=◌
    back room ts [] s = inr (s, refl)
    back room ts (a ∷ as') (p, q, e, s, s') = inl (p, q, a, e, s, (q, [], as', sym (append-nil q), s', (refl, refl)))

    none_there : (ts : List T) (as' : List A) → form.gives [] ts as' → Many form_of zero ts as'
    none_there ts as' n = subst (λ (x : List A). Many form_of zero ts x) (sym n.1) n.0

    none_back : (ts : List T) (as' : List A) → Many form_of zero ts as' → form.gives [] ts as'
    none_back ts [] s = (s, refl)
    none_back ts (a ∷ as') s = absurd s

    to_star : (n : ℕ) (ts : List T) (as' : List A) → Many form_of n ts as' → Star form_of ts as'
    to_star n ts [] s = s
    to_star zero ts (a ∷ as') s = absurd s
    to_star (suc n) ts (a ∷ as') (p, q, e, s, s') = (p, q, e, s, to_star n q as' s')

    module _ (some : (a : A) → form_of [] a → ⊥) where
      shorter : (n : ℕ) (ts p q : List T) (a : A) → length ts ≤ suc n → ts ≡ p ++ q → form_of p a → length q ≤ n
      shorter n ts [] q a le e s = absurd (some a s)
      shorter n ts (u ∷ p) q a le e s = omega (arith, le, ap length e, length-append p q)

      some_front : (ts p q : List T) (a : A) → length ts ≤ 0 → ts ≡ p ++ q → form_of p a → ⊥
      some_front ts [] q a le e s = some a s
      some_front ts (u ∷ p) q a le e s = omega (arith, le, ap length e, length-append p q)

      from_star : (n : ℕ) (ts : List T) (as' : List A) → length ts ≤ n → Star form_of ts as' → Many form_of n ts as'
      from_star zero ts [] le s = s
      from_star (suc n) ts [] le s = s
      from_star zero ts (a ∷ as') le (p, q, e, s, s') = absurd (some_front ts p q a le e s)
      from_star (suc n) ts (a ∷ as') le (p, q, e, s, s') = (p, q, e, s, from_star n q as' (shorter n ts p q a le e s) s')

  never : false ≡ true → ⊥
  never e = cc

  left_only : (b : Bool) → b || false ≡ true → b ≡ true
  left_only true d = refl
  left_only false d = d

  first_left : (t : T) → (first t || false) || false ≡ true → first t ≡ true
  first_left t d = left_only (first t) (left_only (first t || false) d)

  after_right : (t : T) → ((after t || more t) || false) || begins t ≡ true → after t ≡ true
  after_right t d = or4 (more t) (begins t) d
    where
      or4 : (m b : Bool) → (((m || b) || m) || false) || b ≡ true → m || b ≡ true
      or4 true b d = refl
      or4 false true d = refl
      or4 false false d = d

  first_lawful : (room : ℕ) → Lawful alphabet (Many g room) (Many wide room) (first_at room) first after true
  first_lawful zero = same_form alphabet (widened alphabet first after (gives_lawful alphabet []) (λ t d. absurd (never d)) (λ t d. absurd (never d))) (none_there g) (none_back g) (none_there wide) (none_back wide)
  first_lawful (suc room) =
      let inner = λ (a : A). both_lawful alphabet (Many g room) (Many wide room) (first_at room) (λ as'. form.gives (a ∷ as')) (λ as'. form.gives (a ∷ as')) (λ as'. done (a ∷ as')) first after (λ _. false) (λ _. false) true true (first_lawful room) (λ as'. gives_lawful alphabet (a ∷ as')) (λ t e d. absurd (never d)) in
      let outer = both_lawful alphabet g wide f (λ a. form.◌>>=◌ (Many g room) (λ as'. form.gives (a ∷ as'))) (λ a. form.◌>>=◌ (Many wide room) (λ as'. form.gives (a ∷ as'))) (λ a. first_at room >>= λ as'. done (a ∷ as')) first more first after false true law (λ a. widened alphabet first after (inner a) (λ t d. left_only (first t) d) (λ t d. d)) (λ t e d. apart t e (within t d)) in
      let picked = pick_lawful alphabet (one_more g room) (form.gives []) (one_more wide room) (form.gives []) (f >>= λ a. first_at room >>= λ as'. done (a ∷ as')) (done []) begins _ _ (λ _. false) (λ _. false) true outer (gives_lawful alphabet []) alike (λ t d. within t (left_only (first t) d)) (λ t d. absurd (never d)) in
      same_form alphabet (widened alphabet first after picked first_left after_right) (there g room) (back g room) (there wide room) (back wide room)

  takes_some : (front rest ts : List T) (t : T) (a : A) → g front a → t ∷ ts ≡ front ++ rest → length rest ≤ length ts
  takes_some [] rest ts t a s e = absurd (never (law.nothing a s))
  takes_some (u ∷ front) rest ts t a s e = omega (arith, ap length e, length-append front rest)

  -- with room enough it is no matter what comes where there is none
  enough : (n m : ℕ) (ts : List T) → length ts ≤ n → length ts ≤ m → first_at n ts ≡ many_at begins f m ts
  enough zero zero [] i j = refl
  enough zero (suc m) [] i j = refl
  enough (suc n) zero [] i j = refl
  enough (suc n) (suc m) [] i j = refl
  enough zero m (t ∷ ts) i j = absurd (omega (arith, i))
  enough (suc n) zero (t ∷ ts) i j = absurd (omega (arith, j))
  enough (suc n) (suc m) (t ∷ ts) i j = by_result (λ rest i' j'. enough n m rest i' j') (f (t ∷ ts)) refl
    where
      by_result : ((rest : List T) → length rest ≤ n → length rest ≤ m → first_at n rest ≡ many_at begins f m rest) → (r : Result (A × List T) Fault) → f (t ∷ ts) ≡ r → first_at (suc n) (t ∷ ts) ≡ many_at begins f (suc m) (t ∷ ts)
      by_result again (Err e) h = rw h refl
      by_result again (Ok x) h =
          let s = law.sound (t ∷ ts) x.1 x.0 h in
          let le = takes_some s.0 x.1 ts t x.0 s.2 s.1 in
          let same = again x.1 (omega (arith, i, le)) (omega (arith, j, le)) in
          rw (h, same) refl

  -- so all there are are the first so many
  are_first : (n : ℕ) (ts : List T) → length ts ≤ n → first_at n ts ≡ star_at begins f ts
  are_first n ts i = enough n (length ts) ts i (omega arith)

  some_read : (a : A) → g [] a → ⊥
  some_read a s = never (law.nothing a s)

  some_wide : (a : A) → wide [] a → ⊥
  some_wide a s = never (law.broad.nothing a s)

  widely : (n : ℕ) (ts : List T) (left : ℕ) → LimitGoesOn alphabet (Many wide n) ts left → LimitGoesOn alphabet (Star wide) ts left
  widely n ts left v = record { front = v.front; bad = v.bad; rest = v.rest; whole = v.whole; here = v.here; more = v.more; value = v.value; spelled = to_star wide n (v.front ++ v.bad ∷ v.more) v.value v.spelled; real = v.real }

  pub all_lawful : Lawful alphabet (Star g) (Star wide) (star_at begins f) first after true
  all_lawful = record {
    sound = λ ts rest as' e. let s = (first_lawful (length ts)).sound ts rest as' (are_first (length ts) ts (omega arith) ∙ e) in (s.0, s.1, to_star g (length ts) s.0 as' s.2);
    complete = λ front rest as' s d. sym (are_first (length (front ++ rest)) (front ++ rest) (omega arith)) ∙ (first_lawful (length (front ++ rest))).complete front rest as' (from_star g some_read (length (front ++ rest)) front as' (omega (arith, length-append front rest)) s) d;
    starts = λ t ts as' s. (first_lawful (length (t ∷ ts))).starts t ts as' (from_star g some_read (length (t ∷ ts)) (t ∷ ts) as' (omega arith) s);
    nothing = λ as' s. refl;
    some = ([], [], refl, tt);
    viable = λ ts e d. let v = (first_lawful (length ts)).viable ts e (are_first (length ts) ts (omega arith) ∙ d) in record { front = v.front; rest = v.rest; whole = v.whole; here = v.here; more = v.more; value = v.value; spelled = to_star g (length ts) (v.front ++ v.more) v.value v.spelled; real = v.real };
    local = λ front t rest rest' o d. local_all front t rest rest' o d;
    number = λ ts left d. let v = (first_lawful (length ts)).number ts left (are_first (length ts) ts (omega arith) ∙ d) in record { front = v.front; bad = v.bad; rest = v.rest; whole = v.whole; here = v.here; bad_is = v.bad_is; good = v.good; good_is = v.good_is; more = v.more; value = v.value; spelled = to_star g (length ts) (v.front ++ v.good ∷ v.more) v.value v.spelled; real = v.real };
    swap = λ front t u rest rest' o n n' d. swap_all front t u rest rest' o n n' d;
    contains = λ ts as' s. to_star wide (length ts) ts as' ((first_lawful (length ts)).contains ts as' (from_star g some_read (length ts) ts as' (omega arith) s));
    limit = λ ts left d. widely (length ts) ts left ((first_lawful (length ts)).limit ts left (are_first (length ts) ts (omega arith) ∙ d));
    broad = record {
      starts = λ t ts as' s. (first_lawful (length (t ∷ ts))).broad.starts t ts as' (from_star wide some_wide (length (t ∷ ts)) (t ∷ ts) as' (omega arith) s);
      nothing = λ as' s. refl;
      reads = λ front rest as' s d. subst (λ (y : Result (List A × List T) Fault). UpTo alphabet (front ++ rest) y (Ok (as', rest))) (are_first (length (front ++ rest)) (front ++ rest) (omega arith)) ((first_lawful (length (front ++ rest))).broad.reads front rest as' (from_star wide some_wide (length (front ++ rest)) front as' (omega (arith, length-append front rest)) s) d);
    };
  }
    where
      local_all : (front : List T) (t : T) (rest rest' : List T) (o : Result (List A) TokenFault) → star_at begins f (front ++ t ∷ rest) ≡ ends o (t ∷ rest) → star_at begins f (front ++ t ∷ rest') ≡ ends o (t ∷ rest')
      local_all front t rest rest' o d =
          let n : ℕ = length (front ++ t ∷ rest) + length (front ++ t ∷ rest') in
          let one = (first_lawful n).local front t rest rest' o (are_first n (front ++ t ∷ rest) (omega arith) ∙ d) in
          sym (are_first n (front ++ t ∷ rest') (omega arith)) ∙ one

      swap_all : (front : List T) (t u : T) (rest rest' : List T) (o : Result (List A) TokenFault) → is_number alphabet t ≡ true → alphabet.class u ≡ alphabet.class t → star_at begins f (front ++ t ∷ rest) ≡ ends o (t ∷ rest) → Swapped (is_literal alphabet t) o (star_at begins f (front ++ u ∷ rest')) u rest'
      swap_all front t u rest rest' o n n' d =
          let m : ℕ = length (front ++ t ∷ rest) + length (front ++ u ∷ rest') in
          let one = (first_lawful m).swap front t u rest rest' o n n' (are_first m (front ++ t ∷ rest) (omega arith) ∙ d) in
          subst (λ (y : Result (List A × List T) Fault). Swapped (is_literal alphabet t) o y u rest') (are_first m (front ++ u ∷ rest') (omega arith)) one
