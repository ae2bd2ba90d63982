-- The reader of pieces one behind another, each from the state that the one before left, reads them.
use Rattle.std.proofs.Common.{◌≡◌, ℕ, zero, suc, ◌+◌, ◌<◌, Bool, true, false, cond, ◌&&◌, not, List, [], ◌∷◌, ◌++◌, length, Result, Ok, Err, refl, sym, ap, subst, ◌∙◌, append_assoc, arith, inl, inr}
use Rattle.std.proofs.lemmas.List.{length-append}
use Rattle.ir_parse_parts.specs.declared.fault.Fault.{Fault}
use Rattle.ir_parse_parts.specs.declared.fault.TokenFault.{TokenFault}
use Rattle.ir_parse_parts.specs.declared.fault.TokenFault.TheVariants.{Syntax, Profile, Number, Limit}
use Rattle.ir_parse_parts.specs.Alphabet.{Alphabet, AllReal, is_literal, is_number}
use Rattle.ir_parse_parts.specs.Chained.{Chain, stops_here, chain_within, chain_at}
use Rattle.ir_parse_parts.specs.Faults.{LimitGoesOn, NumberGoesOn}
use Rattle.ir_parse_parts.specs.Forms.{Form}
use Rattle.ir_parse_parts.specs.Lawful.{ends, Stops, Swapped, GoesOn, Lawful, UpTo}
use Rattle.ir_parse_parts.specs.Readers.{Reader, fault_at, done, follow, ◌>>=◌}
use Rattle.ir_parse_parts.proofs.Composed.{reads, reads_is, wrong, wrong_is, cut_is, cons_is, cons_not_nil, append_is_nil, all_real, local_mid, bounded_behind, bounded_too}

and_parts : (a b : Bool) → a && b ≡ true → (a ≡ true) × (b ≡ true)
and_parts true b h = (refl, h)
and_parts false b h = absurd cc

-- ---- what a list of values ended with, without its first

abbrev joined : {A : Type 0} → A → Result (List A) TokenFault → Result (List A) TokenFault
joined a (Ok m) = Ok (a ∷ m)
joined a (Err k) = Err k

module _ {T A : Type 0} (a : A) where
  abbrev in_front : Result (List A × List T) Fault → Result (List A × List T) Fault
  in_front r = follow r (λ m. done (a ∷ m))

  ends_in_front : (o : Result (List A) TokenFault) (us : List T) → in_front (ends o us) ≡ ends (joined a o) us
  ends_in_front (Ok m) us = refl
  ends_in_front (Err k) us = refl

  without : (r : Result (List A × List T) Fault) (o : Result (List A) TokenFault) (us : List T) → in_front r ≡ ends o us → (o' : Result (List A) TokenFault) × (r ≡ ends o' us) × (o ≡ joined a o')
  without (Ok y) (Ok v) us h =
      let e = reads_is (a ∷ y.0) v y.1 us h in
      (Ok y.0, ap (λ (x : List T). reads y.0 x) e.1, ap (λ (x : List A). Ok x) (sym e.0))
  without (Ok y) (Err k) us h = absurd cc
  without (Err e) (Ok v) us h = absurd cc
  without (Err e) (Err k) us h = (Err k, h, refl)

  swapped_in_front : (o : Result (List A) TokenFault) (r : Result (List A × List T) Fault) (literal : Bool) (u : T) (rest : List T) → Swapped literal o r u rest → Swapped literal (joined a o) (in_front r) u rest
  swapped_in_front (Ok m) r literal u rest s = ap in_front s
  swapped_in_front (Err Number) r literal u rest s = tt
  swapped_in_front (Err Syntax) r literal u rest s = (s.0, ap in_front s.1)
  swapped_in_front (Err Profile) r literal u rest s = (s.0, ap in_front s.1)
  swapped_in_front (Err Limit) r literal u rest s = λ n. let w = s n in (w.0, ap in_front w.1)

module _ {T : Type 0} (alphabet : Alphabet T) where
  module _ {S A : Type 0} (final : S → Bool) (begins first more : S → T → Bool) (after : T → Bool) (g wide : S → Form T (A × S)) (f : S → Reader T (A × S)) (laws : (s : S) → Lawful alphabet (g s) (wide s) (f s) (first s) (more s) false)
      (alike : (s : S) (t u : T) → is_number alphabet t ≡ true → alphabet.class u ≡ alphabet.class t → begins s t ≡ begins s u) (within : (s : S) (t : T) → final s ≡ true → first s t ≡ true → begins s t ≡ true)
      (apart : (s next : S) (front : List T) (a : A) → wide s front (a, next) → (t : T) → more s t ≡ true → first next t ≡ true → ⊥) (ends_piece : (s : S) (t : T) → more s t ≡ true → after t ≡ true) (ends_chain : (s : S) (t : T) → final s ≡ true → begins s t ≡ true → after t ≡ true)
      (finish : (s : S) → (ts : List T) × (as' : List A) × Chain final g s ts as' × AllReal alphabet ts) where
    abbrev chain : S → List T → List A → Type 0
    chain = Chain final g

    abbrev chain_wide : S → List T → List A → Type 0
    chain_wide = Chain final wide

    abbrev at_most : ℕ → S → Reader T (List A)
    at_most = chain_within final begins f

    abbrev further : ℕ → A × S → Reader T (List A)
    further n x = at_most n x.1 >>= λ m. done (x.0 ∷ m)

    abbrev stop : S → List T → Bool
    stop = stops_here final begins

    is_false : (b : Bool) → (b ≡ true → ⊥) → b ≡ false
    is_false true never = absurd (never refl)
    is_false false never = refl

    not_empty : false ≡ true → ⊥
    not_empty e = cc

    stop_gives : (n : ℕ) (s : S) (ts : List T) → stop s ts ≡ true → at_most n s ts ≡ reads [] ts
    stop_gives zero s ts h = rw h refl
    stop_gives (suc n) s ts h = rw h refl

    stop_not : (n : ℕ) (s : S) (ts : List T) → stop s ts ≡ false → at_most (suc n) s ts ≡ follow (f s ts) (further n)
    stop_not n s ts h = rw h refl

    shorter : (s : S) (ts mid : List T) (x : A × S) → f s ts ≡ reads x mid → length mid < length ts
    shorter s ts mid x h =
        let p = (laws s).sound ts mid x h in
        by_front p.0 p.1 p.2
      where
        by_front : (front : List T) → ts ≡ front ++ mid → g s front x → length mid < length ts
        by_front [] e q = absurd (not_empty ((laws s).nothing x q))
        by_front (t ∷ front) e q = omega (arith, ap length e, length-append front mid)

    sound_chain : (n : ℕ) (s : S) (ts rest : List T) (as' : List A) → at_most n s ts ≡ reads as' rest → (front : List T) × (ts ≡ front ++ rest) × chain s front as'
    sound_chain zero s ts rest as' h = by_stop (stop s ts) refl h
      where
        by_stop : (b : Bool) → stop s ts ≡ b → cond b (reads {A = List A} [] ts) (fault_at Syntax ts) ≡ reads as' rest → (front : List T) × (ts ≡ front ++ rest) × chain s front as'
        by_stop true e d = let r = reads_is [] as' ts rest d in ([], r.1, subst (λ (x : List A). chain s [] x) r.0 ((and_parts _ _ e).0, refl))
        by_stop false e d = absurd cc
    sound_chain (suc n) s ts rest as' h = by_stop (λ next mid m. sound_chain n next mid rest m) (stop s ts) refl h
      where
        by_rest : ((next : S) (mid : List T) (m : List A) → at_most n next mid ≡ reads m rest → (front : List T) × (mid ≡ front ++ rest) × chain next front m) → (x : A × S) (mid : List T) → f s ts ≡ reads x mid → (r : Result (List A × List T) Fault) → at_most n x.1 mid ≡ r → follow r (λ m. done (x.0 ∷ m)) ≡ reads as' rest
            → (front : List T) × (ts ≡ front ++ rest) × chain s front as'
        by_rest again x mid e (Err d) i h = absurd cc
        by_rest again x mid e (Ok y) i h =
            let r = reads_is (x.0 ∷ y.0) as' y.1 rest h in
            let p = (laws s).sound ts mid x e in
            let q = again x.1 mid y.0 (i ∙ ap (λ (z : List T). reads y.0 z) r.1) in
            (p.0 ++ q.0, p.1 ∙ ap (λ (z : List T). p.0 ++ z) q.1 ∙ sym (append_assoc p.0 q.0 rest), subst (λ (z : List A). chain s (p.0 ++ q.0) z) r.0 (p.0, q.0, x.1, refl, p.2, q.2))

        by_piece : ((next : S) (mid : List T) (m : List A) → at_most n next mid ≡ reads m rest → (front : List T) × (mid ≡ front ++ rest) × chain next front m) → (r : Result ((A × S) × List T) Fault) → f s ts ≡ r → follow r (further n) ≡ reads as' rest → (front : List T) × (ts ≡ front ++ rest) × chain s front as'
        by_piece again (Err d) e h = absurd cc
        by_piece again (Ok x) e h = by_rest again x.0 x.1 e (at_most n x.0.1 x.1) refl h

        by_stop : ((next : S) (mid : List T) (m : List A) → at_most n next mid ≡ reads m rest → (front : List T) × (mid ≡ front ++ rest) × chain next front m) → (b : Bool) → stop s ts ≡ b → cond b (reads {A = List A} [] ts) (follow (f s ts) (further n)) ≡ reads as' rest
            → (front : List T) × (ts ≡ front ++ rest) × chain s front as'
        by_stop again true e d = let r = reads_is [] as' ts rest d in ([], r.1, subst (λ (x : List A). chain s [] x) r.0 ((and_parts _ _ e).0, refl))
        by_stop again false e d = by_piece again (f s ts) refl d

    starts_chain : (s : S) (t : T) (ts : List T) (as' : List A) → chain_wide s (t ∷ ts) as' → first s t ≡ true
    starts_chain s t ts [] c = absurd (cons_not_nil t ts c.1)
    starts_chain s t ts (a ∷ as') (front, back, next, e, p, c) = by_front front e p
      where
        by_front : (front : List T) → t ∷ ts ≡ front ++ back → wide s front (a, next) → first s t ≡ true
        by_front [] e p = absurd (not_empty ((laws s).broad.nothing (a, next) p))
        by_front (u ∷ front) e p = ap (first s) (cons_is t u ts (front ++ back) e).0 ∙ (laws s).broad.starts u front (a, next) p

    nothing_chain : (s : S) (as' : List A) → chain_wide s [] as' → final s ≡ true
    nothing_chain s [] c = c.0
    nothing_chain s (a ∷ as') (front, back, next, e, p, c) =
        absurd (not_empty ((laws s).broad.nothing (a, next) (subst (λ (x : List T). wide s x (a, next)) (append_is_nil front back (sym e)).0 p)))

    stops_then : (s : S) (rest : List T) → final s ≡ true → Stops after rest → stop s rest ≡ true
    stops_then s [] e d = rw e refl
    stops_then s (t ∷ rest) e d = rw (e, is_false (begins s t) (λ q. never (sym d ∙ ends_chain s t e q))) refl
      where
        never : false ≡ true → ⊥
        never h = cc

    goes_then : (s : S) (front rest : List T) (x : A × S) → wide s front x → stop s (front ++ rest) ≡ false
    goes_then s [] rest x p = absurd (not_empty ((laws s).broad.nothing x p))
    goes_then s (t ∷ front) rest x p = by_final (final s) refl
      where
        by_final : (b : Bool) → final s ≡ b → b && not (begins s t) ≡ false
        by_final false e = refl
        by_final true e = ap not (within s t e ((laws s).broad.starts t front x p))

    stops_between : (s next : S) (front back rest : List T) (a : A) (as' : List A) → wide s front (a, next) → chain_wide next back as' → Stops after rest → Stops (more s) (back ++ rest)
    stops_between s next front [] [] a as' p c d = tt
    stops_between s next front [] (t ∷ rest) a as' p c d = is_false (more s t) (λ m. never (sym d ∙ ends_piece s t m))
      where
        never : false ≡ true → ⊥
        never h = cc
    stops_between s next front (t ∷ back) rest a as' p c d = is_false (more s t) (λ m. apart s next front a p t m (starts_chain next t back as' c))

    contains_chain : (s : S) (ts : List T) (as' : List A) → chain s ts as' → chain_wide s ts as'
    contains_chain s ts [] c = c
    contains_chain s ts (a ∷ as') (front, back, next, e, p, c) = (front, back, next, e, (laws s).contains front (a, next) p, contains_chain next back as' c)

    complete_chain : (n : ℕ) (s : S) (front rest : List T) (as' : List A) → length (front ++ rest) < n → chain s front as' → Stops after rest → at_most n s (front ++ rest) ≡ reads as' rest
    complete_chain n s front rest [] lt c d = ap (λ (x : List T). at_most n s (x ++ rest)) c.1 ∙ stop_gives n s rest (stops_then s rest c.0 d)
    complete_chain zero s front rest (a ∷ as') lt c d = absurd (omega (arith, lt))
    complete_chain (suc n) s ts rest (a ∷ as') lt (front, back, next, e, p, c) d =
        let regrouped : ts ++ rest ≡ front ++ (back ++ rest) = ap (λ (y : List T). y ++ rest) e ∙ append_assoc front back rest in
        let one : f s (front ++ (back ++ rest)) ≡ reads (a, next) (back ++ rest) = (laws s).complete front (back ++ rest) (a, next) p (stops_between s next front back rest a as' ((laws s).contains front (a, next) p) (contains_chain next back as' c) d) in
        let less : length (back ++ rest) < n = omega (arith, lt, shorter s (front ++ (back ++ rest)) (back ++ rest) (a, next) one, ap length regrouped) in
        let two : at_most n next (back ++ rest) ≡ reads as' rest = complete_chain n next back rest as' less c d in
        ap (λ (y : List T). at_most (suc n) s y) regrouped ∙ stop_not n s (front ++ (back ++ rest)) (goes_then s front (back ++ rest) (a, next) ((laws s).contains front (a, next) p)) ∙ ap (λ (y : Result ((A × S) × List T) Fault). follow y (further n)) one ∙ ap (in_front a) two

    reads_chain : (n : ℕ) (s : S) (front rest : List T) (as' : List A) → length (front ++ rest) < n → chain_wide s front as' → Stops after rest → UpTo alphabet (front ++ rest) (at_most n s (front ++ rest)) (reads as' rest)
    reads_chain n s front rest [] lt c d = inl (ap (λ (x : List T). at_most n s (x ++ rest)) c.1 ∙ stop_gives n s rest (stops_then s rest c.0 d))
    reads_chain zero s front rest (a ∷ as') lt c d = absurd (omega (arith, lt))
    reads_chain (suc n) s ts rest (a ∷ as') lt (front, back, next, e, p, c) d =
        let regrouped : ts ++ rest ≡ front ++ (back ++ rest) = ap (λ (y : List T). y ++ rest) e ∙ append_assoc front back rest in
        let one = (laws s).broad.reads front (back ++ rest) (a, next) p (stops_between s next front back rest a as' p c d) in
        let goes : at_most (suc n) s (ts ++ rest) ≡ follow (f s (front ++ (back ++ rest))) (further n) = ap (λ (y : List T). at_most (suc n) s y) regrouped ∙ stop_not n s (front ++ (back ++ rest)) (goes_then s front (back ++ rest) (a, next) p) in
        subst (λ (y : List T). UpTo alphabet y (at_most (suc n) s (ts ++ rest)) (reads (a ∷ as') rest)) (sym regrouped) (subst (λ (y : Result (List A × List T) Fault). UpTo alphabet (front ++ (back ++ rest)) y (reads (a ∷ as') rest)) (sym goes) (by_piece one (λ less. reads_chain n next back rest as' less c d) (ap length regrouped)))
      where
        in_front_up : (us : List T) (r : Result (List A × List T) Fault) → UpTo alphabet us r (reads as' rest) → UpTo alphabet us (in_front a r) (reads (a ∷ as') rest)
        in_front_up us r (inl e) = inl (ap (in_front a) e)
        in_front_up us r (inr w) = inr (bounded_too (in_front a r) (λ x d. ap (in_front a) d) w)

        behind_up : (r free : Result (List A × List T) Fault) → UpTo alphabet (back ++ rest) r free → UpTo alphabet (front ++ (back ++ rest)) r free
        behind_up r free (inl e) = inl e
        behind_up r free (inr w) = inr (bounded_behind front (back ++ rest) w)

        by_piece : UpTo alphabet (front ++ (back ++ rest)) (f s (front ++ (back ++ rest))) (reads (a, next) (back ++ rest)) → (length (back ++ rest) < n → UpTo alphabet (back ++ rest) (at_most n next (back ++ rest)) (reads as' rest)) → length (ts ++ rest) ≡ length (front ++ (back ++ rest)) → UpTo alphabet (front ++ (back ++ rest)) (follow (f s (front ++ (back ++ rest))) (further n)) (reads (a ∷ as') rest)
        by_piece (inl i) again same =
            let less : length (back ++ rest) < n = omega (arith, lt, shorter s (front ++ (back ++ rest)) (back ++ rest) (a, next) i, same) in
            subst (λ (y : Result (List A × List T) Fault). UpTo alphabet (front ++ (back ++ rest)) y (reads (a ∷ as') rest)) (sym (ap (λ (y : Result ((A × S) × List T) Fault). follow y (further n)) i)) (behind_up (in_front a (at_most n next (back ++ rest))) (reads (a ∷ as') rest) (in_front_up (back ++ rest) (at_most n next (back ++ rest)) (again less)))
        by_piece (inr w) again same = inr (bounded_too (follow (f s (front ++ (back ++ rest))) (further n)) (λ x d. ap (λ (y : Result ((A × S) × List T) Fault). follow y (further n)) d) w)

    -- a reading either stops here, or goes on with a piece
    module _ (P : Type 0) where
      by_stop : (n : ℕ) (s : S) (ts : List T) (o : Result (List A × List T) Fault) → at_most (suc n) s ts ≡ o → (stop s ts ≡ true → reads [] ts ≡ o → P) → (stop s ts ≡ false → follow (f s ts) (further n) ≡ o → P) → P
      by_stop n s ts o h stopped gone = by_test (stop s ts) refl h
        where
          by_test : (b : Bool) → stop s ts ≡ b → cond b (reads {A = List A} [] ts) (follow (f s ts) (further n)) ≡ o → P
          by_test true e d = stopped e d
          by_test false e d = gone e d

    viable_chain : (n : ℕ) (s : S) (ts : List T) (e : Fault) → length ts < n → at_most n s ts ≡ wrong e → GoesOn alphabet (chain s) ts e.left
    viable_chain zero s ts e lt h = absurd (omega (arith, lt))
    viable_chain (suc n) s ts e lt h = by_stop (GoesOn alphabet (chain s) ts e.left) n s ts (wrong e) h (λ _ d. absurd (never [] ts d)) (λ _ d. by_piece (λ next mid. viable_chain n next mid e) (f s ts) refl d)
      where
        never : (m : List A) (us : List T) → reads m us ≡ wrong e → ⊥
        never m us d = cc

        by_rest : ((next : S) (mid : List T) → length mid < n → at_most n next mid ≡ wrong e → GoesOn alphabet (chain next) mid e.left) → (x : A × S) (mid : List T) → f s ts ≡ reads x mid → (r : Result (List A × List T) Fault) → at_most n x.1 mid ≡ r → follow r (λ m. done (x.0 ∷ m)) ≡ wrong e
            → GoesOn alphabet (chain s) ts e.left
        by_rest again x mid i (Ok y) j d = absurd (never (x.0 ∷ y.0) y.1 d)
        by_rest again x mid i (Err k) j d =
            let p = (laws s).sound ts mid x i in
            let v = again x.1 mid (omega (arith, lt, shorter s ts mid x i)) (j ∙ d) in
            record {
              front = p.0 ++ v.front;
              rest = v.rest;
              whole = p.1 ∙ ap (λ (y : List T). p.0 ++ y) v.whole ∙ sym (append_assoc p.0 v.front v.rest);
              here = v.here;
              more = v.more;
              value = x.0 ∷ v.value;
              spelled = (p.0, v.front ++ v.more, x.1, append_assoc p.0 v.front v.more, p.2, v.spelled);
              real = v.real;
            }

        by_piece : ((next : S) (mid : List T) → length mid < n → at_most n next mid ≡ wrong e → GoesOn alphabet (chain next) mid e.left) → (r : Result ((A × S) × List T) Fault) → f s ts ≡ r → follow r (further n) ≡ wrong e → GoesOn alphabet (chain s) ts e.left
        by_piece again (Ok x) i d = by_rest again x.0 x.1 i (at_most n x.0.1 x.1) refl d
        by_piece again (Err k) i d =
            let v = (laws s).viable ts k i in
            let z = finish v.value.1 in
            record {
              front = v.front;
              rest = v.rest;
              whole = v.whole;
              here = v.here ∙ ap (λ (x : Fault). x.left) (wrong_is k e d);
              more = v.more ++ z.0;
              value = v.value.0 ∷ z.1;
              spelled = (v.front ++ v.more, z.0, v.value.1, sym (append_assoc v.front v.more z.0), v.spelled, z.2);
              real = all_real alphabet v.more z.0 v.real z.3;
            }

    number_chain : (n : ℕ) (s : S) (ts : List T) (left : ℕ) → length ts < n → at_most n s ts ≡ wrong (record { left = left; kind = Number }) → NumberGoesOn alphabet (chain s) ts left
    number_chain zero s ts left lt h = absurd (omega (arith, lt))
    number_chain (suc n) s ts left lt h = by_stop (NumberGoesOn alphabet (chain s) ts left) n s ts (wrong (record { left = left; kind = Number })) h (λ _ d. absurd (never [] ts d)) (λ _ d. by_piece (λ next mid. number_chain n next mid left) (f s ts) refl d)
      where
        never : (m : List A) (us : List T) → reads m us ≡ wrong (record { left = left; kind = Number }) → ⊥
        never m us d = cc

        by_rest : ((next : S) (mid : List T) → length mid < n → at_most n next mid ≡ wrong (record { left = left; kind = Number }) → NumberGoesOn alphabet (chain next) mid left) → (x : A × S) (mid : List T) → f s ts ≡ reads x mid → (r : Result (List A × List T) Fault) → at_most n x.1 mid ≡ r
            → follow r (λ m. done (x.0 ∷ m)) ≡ wrong (record { left = left; kind = Number }) → NumberGoesOn alphabet (chain s) ts left
        by_rest again x mid i (Ok y) j d = absurd (never (x.0 ∷ y.0) y.1 d)
        by_rest again x mid i (Err k) j d =
            let p = (laws s).sound ts mid x i in
            let v = again x.1 mid (omega (arith, lt, shorter s ts mid x i)) (j ∙ d) in
            record {
              front = p.0 ++ v.front;
              bad = v.bad;
              rest = v.rest;
              whole = p.1 ∙ ap (λ (y : List T). p.0 ++ y) v.whole ∙ sym (append_assoc p.0 v.front (v.bad ∷ v.rest));
              here = v.here;
              bad_is = v.bad_is;
              good = v.good;
              good_is = v.good_is;
              more = v.more;
              value = x.0 ∷ v.value;
              spelled = (p.0, v.front ++ v.good ∷ v.more, x.1, append_assoc p.0 v.front (v.good ∷ v.more), p.2, v.spelled);
              real = v.real;
            }

        by_piece : ((next : S) (mid : List T) → length mid < n → at_most n next mid ≡ wrong (record { left = left; kind = Number }) → NumberGoesOn alphabet (chain next) mid left) → (r : Result ((A × S) × List T) Fault) → f s ts ≡ r → follow r (further n) ≡ wrong (record { left = left; kind = Number }) → NumberGoesOn alphabet (chain s) ts left
        by_piece again (Ok x) i d = by_rest again x.0 x.1 i (at_most n x.0.1 x.1) refl d
        by_piece again (Err k) i d =
            let v = (laws s).number ts left (i ∙ ap wrong (wrong_is k (record { left = left; kind = Number }) d)) in
            let z = finish v.value.1 in
            record {
              front = v.front;
              bad = v.bad;
              rest = v.rest;
              whole = v.whole;
              here = v.here;
              bad_is = v.bad_is;
              good = v.good;
              good_is = v.good_is;
              more = v.more ++ z.0;
              value = v.value.0 ∷ z.1;
              spelled = (v.front ++ v.good ∷ v.more, z.0, v.value.1, sym (append_assoc v.front (v.good ∷ v.more) z.0), v.spelled, z.2);
              real = all_real alphabet (v.good ∷ v.more) z.0 v.real z.3;
            }

    limit_chain : (n : ℕ) (s : S) (ts : List T) (left : ℕ) → length ts < n → at_most n s ts ≡ wrong (record { left = left; kind = Limit }) → LimitGoesOn alphabet (chain_wide s) ts left
    limit_chain zero s ts left lt h = absurd (omega (arith, lt))
    limit_chain (suc n) s ts left lt h = by_stop (LimitGoesOn alphabet (chain_wide s) ts left) n s ts (wrong (record { left = left; kind = Limit })) h (λ _ d. absurd (never [] ts d)) (λ _ d. by_piece (λ next mid. limit_chain n next mid left) (f s ts) refl d)
      where
        never : (m : List A) (us : List T) → reads m us ≡ wrong (record { left = left; kind = Limit }) → ⊥
        never m us d = cc

        by_rest : ((next : S) (mid : List T) → length mid < n → at_most n next mid ≡ wrong (record { left = left; kind = Limit }) → LimitGoesOn alphabet (chain_wide next) mid left) → (x : A × S) (mid : List T) → f s ts ≡ reads x mid → (r : Result (List A × List T) Fault) → at_most n x.1 mid ≡ r
            → follow r (λ m. done (x.0 ∷ m)) ≡ wrong (record { left = left; kind = Limit }) → LimitGoesOn alphabet (chain_wide s) ts left
        by_rest again x mid i (Ok y) j d = absurd (never (x.0 ∷ y.0) y.1 d)
        by_rest again x mid i (Err k) j d =
            let p = (laws s).sound ts mid x i in
            let v = again x.1 mid (omega (arith, lt, shorter s ts mid x i)) (j ∙ d) in
            record {
              front = p.0 ++ v.front;
              bad = v.bad;
              rest = v.rest;
              whole = p.1 ∙ ap (λ (y : List T). p.0 ++ y) v.whole ∙ sym (append_assoc p.0 v.front (v.bad ∷ v.rest));
              here = v.here;
              more = v.more;
              value = x.0 ∷ v.value;
              spelled = (p.0, v.front ++ v.bad ∷ v.more, x.1, append_assoc p.0 v.front (v.bad ∷ v.more), (laws s).contains p.0 x p.2, v.spelled);
              real = v.real;
            }

        by_piece : ((next : S) (mid : List T) → length mid < n → at_most n next mid ≡ wrong (record { left = left; kind = Limit }) → LimitGoesOn alphabet (chain_wide next) mid left) → (r : Result ((A × S) × List T) Fault) → f s ts ≡ r → follow r (further n) ≡ wrong (record { left = left; kind = Limit }) → LimitGoesOn alphabet (chain_wide s) ts left
        by_piece again (Ok x) i d = by_rest again x.0 x.1 i (at_most n x.0.1 x.1) refl d
        by_piece again (Err k) i d =
            let v = (laws s).limit ts left (i ∙ ap wrong (wrong_is k (record { left = left; kind = Limit }) d)) in
            let z = finish v.value.1 in
            record {
              front = v.front;
              bad = v.bad;
              rest = v.rest;
              whole = v.whole;
              here = v.here;
              more = v.more ++ z.0;
              value = v.value.0 ∷ z.1;
              spelled = (v.front ++ v.bad ∷ v.more, z.0, v.value.1, sym (append_assoc v.front (v.bad ∷ v.more) z.0), v.spelled, contains_chain v.value.1 z.0 z.1 z.2);
              real = all_real alphabet v.more z.0 v.real z.3;
            }

    -- ---- what is read depends on the tokens up to the next one alone

    same_stop : (s : S) (front : List T) (t : T) (rest rest' : List T) → stop s (front ++ t ∷ rest) ≡ stop s (front ++ t ∷ rest')
    same_stop s [] t rest rest' = refl
    same_stop s (u ∷ front) t rest rest' = refl

    behind_chain : (n : ℕ) (s : S) (ts us : List T) (o : Result (List A) TokenFault) → length ts < n → at_most n s ts ≡ ends o us → (front : List T) × (rest : List T) × (ts ≡ front ++ rest) × (length rest ≡ length us)
    behind_chain n s ts us (Ok m) lt h = let p = sound_chain n s ts us m h in (p.0, us, p.1, refl)
    behind_chain n s ts us (Err k) lt h = let v = viable_chain n s ts (record { left = length us; kind = k }) lt h in (v.front, v.rest, v.whole, v.here)

    nothing_read : (front : List T) (t : T) (rest rest' : List T) (o : Result (List A) TokenFault) → reads [] (front ++ t ∷ rest) ≡ ends o (t ∷ rest) → (front ≡ []) × (o ≡ Ok [])
    nothing_read front t rest rest' (Ok m) h =
        let p = reads_is [] m (front ++ t ∷ rest) (t ∷ rest) h in
        ((cut_is front (t ∷ rest) [] (t ∷ rest) p.1 refl).0, ap (λ (x : List A). Ok x) (sym p.0))
    nothing_read front t rest rest' (Err k) h = absurd cc

    err_ends : (e : Fault) (o : Result (List A) TokenFault) (us : List T) → wrong e ≡ ends o us → (kind : TokenFault) × (o ≡ Err kind) × (e ≡ record { left = length us; kind = kind })
    err_ends e (Ok b) us d = absurd cc
    err_ends e (Err kind) us d = (kind, refl, wrong_is e (record { left = length us; kind = kind }) d)

    -- a piece and what stands behind it, where the whole is cut at t
    record Cut (s : S) (front : List T) (t : T) (rest : List T) (x : A × S) (mid : List T) : Type 0 where
      here : List T
      there : List T
      front_is : front ≡ here ++ there
      mid_is : mid ≡ there ++ t ∷ rest
      piece : f s (here ++ (there ++ t ∷ rest)) ≡ reads x (there ++ t ∷ rest)

    cut_at : (n : ℕ) (s : S) (front : List T) (t : T) (rest : List T) (x : A × S) (mid : List T) (o : Result (List A) TokenFault) → length mid < n → f s (front ++ t ∷ rest) ≡ reads x mid → at_most n x.1 mid ≡ ends o (t ∷ rest) → Cut s front t rest x mid
    cut_at n s front t rest x mid o lt i d =
        let p = (laws s).sound (front ++ t ∷ rest) mid x i in
        let q = behind_chain n x.1 mid (t ∷ rest) o lt d in
        let regrouped : front ++ t ∷ rest ≡ (p.0 ++ q.0) ++ q.1 = p.1 ∙ ap (λ (y : List T). p.0 ++ y) q.2 ∙ sym (append_assoc p.0 q.0 q.1) in
        let cut = cut_is front (t ∷ rest) (p.0 ++ q.0) q.1 regrouped (sym q.3) in
        let mid_is : mid ≡ q.0 ++ t ∷ rest = q.2 ∙ ap (λ (y : List T). q.0 ++ y) (sym cut.1) in
        let before : front ++ t ∷ rest ≡ p.0 ++ (q.0 ++ t ∷ rest) = ap (λ (y : List T). y ++ t ∷ rest) cut.0 ∙ append_assoc p.0 q.0 (t ∷ rest) in
        record { here = p.0; there = q.0; front_is = cut.0; mid_is = mid_is; piece = ap (f s) (sym before) ∙ i ∙ ap (reads x) mid_is }

    local_chain : (n : ℕ) (s : S) (front : List T) (t : T) (rest rest' : List T) (o : Result (List A) TokenFault) → length (front ++ t ∷ rest) < n → at_most n s (front ++ t ∷ rest) ≡ ends o (t ∷ rest) → at_most n s (front ++ t ∷ rest') ≡ ends o (t ∷ rest')
    local_chain zero s front t rest rest' o lt h = absurd (omega (arith, lt))
    local_chain (suc n) s front t rest rest' o lt h =
        by_stop (at_most (suc n) s (front ++ t ∷ rest') ≡ ends o (t ∷ rest')) n s (front ++ t ∷ rest) (ends o (t ∷ rest)) h (λ e d. stopped e d)
        (λ e d. stop_not n s (front ++ t ∷ rest') (sym (same_stop s front t rest rest') ∙ e) ∙ by_piece (λ next front' o' l i. local_chain n next front' t rest rest' o' l i) (f s (front ++ t ∷ rest)) refl d)
      where
        stopped : stop s (front ++ t ∷ rest) ≡ true → reads [] (front ++ t ∷ rest) ≡ ends o (t ∷ rest) → at_most (suc n) s (front ++ t ∷ rest') ≡ ends o (t ∷ rest')
        stopped e d =
            let z = nothing_read front t rest rest' o d in
            stop_gives (suc n) s (front ++ t ∷ rest') (sym (same_stop s front t rest rest') ∙ e) ∙ ap (λ (x : List T). reads [] (x ++ t ∷ rest')) z.0 ∙ ap (λ (x : Result (List A) TokenFault). ends x (t ∷ rest')) (sym z.1)

        by_piece : ((next : S) (front' : List T) (o' : Result (List A) TokenFault) → length (front' ++ t ∷ rest) < n → at_most n next (front' ++ t ∷ rest) ≡ ends o' (t ∷ rest) → at_most n next (front' ++ t ∷ rest') ≡ ends o' (t ∷ rest')) → (r : Result ((A × S) × List T) Fault) → f s (front ++ t ∷ rest) ≡ r → follow r (further n) ≡ ends o (t ∷ rest)
            → follow (f s (front ++ t ∷ rest')) (further n) ≡ ends o (t ∷ rest')
        by_piece again (Err k) i d =
            let w = err_ends k o (t ∷ rest) d in
            let one : f s (front ++ t ∷ rest') ≡ fault_at w.0 (t ∷ rest') = (laws s).local front t rest rest' (Err w.0) (i ∙ ap wrong w.2) in
            ap (λ (y : Result ((A × S) × List T) Fault). follow y (further n)) one ∙ ap (λ (x : Result (List A) TokenFault). ends x (t ∷ rest')) (sym w.1)
        by_piece again (Ok x) i d =
            let w = without x.0.0 (at_most n x.0.1 x.1) o (t ∷ rest) d in
            let less : length x.1 < n = omega (arith, lt, shorter s (front ++ t ∷ rest) x.1 x.0 i) in
            let c = cut_at n s front t rest x.0 x.1 w.0 less i w.1 in
            let one : f s (c.here ++ (c.there ++ t ∷ rest')) ≡ reads x.0 (c.there ++ t ∷ rest') = local_mid alphabet (laws s) c.here c.there t rest rest' x.0 c.piece in
            let two : at_most n x.0.1 (c.there ++ t ∷ rest') ≡ ends w.0 (t ∷ rest') = again x.0.1 c.there w.0 (subst (λ (y : List T). length y < n) c.mid_is less) (ap (at_most n x.0.1) (sym c.mid_is) ∙ w.1) in
            let before : front ++ t ∷ rest' ≡ c.here ++ (c.there ++ t ∷ rest') = ap (λ (y : List T). y ++ t ∷ rest') c.front_is ∙ append_assoc c.here c.there (t ∷ rest') in
            ap (λ (y : List T). follow (f s y) (further n)) before ∙ ap (λ (y : Result ((A × S) × List T) Fault). follow y (further n)) one ∙ ap (in_front x.0.0) two ∙ ends_in_front x.0.0 w.0 (t ∷ rest') ∙ ap (λ (y : Result (List A) TokenFault). ends y (t ∷ rest')) (sym w.2)

    swap_mid : (s : S) (front mid : List T) (t u : T) (rest rest' : List T) (x : A × S) → is_number alphabet t ≡ true → alphabet.class u ≡ alphabet.class t → f s (front ++ (mid ++ t ∷ rest)) ≡ reads x (mid ++ t ∷ rest) → f s (front ++ (mid ++ u ∷ rest')) ≡ reads x (mid ++ u ∷ rest')
    swap_mid s front [] t u rest rest' x n n' i = (laws s).swap front t u rest rest' (Ok x) n n' i
    swap_mid s front (v ∷ mid) t u rest rest' x n n' i = (laws s).local front v (mid ++ t ∷ rest) (mid ++ u ∷ rest') (Ok x) i

    swap_err : (n : ℕ) (s : S) (k : TokenFault) (front : List T) (literal : Bool) (u : T) (rest' : List T) → Swapped {A = A × S} literal (Err k) (f s (front ++ u ∷ rest')) u rest' → Swapped {A = List A} literal (Err k) (follow (f s (front ++ u ∷ rest')) (further n)) u rest'
    swap_err n s Number front literal u rest' w = tt
    swap_err n s Syntax front literal u rest' w = (w.0, ap (λ (y : Result ((A × S) × List T) Fault). follow y (further n)) w.1)
    swap_err n s Profile front literal u rest' w = (w.0, ap (λ (y : Result ((A × S) × List T) Fault). follow y (further n)) w.1)
    swap_err n s Limit front literal u rest' w = λ m. let r = w m in (r.0, ap (λ (y : Result ((A × S) × List T) Fault). follow y (further n)) r.1)

    swapped_stop : (s : S) (front : List T) (t u : T) (rest rest' : List T) → is_number alphabet t ≡ true → alphabet.class u ≡ alphabet.class t → stop s (front ++ t ∷ rest) ≡ stop s (front ++ u ∷ rest')
    swapped_stop s [] t u rest rest' n n' = ap (λ (b : Bool). final s && not b) (alike s t u n n')
    swapped_stop s (v ∷ front) t u rest rest' n n' = refl

    swap_chain : (n : ℕ) (s : S) (front : List T) (t u : T) (rest rest' : List T) (o : Result (List A) TokenFault) → length (front ++ t ∷ rest) < n → is_number alphabet t ≡ true → alphabet.class u ≡ alphabet.class t → at_most n s (front ++ t ∷ rest) ≡ ends o (t ∷ rest) → Swapped (is_literal alphabet t) o (at_most n s (front ++ u ∷ rest')) u rest'
    swap_chain zero s front t u rest rest' o lt m m' h = absurd (omega (arith, lt))
    swap_chain (suc n) s front t u rest rest' o lt m m' h =
        by_stop (Swapped (is_literal alphabet t) o (at_most (suc n) s (front ++ u ∷ rest')) u rest') n s (front ++ t ∷ rest) (ends o (t ∷ rest)) h (λ e d. stopped e d)
        (λ e d. subst (λ (y : Result (List A × List T) Fault). Swapped (is_literal alphabet t) o y u rest') (sym (stop_not n s (front ++ u ∷ rest') (sym (swapped_stop s front t u rest rest' m m') ∙ e))) (by_piece (λ next front' o' l i. swap_chain n next front' t u rest rest' o' l m m' i) (f s (front ++ t ∷ rest)) refl d))
      where
        stopped : stop s (front ++ t ∷ rest) ≡ true → reads [] (front ++ t ∷ rest) ≡ ends o (t ∷ rest) → Swapped (is_literal alphabet t) o (at_most (suc n) s (front ++ u ∷ rest')) u rest'
        stopped e d =
            let z = nothing_read front t rest rest' o d in
            let there : at_most (suc n) s (front ++ u ∷ rest') ≡ reads [] (u ∷ rest') = stop_gives (suc n) s (front ++ u ∷ rest') (sym (swapped_stop s front t u rest rest' m m') ∙ e) ∙ ap (λ (x : List T). reads [] (x ++ u ∷ rest')) z.0 in
            subst (λ (y : Result (List A) TokenFault). Swapped (is_literal alphabet t) y (at_most (suc n) s (front ++ u ∷ rest')) u rest') (sym z.1) there

        by_piece : ((next : S) (front' : List T) (o' : Result (List A) TokenFault) → length (front' ++ t ∷ rest) < n → at_most n next (front' ++ t ∷ rest) ≡ ends o' (t ∷ rest) → Swapped (is_literal alphabet t) o' (at_most n next (front' ++ u ∷ rest')) u rest') → (r : Result ((A × S) × List T) Fault) → f s (front ++ t ∷ rest) ≡ r → follow r (further n) ≡ ends o (t ∷ rest)
            → Swapped (is_literal alphabet t) o (follow (f s (front ++ u ∷ rest')) (further n)) u rest'
        by_piece again (Err k) i d =
            let w = err_ends k o (t ∷ rest) d in
            subst (λ (y : Result (List A) TokenFault). Swapped (is_literal alphabet t) y (follow (f s (front ++ u ∷ rest')) (further n)) u rest') (sym w.1) (swap_err n s w.0 front (is_literal alphabet t) u rest' ((laws s).swap front t u rest rest' (Err w.0) m m' (i ∙ ap wrong w.2)))
        by_piece again (Ok x) i d =
            let w = without x.0.0 (at_most n x.0.1 x.1) o (t ∷ rest) d in
            let less : length x.1 < n = omega (arith, lt, shorter s (front ++ t ∷ rest) x.1 x.0 i) in
            let c = cut_at n s front t rest x.0 x.1 w.0 less i w.1 in
            let one : f s (c.here ++ (c.there ++ u ∷ rest')) ≡ reads x.0 (c.there ++ u ∷ rest') = swap_mid s c.here c.there t u rest rest' x.0 m m' c.piece in
            let two : Swapped (is_literal alphabet t) w.0 (at_most n x.0.1 (c.there ++ u ∷ rest')) u rest' = again x.0.1 c.there w.0 (subst (λ (y : List T). length y < n) c.mid_is less) (ap (at_most n x.0.1) (sym c.mid_is) ∙ w.1) in
            let before : front ++ u ∷ rest' ≡ c.here ++ (c.there ++ u ∷ rest') = ap (λ (y : List T). y ++ u ∷ rest') c.front_is ∙ append_assoc c.here c.there (u ∷ rest') in
            let whole : follow (f s (front ++ u ∷ rest')) (further n) ≡ in_front x.0.0 (at_most n x.0.1 (c.there ++ u ∷ rest')) = ap (λ (y : List T). follow (f s y) (further n)) before ∙ ap (λ (y : Result ((A × S) × List T) Fault). follow y (further n)) one in
            let three : Swapped (is_literal alphabet t) (joined x.0.0 w.0) (follow (f s (front ++ u ∷ rest')) (further n)) u rest' = subst (λ (y : Result (List A × List T) Fault). Swapped (is_literal alphabet t) (joined x.0.0 w.0) y u rest') (sym whole) (swapped_in_front x.0.0 w.0 (at_most n x.0.1 (c.there ++ u ∷ rest')) (is_literal alphabet t) u rest' two) in
            subst (λ (y : Result (List A) TokenFault). Swapped (is_literal alphabet t) y (follow (f s (front ++ u ∷ rest')) (further n)) u rest') (sym w.2) three

    -- with room enough it doesn't matter how much there is
    pub roomy : (n m : ℕ) (s : S) (ts : List T) → length ts < n → length ts < m → at_most n s ts ≡ at_most m s ts
    roomy zero m s ts i j = absurd (omega (arith, i))
    roomy (suc n) zero s ts i j = absurd (omega (arith, j))
    roomy (suc n) (suc m) s ts i j = by_test (λ next mid i' j'. roomy n m next mid i' j') (stop s ts) refl
      where
        by_piece : (r : Result ((A × S) × List T) Fault) → f s ts ≡ r → ((next : S) (mid : List T) → length mid < n → length mid < m → at_most n next mid ≡ at_most m next mid) → follow r (further n) ≡ follow r (further m)
        by_piece (Err k) e again = refl
        by_piece (Ok x) e again = ap (in_front x.0.0) (again x.0.1 x.1 (omega (arith, i, shorter s ts x.1 x.0 e)) (omega (arith, j, shorter s ts x.1 x.0 e)))

        by_test : ((next : S) (mid : List T) → length mid < n → length mid < m → at_most n next mid ≡ at_most m next mid) → (b : Bool) → stop s ts ≡ b → at_most (suc n) s ts ≡ at_most (suc m) s ts
        by_test again true e = stop_gives (suc n) s ts e ∙ sym (stop_gives (suc m) s ts e)
        by_test again false e = stop_not n s ts e ∙ by_piece (f s ts) refl again ∙ sym (stop_not m s ts e)

    abbrev here_is : S → List T → Result (List A × List T) Fault
    here_is = chain_at final begins f

    pub chain_lawful : (s : S) → Lawful alphabet (chain s) (chain_wide s) (chain_at final begins f s) (first s) after (final s)
    chain_lawful s = record {
      sound = λ ts rest as' h. sound_chain (suc (length ts)) s ts rest as' h;
      complete = λ front rest as' c d. complete_chain (suc (length (front ++ rest))) s front rest as' (omega arith) c d;
      starts = λ t ts as' c. starts_chain s t ts as' (contains_chain s (t ∷ ts) as' c);
      nothing = λ as' c. nothing_chain s as' (contains_chain s [] as' c);
      some = let z = finish s in (z.0, z.1, z.2, z.3);
      viable = λ ts e h. viable_chain (suc (length ts)) s ts e (omega arith) h;
      local = local_here;
      number = λ ts left h. number_chain (suc (length ts)) s ts left (omega arith) h;
      swap = swap_here;
      contains = contains_chain s;
      limit = λ ts left h. limit_chain (suc (length ts)) s ts left (omega arith) h;
      broad = record {
        starts = starts_chain s;
        nothing = nothing_chain s;
        reads = λ front rest as' c d. reads_chain (suc (length (front ++ rest))) s front rest as' (omega arith) c d;
      };
    }
      where
        local_here : (front : List T) (t : T) (rest rest' : List T) (o : Result (List A) TokenFault) → here_is s (front ++ t ∷ rest) ≡ ends o (t ∷ rest) → here_is s (front ++ t ∷ rest') ≡ ends o (t ∷ rest')
        local_here front t rest rest' o h =
            let n : ℕ = suc (length (front ++ t ∷ rest) + length (front ++ t ∷ rest')) in
            let one : at_most n s (front ++ t ∷ rest) ≡ ends o (t ∷ rest) = roomy n (suc (length (front ++ t ∷ rest))) s (front ++ t ∷ rest) (omega arith) (omega arith) ∙ h in
            roomy (suc (length (front ++ t ∷ rest'))) n s (front ++ t ∷ rest') (omega arith) (omega arith) ∙ local_chain n s front t rest rest' o (omega arith) one

        swap_here : (front : List T) (t u : T) (rest rest' : List T) (o : Result (List A) TokenFault) → is_number alphabet t ≡ true → alphabet.class u ≡ alphabet.class t → here_is s (front ++ t ∷ rest) ≡ ends o (t ∷ rest) → Swapped (is_literal alphabet t) o (here_is s (front ++ u ∷ rest')) u rest'
        swap_here front t u rest rest' o m m' h =
            let n : ℕ = suc (length (front ++ t ∷ rest) + length (front ++ u ∷ rest')) in
            let one : at_most n s (front ++ t ∷ rest) ≡ ends o (t ∷ rest) = roomy n (suc (length (front ++ t ∷ rest))) s (front ++ t ∷ rest) (omega arith) (omega arith) ∙ h in
            let two = swap_chain n s front t u rest rest' o (omega arith) m m' one in
            subst (λ (y : Result (List A × List T) Fault). Swapped (is_literal alphabet t) o y u rest') (sym (roomy (suc (length (front ++ u ∷ rest'))) n s (front ++ u ∷ rest') (omega arith) (omega arith))) two
