-- Pieces one behind another tell a token that is left out in some places as such exactly where one that it stands for goes on.
use Rattle.std.proofs.Common.{◌≡◌, ◌≢◌, ℕ, nat_eq, ◌||◌, zero, suc, ◌<◌, Bool, true, false, cond, ◌&&◌, not, List, [], ◌∷◌, ◌++◌, length, Result, Ok, Err, refl, sym, ap, subst, ◌∙◌, append_assoc, arith, inl, inr}
use Rattle.std.proofs.lemmas.List.{append-nil, length-append}
use Rattle.ir_lex.specs.TokenKinds.{number}
use Rattle.ir_lex.specs.Tok.{Tok}
use Rattle.ir_lex.specs.declared.token_kind.TokenKind.TheVariants as kinds
use Rattle.ir_lex.specs.declared.token_kind.TokenKind.{TokenKind}
use Rattle.ir_parse_parts.proofs.Composed.{all_real, cut_is, reads, reads_is, wrong, wrong_is}
use Rattle.ir_parse_parts.specs.Alphabet.{AllReal, among, contains}
use Rattle.ir_parse_parts.specs.Chained.{Chain, stops_here, chain_within, chain_at}
use Rattle.ir_parse_parts.proofs.Rules.{within_of}
use Rattle.ir_parse_parts.specs.Forms.{Form}
use Rattle.ir_parse_parts.specs.Lawful.{ends}
use Rattle.ir_parse_parts.specs.Readers.{Reader, fault_at, done, follow, ◌>>=◌}
use Rattle.ir_parse_parts.specs.declared.fault.Fault.{Fault}
use Rattle.ir_parse_parts.specs.declared.fault.TokenFault.TheVariants.{Syntax}
use Rattle.ir_parse_parts.specs.declared.fault.TokenFault.{TokenFault}
use Rattle.ir_parse_parts.specs.Rules.{disjoint}
use Rattle.ir_parse_parts.specs.Classes.{tokens}
use Rattle.ir_parse_operands.specs.ShapeForms.{OPEN_BRACE}
use Rattle.ir_parse.proofs.Exchanged.{differ, only_number, not_both, Exchanges, OutcomeAt, Place, Stays, Swaps, angled_behind, apart, is_angled, never_angled, nowhere, same_at, Goes, Outcome, Stuck, fair, alike, ends_in_front, err_ends, err_too, fair_at, fair_of, fewer, in_front, joined, ok_too, stands_for, without}

and_parts : (a b : Bool) → a && b ≡ true → (a ≡ true) × (b ≡ true)
and_parts true b h = (refl, h)
and_parts false b h = absurd cc

module _ {S A : Type 0} (final : S → Bool) (bs : S → List ℕ) (wide : S → Form Tok (A × S)) (f : S → Reader Tok (A × S)) {loose : Bool} {one_place : Place} (place : S → Place) (within_first : (s : S) (front : List Tok) → one_place front tt → place s front tt) (within_further : (s : S) (one two : List Tok) (x : A × S) → wide s one x → place x.1 two tt → place s (one ++ two) tt) (laws : (s : S) → Swaps false loose one_place (wide s) (f s)) (some : (s : S) (x : A × S) → wide s [] x → ⊥)
    (finish : (s : S) → (ts : List Tok) × (as' : List A) × Chain final wide s ts as' × AllReal tokens ts) (fairly : (s : S) → final s ≡ true → fair (bs s) ≡ true) (steady : loose ≡ true → (s : S) → (final s ≡ true) × (disjoint (number kinds.Number ∷ OPEN_BRACE) (bs s) ≡ true)) where
  abbrev begins : S → Tok → Bool
  begins s = among tokens (bs s)

  abbrev of_all : S → Form Tok (List A)
  of_all s = Chain final wide s

  abbrev at_most : ℕ → S → Reader Tok (List A)
  at_most = chain_within final begins f

  abbrev further : ℕ → A × S → Reader Tok (List A)
  further n x = at_most n x.1 >>= λ m. done (x.0 ∷ m)

  abbrev stop : S → List Tok → Bool
  stop = stops_here final begins

  not_nil : (s : S) (p : List Tok) (x : A × S) → wide s p x → p ≢ []
  not_nil s p x q e = some s x (subst (λ (y : List Tok). wide s y x) e q)

  stop_gives : (n : ℕ) (s : S) (ts : List Tok) → stop s ts ≡ true → at_most n s ts ≡ reads [] ts
  stop_gives zero s ts h = rw h refl
  stop_gives (suc n) s ts h = rw h refl

  stop_not : (n : ℕ) (s : S) (ts : List Tok) → stop s ts ≡ false → at_most (suc n) s ts ≡ follow (f s ts) (further n)
  stop_not n s ts h = rw h refl

  -- ---- what is read is of the form, and a fault stands somewhere in the text

  sound_chain : (n : ℕ) (s : S) (ts rest : List Tok) (as' : List A) → at_most n s ts ≡ reads as' rest → (front : List Tok) × (ts ≡ front ++ rest) × of_all s front as'
  sound_chain zero s ts rest as' h = by_stop (stop s ts) refl h
    where
      by_stop : (b : Bool) → stop s ts ≡ b → cond b (reads {A = List A} [] ts) (fault_at Syntax ts) ≡ reads as' rest → (front : List Tok) × (ts ≡ front ++ rest) × of_all s front as'
      by_stop true e d = let r = reads_is [] as' ts rest d in ([], r.1, subst (λ (x : List A). of_all s [] x) r.0 ((and_parts _ _ e).0, refl))
      by_stop false e d = absurd cc
  sound_chain (suc n) s ts rest as' h = by_stop (λ next mid m. sound_chain n next mid rest m) (stop s ts) refl h
    where
      Again : Type 0
      Again = (next : S) (mid : List Tok) (m : List A) → at_most n next mid ≡ reads m rest → (front : List Tok) × (mid ≡ front ++ rest) × of_all next front m

      by_rest : Again → (x : A × S) (mid : List Tok) → f s ts ≡ reads x mid → (r : Result (List A × List Tok) Fault) → at_most n x.1 mid ≡ r → follow r (λ m. done (x.0 ∷ m)) ≡ reads as' rest → (front : List Tok) × (ts ≡ front ++ rest) × of_all s front as'
      by_rest again x mid e (Err d) i h = absurd (not_both _ _ (sym h))
      by_rest again x mid e (Ok y) i h =
          let r = reads_is (x.0 ∷ y.0) as' y.1 rest h in
          let p = (laws s).sound ts mid x e in
          let q = again x.1 mid y.0 (i ∙ ap (λ (z : List Tok). reads y.0 z) r.1) in
          (p.0 ++ q.0, p.1 ∙ ap (λ (z : List Tok). p.0 ++ z) q.1 ∙ sym (append_assoc p.0 q.0 rest), subst (λ (z : List A). of_all s (p.0 ++ q.0) z) r.0 (p.0, q.0, x.1, refl, p.2, q.2))

      by_piece : Again → (r : Result ((A × S) × List Tok) Fault) → f s ts ≡ r → follow r (further n) ≡ reads as' rest → (front : List Tok) × (ts ≡ front ++ rest) × of_all s front as'
      by_piece again (Err d) e h = absurd (not_both _ _ (sym h))
      by_piece again (Ok x) e h = by_rest again x.0 x.1 e (at_most n x.0.1 x.1) refl h

      by_stop : Again → (b : Bool) → stop s ts ≡ b → cond b (reads {A = List A} [] ts) (follow (f s ts) (further n)) ≡ reads as' rest → (front : List Tok) × (ts ≡ front ++ rest) × of_all s front as'
      by_stop again true e d = let r = reads_is [] as' ts rest d in ([], r.1, subst (λ (x : List A). of_all s [] x) r.0 ((and_parts _ _ e).0, refl))
      by_stop again false e d = by_piece again (f s ts) refl d

  abbrev Placed : List Tok → Fault → Type 0
  Placed ts e = (front : List Tok) × (rest : List Tok) × (ts ≡ front ++ rest) × (length rest ≡ e.left)

  placed_chain : (n : ℕ) (s : S) (ts : List Tok) (e : Fault) → at_most n s ts ≡ wrong e → Placed ts e
  placed_chain zero s ts e h = by_stop (stop s ts) h
    where
      by_stop : (b : Bool) → cond b (reads {A = List A} [] ts) (fault_at Syntax ts) ≡ wrong e → Placed ts e
      by_stop true d = absurd cc
      by_stop false d = ([], ts, refl, ap (λ (x : Fault). x.left) (wrong_is (record { left = length ts; kind = Syntax }) e d))
  placed_chain (suc n) s ts e h = by_stop (λ next mid d. placed_chain n next mid d) (stop s ts) h
    where
      Again : Type 0
      Again = (next : S) (mid : List Tok) (d : Fault) → at_most n next mid ≡ wrong d → Placed mid d

      by_rest : Again → (x : A × S) (mid : List Tok) → f s ts ≡ reads x mid → (r : Result (List A × List Tok) Fault) → at_most n x.1 mid ≡ r → follow r (λ m. done (x.0 ∷ m)) ≡ wrong e → Placed ts e
      by_rest again x mid i (Ok y) j h = absurd (not_both _ _ h)
      by_rest again x mid i (Err d) j h =
          let p = (laws s).sound ts mid x i in
          let q = again x.1 mid d j in
          (p.0 ++ q.0, q.1, p.1 ∙ ap (λ (z : List Tok). p.0 ++ z) q.2 ∙ sym (append_assoc p.0 q.0 q.1), q.3 ∙ ap (λ (x : Fault). x.left) (wrong_is d e h))

      by_piece : Again → (r : Result ((A × S) × List Tok) Fault) → f s ts ≡ r → follow r (further n) ≡ wrong e → Placed ts e
      by_piece again (Err d) i h = let v = (laws s).placed ts d i in (v.0, v.1, v.2, v.3 ∙ ap (λ (x : Fault). x.left) (wrong_is d e h))
      by_piece again (Ok x) i h = by_rest again x.0 x.1 i (at_most n x.0.1 x.1) refl h

      by_stop : Again → (b : Bool) → cond b (reads {A = List A} [] ts) (follow (f s ts) (further n)) ≡ wrong e → Placed ts e
      by_stop again true d = absurd cc
      by_stop again false d = by_piece again (f s ts) refl d

  placed_ends : (n : ℕ) (s : S) (ts us : List Tok) (o : Result (List A) TokenFault) → at_most n s ts ≡ ends o us → (front : List Tok) × (rest : List Tok) × (ts ≡ front ++ rest) × (length rest ≡ length us)
  placed_ends n s ts us (Ok m) h = let p = sound_chain n s ts us m h in (p.0, us, p.1, refl)
  placed_ends n s ts us (Err k) h = placed_chain n s ts (record { left = length us; kind = k }) h

  -- ---- where the text is cut, a first piece and what stands behind it

  record Cut (s : S) (front : List Tok) (us : List Tok) (x : A × S) (mid : List Tok) : Type 0 where
    one : List Tok
    two : List Tok
    front_is : front ≡ one ++ two
    mid_is : mid ≡ two ++ us
    spelled : wide s one x
    piece : f s (one ++ (two ++ us)) ≡ reads x (two ++ us)
    less : length two < length front

  cut_at : (n : ℕ) (s : S) (front us : List Tok) (x : A × S) (mid : List Tok) (o : Result (List A) TokenFault) → f s (front ++ us) ≡ reads x mid → at_most n x.1 mid ≡ ends o us → Cut s front us x mid
  cut_at n s front us x mid o i d =
      let p = (laws s).sound (front ++ us) mid x i in
      let q = placed_ends n x.1 mid us o d in
      let regrouped : front ++ us ≡ (p.0 ++ q.0) ++ q.1 = p.1 ∙ ap (λ (y : List Tok). p.0 ++ y) q.2 ∙ sym (append_assoc p.0 q.0 q.1) in
      let cut = cut_is front us (p.0 ++ q.0) q.1 regrouped (sym q.3) in
      let mid_is : mid ≡ q.0 ++ us = q.2 ∙ ap (λ (y : List Tok). q.0 ++ y) (sym cut.1) in
      let before : front ++ us ≡ p.0 ++ (q.0 ++ us) = ap (λ (y : List Tok). y ++ us) cut.0 ∙ append_assoc p.0 q.0 us in
      record {
        one = p.0;
        two = q.0;
        front_is = cut.0;
        mid_is = mid_is;
        spelled = p.2;
        piece = ap (f s) (sym before) ∙ i ∙ ap (reads x) mid_is;
        less = (fewer front us p.0 q.0 q.1 (not_nil s p.0 x p.2) (p.1 ∙ ap (λ (y : List Tok). p.0 ++ y) q.2) q.3).1;
      }

  -- with more room than stands before it, a reading that ends here ends so with any such room
  enough : (n m : ℕ) (s : S) (front us : List Tok) (o : Result (List A) TokenFault) → length front < n → length front < m → at_most n s (front ++ us) ≡ ends o us → at_most m s (front ++ us) ≡ ends o us
  enough zero m s front us o i j d = absurd (omega (arith, i))
  enough (suc n) zero s front us o i j d = absurd (omega (arith, j))
  enough (suc n) (suc m) s front us o i j d = by_stop (λ next before o' i' j' d'. enough n m next before us o' i' j' d') (stop s (front ++ us)) d
    where
      Again : Type 0
      Again = (next : S) (before : List Tok) (o' : Result (List A) TokenFault) → length before < n → length before < m → at_most n next (before ++ us) ≡ ends o' us → at_most m next (before ++ us) ≡ ends o' us

      by_piece : Again → (r : Result ((A × S) × List Tok) Fault) → f s (front ++ us) ≡ r → follow r (further n) ≡ ends o us → follow r (further m) ≡ ends o us
      by_piece again (Err e) q d = d
      by_piece again (Ok x) q d =
          let w = without x.0.0 (at_most n x.0.1 x.1) o us d in
          let c = cut_at n s front us x.0 x.1 w.0 q w.1 in
          let two : at_most m x.0.1 (c.two ++ us) ≡ ends w.0 us = again x.0.1 c.two w.0 (omega (arith, i, c.less)) (omega (arith, j, c.less)) (ap (at_most n x.0.1) (sym c.mid_is) ∙ w.1) in
          ap (λ (y : List Tok). in_front x.0.0 (at_most m x.0.1 y)) c.mid_is ∙ ap (in_front x.0.0) two ∙ ends_in_front x.0.0 w.0 us ∙ ap (λ (y : Result (List A) TokenFault). ends y us) (sym w.2)

      by_stop : Again → (b : Bool) → cond b (reads {A = List A} [] (front ++ us)) (follow (f s (front ++ us)) (further n)) ≡ ends o us → cond b (reads {A = List A} [] (front ++ us)) (follow (f s (front ++ us)) (further m)) ≡ ends o us
      by_stop again true d = d
      by_stop again false d = by_piece again (f s (front ++ us)) refl d

  -- ---- another rest behind the token

  nothing_read : (front : List Tok) (t : Tok) (rest : List Tok) (o : Result (List A) TokenFault) → reads [] (front ++ t ∷ rest) ≡ ends o (t ∷ rest) → (front ≡ []) × (o ≡ Ok [])
  nothing_read front t rest (Ok m) h =
      let p = reads_is [] m (front ++ t ∷ rest) (t ∷ rest) h in
      ((cut_is front (t ∷ rest) [] (t ∷ rest) p.1 refl).0, ap (λ (x : List A). Ok x) (sym p.0))
  nothing_read front t rest (Err k) h = absurd (not_both _ _ h)

  same_stop : (s : S) (front : List Tok) (t : Tok) (rest rest' : List Tok) → stop s (front ++ t ∷ rest) ≡ stop s (front ++ t ∷ rest')
  same_stop s [] t rest rest' = refl
  same_stop s (v ∷ front) t rest rest' = refl

  -- a reading either stops here, or goes on with a piece
  module _ (P : Type 0) where
    either_way : (n : ℕ) (s : S) (ts : List Tok) (o : Result (List A × List Tok) Fault) → at_most (suc n) s ts ≡ o → (stop s ts ≡ true → reads [] ts ≡ o → P) → (stop s ts ≡ false → follow (f s ts) (further n) ≡ o → P) → P
    either_way n s ts o h stopped gone = by_test (stop s ts) refl h
      where
        by_test : (b : Bool) → stop s ts ≡ b → cond b (reads {A = List A} [] ts) (follow (f s ts) (further n)) ≡ o → P
        by_test true e d = stopped e d
        by_test false e d = gone e d

  local_mid : (s : S) (one two : List Tok) (t : Tok) (rest rest' : List Tok) (x : A × S) → f s (one ++ (two ++ t ∷ rest)) ≡ reads x (two ++ t ∷ rest) → f s (one ++ (two ++ t ∷ rest')) ≡ reads x (two ++ t ∷ rest')
  local_mid s one [] t rest rest' x h = (laws s).local one t rest rest' (Ok x) h
  local_mid s one (v ∷ two) t rest rest' x h = (laws s).local one v (two ++ t ∷ rest) (two ++ t ∷ rest') (Ok x) h

  -- what is read behind a first piece
  goes_whole : (n : ℕ) (s : S) (one two : List Tok) (u : Tok) (rest : List Tok) (x : A × S) → stop s ((one ++ two) ++ u ∷ rest) ≡ false → f s (one ++ (two ++ u ∷ rest)) ≡ reads x (two ++ u ∷ rest) → at_most (suc n) s ((one ++ two) ++ u ∷ rest) ≡ in_front x.0 (at_most n x.1 (two ++ u ∷ rest))
  goes_whole n s one two u rest x e h =
      stop_not n s ((one ++ two) ++ u ∷ rest) e ∙ ap (λ (y : List Tok). follow (f s y) (further n)) (append_assoc one two (u ∷ rest)) ∙ ap (λ (y : Result ((A × S) × List Tok) Fault). follow y (further n)) h

  local_chain : (n : ℕ) (s : S) (front : List Tok) (t : Tok) (rest rest' : List Tok) (o : Result (List A) TokenFault) → length front < n → at_most n s (front ++ t ∷ rest) ≡ ends o (t ∷ rest) → at_most n s (front ++ t ∷ rest') ≡ ends o (t ∷ rest')
  local_chain zero s front t rest rest' o lt h = absurd (omega (arith, lt))
  local_chain (suc n) s front t rest rest' o lt h =
      either_way (at_most (suc n) s (front ++ t ∷ rest') ≡ ends o (t ∷ rest')) n s (front ++ t ∷ rest) (ends o (t ∷ rest)) h (λ e d. stopped e d)
      (λ e d. stop_not n s (front ++ t ∷ rest') (sym (same_stop s front t rest rest') ∙ e) ∙ by_piece (λ next front' o' l i. local_chain n next front' t rest rest' o' l i) (f s (front ++ t ∷ rest)) refl d)
    where
      stopped : stop s (front ++ t ∷ rest) ≡ true → reads [] (front ++ t ∷ rest) ≡ ends o (t ∷ rest) → at_most (suc n) s (front ++ t ∷ rest') ≡ ends o (t ∷ rest')
      stopped e d =
          let z = nothing_read front t rest o d in
          stop_gives (suc n) s (front ++ t ∷ rest') (sym (same_stop s front t rest rest') ∙ e) ∙ ap (λ (x : List Tok). reads [] (x ++ t ∷ rest')) z.0 ∙ ap (λ (x : Result (List A) TokenFault). ends x (t ∷ rest')) (sym z.1)

      Again : Type 0
      Again = (next : S) (front' : List Tok) (o' : Result (List A) TokenFault) → length front' < n → at_most n next (front' ++ t ∷ rest) ≡ ends o' (t ∷ rest) → at_most n next (front' ++ t ∷ rest') ≡ ends o' (t ∷ rest')

      by_piece : Again → (r : Result ((A × S) × List Tok) Fault) → f s (front ++ t ∷ rest) ≡ r → follow r (further n) ≡ ends o (t ∷ rest) → follow (f s (front ++ t ∷ rest')) (further n) ≡ ends o (t ∷ rest')
      by_piece again (Err k) i d =
          let w = err_ends k o (t ∷ rest) d in
          let one : f s (front ++ t ∷ rest') ≡ fault_at w.0 (t ∷ rest') = (laws s).local front t rest rest' (Err w.0) (i ∙ ap wrong w.2) in
          ap (λ (y : Result ((A × S) × List Tok) Fault). follow y (further n)) one ∙ ap (λ (x : Result (List A) TokenFault). ends x (t ∷ rest')) (sym w.1)
      by_piece again (Ok x) i d =
          let w = without x.0.0 (at_most n x.0.1 x.1) o (t ∷ rest) d in
          let c = cut_at n s front (t ∷ rest) x.0 x.1 w.0 i w.1 in
          let one : f s (c.one ++ (c.two ++ t ∷ rest')) ≡ reads x.0 (c.two ++ t ∷ rest') = local_mid s c.one c.two t rest rest' x.0 c.piece in
          let two : at_most n x.0.1 (c.two ++ t ∷ rest') ≡ ends w.0 (t ∷ rest') = again x.0.1 c.two w.0 (omega (arith, lt, c.less)) (ap (at_most n x.0.1) (sym c.mid_is) ∙ w.1) in
          let before : front ++ t ∷ rest' ≡ c.one ++ (c.two ++ t ∷ rest') = ap (λ (y : List Tok). y ++ t ∷ rest') c.front_is ∙ append_assoc c.one c.two (t ∷ rest') in
          ap (λ (y : List Tok). follow (f s y) (further n)) before ∙ ap (λ (y : Result ((A × S) × List Tok) Fault). follow y (further n)) one ∙ ap (in_front x.0.0) two ∙ ends_in_front x.0.0 w.0 (t ∷ rest') ∙ ap (λ (y : Result (List A) TokenFault). ends y (t ∷ rest')) (sym w.2)

  -- ---- another token in its place

  goes_first : (s : S) (front : List Tok) (u : Tok) → Goes (wide s) front u → Goes (of_all s) front u
  goes_first s front u (more, x, q, r) =
      let z = finish x.1 in
      (more ++ z.0, x.0 ∷ z.1, (front ++ u ∷ more, z.0, x.1, sym (append_assoc front (u ∷ more) z.0), q, z.2), all_real tokens (u ∷ more) z.0 r z.3)

  goes_second : (s : S) (one two : List Tok) (x : A × S) → wide s one x → (u : Tok) → Goes (of_all x.1) two u → Goes (of_all s) (one ++ two) u
  goes_second s one two x q u (more, as', c, r) = (more, x.0 ∷ as', (one, two ++ u ∷ more, x.1, append_assoc one two (u ∷ more), q, c), r)

  -- whether a reading stops there is the same
  abbrev Keeps : S → List Tok → Tok → List Tok → Type 0
  Keeps s front t rest = (u : Tok) → among tokens (stands_for (is_angled front) t.kind) u ≡ true → (rest' : List Tok) → stop s (front ++ u ∷ rest') ≡ stop s (front ++ t ∷ rest)

  no_stop : (s : S) (t : Tok) (ts : List Tok) → final s ≡ false → stop s (t ∷ ts) ≡ false
  no_stop s t ts e = ap (λ (b : Bool). b && not (begins s t)) e

  begun_stop : (s : S) (t : Tok) (ts : List Tok) (b : Bool) → begins s t ≡ b → stop s (t ∷ ts) ≡ (final s && not b)
  begun_stop s t ts b e = ap (λ (c : Bool). final s && not c) e

  kept : (s : S) (t : Tok) (rest : List Tok) → Keeps s [] t rest
  kept s t rest = by_final (final s) refl
    where
      by_fair : fair_at (bs s) t.kind ≡ true → Keeps s [] t rest
      by_fair e u i rest' = begun_stop s u rest' (contains (bs s) (number t.kind)) (alike (bs s) t.kind e u i)

      by_final : (b : Bool) → final s ≡ b → Keeps s [] t rest
      by_final true q = by_fair (fair_of (bs s) (fairly s q) t.kind)
      by_final false q = λ u i rest'. no_stop s u rest' q ∙ sym (no_stop s t rest q)

  module _ (n : ℕ) (s : S) where
    abbrev here_at : Reader Tok (List A)
    here_at = at_most (suc n) s

    -- behind a first piece that stays before it
    joined_too : (one two : List Tok) (x : A × S) → wide s one x → (angled : Bool) (h : TokenKind) (o : Result (List A) TokenFault)
        → ((u : Tok) → among tokens (stands_for angled h) u ≡ true → (rest : List Tok) → here_at ((one ++ two) ++ u ∷ rest) ≡ in_front x.0 (at_most n x.1 (two ++ u ∷ rest)))
        → OutcomeAt false (place x.1) (of_all x.1) (at_most n x.1) angled two h o → OutcomeAt false (place s) (of_all s) here_at angled (one ++ two) h (joined x.0 o)
    joined_too one two x q angled h (Ok m) whole p = ok_too false false (place x.1) (place s) (of_all x.1) (of_all s) (at_most n x.1) here_at angled two (one ++ two) h (λ e. e) m (x.0 ∷ m) (λ u i st rest. whole u i rest ∙ ap (in_front x.0) (st rest)) (λ u g. goes_second s one two x q u g) p
    joined_too one two x q angled h (Err k) whole p = err_too false false (place x.1) (place s) (of_all x.1) (of_all s) (at_most n x.1) here_at angled two (one ++ two) h k (within_further s one two x q) (λ u i st rest. let r = st rest in (r.0, r.1, whole u i rest ∙ ap (in_front x.0) r.2)) (λ u g. goes_second s one two x q u g) p

    module _ (front : List Tok) (t : Tok) (rest : List Tok) (here : stop s (front ++ t ∷ rest) ≡ false) where
      stuck_too : Keeps s front t rest → (u : Tok) → among tokens (stands_for (is_angled front) t.kind) u ≡ true → Stuck (f s) front u → Stuck here_at front u
      stuck_too keeps u i st rest' = let r = st rest' in (r.0, r.1, stop_not n s (front ++ u ∷ rest') (keeps u i rest' ∙ here) ∙ ap (λ (y : Result ((A × S) × List Tok) Fault). follow y (further n)) r.2)

      piece_err : Keeps s front t rest → (k : TokenFault) → f s (front ++ t ∷ rest) ≡ fault_at k (t ∷ rest) → Outcome false (place s) (of_all s) here_at front t.kind (Err k)
      piece_err keeps k e = err_too false false one_place (place s) (wide s) (of_all s) (f s) here_at (is_angled front) front front t.kind k (within_first s front) (λ u i st. stuck_too keeps u i st) (λ u g. goes_first s front u g) ((laws s).swap front t rest (Err k) e)

      -- at a number behind `<` the rest of the chain stops, where a piece ends there
      stops_after : (next : S) (o : Result (List A) TokenFault) → loose ≡ true → nat_eq (number t.kind) (number kinds.Number) ≡ true → at_most n next (t ∷ rest) ≡ ends o (t ∷ rest) → OutcomeAt false (place next) (of_all next) (at_most n next) true [] t.kind o
      stops_after next o e q d = by_end o (sym (stop_gives n next (t ∷ rest) (stop_at t rest (apart (number kinds.Number ∷ []) (bs next) (first_apart (steady e next).1) (number t.kind) (ap (λ (b : Bool). b || false) q)))) ∙ d)
        where
          first_apart : disjoint (number kinds.Number ∷ OPEN_BRACE) (bs next) ≡ true → disjoint (number kinds.Number ∷ []) (bs next) ≡ true
          first_apart e = ap (λ (b : Bool). b && true) (and_parts _ _ e).0

          stop_at : (u : Tok) (us : List Tok) → contains (bs next) (number u.kind) ≡ false → stop next (u ∷ us) ≡ true
          stop_at u us e' = ap (λ (b : Bool). b && not (contains (bs next) (number u.kind))) (steady e next).0 ∙ ap not e'

          brace : (u : Tok) → among tokens (stands_for true t.kind) u ≡ true → contains (bs next) (number u.kind) ≡ false
          brace u i =
              apart (number kinds.Number ∷ OPEN_BRACE) (bs next) (steady e next).1 (number u.kind)
              (only_number (λ (h : TokenKind). contains (stands_for true h) (number u.kind) ≡ true → contains (number kinds.Number ∷ OPEN_BRACE) (number u.kind) ≡ true) (within_of OPEN_BRACE (number kinds.Number ∷ OPEN_BRACE) refl (number u.kind)) t.kind q i)

          by_end : (o : Result (List A) TokenFault) → reads [] (t ∷ rest) ≡ ends o (t ∷ rest) → OutcomeAt false (place next) (of_all next) (at_most n next) true [] t.kind o
          by_end (Ok m) d = inl (λ u i rest'. stop_gives n next (u ∷ rest') (stop_at u rest' (brace u i)) ∙ ap (λ (z : List A). reads z (u ∷ rest')) (reads_is [] m (t ∷ rest) (t ∷ rest) d).0)
          by_end (Err k) d = absurd (not_both _ _ d)

      piece_ok : Keeps s front t rest → (x : A × S) (mid : List Tok) (o : Result (List A) TokenFault) (c : Cut s front (t ∷ rest) x mid) → at_most n x.1 (c.two ++ t ∷ rest) ≡ ends o (t ∷ rest) → Outcome false (place x.1) (of_all x.1) (at_most n x.1) c.two t.kind o → Outcome false (place s) (of_all s) here_at front t.kind (joined x.0 o)
      piece_ok keeps x mid o c d p = subst (λ (y : List Tok). Outcome false (place s) (of_all s) here_at y t.kind (joined x.0 o)) (sym c.front_is) (by_two c.two (λ u i rest'. ap (λ (y : List Tok). stop s (y ++ u ∷ rest')) (sym c.front_is) ∙ keeps u (subst (λ (y : List Tok). among tokens (stands_for (is_angled y) t.kind) u ≡ true) (sym c.front_is) i) rest' ∙ here) c.piece d p)
        where
          by_angle : ((u : Tok) → among tokens (stands_for (is_angled (c.one ++ [])) t.kind) u ≡ true → (rest' : List Tok) → stop s ((c.one ++ []) ++ u ∷ rest') ≡ false) → f s (c.one ++ t ∷ rest) ≡ reads x (t ∷ rest) → at_most n x.1 (t ∷ rest) ≡ ends o (t ∷ rest) → OutcomeAt false (place x.1) (of_all x.1) (at_most n x.1) false [] t.kind o → (angled : Bool) → is_angled c.one ≡ angled → ((u : Tok) → among tokens (stands_for angled t.kind) u ≡ true → Stays (f s) c.one x u) → OutcomeAt false (place s) (of_all s) here_at (is_angled (c.one ++ [])) (c.one ++ []) t.kind (joined x.0 o)
          by_angle on e d p angled q stays = subst (λ (b : Bool). OutcomeAt false (place s) (of_all s) here_at b (c.one ++ []) t.kind (joined x.0 o)) (sym (ap is_angled (append-nil c.one) ∙ q)) (joined_too c.one [] x c.spelled angled t.kind o (λ u i rest'. goes_whole n s c.one [] u rest' x (on u (subst (λ (b : Bool). among tokens (stands_for b t.kind) u ≡ true) (sym (ap is_angled (append-nil c.one) ∙ q)) i) rest') (stays u i rest')) (by_bool angled q))
            where
              by_number : (b : Bool) → nat_eq (number t.kind) (number kinds.Number) ≡ b → loose ≡ true → OutcomeAt false (place x.1) (of_all x.1) (at_most n x.1) true [] t.kind o
              by_number true z l = stops_after x.1 o l z d
              by_number false z l = same_at false (place x.1) (of_all x.1) (at_most n x.1) [] t.kind o z p

              by_bool : (angled : Bool) → is_angled c.one ≡ angled → OutcomeAt false (place x.1) (of_all x.1) (at_most n x.1) angled [] t.kind o
              by_bool false q = p
              by_bool true q = by_number (nat_eq (number t.kind) (number kinds.Number)) refl ((laws s).closed c.one (t ∷ rest) x e q)

          by_two : (two : List Tok) → ((u : Tok) → among tokens (stands_for (is_angled (c.one ++ two)) t.kind) u ≡ true → (rest' : List Tok) → stop s ((c.one ++ two) ++ u ∷ rest') ≡ false) → f s (c.one ++ (two ++ t ∷ rest)) ≡ reads x (two ++ t ∷ rest) → at_most n x.1 (two ++ t ∷ rest) ≡ ends o (t ∷ rest) → Outcome false (place x.1) (of_all x.1) (at_most n x.1) two t.kind o → OutcomeAt false (place s) (of_all s) here_at (is_angled (c.one ++ two)) (c.one ++ two) t.kind (joined x.0 o)
          by_two (v ∷ mid') on e d p = joined_too c.one (v ∷ mid') x c.spelled (is_angled (c.one ++ v ∷ mid')) t.kind o (λ u i rest'. goes_whole n s c.one (v ∷ mid') u rest' x (on u i rest') ((laws s).local c.one v (mid' ++ t ∷ rest) (mid' ++ u ∷ rest') (Ok x) e)) (subst (λ (b : Bool). OutcomeAt false (place x.1) (of_all x.1) (at_most n x.1) b (v ∷ mid') t.kind o) (angled_behind c.one v mid') p)
          by_two [] on e d p = elim ((laws s).swap c.one t rest (Ok x) e) [ inl stays ↦ by_angle on e d p (is_angled c.one) refl stays | inr w ↦ absurd (differ w.0) ]

  by_keeps : (n : ℕ) (s : S) (front : List Tok) (t : Tok) (rest : List Tok) (o : Result (List A) TokenFault) → ((next : S) (two : List Tok) (o' : Result (List A) TokenFault) → length two < length front → at_most n next (two ++ t ∷ rest) ≡ ends o' (t ∷ rest) → Outcome false (place next) (of_all next) (at_most n next) two t.kind o')
      → Keeps s front t rest → at_most (suc n) s (front ++ t ∷ rest) ≡ ends o (t ∷ rest) → Outcome false (place s) (of_all s) (at_most (suc n) s) front t.kind o
  by_keeps n s front t rest o again keeps d = either_way (Outcome false (place s) (of_all s) (at_most (suc n) s) front t.kind o) n s (front ++ t ∷ rest) (ends o (t ∷ rest)) d (λ e h. stopped e h) (λ e h. by_piece e (f s (front ++ t ∷ rest)) refl h)
    where
      stopped : stop s (front ++ t ∷ rest) ≡ true → reads [] (front ++ t ∷ rest) ≡ ends o (t ∷ rest) → Outcome false (place s) (of_all s) (at_most (suc n) s) front t.kind o
      stopped e h =
          let z = nothing_read front t rest o h in
          subst (λ (y : Result (List A) TokenFault). Outcome false (place s) (of_all s) (at_most (suc n) s) front t.kind y) (sym z.1) (inl (λ u i rest'. stop_gives (suc n) s (front ++ u ∷ rest') (keeps u i rest' ∙ e) ∙ ap (λ (y : List Tok). reads [] (y ++ u ∷ rest')) z.0))

      by_piece : stop s (front ++ t ∷ rest) ≡ false → (r : Result ((A × S) × List Tok) Fault) → f s (front ++ t ∷ rest) ≡ r → follow r (further n) ≡ ends o (t ∷ rest) → Outcome false (place s) (of_all s) (at_most (suc n) s) front t.kind o
      by_piece e (Err k) i h =
          let w = err_ends k o (t ∷ rest) h in
          subst (λ (y : Result (List A) TokenFault). Outcome false (place s) (of_all s) (at_most (suc n) s) front t.kind y) (sym w.1) (piece_err n s front t rest e keeps w.0 (i ∙ ap wrong w.2))
      by_piece e (Ok x) i h =
          let w = without x.0.0 (at_most n x.0.1 x.1) o (t ∷ rest) h in
          let c = cut_at n s front (t ∷ rest) x.0 x.1 w.0 i w.1 in
          subst (λ (y : Result (List A) TokenFault). Outcome false (place s) (of_all s) (at_most (suc n) s) front t.kind y) (sym w.2) (piece_ok n s front t rest e keeps x.0 x.1 w.0 c (ap (at_most n x.0.1) (sym c.mid_is) ∙ w.1) (again x.0.1 c.two w.0 c.less (ap (at_most n x.0.1) (sym c.mid_is) ∙ w.1)))

  swap_chain : (n : ℕ) (s : S) (front : List Tok) (t : Tok) (rest : List Tok) (o : Result (List A) TokenFault) → length front < n → at_most n s (front ++ t ∷ rest) ≡ ends o (t ∷ rest) → Outcome false (place s) (of_all s) (at_most n s) front t.kind o
  swap_chain zero s front t rest o lt d = absurd (omega (arith, lt))
  swap_chain (suc n) s [] t rest o lt d = by_keeps n s [] t rest o (λ next two o' l i. absurd (omega (arith, l))) (kept s t rest) d
  swap_chain (suc n) s (v ∷ front) t rest o lt d = by_keeps n s (v ∷ front) t rest o (λ next two o' l i. swap_chain n next two t rest o' (omega (arith, lt, l)) i) (λ u i rest'. refl) d

  -- the last token is that of the last piece
  closed_chain : (n : ℕ) (s : S) (ts front rest : List Tok) (as' : List A) → at_most n s ts ≡ reads as' rest → ts ≡ front ++ rest → is_angled front ≡ true → loose ≡ true
  closed_chain zero s ts front rest as' d e q = by_stop (stop s ts) d
    where
      by_stop : (b : Bool) → cond b (reads {A = List A} [] ts) (fault_at Syntax ts) ≡ reads as' rest → loose ≡ true
      by_stop true d = absurd (never_angled front (cut_is front rest [] rest (sym e ∙ (reads_is [] as' ts rest d).1) refl).0 q)
      by_stop false d = absurd cc
  closed_chain (suc n) s ts front rest as' d e q = either_way (loose ≡ true) n s ts (reads as' rest) d (λ h i. absurd (never_angled front (cut_is front rest [] rest (sym e ∙ (reads_is [] as' ts rest i).1) refl).0 q)) (λ h i. by_piece (λ next mid two m i' e' q'. closed_chain n next mid two rest m i' e' q') (f s ts) refl i)
    where
      Again : Type 0
      Again = (next : S) (mid two : List Tok) (m : List A) → at_most n next mid ≡ reads m rest → mid ≡ two ++ rest → is_angled two ≡ true → loose ≡ true

      by_last : Again → (x : A × S) (one two mid : List Tok) (m : List A) → f s (one ++ mid) ≡ reads x mid → at_most n x.1 mid ≡ reads m rest → mid ≡ two ++ rest → is_angled (one ++ two) ≡ true → loose ≡ true
      by_last again x one [] mid m i d e q = (laws s).closed one mid x i (ap is_angled (sym (append-nil one)) ∙ q)
      by_last again x one (v ∷ two) mid m i d e q = again x.1 mid (v ∷ two) m d e (angled_behind one v two ∙ q)

      by_rest : Again → (x : A × S) (mid : List Tok) → f s ts ≡ reads x mid → (r : Result (List A × List Tok) Fault) → at_most n x.1 mid ≡ r → follow r (λ m. done (x.0 ∷ m)) ≡ reads as' rest → loose ≡ true
      by_rest again x mid i (Err k) j d = absurd cc
      by_rest again x mid i (Ok y) j d =
          let w = reads_is (x.0 ∷ y.0) as' y.1 rest d in
          let p = (laws s).sound ts mid x i in
          let v = sound_chain n x.1 mid rest y.0 (j ∙ ap (λ (z : List Tok). reads y.0 z) w.1) in
          let parts = cut_is front rest (p.0 ++ v.0) rest (sym e ∙ p.1 ∙ ap (λ (z : List Tok). p.0 ++ z) v.1 ∙ sym (append_assoc p.0 v.0 rest)) refl in
          by_last again x p.0 v.0 mid y.0 (ap (f s) (sym p.1) ∙ i) (j ∙ ap (λ (z : List Tok). reads y.0 z) w.1) v.1 (ap is_angled (sym parts.0) ∙ q)

      by_piece : Again → (r : Result ((A × S) × List Tok) Fault) → f s ts ≡ r → follow r (further n) ≡ reads as' rest → loose ≡ true
      by_piece again (Err k) i d = absurd cc
      by_piece again (Ok x) i d = by_rest again x.0 x.1 i (at_most n x.0.1 x.1) refl d

  pub chain_behind : (s : S) → Swaps false loose (place s) (of_all s) (chain_at final begins f s)
  chain_behind s = record {
    sound = λ ts rest as' h. sound_chain (suc (length ts)) s ts rest as' h;
    placed = λ ts e h. placed_chain (suc (length ts)) s ts e h;
    local = λ front t rest rest' o d. enough_for front t rest' o (local_chain (suc (length front)) s front t rest rest' o (omega arith) (all_is front t rest o d));
    some = finish s;
    closed = λ front rest as' d q. closed_chain (suc (length (front ++ rest))) s (front ++ rest) front rest as' d refl q;
    swap = λ front t rest o d. swap_all front t.kind o (swap_chain (suc (length front)) s front t rest o (omega arith) (all_is front t rest o d));
  }
    where
      enough_for : (front : List Tok) (u : Tok) (rest : List Tok) (o : Result (List A) TokenFault) → at_most (suc (length front)) s (front ++ u ∷ rest) ≡ ends o (u ∷ rest) → chain_at final begins f s (front ++ u ∷ rest) ≡ ends o (u ∷ rest)
      enough_for front u rest o d = enough (suc (length front)) (suc (length (front ++ u ∷ rest))) s front (u ∷ rest) o (omega arith) (omega (arith, length-append front (u ∷ rest))) d

      all_is : (front : List Tok) (u : Tok) (rest : List Tok) (o : Result (List A) TokenFault) → chain_at final begins f s (front ++ u ∷ rest) ≡ ends o (u ∷ rest) → at_most (suc (length front)) s (front ++ u ∷ rest) ≡ ends o (u ∷ rest)
      all_is front u rest o d = enough (suc (length (front ++ u ∷ rest))) (suc (length front)) s front (u ∷ rest) o (omega (arith, length-append front (u ∷ rest))) (omega arith) d

      swap_all : (front : List Tok) (h : TokenKind) (o : Result (List A) TokenFault) → Outcome false (place s) (of_all s) (at_most (suc (length front)) s) front h o → Outcome false (place s) (of_all s) (chain_at final begins f s) front h o
      swap_all front h (Ok m) p = ok_too false false (place s) (place s) (of_all s) (of_all s) (at_most (suc (length front)) s) (chain_at final begins f s) (is_angled front) front front h (λ e. e) m m (λ u i st rest. enough_for front u rest (Ok m) (st rest)) (λ u g. g) p
      swap_all front h (Err k) p = err_too false false (place s) (place s) (of_all s) (of_all s) (at_most (suc (length front)) s) (chain_at final begins f s) (is_angled front) front front h k (λ v. v) (λ u i st rest. let r = st rest in (r.0, r.1, enough_for front u rest (Err r.0) r.2)) (λ u g. g) p

pub chain : {S A : Type 0} (final : S → Bool) (bs : S → List ℕ) (wide : S → Form Tok (A × S)) (f : S → Reader Tok (A × S)) → ((s : S) → Exchanges (wide s) (f s)) → ((s : S) (x : A × S) → wide s [] x → ⊥) → ((s : S) → (ts : List Tok) × (as' : List A) × Chain final wide s ts as' × AllReal tokens ts) → ((s : S) → final s ≡ true → fair (bs s) ≡ true)
    → (s : S) → Exchanges (Chain final wide s) (chain_at final (λ s. among tokens (bs s)) f s)
chain final bs wide f laws some finish fairly s = chain_behind final bs wide f (λ _. nowhere) (λ s front v. v) (λ s one two x q v. v) laws some finish fairly (λ e. absurd (differ e)) s
