-- The reader of balanced groups reads them.
use Rattle.std.proofs.Common.{◌≡◌, ℕ, true, false, Option, Some, None, List, [], ◌∷◌, ◌++◌, length, Result, Ok, Err, refl, sym, ap, subst, ◌∙◌, arith, inl}
use Rattle.std.proofs.lemmas.List.{length-append}
use Rattle.ir_parse_parts.specs.declared.fault.Fault.{Fault}
use Rattle.ir_parse_parts.specs.declared.fault.TokenFault.{TokenFault}
use Rattle.ir_parse_parts.specs.declared.fault.TokenFault.TheVariants.{Syntax, Number, Limit}
use Rattle.ir_parse_parts.specs.Alphabet.{Alphabet, AllReal, is_literal, is_number}
use Rattle.ir_parse_parts.specs.Balanced.{Brackets, Move, moved, Closing, closing_at, HaveClosers, none_open}
use Rattle.ir_parse_parts.specs.Lawful.{Lawful, GoesOn, Swapped, ends}
use Rattle.ir_parse_parts.specs.Readers.{fault_at}
use Rattle.ir_parse_parts.proofs.Composed.{reads, reads_is, wrong, wrong_is, cut_is}

module _ {T B : Type 0} (alphabet : Alphabet T) (brackets : Brackets T B) (have : HaveClosers brackets alphabet) where
  closers : List B → List T
  closers [] = []
  closers (b ∷ bs) = have.closer b ∷ closers bs

  closers_real : (bs : List B) → AllReal alphabet (closers bs)
  unfolding closers
  closers_real [] = tt
  closers_real (b ∷ bs) = (have.real b, closers_real bs)

  closed : (bs : List B) → Closing brackets bs (closers bs) tt
  unfolding closers
  closed [] = tt
  closed (b ∷ bs) = subst (λ (o : Option (List B)). elim o as (λ x. Type 0) [ None ↦ ⊥ | Some z ↦ Closing brackets z (closers bs) tt ]) (sym (have.closes_it b bs)) (closed bs)

  sound_closing : (bs : List B) (ts rest : List T) (u : Unit {0}) → closing_at brackets bs ts ≡ reads u rest → (front : List T) × (ts ≡ front ++ rest) × Closing brackets bs front u
  sound_closing [] ts rest u e = ([], (reads_is tt u ts rest e).1, tt)
  sound_closing (b ∷ bs) [] rest u e = absurd cc
  sound_closing (b ∷ bs) (t ∷ ts) rest u e = by_move (moved brackets (brackets.move t) b bs) refl (λ stack. sound_closing stack ts rest u) e
    where
      by_move : (o : Option (List B)) → moved brackets (brackets.move t) b bs ≡ o → ((stack : List B) → closing_at brackets stack ts ≡ reads u rest → (front : List T) × (ts ≡ front ++ rest) × Closing brackets stack front u)
          → elim o as (λ x. Result (Unit {0} × List T) Fault) [ None ↦ fault_at Syntax (t ∷ ts) | Some stack ↦ closing_at brackets stack ts ] ≡ reads u rest → (front : List T) × (t ∷ ts ≡ front ++ rest) × Closing brackets (b ∷ bs) front u
      by_move None d again h = absurd cc
      by_move (Some stack) d again h =
          let s = again stack h in
          (t ∷ s.0, ap (λ (x : List T). t ∷ x) s.1, subst (λ (o : Option (List B)). elim o as (λ x. Type 0) [ None ↦ ⊥ | Some z ↦ Closing brackets z s.0 u ]) (sym d) s.2)

  complete_closing : (bs : List B) (front rest : List T) (u : Unit {0}) → Closing brackets bs front u → closing_at brackets bs (front ++ rest) ≡ reads u rest
  complete_closing [] [] rest u s = refl
  complete_closing [] (t ∷ front) rest u s = absurd s
  complete_closing (b ∷ bs) [] rest u s = absurd s
  complete_closing (b ∷ bs) (t ∷ front) rest u s = by_move (moved brackets (brackets.move t) b bs) (λ stack. complete_closing stack front rest u) s
    where
      by_move : (o : Option (List B)) → ((stack : List B) → Closing brackets stack front u → closing_at brackets stack (front ++ rest) ≡ reads u rest)
          → elim o as (λ x. Type 0) [ None ↦ ⊥ | Some z ↦ Closing brackets z front u ] → elim o as (λ x. Result (Unit {0} × List T) Fault) [ None ↦ fault_at Syntax (t ∷ (front ++ rest)) | Some stack ↦ closing_at brackets stack (front ++ rest) ] ≡ reads u rest
      by_move None again h = absurd h
      by_move (Some stack) again h = again stack h

  viable_closing : (bs : List B) (ts : List T) (e : Fault) → closing_at brackets bs ts ≡ wrong {X = Unit {0} × List T} e → GoesOn alphabet (Closing brackets bs) ts e.left
  viable_closing [] ts e h = absurd cc
  viable_closing (b ∷ bs) [] e h = record { front = []; rest = []; whole = refl; here = ap (λ (x : Fault). x.left) (wrong_is _ e h); more = closers (b ∷ bs); value = tt; spelled = closed (b ∷ bs); real = closers_real (b ∷ bs) }
  viable_closing (b ∷ bs) (t ∷ ts) e h = by_move (moved brackets (brackets.move t) b bs) refl (λ stack. viable_closing stack ts e) h
    where
      by_move : (o : Option (List B)) → moved brackets (brackets.move t) b bs ≡ o → ((stack : List B) → closing_at brackets stack ts ≡ wrong {X = Unit {0} × List T} e → GoesOn alphabet (Closing brackets stack) ts e.left)
          → elim o as (λ x. Result (Unit {0} × List T) Fault) [ None ↦ fault_at Syntax (t ∷ ts) | Some stack ↦ closing_at brackets stack ts ] ≡ wrong {X = Unit {0} × List T} e → GoesOn alphabet (Closing brackets (b ∷ bs)) (t ∷ ts) e.left
      by_move None d again h = record { front = []; rest = t ∷ ts; whole = refl; here = ap (λ (x : Fault). x.left) (wrong_is _ e h); more = closers (b ∷ bs); value = tt; spelled = closed (b ∷ bs); real = closers_real (b ∷ bs) }
      by_move (Some stack) d again h =
          let v = again stack h in
          record {
            front = t ∷ v.front;
            rest = v.rest;
            whole = ap (λ (x : List T). t ∷ x) v.whole;
            here = v.here;
            more = v.more;
            value = v.value;
            spelled = subst (λ (o : Option (List B)). elim o as (λ x. Type 0) [ None ↦ ⊥ | Some z ↦ Closing brackets z (v.front ++ v.more) v.value ]) (sym d) v.spelled;
            real = v.real;
          }

  local_closing : (bs : List B) (front : List T) (t : T) (rest rest' : List T) (o : Result (Unit {0}) TokenFault) → closing_at brackets bs (front ++ t ∷ rest) ≡ ends o (t ∷ rest) → closing_at brackets bs (front ++ t ∷ rest') ≡ ends o (t ∷ rest')
  local_closing [] front t rest rest' (Ok u) h =
      let c = cut_is front (t ∷ rest) [] (t ∷ rest) (reads_is tt u (front ++ t ∷ rest) (t ∷ rest) h).1 refl in
      ap (λ (x : List T). reads tt (x ++ t ∷ rest')) c.0
  local_closing [] front t rest rest' (Err k) h = absurd cc
  local_closing (b ∷ bs) [] t rest rest' o h = by_move (moved brackets (brackets.move t) b bs) o h
    where
      by_move : (m : Option (List B)) (o : Result (Unit {0}) TokenFault) → elim m as (λ x. Result (Unit {0} × List T) Fault) [ None ↦ fault_at Syntax (t ∷ rest) | Some stack ↦ closing_at brackets stack rest ] ≡ ends o (t ∷ rest) → elim m as (λ x. Result (Unit {0} × List T) Fault) [ None ↦ fault_at Syntax (t ∷ rest') | Some stack ↦ closing_at brackets stack rest' ] ≡ ends o (t ∷ rest')
      by_move None (Ok u) h = absurd cc
      by_move None (Err k) h = ap (λ (x : TokenFault). fault_at x (t ∷ rest')) (ap (λ (x : Fault). x.kind) (wrong_is (record { left = length (t ∷ rest); kind = Syntax }) (record { left = length (t ∷ rest); kind = k }) h))
      by_move (Some stack) (Ok u) h = let s = sound_closing stack rest (t ∷ rest) u h in absurd (omega (arith, ap length s.1, length-append s.0 (t ∷ rest)))
      by_move (Some stack) (Err k) h = let v = viable_closing stack rest (record { left = length (t ∷ rest); kind = k }) h in absurd (omega (arith, ap length v.whole, v.here, length-append v.front v.rest))
  local_closing (b ∷ bs) (v ∷ front) t rest rest' o h = by_move (moved brackets (brackets.move v) b bs) (λ stack. local_closing stack front t rest rest' o) h
    where
      by_move : (m : Option (List B)) → ((stack : List B) → closing_at brackets stack (front ++ t ∷ rest) ≡ ends o (t ∷ rest) → closing_at brackets stack (front ++ t ∷ rest') ≡ ends o (t ∷ rest'))
          → elim m as (λ x. Result (Unit {0} × List T) Fault) [ None ↦ fault_at Syntax (v ∷ (front ++ t ∷ rest)) | Some stack ↦ closing_at brackets stack (front ++ t ∷ rest) ] ≡ ends o (t ∷ rest) → elim m as (λ x. Result (Unit {0} × List T) Fault) [ None ↦ fault_at Syntax (v ∷ (front ++ t ∷ rest')) | Some stack ↦ closing_at brackets stack (front ++ t ∷ rest') ] ≡ ends o (t ∷ rest')
      by_move None again h = absurd (too_long o h)
        where
          too_long : (o : Result (Unit {0}) TokenFault) → fault_at Syntax (v ∷ (front ++ t ∷ rest)) ≡ ends o (t ∷ rest) → ⊥
          too_long (Ok u) h = cc
          too_long (Err k) h = omega (arith, ap (λ (x : Fault). x.left) (wrong_is (record { left = length (v ∷ (front ++ t ∷ rest)); kind = Syntax }) (record { left = length (t ∷ rest); kind = k }) h), length-append front (t ∷ rest))
      by_move (Some stack) again h = again stack h

  swap_closing : (bs : List B) (front : List T) (t u : T) (rest rest' : List T) (o : Result (Unit {0}) TokenFault) → is_number alphabet t ≡ true → alphabet.class u ≡ alphabet.class t → closing_at brackets bs (front ++ t ∷ rest) ≡ ends o (t ∷ rest) → Swapped (is_literal alphabet t) o (closing_at brackets bs (front ++ u ∷ rest')) u rest'
  swap_closing [] front t u rest rest' (Ok x) n m h =
      let c = cut_is front (t ∷ rest) [] (t ∷ rest) (reads_is tt x (front ++ t ∷ rest) (t ∷ rest) h).1 refl in
      ap (λ (y : List T). reads tt (y ++ u ∷ rest')) c.0
  swap_closing [] front t u rest rest' (Err k) n m h = absurd cc
  swap_closing (b ∷ bs) [] t u rest rest' o n m h = absurd (never o (sym (ap (λ (x : Move B). elim (moved brackets x b bs) as (λ y. Result (Unit {0} × List T) Fault) [ None ↦ fault_at Syntax (t ∷ rest) | Some stack ↦ closing_at brackets stack rest ]) (have.number_stays t n)) ∙ h))
    where
      never : (o : Result (Unit {0}) TokenFault) → closing_at brackets (b ∷ bs) rest ≡ ends o (t ∷ rest) → ⊥
      never (Ok x) h = let s = sound_closing (b ∷ bs) rest (t ∷ rest) x h in omega (arith, ap length s.1, length-append s.0 (t ∷ rest))
      never (Err k) h = let v = viable_closing (b ∷ bs) rest (record { left = length (t ∷ rest); kind = k }) h in omega (arith, ap length v.whole, v.here, length-append v.front v.rest)
  swap_closing (b ∷ bs) (v ∷ front) t u rest rest' o n m h = by_move (moved brackets (brackets.move v) b bs) (λ stack. swap_closing stack front t u rest rest' o n m) h
    where
      by_move : (p : Option (List B)) → ((stack : List B) → closing_at brackets stack (front ++ t ∷ rest) ≡ ends o (t ∷ rest) → Swapped (is_literal alphabet t) o (closing_at brackets stack (front ++ u ∷ rest')) u rest')
          → elim p as (λ x. Result (Unit {0} × List T) Fault) [ None ↦ fault_at Syntax (v ∷ (front ++ t ∷ rest)) | Some stack ↦ closing_at brackets stack (front ++ t ∷ rest) ] ≡ ends o (t ∷ rest) → Swapped (is_literal alphabet t) o (elim p as (λ x. Result (Unit {0} × List T) Fault) [ None ↦ fault_at Syntax (v ∷ (front ++ u ∷ rest')) | Some stack ↦ closing_at brackets stack (front ++ u ∷ rest') ]) u rest'
      by_move None again h = absurd (too_long o h)
        where
          too_long : (o : Result (Unit {0}) TokenFault) → fault_at Syntax (v ∷ (front ++ t ∷ rest)) ≡ ends o (t ∷ rest) → ⊥
          too_long (Ok x) h = cc
          too_long (Err k) h = omega (arith, ap (λ (x : Fault). x.left) (wrong_is (record { left = length (v ∷ (front ++ t ∷ rest)); kind = Syntax }) (record { left = length (t ∷ rest); kind = k }) h), length-append front (t ∷ rest))
      by_move (Some stack) again h = again stack h

  number_closing : (bs : List B) (ts : List T) (left : ℕ) → closing_at brackets bs ts ≡ wrong {X = Unit {0} × List T} (record { left = left; kind = Number }) → ⊥
  number_closing [] ts left h = cc
  number_closing (b ∷ bs) [] left h = differ (ap (λ (x : Fault). x.kind) (wrong_is (record { left = 0; kind = Syntax }) (record { left = left; kind = Number }) h))
    where
      differ : Syntax ≡ Number → ⊥
      differ e = cc
  number_closing (b ∷ bs) (t ∷ ts) left h = by_move (moved brackets (brackets.move t) b bs) (λ stack. number_closing stack ts left) h
    where
      differ : Syntax ≡ Number → ⊥
      differ e = cc

      by_move : (o : Option (List B)) → ((stack : List B) → closing_at brackets stack ts ≡ wrong {X = Unit {0} × List T} (record { left = left; kind = Number }) → ⊥)
          → elim o as (λ x. Result (Unit {0} × List T) Fault) [ None ↦ fault_at Syntax (t ∷ ts) | Some stack ↦ closing_at brackets stack ts ] ≡ wrong {X = Unit {0} × List T} (record { left = left; kind = Number }) → ⊥
      by_move None again h = differ (ap (λ (x : Fault). x.kind) (wrong_is (record { left = length (t ∷ ts); kind = Syntax }) (record { left = left; kind = Number }) h))
      by_move (Some stack) again h = again stack h

  limit_closing : (bs : List B) (ts : List T) (left : ℕ) → closing_at brackets bs ts ≡ wrong {X = Unit {0} × List T} (record { left = left; kind = Limit }) → ⊥
  limit_closing [] ts left h = cc
  limit_closing (b ∷ bs) [] left h = differ (ap (λ (x : Fault). x.kind) (wrong_is (record { left = 0; kind = Syntax }) (record { left = left; kind = Limit }) h))
    where
      differ : Syntax ≡ Limit → ⊥
      differ e = cc
  limit_closing (b ∷ bs) (t ∷ ts) left h = by_move (moved brackets (brackets.move t) b bs) (λ stack. limit_closing stack ts left) h
    where
      differ : Syntax ≡ Limit → ⊥
      differ e = cc

      by_move : (o : Option (List B)) → ((stack : List B) → closing_at brackets stack ts ≡ wrong {X = Unit {0} × List T} (record { left = left; kind = Limit }) → ⊥)
          → elim o as (λ x. Result (Unit {0} × List T) Fault) [ None ↦ fault_at Syntax (t ∷ ts) | Some stack ↦ closing_at brackets stack ts ] ≡ wrong {X = Unit {0} × List T} (record { left = left; kind = Limit }) → ⊥
      by_move None again h = differ (ap (λ (x : Fault). x.kind) (wrong_is (record { left = length (t ∷ ts); kind = Syntax }) (record { left = left; kind = Limit }) h))
      by_move (Some stack) again h = again stack h

  pub closing_lawful : (bs : List B) → Lawful alphabet (Closing brackets bs) (Closing brackets bs) (closing_at brackets bs) (λ _. true) (λ _. false) (none_open bs)
  closing_lawful bs = record {
    sound = sound_closing bs;
    complete = λ front rest u s d. complete_closing bs front rest u s;
    starts = λ t ts u s. refl;
    nothing = λ u s. empty bs u s;
    some = (closers bs, tt, closed bs, closers_real bs);
    viable = viable_closing bs;
    local = local_closing bs;
    number = λ ts left h. absurd (number_closing bs ts left h);
    swap = swap_closing bs;
    contains = λ ts u s. s;
    limit = λ ts left h. absurd (limit_closing bs ts left h);
    broad = record { starts = λ t ts u s. refl; nothing = λ u s. empty bs u s; reads = λ front rest u s d. inl (complete_closing bs front rest u s) };
  }
    where
      empty : (bs : List B) (u : Unit {0}) → Closing brackets bs [] u → none_open bs ≡ true
      empty [] u s = refl
      empty (b ∷ bs) u s = absurd s
