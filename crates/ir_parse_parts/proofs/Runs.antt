-- The reader of forms that go token by token through states reads them.
use Rattle.std.proofs.Common.{◌≡◌, ℕ, true, false, List, [], ◌∷◌, ◌++◌, length, Result, Ok, Err, refl, sym, ap, subst, arith, inl}
use Rattle.std.proofs.lemmas.List.{length-append}
use Rattle.ir_parse_parts.specs.declared.fault.Fault.{Fault}
use Rattle.ir_parse_parts.specs.declared.fault.TokenFault.{TokenFault}
use Rattle.ir_parse_parts.specs.declared.fault.TokenFault.TheVariants.{Syntax, Number, Limit}
use Rattle.ir_parse_parts.specs.Alphabet.{Alphabet, is_literal, is_number}
use Rattle.ir_parse_parts.specs.Lawful.{Lawful, GoesOn, Swapped, ends}
use Rattle.ir_parse_parts.specs.Readers.{fault_at}
use Rattle.ir_parse_parts.specs.Runs.{Step, bad, last, onward, Run, run_at, HaveEnds}
use Rattle.ir_parse_parts.proofs.Composed.{reads, reads_is, wrong, wrong_is, cut_is}

module _ {T S : Type 0} (alphabet : Alphabet T) (step : S → T → Step S) (have : HaveEnds step alphabet) where
  abbrev read : Step S → T → List T → Result (Unit {0} × List T) Fault
  read p t ts = elim p as (λ x. Result (Unit {0} × List T) Fault) [ bad ↦ fault_at Syntax (t ∷ ts) | last ↦ Ok (tt, ts) | onward next ↦ run_at step next ts ]

  abbrev spelled_by : Step S → List T → Type 0
  spelled_by p ts = elim p as (λ x. Type 0) [ bad ↦ ⊥ | last ↦ ts ≡ [] | onward next ↦ Run step next ts tt ]

  sound_run : (s : S) (ts rest : List T) (u : Unit {0}) → run_at step s ts ≡ reads u rest → (front : List T) × (ts ≡ front ++ rest) × Run step s front u
  sound_run s [] rest u e = absurd cc
  sound_run s (t ∷ ts) rest u e = by_step (step s t) refl (λ next. sound_run next ts rest u) e
    where
      by_step : (p : Step S) → step s t ≡ p → ((next : S) → run_at step next ts ≡ reads u rest → (front : List T) × (ts ≡ front ++ rest) × Run step next front u)
          → read p t ts ≡ reads u rest → (front : List T) × (t ∷ ts ≡ front ++ rest) × Run step s front u
      by_step bad d again h = absurd cc
      by_step last d again h = (t ∷ [], ap (λ (x : List T). t ∷ x) (reads_is tt u ts rest h).1, subst (λ (p : Step S). spelled_by p []) (sym d) refl)
      by_step (onward next) d again h =
          let s = again next h in
          (t ∷ s.0, ap (λ (x : List T). t ∷ x) s.1, subst (λ (p : Step S). spelled_by p s.0) (sym d) s.2)

  complete_run : (s : S) (front rest : List T) (u : Unit {0}) → Run step s front u → run_at step s (front ++ rest) ≡ reads u rest
  complete_run s [] rest u h = absurd h
  complete_run s (t ∷ front) rest u h = by_step (step s t) (λ next. complete_run next front rest u) h
    where
      by_step : (p : Step S) → ((next : S) → Run step next front u → run_at step next (front ++ rest) ≡ reads u rest) → spelled_by p front → read p t (front ++ rest) ≡ reads u rest
      by_step bad again h = absurd h
      by_step last again h = ap (λ (x : List T). reads tt (x ++ rest)) h
      by_step (onward next) again h = again next h

  viable_run : (s : S) (ts : List T) (e : Fault) → run_at step s ts ≡ wrong {X = Unit {0} × List T} e → GoesOn alphabet (Run step s) ts e.left
  viable_run s [] e h = record { front = []; rest = []; whole = refl; here = ap (λ (x : Fault). x.left) (wrong_is _ e h); more = have.ending s; value = tt; spelled = have.leads s; real = have.real s }
  viable_run s (t ∷ ts) e h = by_step (step s t) refl (λ next. viable_run next ts e) h
    where
      by_step : (p : Step S) → step s t ≡ p → ((next : S) → run_at step next ts ≡ wrong {X = Unit {0} × List T} e → GoesOn alphabet (Run step next) ts e.left)
          → read p t ts ≡ wrong {X = Unit {0} × List T} e → GoesOn alphabet (Run step s) (t ∷ ts) e.left
      by_step bad d again h = record { front = []; rest = t ∷ ts; whole = refl; here = ap (λ (x : Fault). x.left) (wrong_is _ e h); more = have.ending s; value = tt; spelled = have.leads s; real = have.real s }
      by_step last d again h = absurd cc
      by_step (onward next) d again h =
          let v = again next h in
          record {
            front = t ∷ v.front;
            rest = v.rest;
            whole = ap (λ (x : List T). t ∷ x) v.whole;
            here = v.here;
            more = v.more;
            value = v.value;
            spelled = subst (λ (p : Step S). spelled_by p (v.front ++ v.more)) (sym d) v.spelled;
            real = v.real;
          }

  -- a reading takes a token at least
  not_here : (s : S) (ts : List T) (t : T) (o : Result (Unit {0}) TokenFault) → run_at step s ts ≡ ends o (t ∷ ts) → ⊥
  not_here s ts t (Ok u) h = let r = sound_run s ts (t ∷ ts) u h in omega (arith, ap length r.1, length-append r.0 (t ∷ ts))
  not_here s ts t (Err k) h = let v = viable_run s ts (record { left = length (t ∷ ts); kind = k }) h in omega (arith, ap length v.whole, v.here, length-append v.front v.rest)

  not_so_long : (o : Result (Unit {0}) TokenFault) (front : List T) (v t : T) (rest : List T) → fault_at Syntax (v ∷ (front ++ t ∷ rest)) ≡ ends o (t ∷ rest) → ⊥
  not_so_long (Ok u) front v t rest h = cc
  not_so_long (Err k) front v t rest h = omega (arith, ap (λ (x : Fault). x.left) (wrong_is (record { left = length (v ∷ (front ++ t ∷ rest)); kind = Syntax }) (record { left = length (t ∷ rest); kind = k }) h), length-append front (t ∷ rest))

  local_last : (front : List T) (t : T) (rest rest' : List T) (o : Result (Unit {0}) TokenFault) → reads tt (front ++ t ∷ rest) ≡ ends o (t ∷ rest) → reads tt (front ++ t ∷ rest') ≡ ends o (t ∷ rest')
  local_last front t rest rest' (Ok u) h =
      let c = cut_is front (t ∷ rest) [] (t ∷ rest) (reads_is tt u (front ++ t ∷ rest) (t ∷ rest) h).1 refl in
      ap (λ (x : List T). reads tt (x ++ t ∷ rest')) c.0
  local_last front t rest rest' (Err k) h = absurd cc

  local_run : (s : S) (front : List T) (t : T) (rest rest' : List T) (o : Result (Unit {0}) TokenFault) → run_at step s (front ++ t ∷ rest) ≡ ends o (t ∷ rest) → run_at step s (front ++ t ∷ rest') ≡ ends o (t ∷ rest')
  local_run s [] t rest rest' o h = by_step (step s t) o h
    where
      by_step : (p : Step S) (o : Result (Unit {0}) TokenFault) → read p t rest ≡ ends o (t ∷ rest) → read p t rest' ≡ ends o (t ∷ rest')
      by_step bad (Ok u) h = absurd cc
      by_step bad (Err k) h = ap (λ (x : TokenFault). fault_at x (t ∷ rest')) (ap (λ (x : Fault). x.kind) (wrong_is (record { left = length (t ∷ rest); kind = Syntax }) (record { left = length (t ∷ rest); kind = k }) h))
      by_step last (Ok u) h = absurd (omega (arith, ap length (reads_is tt u rest (t ∷ rest) h).1))
      by_step last (Err k) h = absurd cc
      by_step (onward next) o h = absurd (not_here next rest t o h)
  local_run s (v ∷ front) t rest rest' o h = by_step (step s v) (λ next. local_run next front t rest rest' o) h
    where
      by_step : (p : Step S) → ((next : S) → run_at step next (front ++ t ∷ rest) ≡ ends o (t ∷ rest) → run_at step next (front ++ t ∷ rest') ≡ ends o (t ∷ rest'))
          → read p v (front ++ t ∷ rest) ≡ ends o (t ∷ rest) → read p v (front ++ t ∷ rest') ≡ ends o (t ∷ rest')
      by_step bad again h = absurd (not_so_long o front v t rest h)
      by_step last again h = local_last front t rest rest' o h
      by_step (onward next) again h = again next h

  swap_last : (front : List T) (t u : T) (rest rest' : List T) (o : Result (Unit {0}) TokenFault) → reads tt (front ++ t ∷ rest) ≡ ends o (t ∷ rest) → Swapped (is_literal alphabet t) o (reads tt (front ++ u ∷ rest')) u rest'
  swap_last front t u rest rest' (Ok x) h =
      let c = cut_is front (t ∷ rest) [] (t ∷ rest) (reads_is tt x (front ++ t ∷ rest) (t ∷ rest) h).1 refl in
      ap (λ (y : List T). reads tt (y ++ u ∷ rest')) c.0
  swap_last front t u rest rest' (Err k) h = absurd cc

  swap_run : (s : S) (front : List T) (t u : T) (rest rest' : List T) (o : Result (Unit {0}) TokenFault) → is_number alphabet t ≡ true → alphabet.class u ≡ alphabet.class t → run_at step s (front ++ t ∷ rest) ≡ ends o (t ∷ rest) → Swapped (is_literal alphabet t) o (run_at step s (front ++ u ∷ rest')) u rest'
  swap_run s [] t u rest rest' o n n' h = by_step (step s t) refl o h
    where
      by_step : (p : Step S) → step s t ≡ p → (o : Result (Unit {0}) TokenFault) → read p t rest ≡ ends o (t ∷ rest) → Swapped (is_literal alphabet t) o (run_at step s (u ∷ rest')) u rest'
      by_step bad d o h = absurd (have.number_fits s t n d)
      by_step last d (Ok x) h = absurd (omega (arith, ap length (reads_is tt x rest (t ∷ rest) h).1))
      by_step last d (Err k) h = absurd cc
      by_step (onward next) d o h = absurd (not_here next rest t o h)
  swap_run s (v ∷ front) t u rest rest' o n n' h = by_step (step s v) (λ next. swap_run next front t u rest rest' o n n') h
    where
      by_step : (p : Step S) → ((next : S) → run_at step next (front ++ t ∷ rest) ≡ ends o (t ∷ rest) → Swapped (is_literal alphabet t) o (run_at step next (front ++ u ∷ rest')) u rest')
          → read p v (front ++ t ∷ rest) ≡ ends o (t ∷ rest) → Swapped (is_literal alphabet t) o (read p v (front ++ u ∷ rest')) u rest'
      by_step bad again h = absurd (not_so_long o front v t rest h)
      by_step last again h = swap_last front t u rest rest' o h
      by_step (onward next) again h = again next h

  -- no fault is of another kind
  only_syntax : (kind : TokenFault) → (Syntax ≡ kind → ⊥) → (s : S) (ts : List T) (left : ℕ) → run_at step s ts ≡ wrong {X = Unit {0} × List T} (record { left = left; kind = kind }) → ⊥
  only_syntax kind never s [] left h = never (ap (λ (x : Fault). x.kind) (wrong_is (record { left = 0; kind = Syntax }) (record { left = left; kind = kind }) h))
  only_syntax kind never s (t ∷ ts) left h = by_step (step s t) (λ next. only_syntax kind never next ts left) h
    where
      by_step : (p : Step S) → ((next : S) → run_at step next ts ≡ wrong {X = Unit {0} × List T} (record { left = left; kind = kind }) → ⊥) → read p t ts ≡ wrong {X = Unit {0} × List T} (record { left = left; kind = kind }) → ⊥
      by_step bad again h = never (ap (λ (x : Fault). x.kind) (wrong_is (record { left = length (t ∷ ts); kind = Syntax }) (record { left = left; kind = kind }) h))
      by_step last again h = cc
      by_step (onward next) again h = again next h

  no_number : Syntax ≡ Number → ⊥
  no_number e = cc

  no_limit : Syntax ≡ Limit → ⊥
  no_limit e = cc

  pub run_lawful : (s : S) → Lawful alphabet (Run step s) (Run step s) (run_at step s) (λ _. true) (λ _. false) false
  run_lawful s = record {
    sound = sound_run s;
    complete = λ front rest u h d. complete_run s front rest u h;
    starts = λ t ts u h. refl;
    nothing = λ u h. absurd h;
    some = (have.ending s, tt, have.leads s, have.real s);
    viable = viable_run s;
    local = local_run s;
    number = λ ts left h. absurd (only_syntax Number no_number s ts left h);
    swap = swap_run s;
    contains = λ ts u h. h;
    limit = λ ts left h. absurd (only_syntax Limit no_limit s ts left h);
    broad = record { starts = λ t ts u h. refl; nothing = λ u h. absurd h; reads = λ front rest u h d. inl (complete_run s front rest u h) };
  }
