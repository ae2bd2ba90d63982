-- How readers that are tied to their forms are put together.
use Rattle.std.proofs.Common.{◌≡◌, ℕ, zero, suc, ◌+◌, ◌≤◌, Bool, true, false, cond, ◌||◌, ◌&&◌, List, [], ◌∷◌, ◌++◌, length, Result, Ok, Err, refl, sym, ap, subst, ◌∙◌, append_assoc, arith, ◌⊎◌, inl, inr}
use Rattle.std.proofs.lemmas.List.{append-nil, length-append}
use Rattle.ir_parse_parts.specs.declared.fault.Fault.{Fault}
use Rattle.ir_parse_parts.specs.declared.fault.TokenFault.{TokenFault}
use Rattle.ir_parse_parts.specs.declared.fault.TokenFault.TheVariants.{Syntax, Profile, Number, Limit}
use Rattle.ir_parse_parts.specs.Alphabet.{Alphabet, AllReal, is_literal, is_number}
use Rattle.ir_parse_parts.specs.Faults.{LimitGoesOn, NumberGoesOn}
use Rattle.ir_parse_parts.specs.Forms as form
use Rattle.ir_parse_parts.specs.Forms.{Form, Many, Star}
use Rattle.ir_parse_parts.specs.Lawful.{Bounded, Broad, ends, Stops, Swapped, SameRefusal, GoesOn, IsRanged, Lawful, UpTo}
use Rattle.ir_parse_parts.specs.Readers.{Reader, fault_at, done, follow, ◌>>=◌, token_means, token_at, pick, many_at, star_at}

-- ---- lists

pub cons_is : {T : Type 0} (t u : T) (ts us : List T) → t ∷ ts ≡ u ∷ us → (t ≡ u) × (ts ≡ us)
cons_is t u ts us e = (cc, cc)

-- one list cut at one place
pub cut_is : {T : Type 0} (a b c d : List T) → a ++ b ≡ c ++ d → length b ≡ length d → (a ≡ c) × (b ≡ d)
cut_is [] b [] d e l = (refl, e)
cut_is [] b (u ∷ c) d e l = absurd (omega (arith, ap length e, length-append c d))
cut_is (t ∷ a) b [] d e l = absurd (omega (arith, ap length e, length-append a b))
cut_is (t ∷ a) b (u ∷ c) d e l =
    let h = cons_is t u (a ++ b) (c ++ d) e in
    let i = cut_is a b c d h.1 l in
    (ap (λ (x : List _). t ∷ x) i.0 ∙ ap (λ x. x ∷ c) h.0, i.1)

pub append_is_nil : {T : Type 0} (a b : List T) → a ++ b ≡ [] → (a ≡ []) × (b ≡ [])
append_is_nil [] b e = (refl, e)
append_is_nil (t ∷ a) b e = absurd cc

or_true : (a b : Bool) → (a ≡ true) ⊎ (b ≡ true) → a || b ≡ true
or_true true b h = refl
or_true false b (inl h) = absurd cc
or_true false b (inr h) = h

or_false : (a b : Bool) → a || b ≡ false → (a ≡ false) × (b ≡ false)
or_false true b h = absurd cc
or_false false b h = (refl, h)

ok_pair : {T A : Type 0} (x y : A × List T) → ends {A = A} (Ok x.0) x.1 ≡ ends {A = A} (Ok y.0) y.1 → (x.0 ≡ y.0) × (x.1 ≡ y.1)
ok_pair x y e = (cc, cc)

abbrev pub wrong : {X : Type 0} → Fault → Result X Fault
wrong e = Err e

pub wrong_is : {X : Type 0} (e d : Fault) → wrong {X = X} e ≡ wrong {X = X} d → e ≡ d
wrong_is e d h = cc

abbrev pub right : {X : Type 0} → X → Result X Fault
right x = Ok x

pub right_is : {X : Type 0} (x y : X) → right x ≡ right y → x ≡ y
right_is x y h = cc

abbrev pub reads : {T A : Type 0} → A → List T → Result (A × List T) Fault
reads a rest = Ok (a, rest)

pub reads_is : {T A : Type 0} (a b : A) (x y : List T) → reads a x ≡ reads b y → (a ≡ b) × (x ≡ y)
reads_is {T} {A} a b x y h =
    let e = right_is (a, x) (b, y) h in
    (ap (λ (p : A × List T). p.0) e, ap (λ (p : A × List T). p.1) e)

reads_not_wrong : {T A : Type 0} (a : A) (x : List T) (e : Fault) → reads a x ≡ wrong e → ⊥
reads_not_wrong a x e h = cc

limit_is_no_number : Limit ≡ Number → ⊥
limit_is_no_number e = cc

module _ {T : Type 0} {alphabet : Alphabet T} where
  -- the same fault of another reading
  pub bounded_too : {X Y : Type 0} {ts : List T} {r : Result X Fault} (r' : Result Y Fault) → ((e : Fault) → r ≡ Err e → r' ≡ Err e) → Bounded alphabet ts r → Bounded alphabet ts r'
  bounded_too r' same w = record { front = w.front; bad = w.bad; rest = w.rest; kind = w.kind; whole = w.whole; bound = w.bound; named = w.named; ends = same (record { left = length (w.bad ∷ w.rest); kind = w.kind }) w.ends }

  -- behind other tokens
  pub bounded_behind : {X : Type 0} (one mid : List T) {r : Result X Fault} → Bounded alphabet mid r → Bounded alphabet (one ++ mid) r
  bounded_behind one mid w = record { front = one ++ w.front; bad = w.bad; rest = w.rest; kind = w.kind; whole = ap (λ (y : List T). one ++ y) w.whole ∙ sym (append_assoc one w.front (w.bad ∷ w.rest)); bound = w.bound; named = w.named; ends = w.ends }

  -- a reading that a limit may end, and what follows it
  pub follow_up : {A B : Type 0} (h : A → Reader T B) (one mid : List T) (r : Result (A × List T) Fault) (a : A) (free : Result (B × List T) Fault) → UpTo alphabet (one ++ mid) r (reads a mid) → UpTo alphabet mid (h a mid) free → UpTo alphabet (one ++ mid) (follow r h) free
  follow_up {A} h one mid r a free (inl e) (inl d) = inl (ap (λ (y : Result (A × List T) Fault). follow y h) e ∙ d)
  follow_up {A} h one mid r a free (inl e) (inr w) = inr (bounded_too (follow r h) (λ x d. ap (λ (y : Result (A × List T) Fault). follow y h) e ∙ d) (bounded_behind one mid w))
  follow_up {A} h one mid r a free (inr w) q = inr (bounded_too (follow r h) (λ x d. ap (λ (y : Result (A × List T) Fault). follow y h) d) w)

  -- a limit at the first token
  pub limit_up : {A : Type 0} (t : T) (ts : List T) (r free : Result (A × List T) Fault) → r ≡ fault_at Limit (t ∷ ts) → UpTo alphabet (t ∷ ts) r free
  limit_up t ts r free e = inr (record { front = []; bad = t; rest = ts; kind = Limit; whole = refl; bound = tt; named = λ d. absurd (limit_is_no_number d); ends = e })

-- the first of these tokens begins one
abbrev pub Begun : {T : Type 0} → (T → Bool) → List T → Type 0
Begun begins [] = ⊥
Begun begins (t ∷ ts) = begins t ≡ true

pub cons_not_nil : {T : Type 0} (t : T) (ts : List T) → t ∷ ts ≡ [] → ⊥
cons_not_nil t ts e = cc

module _ {T : Type 0} (alphabet : Alphabet T) where
  pub all_real : (xs ys : List T) → AllReal alphabet xs → AllReal alphabet ys → AllReal alphabet (xs ++ ys)
  all_real [] ys p q = q
  all_real (x ∷ xs) ys p q = (p.0, all_real xs ys p.1 q)

  -- ---- no token

  module _ {A : Type 0} (a : A) where
    complete_gives : (front rest : List T) (b : A) → front ≡ [] → b ≡ a → reads a (front ++ rest) ≡ reads b rest
    complete_gives front rest b e d = rw (e, d) refl

    local_gives : (front : List T) (t : T) (rest rest' : List T) (o : Result A TokenFault) → reads a (front ++ t ∷ rest) ≡ ends o (t ∷ rest) → reads a (front ++ t ∷ rest') ≡ ends o (t ∷ rest')
    local_gives front t rest rest' (Ok b) h =
        let p = reads_is a b (front ++ t ∷ rest) (t ∷ rest) h in
        let q = cut_is front (t ∷ rest) [] (t ∷ rest) p.1 refl in
        rw (q.0, p.0) refl
    local_gives front t rest rest' (Err k) h = absurd cc

    swap_gives : (front : List T) (t u : T) (rest rest' : List T) (o : Result A TokenFault) → is_number alphabet t ≡ true → alphabet.class u ≡ alphabet.class t → reads a (front ++ t ∷ rest) ≡ ends o (t ∷ rest) → Swapped (is_literal alphabet t) o (reads a (front ++ u ∷ rest')) u rest'
    swap_gives front t u rest rest' (Ok b) n n' h =
        let p = reads_is a b (front ++ t ∷ rest) (t ∷ rest) h in
        let q = cut_is front (t ∷ rest) [] (t ∷ rest) p.1 refl in
        rw (q.0, p.0) refl
    swap_gives front t u rest rest' (Err k) n n' h = absurd cc

    gives_broad : Broad alphabet (form.gives a) (done a) (λ _. false) (λ _. false) true
    gives_broad = record {
      starts = λ t ts b g. absurd (cons_not_nil t ts g.0);
      nothing = λ b g. refl;
      reads = λ front rest b g s. inl (complete_gives front rest b g.0 g.1);
    }

    pub gives_lawful : Lawful alphabet (form.gives a) (form.gives a) (done a) (λ _. false) (λ _. false) true
    gives_lawful = record {
      sound = λ ts rest b e. let h = reads_is a b ts rest e in ([], h.1, (refl, sym h.0));
      complete = λ front rest b g s. complete_gives front rest b g.0 g.1;
      starts = λ t ts b g. absurd (cons_not_nil t ts g.0);
      nothing = λ b g. refl;
      some = ([], a, (refl, refl), tt);
      viable = λ ts e h. absurd (reads_not_wrong a ts e h);
      local = local_gives;
      number = λ ts left h. absurd (reads_not_wrong a ts (record { left = left; kind = Number }) h);
      swap = swap_gives;
      contains = λ ts b x. x;
      limit = λ ts left h. absurd (reads_not_wrong a ts (record { left = left; kind = Limit }) h);
      broad = gives_broad;
    }

  -- ---- one token

  refused : {A : Type 0} (l k : TokenFault) → l ≡ k → (m : Result A TokenFault) → SameRefusal {A = A} (Err l) m → (k ≡ Number → ⊥) → (k ≡ Limit → ⊥) → (u : T) (rest : List T) → (k' : TokenFault) × (token_means u rest m ≡ fault_at k' (u ∷ rest))
  refused Number k e m s never bounded u rest = absurd (never (sym e))
  refused Syntax k e m s never bounded u rest = (s.0, ap (token_means u rest) s.1)
  refused Profile k e m s never bounded u rest = (s.0, ap (token_means u rest) s.1)
  refused Limit k e m s never bounded u rest = absurd (bounded (sym e))

  module _ {A : Type 0} (meaning : T → Result A TokenFault) (first : T → Bool) where
    sound_means : (t : T) (ts rest : List T) (a : A) (m : Result A TokenFault) → meaning t ≡ m → token_means t ts m ≡ reads a rest → (front : List T) × (t ∷ ts ≡ front ++ rest) × form.token meaning front a
    sound_means t ts rest a (Ok b) d e = let h = reads_is b a ts rest e in (t ∷ [], ap (λ (x : List T). t ∷ x) h.1, d ∙ ap (λ (x : A). Ok x) h.0)
    sound_means t ts rest a (Err k) d e = absurd cc

    sound_token : (ts rest : List T) (a : A) → token_at meaning ts ≡ reads a rest → (front : List T) × (ts ≡ front ++ rest) × form.token meaning front a
    sound_token [] rest a e = absurd cc
    sound_token (t ∷ ts) rest a e = sound_means t ts rest a (meaning t) refl e

    complete_token : (front rest : List T) (a : A) → form.token meaning front a → token_at meaning (front ++ rest) ≡ reads a rest
    complete_token [] rest a g = absurd g
    complete_token (t ∷ []) rest a g = rw g refl
    complete_token (t ∷ u ∷ ts) rest a g = absurd g

    starts_token : ((t : T) (a : A) → meaning t ≡ Ok a → first t ≡ true) → (t : T) (ts : List T) (a : A) → form.token meaning (t ∷ ts) a → first t ≡ true
    starts_token h t [] a g = h t a g
    starts_token h t (u ∷ ts) a g = absurd g

    viable_means : (t : T) (ts : List T) (e : Fault) (m : Result A TokenFault) → token_means t ts m ≡ wrong e → length (t ∷ ts) ≡ e.left
    viable_means t ts e (Ok b) h = absurd cc
    viable_means t ts e (Err k) h = ap (λ (x : Fault). x.left) (wrong_is _ e h)

    viable_token : (sample : T) (b : A) → meaning sample ≡ Ok b → alphabet.Real sample → (ts : List T) (e : Fault) → token_at meaning ts ≡ wrong e → GoesOn alphabet (form.token meaning) ts e.left
    viable_token sample b s rl [] e h = record { front = []; rest = []; whole = refl; here = ap (λ (x : Fault). x.left) (wrong_is _ e h); more = sample ∷ []; value = b; spelled = s; real = (rl, tt) }
    viable_token sample b s rl (t ∷ ts) e h = record { front = []; rest = t ∷ ts; whole = refl; here = viable_means t ts e (meaning t) h; more = sample ∷ []; value = b; spelled = s; real = (rl, tt) }

    local_means : (t : T) (u : T) (front rest rest' : List T) (o m : Result A TokenFault) → token_means t (front ++ u ∷ rest) m ≡ ends o (u ∷ rest) → token_means t (front ++ u ∷ rest') m ≡ ends o (u ∷ rest')
    local_means t u front rest rest' (Ok a) (Ok b) h =
        let p = reads_is b a (front ++ u ∷ rest) (u ∷ rest) h in
        let q = cut_is front (u ∷ rest) [] (u ∷ rest) p.1 refl in
        rw (q.0, p.0) refl
    local_means t u front rest rest' (Ok a) (Err k) h = absurd cc
    local_means t u front rest rest' (Err k) (Ok b) h = absurd cc
    local_means t u front rest rest' (Err k) (Err l) h =
        let l = ap (λ (x : Fault). x.left) (wrong_is (record { left = length (t ∷ (front ++ u ∷ rest)); kind = l }) (record { left = length (u ∷ rest); kind = k }) h) in
        absurd (omega (arith, l, length-append front (u ∷ rest)))

    local_here : (t : T) (rest rest' : List T) (o m : Result A TokenFault) → token_means t rest m ≡ ends o (t ∷ rest) → token_means t rest' m ≡ ends o (t ∷ rest')
    local_here t rest rest' (Ok a) (Ok b) h = absurd (omega (arith, ap length (reads_is b a rest (t ∷ rest) h).1))
    local_here t rest rest' (Ok a) (Err k) h = absurd cc
    local_here t rest rest' (Err k) (Ok b) h = absurd cc
    local_here t rest rest' (Err k) (Err l) h =
        let d = ap (λ (x : Fault). x.kind) (wrong_is (record { left = length (t ∷ rest); kind = l }) (record { left = length (t ∷ rest); kind = k }) h) in
        rw d refl

    local_token : (front : List T) (t : T) (rest rest' : List T) (o : Result A TokenFault) → token_at meaning (front ++ t ∷ rest) ≡ ends o (t ∷ rest) → token_at meaning (front ++ t ∷ rest') ≡ ends o (t ∷ rest')
    local_token [] t rest rest' o h = local_here t rest rest' o (meaning t) h
    local_token (u ∷ front) t rest rest' o h = local_means u t front rest rest' o (meaning u) h

    number_means : (t : T) (ts : List T) (left : ℕ) (m : Result A TokenFault) → meaning t ≡ m → token_means t ts m ≡ wrong (record { left = left; kind = Number }) → (meaning t ≡ Err Number) × (length (t ∷ ts) ≡ left)
    number_means t ts left (Ok b) d h = absurd cc
    number_means t ts left (Err k) d h =
        let e = wrong_is (record { left = length (t ∷ ts); kind = k }) (record { left = left; kind = Number }) h in
        (d ∙ ap (λ (x : TokenFault). Err x) (ap (λ (x : Fault). x.kind) e), ap (λ (x : Fault). x.left) e)

    number_token : IsRanged alphabet meaning → (ts : List T) (left : ℕ) → token_at meaning ts ≡ wrong (record { left = left; kind = Number }) → NumberGoesOn alphabet (form.token meaning) ts left
    number_token ranged [] left h = absurd (never (ap (λ (x : Fault). x.kind) (wrong_is (record { left = 0; kind = Syntax }) (record { left = left; kind = Number }) h)))
      where
        never : Syntax ≡ Number → ⊥
        never e = cc
    number_token ranged (t ∷ ts) left h =
        let m = number_means t ts left (meaning t) refl h in
        let r = ranged.range t m.0 in
        record { front = []; bad = t; rest = ts; whole = refl; here = m.1; bad_is = r.0; good = r.1; good_is = r.3; more = []; value = r.2; spelled = r.4; real = (r.5, tt) }

    limit_token : IsRanged alphabet meaning → (ts : List T) (left : ℕ) → token_at meaning ts ≡ wrong (record { left = left; kind = Limit }) → ⊥
    limit_token ranged [] left h = never (ap (λ (x : Fault). x.kind) (wrong_is (record { left = 0; kind = Syntax }) (record { left = left; kind = Limit }) h))
      where
        never : Syntax ≡ Limit → ⊥
        never e = cc
    limit_token ranged (t ∷ ts) left h = by_means (meaning t) refl h
      where
        by_means : (m : Result A TokenFault) → meaning t ≡ m → token_means t ts m ≡ wrong (record { left = left; kind = Limit }) → ⊥
        by_means (Ok b) d h = cc
        by_means (Err k) d h = ranged.never t (d ∙ ap (λ (x : TokenFault). Err x) (ap (λ (x : Fault). x.kind) (wrong_is (record { left = length (t ∷ ts); kind = k }) (record { left = left; kind = Limit }) h)))

    swap_here : (literal : Bool) (t u : T) (rest rest' : List T) (o m m' : Result A TokenFault) → SameRefusal m m' → (m ≡ Err Limit → ⊥) → token_means t rest m ≡ ends o (t ∷ rest) → Swapped literal o (token_means u rest' m') u rest'
    swap_here literal t u rest rest' (Ok a) (Ok b) m' s n h = absurd (omega (arith, ap length (reads_is b a rest (t ∷ rest) h).1))
    swap_here literal t u rest rest' (Ok a) (Err k) m' s n h = absurd cc
    swap_here literal t u rest rest' (Err k) (Ok b) m' s n h = absurd cc
    swap_here literal t u rest rest' (Err Number) (Err l) m' s n h = tt
    swap_here literal t u rest rest' (Err Syntax) (Err l) m' s n h = refused l Syntax (ap (λ (x : Fault). x.kind) (wrong_is (record { left = length (t ∷ rest); kind = l }) (record { left = length (t ∷ rest); kind = Syntax }) h)) m' s (λ e. cc) (λ e. cc) u rest'
    swap_here literal t u rest rest' (Err Profile) (Err l) m' s n h = refused l Profile (ap (λ (x : Fault). x.kind) (wrong_is (record { left = length (t ∷ rest); kind = l }) (record { left = length (t ∷ rest); kind = Profile }) h)) m' s (λ e. cc) (λ e. cc) u rest'
    swap_here literal t u rest rest' (Err Limit) (Err l) m' s n h = absurd (n (ap (λ (x : Fault). Err x.kind) (wrong_is (record { left = length (t ∷ rest); kind = l }) (record { left = length (t ∷ rest); kind = Limit }) h)))

    swap_means : (t u v : T) (front rest rest' : List T) (o m : Result A TokenFault) → token_means v (front ++ t ∷ rest) m ≡ ends o (t ∷ rest) → Swapped (is_literal alphabet t) o (token_means v (front ++ u ∷ rest') m) u rest'
    swap_means t u v front rest rest' (Ok a) (Ok b) h =
        let p = reads_is b a (front ++ t ∷ rest) (t ∷ rest) h in
        let q = cut_is front (t ∷ rest) [] (t ∷ rest) p.1 refl in
        rw (q.0, p.0) refl
    swap_means t u v front rest rest' (Ok a) (Err k) h = absurd cc
    swap_means t u v front rest rest' (Err k) (Ok b) h = absurd cc
    swap_means t u v front rest rest' (Err k) (Err l) h =
        let e = ap (λ (x : Fault). x.left) (wrong_is (record { left = length (v ∷ (front ++ t ∷ rest)); kind = l }) (record { left = length (t ∷ rest); kind = k }) h) in
        absurd (omega (arith, e, length-append front (t ∷ rest)))

    swap_token : IsRanged alphabet meaning → (front : List T) (t u : T) (rest rest' : List T) (o : Result A TokenFault) → is_number alphabet t ≡ true → alphabet.class u ≡ alphabet.class t → token_at meaning (front ++ t ∷ rest) ≡ ends o (t ∷ rest) → Swapped (is_literal alphabet t) o (token_at meaning (front ++ u ∷ rest')) u rest'
    swap_token ranged [] t u rest rest' o n n' h = swap_here (is_literal alphabet t) t u rest rest' o (meaning t) (meaning u) (ranged.alike t u n n') (λ e. ranged.never t e) h
    swap_token ranged (v ∷ front) t u rest rest' o n n' h = swap_means t u v front rest rest' o (meaning v) h

    token_broad : ((t : T) (a : A) → meaning t ≡ Ok a → first t ≡ true) → Broad alphabet (form.token meaning) (token_at meaning) first (λ _. false) false
    token_broad begins = record {
      starts = starts_token begins;
      nothing = λ a g. absurd g;
      reads = λ front rest a g _. inl (complete_token front rest a g);
    }

    pub token_lawful : IsRanged alphabet meaning → ((t : T) (a : A) → meaning t ≡ Ok a → first t ≡ true) → (sample : T) (b : A) → meaning sample ≡ Ok b → alphabet.Real sample → Lawful alphabet (form.token meaning) (form.token meaning) (token_at meaning) first (λ _. false) false
    token_lawful ranged begins sample b s rl = record {
      sound = sound_token;
      complete = λ front rest a g _. complete_token front rest a g;
      starts = starts_token begins;
      nothing = λ a g. absurd g;
      some = (sample ∷ [], b, s, (rl, tt));
      viable = viable_token sample b s rl;
      local = local_token;
      number = number_token ranged;
      swap = swap_token ranged;
      contains = λ ts b x. x;
      limit = λ ts left h. absurd (limit_token ranged ts left h);
      broad = token_broad begins;
    }

  -- ---- one behind another

  -- a list that two cuts share: the second cut lies behind the first
  pub behind : {A : Type 0} {g wide : Form T A} {f : Reader T A} {first more : T → Bool} {empty : Bool} → Lawful alphabet g wide f first more empty → (ts us : List T) (o : Result A TokenFault) → f ts ≡ ends o us → (front : List T) × (rest : List T) × (ts ≡ front ++ rest) × (length rest ≡ length us)
  behind law ts us (Ok a) h = let s = law.sound ts us a h in (s.0, us, s.1, refl)
  behind law ts us (Err k) h = let v = law.viable ts _ h in (v.front, v.rest, v.whole, v.here)

  pub local_mid : {A : Type 0} {g wide : Form T A} {f : Reader T A} {first more : T → Bool} {empty : Bool} → Lawful alphabet g wide f first more empty → (front mid : List T) (t : T) (rest rest' : List T) (a : A) → f (front ++ (mid ++ t ∷ rest)) ≡ reads a (mid ++ t ∷ rest) → f (front ++ (mid ++ t ∷ rest')) ≡ reads a (mid ++ t ∷ rest')
  local_mid law front [] t rest rest' a h = law.local front t rest rest' (Ok a) h
  local_mid law front (u ∷ mid) t rest rest' a h = law.local front u (mid ++ t ∷ rest) (mid ++ t ∷ rest') (Ok a) h

  module _ {A B : Type 0} (g wide : Form T A) (f : Reader T A) (k wide' : A → Form T B) (h : A → Reader T B) (first more first' more' : T → Bool) (empty empty' : Bool) (law : Lawful alphabet g wide f first more empty) (laws : (a : A) → Lawful alphabet (k a) (wide' a) (h a) first' more' empty') (apart : (t : T) → more t ≡ true → first' t ≡ true → ⊥) where
    abbrev both : Form T B
    both = form.◌>>=◌ g k

    sound_both : (ts rest : List T) (b : B) (r : Result (A × List T) Fault) → f ts ≡ r → follow r h ≡ reads b rest → (front : List T) × (ts ≡ front ++ rest) × both front b
    unfolding form.◌>>=◌
    sound_both ts rest b (Ok x) e d =
        let p = law.sound ts x.1 x.0 e in
        let q = (laws x.0).sound x.1 rest b d in
        (p.0 ++ q.0, p.1 ∙ ap (λ (y : List T). p.0 ++ y) q.1 ∙ sym (append_assoc p.0 q.0 rest), (p.0, q.0, x.0, refl, p.2, q.2))
    sound_both ts rest b (Err e') e d = absurd cc

    not_more : (b : Bool) → (b ≡ true → ⊥) → b ≡ false
    not_more true never = absurd (never refl)
    not_more false never = refl

    stops_between : (back rest : List T) (a : A) (b : B) → wide' a back b → Stops (λ t. more' t || (empty' && more t)) rest → Stops more (back ++ rest)
    stops_between [] [] a b s d = tt
    stops_between [] (t ∷ rest) a b s d = stops_here t (or_false (more' t) (empty' && more t) d).1 ((laws a).broad.nothing b s)
      where
        stops_here : (t : T) → empty' && more t ≡ false → empty' ≡ true → more t ≡ false
        stops_here t d e = sym (ap (λ (x : Bool). x && more t) e) ∙ d
    stops_between (t ∷ back) rest a b s d = not_more (more t) (λ m. apart t m ((laws a).broad.starts t back b s))

    stops_after : (rest : List T) → Stops (λ t. more' t || (empty' && more t)) rest → Stops more' rest
    stops_after [] d = tt
    stops_after (t ∷ rest) d = (or_false (more' t) (empty' && more t) d).0

    complete_both : (ts rest : List T) (b : B) → both ts b → Stops (λ t. more' t || (empty' && more t)) rest → (f >>= h) (ts ++ rest) ≡ reads b rest
    unfolding form.◌>>=◌
    complete_both ts rest b (front, back, a, whole, s, d) stops =
        let one : f (front ++ (back ++ rest)) ≡ reads a (back ++ rest) = law.complete front (back ++ rest) a s (stops_between back rest a b ((laws a).contains back b d) stops) in
        let two : h a (back ++ rest) ≡ reads b rest = (laws a).complete back rest b d (stops_after rest stops) in
        let regrouped : ts ++ rest ≡ front ++ (back ++ rest) = ap (λ (y : List T). y ++ rest) whole ∙ append_assoc front back rest in
        ap (λ (y : List T). follow (f y) h) regrouped ∙ ap (λ (y : Result (A × List T) Fault). follow y h) one ∙ two

    starts_both : (t : T) (ts : List T) (b : B) (front back : List T) (a : A) → t ∷ ts ≡ front ++ back → wide front a → wide' a back b → first t || (empty && first' t) ≡ true
    starts_both t ts b [] back a whole s d = or_true _ _ (inr (starts_second t (law.broad.nothing a s) ((laws a).broad.starts t ts b (subst (λ (y : List T). wide' a y b) (sym whole) d))))
      where
        starts_second : (t : T) → empty ≡ true → first' t ≡ true → empty && first' t ≡ true
        starts_second t e i = ap (λ (x : Bool). x && first' t) e ∙ i
    starts_both t ts b (u ∷ front) back a whole s d =
        let i = cons_is t u ts (front ++ back) whole in
        or_true _ _ (inl (ap first i.0 ∙ law.broad.starts u front a s))

    nothing_both : (b : B) (front back : List T) (a : A) → [] ≡ front ++ back → wide front a → wide' a back b → empty && empty' ≡ true
    nothing_both b front back a whole s d =
        let n = append_is_nil front back (sym whole) in
        let e : empty ≡ true = law.broad.nothing a (subst (λ (y : List T). wide y a) n.0 s) in
        let e' : empty' ≡ true = (laws a).broad.nothing b (subst (λ (y : List T). wide' a y b) n.1 d) in
        ap (λ (x : Bool). x && empty') e ∙ e'

    viable_both : (ts : List T) (e : Fault) (r : Result (A × List T) Fault) → f ts ≡ r → follow r h ≡ wrong e → GoesOn alphabet both ts e.left
    unfolding form.◌>>=◌
    viable_both ts e (Ok x) i d =
        let p = law.sound ts x.1 x.0 i in
        let v = (laws x.0).viable x.1 e d in
        record {
          front = p.0 ++ v.front;
          rest = v.rest;
          whole = p.1 ∙ ap (λ (y : List T). p.0 ++ y) v.whole ∙ sym (append_assoc p.0 v.front v.rest);
          here = v.here;
          more = v.more;
          value = v.value;
          spelled = (p.0, v.front ++ v.more, x.0, append_assoc p.0 v.front v.more, p.2, v.spelled);
          real = v.real;
        }
    viable_both ts e (Err d') i d =
        let v = law.viable ts d' i in
        let s = (laws v.value).some in
        record {
          front = v.front;
          rest = v.rest;
          whole = v.whole;
          here = v.here ∙ ap (λ (x : Fault). x.left) (wrong_is d' e d);
          more = v.more ++ s.0;
          value = s.1;
          spelled = (v.front ++ v.more, s.0, v.value, sym (append_assoc v.front v.more s.0), v.spelled, s.2);
          real = all_real v.more s.0 v.real s.3;
        }

    number_both : (ts : List T) (left : ℕ) (r : Result (A × List T) Fault) → f ts ≡ r → follow r h ≡ wrong (record { left = left; kind = Number }) → NumberGoesOn alphabet both ts left
    unfolding form.◌>>=◌
    number_both ts left (Ok x) i d =
        let p = law.sound ts x.1 x.0 i in
        let v = (laws x.0).number x.1 left d in
        record {
          front = p.0 ++ v.front;
          bad = v.bad;
          rest = v.rest;
          whole = p.1 ∙ ap (λ (y : List T). p.0 ++ y) v.whole ∙ sym (append_assoc p.0 v.front (v.bad ∷ v.rest));
          here = v.here;
          bad_is = v.bad_is;
          good = v.good;
          good_is = v.good_is;
          more = v.more;
          value = v.value;
          spelled = (p.0, v.front ++ v.good ∷ v.more, x.0, append_assoc p.0 v.front (v.good ∷ v.more), p.2, v.spelled);
          real = v.real;
        }
    number_both ts left (Err d') i d =
        let e = wrong_is d' (record { left = left; kind = Number }) d in
        let v = law.number ts left (i ∙ ap wrong e) in
        let s = (laws v.value).some in
        record {
          front = v.front;
          bad = v.bad;
          rest = v.rest;
          whole = v.whole;
          here = v.here;
          bad_is = v.bad_is;
          good = v.good;
          good_is = v.good_is;
          more = v.more ++ s.0;
          value = s.1;
          spelled = (v.front ++ v.good ∷ v.more, s.0, v.value, sym (append_assoc v.front (v.good ∷ v.more) s.0), v.spelled, s.2);
          real = all_real (v.good ∷ v.more) s.0 v.real s.3;
        }

    err_ends : (e : Fault) (o : Result B TokenFault) (us : List T) → wrong e ≡ ends o us → (kind : TokenFault) × (o ≡ Err kind) × (e ≡ record { left = length us; kind = kind })
    err_ends e (Ok b) us d = absurd cc
    err_ends e (Err kind) us d = (kind, refl, wrong_is e (record { left = length us; kind = kind }) d)

    local_both : (front : List T) (t : T) (rest rest' : List T) (o : Result B TokenFault) (r : Result (A × List T) Fault) → f (front ++ t ∷ rest) ≡ r → follow r h ≡ ends o (t ∷ rest) → (f >>= h) (front ++ t ∷ rest') ≡ ends o (t ∷ rest')
    local_both front t rest rest' o (Err e) i d =
        let w = err_ends e o (t ∷ rest) d in
        let one : f (front ++ t ∷ rest') ≡ fault_at w.0 (t ∷ rest') = law.local front t rest rest' (Err w.0) (i ∙ ap wrong w.2) in
        rw w.1 (ap (λ (y : Result (A × List T) Fault). follow y h) one)
    local_both front t rest rest' o (Ok x) i d =
        let p = law.sound (front ++ t ∷ rest) x.1 x.0 i in
        let q = behind (laws x.0) x.1 (t ∷ rest) o d in
        let regrouped : front ++ t ∷ rest ≡ (p.0 ++ q.0) ++ q.1 = p.1 ∙ ap (λ (y : List T). p.0 ++ y) q.2 ∙ sym (append_assoc p.0 q.0 q.1) in
        let cut = cut_is front (t ∷ rest) (p.0 ++ q.0) q.1 regrouped (sym q.3) in
        let mid : x.1 ≡ q.0 ++ t ∷ rest = q.2 ∙ ap (λ (y : List T). q.0 ++ y) (sym cut.1) in
        let before : (r : List T) → front ++ r ≡ p.0 ++ (q.0 ++ r) = λ r. ap (λ (y : List T). y ++ r) cut.0 ∙ append_assoc p.0 q.0 r in
        let one : f (p.0 ++ (q.0 ++ t ∷ rest')) ≡ reads x.0 (q.0 ++ t ∷ rest') = local_mid law p.0 q.0 t rest rest' x.0 (ap f (sym (before (t ∷ rest))) ∙ i ∙ ap (reads x.0) mid) in
        let two : h x.0 (q.0 ++ t ∷ rest') ≡ ends o (t ∷ rest') = (laws x.0).local q.0 t rest rest' o (ap (h x.0) (sym mid) ∙ d) in
        ap (λ (y : List T). follow (f y) h) (before (t ∷ rest')) ∙ ap (λ (y : Result (A × List T) Fault). follow y h) one ∙ two

    contains_both : (ts : List T) (b : B) → form.◌>>=◌ g k ts b → form.◌>>=◌ wide wide' ts b
    unfolding form.◌>>=◌
    contains_both ts b (p, q, a, e, s, r) = (p, q, a, e, law.contains p a s, (laws a).contains q b r)

    limit_both : (ts : List T) (left : ℕ) (r : Result (A × List T) Fault) → f ts ≡ r → follow r h ≡ wrong (record { left = left; kind = Limit }) → LimitGoesOn alphabet (form.◌>>=◌ wide wide') ts left
    unfolding form.◌>>=◌
    limit_both ts left (Ok x) i d =
        let p = law.sound ts x.1 x.0 i in
        let v = (laws x.0).limit x.1 left d in
        record {
          front = p.0 ++ v.front;
          bad = v.bad;
          rest = v.rest;
          whole = p.1 ∙ ap (λ (y : List T). p.0 ++ y) v.whole ∙ sym (append_assoc p.0 v.front (v.bad ∷ v.rest));
          here = v.here;
          more = v.more;
          value = v.value;
          spelled = (p.0, v.front ++ v.bad ∷ v.more, x.0, append_assoc p.0 v.front (v.bad ∷ v.more), law.contains p.0 x.0 p.2, v.spelled);
          real = v.real;
        }
    limit_both ts left (Err d') i d =
        let e = wrong_is d' (record { left = left; kind = Limit }) d in
        let v = law.limit ts left (i ∙ ap wrong e) in
        let s = (laws v.value).some in
        record {
          front = v.front;
          bad = v.bad;
          rest = v.rest;
          whole = v.whole;
          here = v.here;
          more = v.more ++ s.0;
          value = s.1;
          spelled = (v.front ++ v.bad ∷ v.more, s.0, v.value, sym (append_assoc v.front (v.bad ∷ v.more) s.0), v.spelled, (laws v.value).contains s.0 s.1 s.2);
          real = all_real v.more s.0 v.real s.3;
        }

    swap_err : (k : TokenFault) (front : List T) (t u : T) (rest rest' : List T) → Swapped {A = A} (is_literal alphabet t) (Err k) (f (front ++ u ∷ rest')) u rest' → Swapped {A = B} (is_literal alphabet t) (Err k) ((f >>= h) (front ++ u ∷ rest')) u rest'
    swap_err Number front t u rest rest' s = tt
    swap_err Syntax front t u rest rest' s = (s.0, ap (λ (y : Result (A × List T) Fault). follow y h) s.1)
    swap_err Profile front t u rest rest' s = (s.0, ap (λ (y : Result (A × List T) Fault). follow y h) s.1)
    swap_err Limit front t u rest rest' s = λ n. let r = s n in (r.0, ap (λ (y : Result (A × List T) Fault). follow y h) r.1)

    swap_mid : (front mid : List T) (t u : T) (rest rest' : List T) (a : A) → is_number alphabet t ≡ true → alphabet.class u ≡ alphabet.class t → f (front ++ (mid ++ t ∷ rest)) ≡ reads a (mid ++ t ∷ rest) → f (front ++ (mid ++ u ∷ rest')) ≡ reads a (mid ++ u ∷ rest')
    swap_mid front [] t u rest rest' a n n' i = law.swap front t u rest rest' (Ok a) n n' i
    swap_mid front (v ∷ mid) t u rest rest' a n n' i = law.local front v (mid ++ t ∷ rest) (mid ++ u ∷ rest') (Ok a) i

    swap_both : (front : List T) (t u : T) (rest rest' : List T) (o : Result B TokenFault) (r : Result (A × List T) Fault) → is_number alphabet t ≡ true → alphabet.class u ≡ alphabet.class t → f (front ++ t ∷ rest) ≡ r → follow r h ≡ ends o (t ∷ rest) → Swapped (is_literal alphabet t) o ((f >>= h) (front ++ u ∷ rest')) u rest'
    swap_both front t u rest rest' o (Err e) n n' i d =
        let w = err_ends e o (t ∷ rest) d in
        subst (λ (x : Result B TokenFault). Swapped (is_literal alphabet t) x ((f >>= h) (front ++ u ∷ rest')) u rest') (sym w.1) (swap_err w.0 front t u rest rest' (law.swap front t u rest rest' (Err w.0) n n' (i ∙ ap wrong w.2)))
    swap_both front t u rest rest' o (Ok x) n n' i d =
        let p = law.sound (front ++ t ∷ rest) x.1 x.0 i in
        let q = behind (laws x.0) x.1 (t ∷ rest) o d in
        let regrouped : front ++ t ∷ rest ≡ (p.0 ++ q.0) ++ q.1 = p.1 ∙ ap (λ (y : List T). p.0 ++ y) q.2 ∙ sym (append_assoc p.0 q.0 q.1) in
        let cut = cut_is front (t ∷ rest) (p.0 ++ q.0) q.1 regrouped (sym q.3) in
        let mid : x.1 ≡ q.0 ++ t ∷ rest = q.2 ∙ ap (λ (y : List T). q.0 ++ y) (sym cut.1) in
        let before : (r : List T) → front ++ r ≡ p.0 ++ (q.0 ++ r) = λ r. ap (λ (y : List T). y ++ r) cut.0 ∙ append_assoc p.0 q.0 r in
        let one : f (p.0 ++ (q.0 ++ u ∷ rest')) ≡ reads x.0 (q.0 ++ u ∷ rest') = swap_mid p.0 q.0 t u rest rest' x.0 n n' (ap f (sym (before (t ∷ rest))) ∙ i ∙ ap (reads x.0) mid) in
        let two = (laws x.0).swap q.0 t u rest rest' o n n' (ap (h x.0) (sym mid) ∙ d) in
        let whole : h x.0 (q.0 ++ u ∷ rest') ≡ (f >>= h) (front ++ u ∷ rest') = sym (ap (λ (y : List T). follow (f y) h) (before (u ∷ rest')) ∙ ap (λ (y : Result (A × List T) Fault). follow y h) one) in
        subst (λ (y : Result (B × List T) Fault). Swapped (is_literal alphabet t) o y u rest') whole two

    reads_both : (ts rest : List T) (b : B) → form.◌>>=◌ wide wide' ts b → Stops (λ t. more' t || (empty' && more t)) rest → UpTo alphabet (ts ++ rest) ((f >>= h) (ts ++ rest)) (reads b rest)
    unfolding form.◌>>=◌
    reads_both ts rest b (front, back, a, whole, s, d) stops =
        let one = law.broad.reads front (back ++ rest) a s (stops_between back rest a b d stops) in
        let two = (laws a).broad.reads back rest b d (stops_after rest stops) in
        let regrouped : front ++ (back ++ rest) ≡ ts ++ rest = sym (ap (λ (y : List T). y ++ rest) whole ∙ append_assoc front back rest) in
        subst (λ (y : List T). UpTo alphabet y ((f >>= h) y) (reads b rest)) regrouped (follow_up h front (back ++ rest) (f (front ++ (back ++ rest))) a (reads b rest) one two)

    broad_both : Broad alphabet (form.◌>>=◌ wide wide') (f >>= h) (λ t. first t || (empty && first' t)) (λ t. more' t || (empty' && more t)) (empty && empty')
    unfolding form.◌>>=◌
    broad_both = record {
      starts = λ t ts b s. starts_both t ts b s.0 s.1 s.2 s.3 s.4 s.5;
      nothing = λ b s. nothing_both b s.0 s.1 s.2 s.3 s.4 s.5;
      reads = reads_both;
    }

    pub both_lawful : Lawful alphabet (form.◌>>=◌ g k) (form.◌>>=◌ wide wide') (f >>= h) (λ t. first t || (empty && first' t)) (λ t. more' t || (empty' && more t)) (empty && empty')
    unfolding form.◌>>=◌
    both_lawful = record {
      sound = λ ts rest b e. sound_both ts rest b (f ts) refl e;
      complete = complete_both;
      starts = λ t ts b s. broad_both.starts t ts b (contains_both (t ∷ ts) b s);
      nothing = λ b s. broad_both.nothing b (contains_both [] b s);
      some = let one = law.some in let two = (laws one.1).some in (one.0 ++ two.0, two.1, (one.0, two.0, one.1, refl, one.2, two.2), all_real one.0 two.0 one.3 two.3);
      viable = λ ts e d. viable_both ts e (f ts) refl d;
      local = λ front t rest rest' o d. local_both front t rest rest' o (f (front ++ t ∷ rest)) refl d;
      number = λ ts left d. number_both ts left (f ts) refl d;
      swap = λ front t u rest rest' o n n' d. swap_both front t u rest rest' o (f (front ++ t ∷ rest)) n n' refl d;
      contains = contains_both;
      limit = λ ts left d. limit_both ts left (f ts) refl d;
      broad = broad_both;
    }

  -- ---- wider sets, and the same form in other words

  stops_narrower : (p q : T → Bool) → ((t : T) → p t ≡ true → q t ≡ true) → (ts : List T) → Stops q ts → Stops p ts
  stops_narrower p q h [] d = tt
  stops_narrower p q h (t ∷ ts) d = not_more p q h t d (p t) refl
    where
      not_more : (p q : T → Bool) → ((t : T) → p t ≡ true → q t ≡ true) → (t : T) → q t ≡ false → (b : Bool) → p t ≡ b → p t ≡ false
      not_more p q h t d true e = absurd (differ (sym d ∙ h t e))
        where
          differ : false ≡ true → ⊥
          differ e = cc
      not_more p q h t d false e = e

  pub widened : {A : Type 0} {g wide : Form T A} {f : Reader T A} {first more : T → Bool} {empty : Bool} (first' more' : T → Bool) → Lawful alphabet g wide f first more empty → ((t : T) → first t ≡ true → first' t ≡ true) → ((t : T) → more t ≡ true → more' t ≡ true) → Lawful alphabet g wide f first' more' empty
  widened first' more' law i j = record {
    sound = law.sound;
    complete = λ front rest a s d. law.complete front rest a s (stops_narrower _ more' j rest d);
    starts = λ t ts a s. i t (law.starts t ts a s);
    nothing = law.nothing;
    some = law.some;
    viable = law.viable;
    local = law.local;
    number = law.number;
    swap = law.swap;
    contains = law.contains;
    limit = law.limit;
    broad = record {
      starts = λ t ts a s. i t (law.broad.starts t ts a s);
      nothing = law.broad.nothing;
      reads = λ front rest a s d. law.broad.reads front rest a s (stops_narrower _ more' j rest d);
    };
  }

  -- the same form, and another one without the limits
  pub with_wide : {A : Type 0} {g wide wide' : Form T A} {f : Reader T A} {first more : T → Bool} {empty : Bool} → Lawful alphabet g wide f first more empty → ((ts : List T) (a : A) → wide ts a → wide' ts a) → Broad alphabet wide' f first more empty → Lawful alphabet g wide' f first more empty
  with_wide law over broad = record {
    sound = law.sound;
    complete = law.complete;
    starts = law.starts;
    nothing = law.nothing;
    some = law.some;
    viable = law.viable;
    local = law.local;
    number = law.number;
    swap = law.swap;
    contains = λ ts a s. over ts a (law.contains ts a s);
    limit = λ ts left d. let v = law.limit ts left d in record { front = v.front; bad = v.bad; rest = v.rest; whole = v.whole; here = v.here; more = v.more; value = v.value; spelled = over (v.front ++ v.bad ∷ v.more) v.value v.spelled; real = v.real };
    broad = broad;
  }

  pub same_form : {A : Type 0} {g g' wide wide' : Form T A} {f : Reader T A} {first more : T → Bool} {empty : Bool} → Lawful alphabet g wide f first more empty → ((ts : List T) (a : A) → g ts a → g' ts a) → ((ts : List T) (a : A) → g' ts a → g ts a) → ((ts : List T) (a : A) → wide ts a → wide' ts a) → ((ts : List T) (a : A) → wide' ts a → wide ts a) → Lawful alphabet g' wide' f first more empty
  same_form law there back over under = record {
    sound = λ ts rest a e. let s = law.sound ts rest a e in (s.0, s.1, there s.0 a s.2);
    complete = λ front rest a s d. law.complete front rest a (back front a s) d;
    starts = λ t ts a s. law.starts t ts a (back (t ∷ ts) a s);
    nothing = λ a s. law.nothing a (back [] a s);
    some = (law.some.0, law.some.1, there law.some.0 law.some.1 law.some.2, law.some.3);
    viable = λ ts e d. let v = law.viable ts e d in record { front = v.front; rest = v.rest; whole = v.whole; here = v.here; more = v.more; value = v.value; spelled = there (v.front ++ v.more) v.value v.spelled; real = v.real };
    local = law.local;
    number = λ ts left d. let v = law.number ts left d in record { front = v.front; bad = v.bad; rest = v.rest; whole = v.whole; here = v.here; bad_is = v.bad_is; good = v.good; good_is = v.good_is; more = v.more; value = v.value; spelled = there (v.front ++ v.good ∷ v.more) v.value v.spelled; real = v.real };
    swap = law.swap;
    contains = λ ts a s. over ts a (law.contains ts a (back ts a s));
    limit = λ ts left d. let v = law.limit ts left d in record { front = v.front; bad = v.bad; rest = v.rest; whole = v.whole; here = v.here; more = v.more; value = v.value; spelled = over (v.front ++ v.bad ∷ v.more) v.value v.spelled; real = v.real };
    broad = record {
      starts = λ t ts a s. law.broad.starts t ts a (under (t ∷ ts) a s);
      nothing = λ a s. law.broad.nothing a (under [] a s);
      reads = λ front rest a s d. law.broad.reads front rest a (under front a s) d;
    };
  }

  -- ---- one of two, by the next token

  module _ {A : Type 0} (g g' wide wide' : Form T A) (f f' : Reader T A) (begins first more first' more' : T → Bool) (empty' : Bool) (law : Lawful alphabet g wide f first more false) (law' : Lawful alphabet g' wide' f' first' more' empty') (alike : (t u : T) → is_number alphabet t ≡ true → alphabet.class u ≡ alphabet.class t → begins t ≡ begins u) (within : (t : T) → first t ≡ true → begins t ≡ true) (without : (t : T) → first' t ≡ true → begins t ≡ false) where
    pick_yes : (t : T) (ts : List T) → begins t ≡ true → pick begins f f' (t ∷ ts) ≡ f (t ∷ ts)
    pick_yes t ts e = rw e refl

    pick_no : (t : T) (ts : List T) → begins t ≡ false → pick begins f f' (t ∷ ts) ≡ f' (t ∷ ts)
    pick_no t ts e = rw e refl

    sound_pick : (ts rest : List T) (a : A) → pick begins f f' ts ≡ reads a rest → (front : List T) × (ts ≡ front ++ rest) × form.either g g' front a
    unfolding form.either
    sound_pick [] rest a e = let s = law'.sound [] rest a e in (s.0, s.1, inr s.2)
    sound_pick (t ∷ ts) rest a e = by_test (begins t) e
      where
        by_test : (b : Bool) → cond b (f (t ∷ ts)) (f' (t ∷ ts)) ≡ reads a rest → (front : List T) × (t ∷ ts ≡ front ++ rest) × (g front a ⊎ g' front a)
        by_test true d = let s = law.sound (t ∷ ts) rest a d in (s.0, s.1, inl s.2)
        by_test false d = let s = law'.sound (t ∷ ts) rest a d in (s.0, s.1, inr s.2)

    abbrev after : T → Bool
    after t = (more t || more' t) || (empty' && begins t)

    after_is : (t : T) → after t ≡ false → (more t ≡ false) × (more' t ≡ false) × (empty' && begins t ≡ false)
    after_is t d =
        let p = or_false (more t || more' t) (empty' && begins t) d in
        let q = or_false (more t) (more' t) p.0 in
        (q.0, q.1, p.1)

    stops_one : (rest : List T) → Stops after rest → Stops more rest
    stops_one [] d = tt
    stops_one (t ∷ rest) d = (after_is t d).0

    stops_other : (rest : List T) → Stops after rest → Stops more' rest
    stops_other [] d = tt
    stops_other (t ∷ rest) d = (after_is t d).1

    complete_one : (front rest : List T) (a : A) → g front a → Stops after rest → pick begins f f' (front ++ rest) ≡ reads a rest
    complete_one [] rest a s d = absurd (never (law.nothing a s))
      where
        never : false ≡ true → ⊥
        never e = cc
    complete_one (t ∷ front) rest a s d = pick_yes t (front ++ rest) (within t (law.starts t front a s)) ∙ law.complete (t ∷ front) rest a s (stops_one rest d)

    complete_other : (front rest : List T) (a : A) → g' front a → Stops after rest → pick begins f f' (front ++ rest) ≡ reads a rest
    complete_other [] [] a s d = law'.complete [] [] a s tt
    complete_other [] (t ∷ rest) a s d = pick_no t rest (sym (ap (λ (x : Bool). x && begins t) (law'.nothing a s)) ∙ (after_is t d).2) ∙ law'.complete [] (t ∷ rest) a s (stops_other (t ∷ rest) d)
    complete_other (t ∷ front) rest a s d = pick_no t (front ++ rest) (without t (law'.starts t front a s)) ∙ law'.complete (t ∷ front) rest a s (stops_other rest d)

    either_one : (ts : List T) (left : ℕ) → GoesOn alphabet g ts left → GoesOn alphabet (form.either g g') ts left
    unfolding form.either
    either_one ts left v = record { front = v.front; rest = v.rest; whole = v.whole; here = v.here; more = v.more; value = v.value; spelled = inl v.spelled; real = v.real }

    either_other : (ts : List T) (left : ℕ) → GoesOn alphabet g' ts left → GoesOn alphabet (form.either g g') ts left
    unfolding form.either
    either_other ts left v = record { front = v.front; rest = v.rest; whole = v.whole; here = v.here; more = v.more; value = v.value; spelled = inr v.spelled; real = v.real }

    viable_pick : (ts : List T) (e : Fault) → pick begins f f' ts ≡ wrong e → GoesOn alphabet (form.either g g') ts e.left
    viable_pick [] e d = either_other [] e.left (law'.viable [] e d)
    viable_pick (t ∷ ts) e d = by_test (begins t) d
      where
        by_test : (b : Bool) → cond b (f (t ∷ ts)) (f' (t ∷ ts)) ≡ wrong e → GoesOn alphabet (form.either g g') (t ∷ ts) e.left
        by_test true d = either_one (t ∷ ts) e.left (law.viable (t ∷ ts) e d)
        by_test false d = either_other (t ∷ ts) e.left (law'.viable (t ∷ ts) e d)

    local_pick : (front : List T) (t : T) (rest rest' : List T) (o : Result A TokenFault) → pick begins f f' (front ++ t ∷ rest) ≡ ends o (t ∷ rest) → pick begins f f' (front ++ t ∷ rest') ≡ ends o (t ∷ rest')
    local_pick [] t rest rest' o d = by_test (begins t) d
      where
        by_test : (b : Bool) → cond b (f (t ∷ rest)) (f' (t ∷ rest)) ≡ ends o (t ∷ rest) → cond b (f (t ∷ rest')) (f' (t ∷ rest')) ≡ ends o (t ∷ rest')
        by_test true d = law.local [] t rest rest' o d
        by_test false d = law'.local [] t rest rest' o d
    local_pick (u ∷ front) t rest rest' o d = by_test (begins u) d
      where
        by_test : (b : Bool) → cond b (f (u ∷ (front ++ t ∷ rest))) (f' (u ∷ (front ++ t ∷ rest))) ≡ ends o (t ∷ rest) → cond b (f (u ∷ (front ++ t ∷ rest'))) (f' (u ∷ (front ++ t ∷ rest'))) ≡ ends o (t ∷ rest')
        by_test true d = law.local (u ∷ front) t rest rest' o d
        by_test false d = law'.local (u ∷ front) t rest rest' o d

    number_one : (ts : List T) (left : ℕ) → NumberGoesOn alphabet g ts left → NumberGoesOn alphabet (form.either g g') ts left
    unfolding form.either
    number_one ts left v = record { front = v.front; bad = v.bad; rest = v.rest; whole = v.whole; here = v.here; bad_is = v.bad_is; good = v.good; good_is = v.good_is; more = v.more; value = v.value; spelled = inl v.spelled; real = v.real }

    number_other : (ts : List T) (left : ℕ) → NumberGoesOn alphabet g' ts left → NumberGoesOn alphabet (form.either g g') ts left
    unfolding form.either
    number_other ts left v = record { front = v.front; bad = v.bad; rest = v.rest; whole = v.whole; here = v.here; bad_is = v.bad_is; good = v.good; good_is = v.good_is; more = v.more; value = v.value; spelled = inr v.spelled; real = v.real }

    number_pick : (ts : List T) (left : ℕ) → pick begins f f' ts ≡ wrong (record { left = left; kind = Number }) → NumberGoesOn alphabet (form.either g g') ts left
    number_pick [] left d = number_other [] left (law'.number [] left d)
    number_pick (t ∷ ts) left d = by_test (begins t) d
      where
        by_test : (b : Bool) → cond b (f (t ∷ ts)) (f' (t ∷ ts)) ≡ wrong (record { left = left; kind = Number }) → NumberGoesOn alphabet (form.either g g') (t ∷ ts) left
        by_test true d = number_one (t ∷ ts) left (law.number (t ∷ ts) left d)
        by_test false d = number_other (t ∷ ts) left (law'.number (t ∷ ts) left d)

    limit_one : (ts : List T) (left : ℕ) → LimitGoesOn alphabet wide ts left → LimitGoesOn alphabet (form.either wide wide') ts left
    unfolding form.either
    limit_one ts left v = record { front = v.front; bad = v.bad; rest = v.rest; whole = v.whole; here = v.here; more = v.more; value = v.value; spelled = inl v.spelled; real = v.real }

    limit_other : (ts : List T) (left : ℕ) → LimitGoesOn alphabet wide' ts left → LimitGoesOn alphabet (form.either wide wide') ts left
    unfolding form.either
    limit_other ts left v = record { front = v.front; bad = v.bad; rest = v.rest; whole = v.whole; here = v.here; more = v.more; value = v.value; spelled = inr v.spelled; real = v.real }

    limit_pick : (ts : List T) (left : ℕ) → pick begins f f' ts ≡ wrong (record { left = left; kind = Limit }) → LimitGoesOn alphabet (form.either wide wide') ts left
    limit_pick [] left d = limit_other [] left (law'.limit [] left d)
    limit_pick (t ∷ ts) left d = by_test (begins t) d
      where
        by_test : (b : Bool) → cond b (f (t ∷ ts)) (f' (t ∷ ts)) ≡ wrong (record { left = left; kind = Limit }) → LimitGoesOn alphabet (form.either wide wide') (t ∷ ts) left
        by_test true d = limit_one (t ∷ ts) left (law.limit (t ∷ ts) left d)
        by_test false d = limit_other (t ∷ ts) left (law'.limit (t ∷ ts) left d)

    swap_pick : (front : List T) (t u : T) (rest rest' : List T) (o : Result A TokenFault) → is_number alphabet t ≡ true → alphabet.class u ≡ alphabet.class t → pick begins f f' (front ++ t ∷ rest) ≡ ends o (t ∷ rest) → Swapped (is_literal alphabet t) o (pick begins f f' (front ++ u ∷ rest')) u rest'
    swap_pick [] t u rest rest' o n n' d = by_test (begins t) (begins u) (alike t u n n') d
      where
        by_test : (b b' : Bool) → b ≡ b' → cond b (f (t ∷ rest)) (f' (t ∷ rest)) ≡ ends o (t ∷ rest) → Swapped (is_literal alphabet t) o (cond b' (f (u ∷ rest')) (f' (u ∷ rest'))) u rest'
        by_test true true e d = law.swap [] t u rest rest' o n n' d
        by_test false false e d = law'.swap [] t u rest rest' o n n' d
        by_test true false e d = absurd cc
        by_test false true e d = absurd cc
    swap_pick (v ∷ front) t u rest rest' o n n' d = by_test (begins v) d
      where
        by_test : (b : Bool) → cond b (f (v ∷ (front ++ t ∷ rest))) (f' (v ∷ (front ++ t ∷ rest))) ≡ ends o (t ∷ rest) → Swapped (is_literal alphabet t) o (cond b (f (v ∷ (front ++ u ∷ rest'))) (f' (v ∷ (front ++ u ∷ rest')))) u rest'
        by_test true d = law.swap (v ∷ front) t u rest rest' o n n' d
        by_test false d = law'.swap (v ∷ front) t u rest rest' o n n' d

    pick_never : false ≡ true → ⊥
    pick_never e = cc

    reads_one : (front rest : List T) (a : A) → wide front a → Stops after rest → UpTo alphabet (front ++ rest) (pick begins f f' (front ++ rest)) (reads a rest)
    reads_one [] rest a s d = absurd (pick_never (law.broad.nothing a s))
    reads_one (t ∷ front) rest a s d = subst (λ (y : Result (A × List T) Fault). UpTo alphabet (t ∷ (front ++ rest)) y (reads a rest)) (sym (pick_yes t (front ++ rest) (within t (law.broad.starts t front a s)))) (law.broad.reads (t ∷ front) rest a s (stops_one rest d))

    reads_other : (front rest : List T) (a : A) → wide' front a → Stops after rest → UpTo alphabet (front ++ rest) (pick begins f f' (front ++ rest)) (reads a rest)
    reads_other [] [] a s d = law'.broad.reads [] [] a s tt
    reads_other [] (t ∷ rest) a s d = subst (λ (y : Result (A × List T) Fault). UpTo alphabet (t ∷ rest) y (reads a (t ∷ rest))) (sym (pick_no t rest (sym (ap (λ (x : Bool). x && begins t) (law'.broad.nothing a s)) ∙ (after_is t d).2))) (law'.broad.reads [] (t ∷ rest) a s (stops_other (t ∷ rest) d))
    reads_other (t ∷ front) rest a s d = subst (λ (y : Result (A × List T) Fault). UpTo alphabet (t ∷ (front ++ rest)) y (reads a rest)) (sym (pick_no t (front ++ rest) (without t (law'.broad.starts t front a s)))) (law'.broad.reads (t ∷ front) rest a s (stops_other rest d))

    broad_pick : Broad alphabet (form.either wide wide') (pick begins f f') (λ t. first t || first' t) after empty'
    unfolding form.either
    broad_pick = record {
      starts = λ t ts a s. elim s [ inl x ↦ or_true _ _ (inl (law.broad.starts t ts a x)) | inr x ↦ or_true _ _ (inr (law'.broad.starts t ts a x)) ];
      nothing = λ a s. elim s [ inl x ↦ absurd (pick_never (law.broad.nothing a x)) | inr x ↦ law'.broad.nothing a x ];
      reads = λ front rest a s d. elim s [ inl x ↦ reads_one front rest a x d | inr x ↦ reads_other front rest a x d ];
    }

    pub pick_lawful : Lawful alphabet (form.either g g') (form.either wide wide') (pick begins f f') (λ t. first t || first' t) after empty'
    unfolding form.either
    pick_lawful = record {
      sound = sound_pick;
      complete = λ front rest a s d. elim s [ inl x ↦ complete_one front rest a x d | inr x ↦ complete_other front rest a x d ];
      starts = λ t ts a s. elim s [ inl x ↦ or_true _ _ (inl (law.starts t ts a x)) | inr x ↦ or_true _ _ (inr (law'.starts t ts a x)) ];
      nothing = λ a s. elim s [ inl x ↦ absurd (never (law.nothing a x)) | inr x ↦ law'.nothing a x ];
      some = (law.some.0, law.some.1, inl law.some.2, law.some.3);
      viable = viable_pick;
      local = local_pick;
      number = number_pick;
      swap = swap_pick;
      contains = λ ts a s. elim s [ inl x ↦ inl (law.contains ts a x) | inr x ↦ inr (law'.contains ts a x) ];
      limit = limit_pick;
      broad = broad_pick;
    }
      where
        never : false ≡ true → ⊥
        never e = cc

  -- ---- as many as there are, up to a limit

  module _ {A : Type 0} (g wide : Form T A) (f : Reader T A) (begins first more : T → Bool) (law : Lawful alphabet g wide f first more false) (alike : (t u : T) → is_number alphabet t ≡ true → alphabet.class u ≡ alphabet.class t → begins t ≡ begins u) (within : (t : T) → first t ≡ true → begins t ≡ true) (apart : (t : T) → more t ≡ true → begins t ≡ true → ⊥) (opens : (t : T) → begins t ≡ true → (more' : List T) × (a : A) × wide (t ∷ more') a × AllReal alphabet more') where
    abbrev after_many : T → Bool
    after_many t = more t || begins t

    none_zero : (ts : List T) (as' : List A) → Many g zero ts as' → (ts ≡ []) × (as' ≡ [])
    none_zero ts [] s = (s, refl)
    none_zero ts (a ∷ as') s = absurd s

    sound_zero : (ts rest : List T) (as' : List A) → many_at begins f zero ts ≡ reads as' rest → (front : List T) × (ts ≡ front ++ rest) × Many g zero front as'
    sound_zero [] rest as' e = let h = reads_is [] as' [] rest e in ([], h.1, subst (λ (x : List A). Many g zero [] x) h.0 refl)
    sound_zero (t ∷ ts) rest as' e = by_test (begins t) e
      where
        by_test : (b : Bool) → cond b (fault_at Limit (t ∷ ts)) (reads {A = List A} [] (t ∷ ts)) ≡ reads as' rest → (front : List T) × (t ∷ ts ≡ front ++ rest) × Many g zero front as'
        by_test true d = absurd cc
        by_test false d = let h = reads_is [] as' (t ∷ ts) rest d in ([], h.1, subst (λ (x : List A). Many g zero [] x) h.0 refl)

    complete_zero : (front rest : List T) (as' : List A) → (front ≡ []) × (as' ≡ []) → Stops after_many rest → many_at begins f zero (front ++ rest) ≡ reads as' rest
    complete_zero front [] as' n d = rw (n.0, n.1) refl
    complete_zero front (t ∷ rest) as' n d = rw (n.0, n.1, (or_false (more t) (begins t) d).1) refl

    viable_zero : (ts : List T) (e : Fault) → many_at begins f zero ts ≡ wrong e → GoesOn alphabet (Many g zero) ts e.left
    viable_zero [] e d = absurd cc
    viable_zero (t ∷ ts) e d = by_test (begins t) d
      where
        by_test : (b : Bool) → cond b (fault_at Limit (t ∷ ts)) (reads {A = List A} [] (t ∷ ts)) ≡ wrong e → GoesOn alphabet (Many g zero) (t ∷ ts) e.left
        by_test true d = record { front = []; rest = t ∷ ts; whole = refl; here = ap (λ (x : Fault). x.left) (wrong_is _ e d); more = []; value = []; spelled = refl; real = tt }
        by_test false d = absurd cc

    no_less : (o : Result (List A) TokenFault) (u : T) (us : List T) (b : Bool) (t : T) (rest rest' : List T) → cond b (fault_at Limit (u ∷ (us ++ t ∷ rest))) (reads {A = List A} [] (u ∷ (us ++ t ∷ rest))) ≡ ends o (t ∷ rest) → ⊥
    no_less (Ok a) u us true t rest rest' d = cc
    no_less (Ok a) u us false t rest rest' d = omega (arith, ap length (reads_is [] a (u ∷ (us ++ t ∷ rest)) (t ∷ rest) d).1, length-append us (t ∷ rest))
    no_less (Err k) u us true t rest rest' d = omega (arith, ap (λ (x : Fault). x.left) (wrong_is (record { left = length (u ∷ (us ++ t ∷ rest)); kind = Limit }) (record { left = length (t ∷ rest); kind = k }) d), length-append us (t ∷ rest))
    no_less (Err k) u us false t rest rest' d = cc

    local_zero : (front : List T) (t : T) (rest rest' : List T) (o : Result (List A) TokenFault) → many_at begins f zero (front ++ t ∷ rest) ≡ ends o (t ∷ rest) → many_at begins f zero (front ++ t ∷ rest') ≡ ends o (t ∷ rest')
    local_zero [] t rest rest' o d = by_test (begins t) o d
      where
        by_test : (b : Bool) (o : Result (List A) TokenFault) → cond b (fault_at Limit (t ∷ rest)) (reads {A = List A} [] (t ∷ rest)) ≡ ends o (t ∷ rest) → cond b (fault_at Limit (t ∷ rest')) (reads {A = List A} [] (t ∷ rest')) ≡ ends o (t ∷ rest')
        by_test true (Ok a) d = absurd cc
        by_test true (Err k) d = rw (ap (λ (x : Fault). x.kind) (wrong_is (record { left = length (t ∷ rest); kind = Limit }) (record { left = length (t ∷ rest); kind = k }) d)) refl
        by_test false (Ok a) d = rw (reads_is [] a (t ∷ rest) (t ∷ rest) d).0 refl
        by_test false (Err k) d = absurd cc
    local_zero (u ∷ front) t rest rest' o d = absurd (no_less o u front (begins u) t rest rest' d)

    number_zero : (ts : List T) (left : ℕ) → many_at begins f zero ts ≡ wrong (record { left = left; kind = Number }) → ⊥
    number_zero [] left d = cc
    number_zero (t ∷ ts) left d = by_test (begins t) d
      where
        limit : Limit ≡ Number → ⊥
        limit e = cc

        by_test : (b : Bool) → cond b (fault_at Limit (t ∷ ts)) (reads {A = List A} [] (t ∷ ts)) ≡ wrong (record { left = left; kind = Number }) → ⊥
        by_test true d = limit (ap (λ (x : Fault). x.kind) (wrong_is (record { left = length (t ∷ ts); kind = Limit }) (record { left = left; kind = Number }) d))
        by_test false d = cc

    swap_zero : (front : List T) (t u : T) (rest rest' : List T) (o : Result (List A) TokenFault) → is_number alphabet t ≡ true → alphabet.class u ≡ alphabet.class t → many_at begins f zero (front ++ t ∷ rest) ≡ ends o (t ∷ rest) → Swapped (is_literal alphabet t) o (many_at begins f zero (front ++ u ∷ rest')) u rest'
    swap_zero [] t u rest rest' o n n' d = by_test (begins t) (begins u) (alike t u n n') o d
      where
        refuses : (k : TokenFault) → Swapped {A = List A} (is_literal alphabet t) (Err k) (fault_at Limit (u ∷ rest')) u rest'
        refuses Number = tt
        refuses Syntax = (Limit, refl)
        refuses Profile = (Limit, refl)
        refuses Limit = λ _. (Limit, refl)

        by_test : (b b' : Bool) → b ≡ b' → (o : Result (List A) TokenFault) → cond b (fault_at Limit (t ∷ rest)) (reads {A = List A} [] (t ∷ rest)) ≡ ends o (t ∷ rest) → Swapped (is_literal alphabet t) o (cond b' (fault_at Limit (u ∷ rest')) (reads {A = List A} [] (u ∷ rest'))) u rest'
        by_test true false e o d = absurd cc
        by_test false true e o d = absurd cc
        by_test true true e (Ok a) d = absurd cc
        by_test true true e (Err k) d = refuses k
        by_test false false e (Ok a) d = rw (reads_is [] a (t ∷ rest) (t ∷ rest) d).0 refl
        by_test false false e (Err k) d = absurd cc
    swap_zero (v ∷ front) t u rest rest' o n n' d = absurd (no_less o v front (begins v) t rest rest' d)

    limit_zero : (ts : List T) (left : ℕ) → many_at begins f zero ts ≡ wrong (record { left = left; kind = Limit }) → LimitGoesOn alphabet (Star wide) ts left
    limit_zero [] left d = absurd cc
    limit_zero (t ∷ ts) left d = by_test (begins t) refl d
      where
        by_test : (b : Bool) → begins t ≡ b → cond b (fault_at Limit (t ∷ ts)) (reads {A = List A} [] (t ∷ ts)) ≡ wrong (record { left = left; kind = Limit }) → LimitGoesOn alphabet (Star wide) (t ∷ ts) left
        by_test true e d =
            let o = opens t e in
            record {
              front = [];
              bad = t;
              rest = ts;
              whole = refl;
              here = ap (λ (x : Fault). x.left) (wrong_is (record { left = length (t ∷ ts); kind = Limit }) (record { left = left; kind = Limit }) d);
              more = o.0;
              value = o.1 ∷ [];
              spelled = (t ∷ o.0, [], sym (append-nil (t ∷ o.0)), o.2, refl);
              real = o.3;
            }
        by_test false e d = absurd cc

    abbrev wide_more : Form T (List A)
    wide_more = form.◌>>=◌ wide (λ a. form.◌>>=◌ (Star wide) (λ more'. form.gives (a ∷ more')))

    over : (ts : List T) (as' : List A) → form.either wide_more (form.gives []) ts as' → Star wide ts as'
    unfolding form.either form.◌>>=◌
    over ts as' (inl (p, q, a, e, s, (q', r, l, e', s', n))) =
        let whole : ts ≡ p ++ q' = e ∙ ap (λ (x : List T). p ++ x) (e' ∙ ap (λ (x : List T). q' ++ x) n.0 ∙ append-nil q') in
        subst (λ (x : List A). Star wide ts x) (sym n.1) (p, q', whole, s, s')
    over ts as' (inr n) = subst (λ (x : List A). Star wide ts x) (sym n.1) n.0

    star_never : false ≡ true → ⊥
    star_never e = cc

    star_starts : (t : T) (ts : List T) (as' : List A) → Star wide (t ∷ ts) as' → first t ≡ true
    star_starts t ts [] s = absurd (cons_not_nil t ts s)
    star_starts t ts (a ∷ as') (p, q, e, s, s') = by_front p e s
      where
        by_front : (p : List T) → t ∷ ts ≡ p ++ q → wide p a → first t ≡ true
        by_front [] e s = absurd (star_never (law.broad.nothing a s))
        by_front (u ∷ p) e s = ap first (cons_is t u ts (p ++ q) e).0 ∙ law.broad.starts u p a s

    reads_zero : (front rest : List T) (as' : List A) → Star wide front as' → Stops after_many rest → UpTo alphabet (front ++ rest) (many_at begins f zero (front ++ rest)) (reads as' rest)
    reads_zero front rest [] s d = inl (complete_zero front rest [] (s, refl) d)
    reads_zero [] rest (a ∷ as') (p, q, e, s, s') d = absurd (star_never (law.broad.nothing a (subst (λ (y : List T). wide y a) (append_is_nil p q (sym e)).0 s)))
    reads_zero (t ∷ front) rest (a ∷ as') s d = limit_up t (front ++ rest) (many_at begins f zero (t ∷ (front ++ rest))) (reads (a ∷ as') rest) (rw (within t (star_starts t front (a ∷ as') s)) refl)

    under : (ts : List T) (as' : List A) → Star wide ts as' → form.either wide_more (form.gives []) ts as'
    unfolding form.either form.◌>>=◌
    under ts [] s = inr (s, refl)
    under ts (a ∷ as') (p, q, e, s, s') = inl (p, q, a, e, s, (q, [], as', sym (append-nil q), s', (refl, refl)))

    zero_lawful : Lawful alphabet (Many g zero) (Star wide) (many_at begins f zero) first after_many true
    zero_lawful = record {
      sound = sound_zero;
      complete = λ front rest as' s d. complete_zero front rest as' (none_zero front as' s) d;
      starts = λ t ts as' s. absurd (cons_not_nil t ts (none_zero (t ∷ ts) as' s).0);
      nothing = λ as' s. refl;
      some = ([], [], refl, tt);
      viable = viable_zero;
      local = local_zero;
      number = λ ts left d. absurd (number_zero ts left d);
      swap = swap_zero;
      contains = λ ts as' s. let n = none_zero ts as' s in subst (λ (x : List A). Star wide ts x) (sym n.1) n.0;
      limit = limit_zero;
      broad = record { starts = star_starts; nothing = λ as' s. refl; reads = reads_zero };
    }

    abbrev one_more : ℕ → Form T (List A)
    one_more room = form.◌>>=◌ g (λ a. form.◌>>=◌ (Many g room) (λ more. form.gives (a ∷ more)))

    there : (room : ℕ) (ts : List T) (as' : List A) → form.either (one_more room) (form.gives []) ts as' → Many g (suc room) ts as'
    unfolding form.either form.◌>>=◌
    there room ts as' (inl (p, q, a, e, s, (q', r, l, e', s', n))) =
        let whole : ts ≡ p ++ q' = e ∙ ap (λ (x : List T). p ++ x) (e' ∙ ap (λ (x : List T). q' ++ x) n.0 ∙ append-nil q') in
        subst (λ (x : List A). Many g (suc room) ts x) (sym n.1) (p, q', whole, s, s')
    there room ts as' (inr n) = subst (λ (x : List A). Many g (suc room) ts x) (sym n.1) n.0

    back : (room : ℕ) (ts : List T) (as' : List A) → Many g (suc room) ts as' → form.either (one_more room) (form.gives []) ts as'
    unfolding form.either form.◌>>=◌
    back room ts [] s = inr (s, refl)
    back room ts (a ∷ as') (p, q, e, s, s') = inl (p, q, a, e, s, (q, [], as', sym (append-nil q), s', (refl, refl)))

    pub many_lawful : (room : ℕ) → Lawful alphabet (Many g room) (Star wide) (many_at begins f room) first after_many true
    many_lawful zero = zero_lawful
    many_lawful (suc room) =
        let inner = λ (a : A). both_lawful (Many g room) (Star wide) (many_at begins f room) (λ more. form.gives (a ∷ more)) (λ more. form.gives (a ∷ more)) (λ more. done (a ∷ more)) first after_many (λ _. false) (λ _. false) true true (many_lawful room) (λ more. gives_lawful (a ∷ more)) (λ t e d. absurd (never d)) in
        let outer = both_lawful g wide f (λ a. form.◌>>=◌ (Many g room) (λ more. form.gives (a ∷ more))) (λ a. form.◌>>=◌ (Star wide) (λ more. form.gives (a ∷ more))) (λ a. many_at begins f room >>= λ more. done (a ∷ more)) first more first after_many false true law (λ a. widened first after_many (inner a) (first_only) (λ t d. d)) (λ t e d. apart t e (within t d)) in
        let picked = pick_lawful (one_more room) (form.gives []) wide_more (form.gives []) (f >>= λ a. many_at begins f room >>= λ more. done (a ∷ more)) (done []) begins _ _ (λ _. false) (λ _. false) true outer (gives_lawful []) alike (λ t d. within t (left_only (first t) d)) (λ t d. absurd (never d)) in
        same_form (widened first after_many picked first_left after_right) (there room) (back room) over under
      where
        never : false ≡ true → ⊥
        never e = cc

        left_only : (b : Bool) → b || false ≡ true → b ≡ true
        left_only true d = refl
        left_only false d = d

        first_only : (t : T) → first t || false ≡ true → first t ≡ true
        first_only t d = left_only (first t) d

        first_left : (t : T) → (first t || false) || false ≡ true → first t ≡ true
        first_left t d = left_only (first t) (left_only (first t || false) d)

        after_right : (t : T) → ((after_many t || more t) || false) || begins t ≡ true → after_many t ≡ true
        after_right t d = or4 (more t) (begins t) d
          where
            or4 : (m b : Bool) → (((m || b) || m) || false) || b ≡ true → m || b ≡ true
            or4 true b d = refl
            or4 false true d = refl
            or4 false false d = d

  -- ---- as many as there are

  module _ {A : Type 0} (g wide : Form T A) (f : Reader T A) (begins first more : T → Bool) (law : Lawful alphabet g wide f first more false) (alike : (t u : T) → is_number alphabet t ≡ true → alphabet.class u ≡ alphabet.class t → begins t ≡ begins u) (within : (t : T) → first t ≡ true → begins t ≡ true) (apart : (t : T) → more t ≡ true → begins t ≡ true → ⊥) (opens : (t : T) → begins t ≡ true → (more' : List T) × (a : A) × wide (t ∷ more') a × AllReal alphabet more') where
    takes_some : (front rest ts : List T) (t : T) (a : A) → g front a → t ∷ ts ≡ front ++ rest → length rest ≤ length ts
    takes_some [] rest ts t a s e = absurd (never (law.nothing a s))
      where
        never : false ≡ true → ⊥
        never e = cc
    takes_some (u ∷ front) rest ts t a s e = omega (arith, ap length e, length-append front rest)

    -- with room enough it doesn't matter how much there is
    roomy : (n m : ℕ) (ts : List T) → length ts ≤ n → length ts ≤ m → many_at begins f n ts ≡ many_at begins f m ts
    roomy n m [] i j = empty_at n ∙ sym (empty_at m)
      where
        empty_at : (n : ℕ) → many_at begins f n [] ≡ reads [] []
        empty_at zero = refl
        empty_at (suc n) = refl
    roomy zero m (t ∷ ts) i j = absurd (omega arith)
    roomy (suc n) zero (t ∷ ts) i j = absurd (omega arith)
    roomy (suc n) (suc m) (t ∷ ts) i j = by_result (λ rest i' j'. roomy n m rest i' j') (f (t ∷ ts)) refl
      where
        by_result : ((rest : List T) → length rest ≤ n → length rest ≤ m → many_at begins f n rest ≡ many_at begins f m rest) → (r : Result (A × List T) Fault) → f (t ∷ ts) ≡ r → many_at begins f (suc n) (t ∷ ts) ≡ many_at begins f (suc m) (t ∷ ts)
        by_result again (Err e) h = rw h refl
        by_result again (Ok x) h =
            let s = law.sound (t ∷ ts) x.1 x.0 h in
            let le = takes_some s.0 x.1 ts t x.0 s.2 s.1 in
            let same = again x.1 (omega (arith, le)) (omega (arith, le)) in
            rw (h, same) refl

    to_star : (n : ℕ) (ts : List T) (more' : List A) → Many g n ts more' → Star g ts more'
    to_star n ts [] s = s
    to_star zero ts (a ∷ more') s = absurd s
    to_star (suc n) ts (a ∷ more') (p, q, e, s, s') = (p, q, e, s, to_star n q more' s')

    from_star : (n : ℕ) (ts : List T) (more' : List A) → length ts ≤ n → Star g ts more' → Many g n ts more'
    from_star zero ts [] le s = s
    from_star (suc n) ts [] le s = s
    from_star zero ts (a ∷ more') le (p, q, e, s, s') = absurd (empty_front p q e s)
      where
        empty_front : (p q : List T) → ts ≡ p ++ q → g p a → ⊥
        empty_front [] q e s = never (law.nothing a s)
          where
            never : false ≡ true → ⊥
            never e = cc
        empty_front (u ∷ p) q e s = omega (arith, ap length e, length-append p q)
    from_star (suc n) ts (a ∷ more') le (p, q, e, s, s') = (p, q, e, s, from_star n q more' (shorter p q e s) s')
      where
        shorter : (p q : List T) → ts ≡ p ++ q → g p a → length q ≤ n
        shorter [] q e s = absurd (never (law.nothing a s))
          where
            never : false ≡ true → ⊥
            never e = cc
        shorter (u ∷ p) q e s = omega (arith, ap length e, length-append p q)

    abbrev laws_at : (n : ℕ) → Lawful alphabet (Many g n) (Star wide) (many_at begins f n) first (λ t. more t || begins t) true
    laws_at n = many_lawful g wide f begins first more law alike within apart opens n

    pub star_lawful : Lawful alphabet (Star g) (Star wide) (star_at begins f) first (λ t. more t || begins t) true
    star_lawful = record {
      sound = λ ts rest as' e. let s = (laws_at (length ts)).sound ts rest as' e in (s.0, s.1, to_star (length ts) s.0 as' s.2);
      complete = λ front rest as' s d. (laws_at (length (front ++ rest))).complete front rest as' (from_star (length (front ++ rest)) front as' (omega (arith, length-append front rest)) s) d;
      starts = λ t ts as' s. (laws_at (length (t ∷ ts))).starts t ts as' (from_star (length (t ∷ ts)) (t ∷ ts) as' (omega arith) s);
      nothing = λ as' s. refl;
      some = ([], [], refl, tt);
      viable = λ ts e d. let v = (laws_at (length ts)).viable ts e d in record { front = v.front; rest = v.rest; whole = v.whole; here = v.here; more = v.more; value = v.value; spelled = to_star (length ts) (v.front ++ v.more) v.value v.spelled; real = v.real };
      local = λ front t rest rest' o d. local_star front t rest rest' o d;
      number = λ ts left d. let v = (laws_at (length ts)).number ts left d in record { front = v.front; bad = v.bad; rest = v.rest; whole = v.whole; here = v.here; bad_is = v.bad_is; good = v.good; good_is = v.good_is; more = v.more; value = v.value; spelled = to_star (length ts) (v.front ++ v.good ∷ v.more) v.value v.spelled; real = v.real };
      swap = λ front t u rest rest' o n n' d. swap_star front t u rest rest' o n n' d;
      contains = λ ts as' s. (laws_at (length ts)).contains ts as' (from_star (length ts) ts as' (omega arith) s);
      limit = λ ts left d. (laws_at (length ts)).limit ts left d;
      broad = record {
        starts = (laws_at zero).broad.starts;
        nothing = (laws_at zero).broad.nothing;
        reads = λ front rest as' s d. (laws_at (length (front ++ rest))).broad.reads front rest as' s d;
      };
    }
      where
        local_star : (front : List T) (t : T) (rest rest' : List T) (o : Result (List A) TokenFault) → star_at begins f (front ++ t ∷ rest) ≡ ends o (t ∷ rest) → star_at begins f (front ++ t ∷ rest') ≡ ends o (t ∷ rest')
        local_star front t rest rest' o d =
            let n : ℕ = length (front ++ t ∷ rest) + length (front ++ t ∷ rest') in
            let one : many_at begins f n (front ++ t ∷ rest) ≡ ends o (t ∷ rest) = roomy n (length (front ++ t ∷ rest)) (front ++ t ∷ rest) (omega arith) (omega arith) ∙ d in
            let two = (laws_at n).local front t rest rest' o one in
            roomy (length (front ++ t ∷ rest')) n (front ++ t ∷ rest') (omega arith) (omega arith) ∙ two

        swap_star : (front : List T) (t u : T) (rest rest' : List T) (o : Result (List A) TokenFault) → is_number alphabet t ≡ true → alphabet.class u ≡ alphabet.class t → star_at begins f (front ++ t ∷ rest) ≡ ends o (t ∷ rest) → Swapped (is_literal alphabet t) o (star_at begins f (front ++ u ∷ rest')) u rest'
        swap_star front t u rest rest' o n n' d =
            let m : ℕ = length (front ++ t ∷ rest) + length (front ++ u ∷ rest') in
            let one : many_at begins f m (front ++ t ∷ rest) ≡ ends o (t ∷ rest) = roomy m (length (front ++ t ∷ rest)) (front ++ t ∷ rest) (omega arith) (omega arith) ∙ d in
            let two = (laws_at m).swap front t u rest rest' o n n' one in
            subst (λ (y : Result (List A × List T) Fault). Swapped (is_literal alphabet t) o y u rest') (sym (roomy (length (front ++ u ∷ rest')) m (front ++ u ∷ rest') (omega arith) (omega arith))) two

  -- ---- a reading that is barred here by a limit

  module _ {A : Type 0} (g narrow wide : Form T A) (f : Reader T A) (begins first more : T → Bool) (empty : Bool) (law : Lawful alphabet g narrow f first more empty) (over : (ts : List T) (a : A) → narrow ts a → wide ts a) (under : (ts : List T) (a : A) → wide ts a → narrow ts a ⊎ Begun begins ts) (alike : (t u : T) → is_number alphabet t ≡ true → alphabet.class u ≡ alphabet.class t → (begins t ≡ begins u) ⊎ ((empty ≡ false) × (begins t ≡ true → is_literal alphabet t ≡ true))) (without : (t : T) → first t ≡ true → begins t ≡ false) (opens : (t : T) → begins t ≡ true → (more' : List T) × (a : A) × wide (t ∷ more') a × AllReal alphabet more') where
    abbrev barred : Reader T A
    barred = pick begins (fault_at Limit) f

    free : (t : T) (ts : List T) → begins t ≡ false → barred (t ∷ ts) ≡ f (t ∷ ts)
    free t ts e = rw e refl

    sound_barred : (ts rest : List T) (a : A) → barred ts ≡ reads a rest → (front : List T) × (ts ≡ front ++ rest) × g front a
    sound_barred [] rest a h = law.sound [] rest a h
    sound_barred (t ∷ ts) rest a h = by_test (begins t) h
      where
        by_test : (b : Bool) → cond b (fault_at Limit (t ∷ ts)) (f (t ∷ ts)) ≡ reads a rest → (front : List T) × (t ∷ ts ≡ front ++ rest) × g front a
        by_test true d = absurd cc
        by_test false d = law.sound (t ∷ ts) rest a d

    stops_more : (rest : List T) → Stops (λ t. more t || begins t) rest → Stops more rest
    stops_more [] d = tt
    stops_more (t ∷ rest) d = (or_false (more t) (begins t) d).0

    complete_barred : (front rest : List T) (a : A) → g front a → Stops (λ t. more t || begins t) rest → barred (front ++ rest) ≡ reads a rest
    complete_barred [] [] a s d = law.complete [] [] a s tt
    complete_barred [] (t ∷ rest) a s d = free t rest (or_false (more t) (begins t) d).1 ∙ law.complete [] (t ∷ rest) a s (stops_more (t ∷ rest) d)
    complete_barred (t ∷ front) rest a s d = free t (front ++ rest) (without t (law.starts t front a s)) ∙ law.complete (t ∷ front) rest a s (stops_more rest d)

    viable_barred : (ts : List T) (e : Fault) → barred ts ≡ wrong e → GoesOn alphabet g ts e.left
    viable_barred [] e h = law.viable [] e h
    viable_barred (t ∷ ts) e h = by_test (begins t) h
      where
        by_test : (b : Bool) → cond b (fault_at Limit (t ∷ ts)) (f (t ∷ ts)) ≡ wrong e → GoesOn alphabet g (t ∷ ts) e.left
        by_test true d = record { front = []; rest = t ∷ ts; whole = refl; here = ap (λ (x : Fault). x.left) (wrong_is _ e d); more = law.some.0; value = law.some.1; spelled = law.some.2; real = law.some.3 }
        by_test false d = law.viable (t ∷ ts) e d

    apart_ends : (o : Result A TokenFault) (u : T) (us : List T) (t : T) (rest : List T) → fault_at Limit (u ∷ (us ++ t ∷ rest)) ≡ ends o (t ∷ rest) → ⊥
    apart_ends (Ok a) u us t rest d = cc
    apart_ends (Err k) u us t rest d = omega (arith, ap (λ (x : Fault). x.left) (wrong_is (record { left = length (u ∷ (us ++ t ∷ rest)); kind = Limit }) (record { left = length (t ∷ rest); kind = k }) d), length-append us (t ∷ rest))

    local_barred : (front : List T) (t : T) (rest rest' : List T) (o : Result A TokenFault) → barred (front ++ t ∷ rest) ≡ ends o (t ∷ rest) → barred (front ++ t ∷ rest') ≡ ends o (t ∷ rest')
    local_barred [] t rest rest' o d = by_test (begins t) o d
      where
        by_test : (b : Bool) (o : Result A TokenFault) → cond b (fault_at Limit (t ∷ rest)) (f (t ∷ rest)) ≡ ends o (t ∷ rest) → cond b (fault_at Limit (t ∷ rest')) (f (t ∷ rest')) ≡ ends o (t ∷ rest')
        by_test true (Ok a) d = absurd cc
        by_test true (Err k) d = rw (ap (λ (x : Fault). x.kind) (wrong_is (record { left = length (t ∷ rest); kind = Limit }) (record { left = length (t ∷ rest); kind = k }) d)) refl
        by_test false o d = law.local [] t rest rest' o d
    local_barred (v ∷ front) t rest rest' o d = by_test (begins v) d
      where
        by_test : (b : Bool) → cond b (fault_at Limit (v ∷ (front ++ t ∷ rest))) (f (v ∷ (front ++ t ∷ rest))) ≡ ends o (t ∷ rest) → cond b (fault_at Limit (v ∷ (front ++ t ∷ rest'))) (f (v ∷ (front ++ t ∷ rest'))) ≡ ends o (t ∷ rest')
        by_test true d = absurd (apart_ends o v front t rest d)
        by_test false d = law.local (v ∷ front) t rest rest' o d

    number_barred : (ts : List T) (left : ℕ) → barred ts ≡ wrong (record { left = left; kind = Number }) → NumberGoesOn alphabet g ts left
    number_barred [] left d = law.number [] left d
    number_barred (t ∷ ts) left d = by_test (begins t) d
      where
        limit : Limit ≡ Number → ⊥
        limit e = cc

        by_test : (b : Bool) → cond b (fault_at Limit (t ∷ ts)) (f (t ∷ ts)) ≡ wrong (record { left = left; kind = Number }) → NumberGoesOn alphabet g (t ∷ ts) left
        by_test true d = absurd (limit (ap (λ (x : Fault). x.kind) (wrong_is (record { left = length (t ∷ ts); kind = Limit }) (record { left = left; kind = Number }) d)))
        by_test false d = law.number (t ∷ ts) left d

    widely : (ts : List T) (left : ℕ) → LimitGoesOn alphabet narrow ts left → LimitGoesOn alphabet wide ts left
    widely ts left v = record { front = v.front; bad = v.bad; rest = v.rest; whole = v.whole; here = v.here; more = v.more; value = v.value; spelled = over (v.front ++ v.bad ∷ v.more) v.value v.spelled; real = v.real }

    limit_barred : (ts : List T) (left : ℕ) → barred ts ≡ wrong (record { left = left; kind = Limit }) → LimitGoesOn alphabet wide ts left
    limit_barred [] left d = widely [] left (law.limit [] left d)
    limit_barred (t ∷ ts) left d = by_test (begins t) refl d
      where
        by_test : (b : Bool) → begins t ≡ b → cond b (fault_at Limit (t ∷ ts)) (f (t ∷ ts)) ≡ wrong (record { left = left; kind = Limit }) → LimitGoesOn alphabet wide (t ∷ ts) left
        by_test true e d =
            let o = opens t e in
            record { front = []; bad = t; rest = ts; whole = refl; here = ap (λ (x : Fault). x.left) (wrong_is (record { left = length (t ∷ ts); kind = Limit }) (record { left = left; kind = Limit }) d); more = o.0; value = o.1; spelled = o.2; real = o.3 }
        by_test false e d = widely (t ∷ ts) left (law.limit (t ∷ ts) left d)

    swap_barred : (front : List T) (t u : T) (rest rest' : List T) (o : Result A TokenFault) → is_number alphabet t ≡ true → alphabet.class u ≡ alphabet.class t → barred (front ++ t ∷ rest) ≡ ends o (t ∷ rest) → Swapped (is_literal alphabet t) o (barred (front ++ u ∷ rest')) u rest'
    swap_barred [] t u rest rest' o n n' d = by_test (begins t) (begins u) (alike t u n n') o d
      where
        refuses : (k : TokenFault) → Swapped {A = A} (is_literal alphabet t) (Err k) (fault_at Limit (u ∷ rest')) u rest'
        refuses Number = tt
        refuses Syntax = (Limit, refl)
        refuses Profile = (Limit, refl)
        refuses Limit = λ _. (Limit, refl)

        both : true ≡ false → ⊥
        both e = cc

        -- only a literal may be past a limit where others of its class aren't
        bounded : (k : TokenFault) (r : Result (A × List T) Fault) → Limit ≡ k → is_literal alphabet t ≡ true → Swapped {A = A} (is_literal alphabet t) (Err k) r u rest'
        bounded k r e l = subst (λ (x : TokenFault). Swapped {A = A} (is_literal alphabet t) (Err x) r u rest') e (λ n. absurd (both (sym l ∙ n)))

        literal_or : (b b' : Bool) → (b ≡ b') ⊎ ((empty ≡ false) × (b ≡ true → is_literal alphabet t ≡ true)) → b ≡ true → b' ≡ false → is_literal alphabet t ≡ true
        literal_or true true e p q = absurd cc
        literal_or true false (inl e) p q = absurd cc
        literal_or true false (inr e) p q = e.1 refl
        literal_or false b' e p q = absurd cc

        same_or : (b b' : Bool) → (b ≡ b') ⊎ ((empty ≡ false) × (b ≡ true → is_literal alphabet t ≡ true)) → b ≡ false → b' ≡ true → empty ≡ false
        same_or true b' e p q = absurd cc
        same_or false true (inl e) p q = absurd cc
        same_or false true (inr e) p q = e.0
        same_or false false e p q = absurd cc

        -- nothing isn't read, so the token is
        taken : (a : A) (front : List T) → t ∷ rest ≡ front ++ t ∷ rest → g front a → empty ≡ false → ⊥
        taken a [] e s p = both (sym (law.nothing a s) ∙ p)
        taken a (v ∷ front) e s p = omega (arith, ap length e, length-append front (t ∷ rest))

        by_test : (b b' : Bool) → (b ≡ b') ⊎ ((empty ≡ false) × (b ≡ true → is_literal alphabet t ≡ true)) → (o : Result A TokenFault) → cond b (fault_at Limit (t ∷ rest)) (f (t ∷ rest)) ≡ ends o (t ∷ rest) → Swapped (is_literal alphabet t) o (cond b' (fault_at Limit (u ∷ rest')) (f (u ∷ rest'))) u rest'
        by_test true false e (Ok a) d = absurd cc
        by_test true false e (Err k) d = bounded k (f (u ∷ rest')) (ap (λ (x : Fault). x.kind) (wrong_is (record { left = length (t ∷ rest); kind = Limit }) (record { left = length (t ∷ rest); kind = k }) d)) (literal_or true false e refl refl)
        by_test false true e (Ok a) d = let s = law.sound (t ∷ rest) (t ∷ rest) a d in absurd (taken a s.0 s.1 s.2 (same_or false true e refl refl))
        by_test false true e (Err k) d = refuses k
        by_test true true e (Ok a) d = absurd cc
        by_test true true e (Err k) d = refuses k
        by_test false false e o d = law.swap [] t u rest rest' o n n' d
    swap_barred (v ∷ front) t u rest rest' o n n' d = by_test (begins v) d
      where
        by_test : (b : Bool) → cond b (fault_at Limit (v ∷ (front ++ t ∷ rest))) (f (v ∷ (front ++ t ∷ rest))) ≡ ends o (t ∷ rest) → Swapped (is_literal alphabet t) o (cond b (fault_at Limit (v ∷ (front ++ u ∷ rest'))) (f (v ∷ (front ++ u ∷ rest')))) u rest'
        by_test true d = absurd (apart_ends o v front t rest d)
        by_test false d = law.swap (v ∷ front) t u rest rest' o n n' d

    starts_barred : (t : T) (ts : List T) (a : A) → wide (t ∷ ts) a → first t || begins t ≡ true
    starts_barred t ts a s = elim (under (t ∷ ts) a s) [ inl x ↦ or_true _ _ (inl (law.broad.starts t ts a x)) | inr e ↦ or_true _ _ (inr e) ]

    nothing_barred : (a : A) → wide [] a → empty ≡ true
    nothing_barred a s = elim (under [] a s) [ inl x ↦ law.broad.nothing a x | inr e ↦ absurd e ]

    reads_narrow : (front rest : List T) (a : A) → narrow front a → Stops (λ t. more t || begins t) rest → UpTo alphabet (front ++ rest) (barred (front ++ rest)) (reads a rest)
    reads_narrow [] [] a s d = law.broad.reads [] [] a s tt
    reads_narrow [] (t ∷ rest) a s d = subst (λ (y : Result (A × List T) Fault). UpTo alphabet (t ∷ rest) y (reads a (t ∷ rest))) (sym (free t rest (or_false (more t) (begins t) d).1)) (law.broad.reads [] (t ∷ rest) a s (stops_more (t ∷ rest) d))
    reads_narrow (t ∷ front) rest a s d = subst (λ (y : Result (A × List T) Fault). UpTo alphabet (t ∷ (front ++ rest)) y (reads a rest)) (sym (free t (front ++ rest) (without t (law.broad.starts t front a s)))) (law.broad.reads (t ∷ front) rest a s (stops_more rest d))

    reads_begun : (front rest : List T) (a : A) → Begun begins front → UpTo alphabet (front ++ rest) (barred (front ++ rest)) (reads a rest)
    reads_begun [] rest a e = absurd e
    reads_begun (t ∷ front) rest a e = limit_up t (front ++ rest) (barred (t ∷ (front ++ rest))) (reads a rest) (rw e refl)

    pub barred_lawful : Lawful alphabet g wide barred (λ t. first t || begins t) (λ t. more t || begins t) empty
    barred_lawful = record {
      sound = sound_barred;
      complete = complete_barred;
      starts = λ t ts a s. or_true _ _ (inl (law.starts t ts a s));
      nothing = law.nothing;
      some = law.some;
      viable = viable_barred;
      local = local_barred;
      number = number_barred;
      swap = swap_barred;
      contains = λ ts a s. over ts a (law.contains ts a s);
      limit = limit_barred;
      broad = record {
        starts = starts_barred;
        nothing = nothing_barred;
        reads = λ front rest a s d. elim (under front a s) [ inl x ↦ reads_narrow front rest a x d | inr e ↦ reads_begun front rest a e ];
      };
    }
