-- The laws of readers that choose by sets of classes, put together.
use Rattle.std.proofs.Common.{◌≡◌, ℕ, nat_eq, Bool, true, false, cond, Option, Some, None, ◌||◌, ◌&&◌, not, List, [], ◌∷◌, ◌++◌, length, Result, Ok, Err, refl, sym, ap, subst, ◌∙◌, ◌⊎◌, inl, inr, arith}
use Rattle.std.proofs.lemmas.List.{length-append}
use Rattle.ir_parse_parts.specs.declared.fault.Fault.{Fault}
use Rattle.ir_parse_parts.specs.declared.fault.TokenFault.{TokenFault}
use Rattle.ir_parse_parts.specs.declared.fault.TokenFault.TheVariants.{Syntax, Profile, Number, Limit}
use Rattle.ir_parse_parts.specs.Alphabet.{Alphabet, AllReal, among, contains, is_literal, is_number}
use Rattle.ir_parse_parts.specs.Forms as form
use Rattle.ir_parse_parts.specs.Forms.{Form, Many, upto, optional}
use Rattle.ir_parse_parts.specs.Lawful.{Broad, IsRanged, SameRefusal, UpTo}
use Rattle.ir_parse_parts.specs.Readers.{Reader, done, ◌>>=◌, token_at, token_means, pick, many_at, star_at, upto_at, optional_at}
use Rattle.ir_parse_parts.specs.Rules.{Opens, Rule, IsWithin, disjoint, subset, in_range, is_class, is_among, is_exact, is_valued}
use Rattle.ir_parse_parts.proofs.Composed.{all_real, cons_is, gives_lawful, token_lawful, both_lawful, pick_lawful, many_lawful, star_lawful, widened}
use Rattle.ir_parse_parts.proofs.Unlimited.{all_lawful}

and_parts : (a b : Bool) → a && b ≡ true → (a ≡ true) × (b ≡ true)
and_parts true b h = (refl, h)
and_parts false b h = absurd cc

or_parts : (a b : Bool) → a || b ≡ true → (a ≡ true) ⊎ (b ≡ true)
or_parts true b h = inl refl
or_parts false b h = inr h

or_intro : (a b : Bool) → (a ≡ true) ⊎ (b ≡ true) → a || b ≡ true
or_intro true b h = refl
or_intro false b (inl h) = absurd cc
or_intro false b (inr h) = h

not_true : (b : Bool) → not b ≡ true → b ≡ true → ⊥
not_true true h e = cc
not_true false h e = cc

same : (n m : ℕ) → nat_eq n m ≡ true → n ≡ m
same n m h = grind arith

is_false : (b : Bool) → (b ≡ true → ⊥) → b ≡ false
is_false true never = absurd (never refl)
is_false false never = refl

pub apart_from : (xs ys : List ℕ) → disjoint xs ys ≡ true → (n : ℕ) → contains xs n ≡ true → contains ys n ≡ true → ⊥
apart_from [] ys h n p q = cc
apart_from (x ∷ xs) ys h n p q =
    let d = and_parts (not (contains ys x)) (disjoint xs ys) h in
    elim (or_parts (nat_eq n x) (contains xs n) p) [
      | inl e ↦ not_true (contains ys x) d.0 (ap (contains ys) (sym (same n x e)) ∙ q)
      | inr r ↦ apart_from xs ys d.1 n r q
    ]

pub within_of : (xs ys : List ℕ) → subset xs ys ≡ true → (n : ℕ) → contains xs n ≡ true → contains ys n ≡ true
within_of [] ys h n p = absurd cc
within_of (x ∷ xs) ys h n p =
    let d = and_parts (contains ys x) (subset xs ys) h in
    elim (or_parts (nat_eq n x) (contains xs n) p) [
      | inl e ↦ ap (contains ys) (same n x e) ∙ d.0
      | inr r ↦ within_of xs ys d.1 n r
    ]

pub contains-append : (xs ys : List ℕ) (n : ℕ) → (contains xs n ≡ true) ⊎ (contains ys n ≡ true) → contains (xs ++ ys) n ≡ true
contains-append [] ys n (inl h) = absurd cc
contains-append [] ys n (inr h) = h
contains-append (x ∷ xs) ys n (inl h) = elim (or_parts (nat_eq n x) (contains xs n) h) [
  | inl e ↦ or_intro (nat_eq n x) (contains (xs ++ ys) n) (inl e)
  | inr r ↦ or_intro (nat_eq n x) (contains (xs ++ ys) n) (inr (contains-append xs ys n (inl r)))
]
contains-append (x ∷ xs) ys n (inr h) = or_intro (nat_eq n x) (contains (xs ++ ys) n) (inr (contains-append xs ys n (inr h)))

-- the second set counts where the first reading may be empty
contains-if : (b : Bool) (ys : List ℕ) (n : ℕ) → b && contains ys n ≡ true → contains (cond b ys []) n ≡ true
contains-if true ys n h = h
contains-if false ys n h = h

joined : (xs ys : List ℕ) (b : Bool) (n : ℕ) → contains xs n || (b && contains ys n) ≡ true → contains (xs ++ cond b ys []) n ≡ true
joined xs ys b n h = elim (or_parts (contains xs n) (b && contains ys n) h) [
  | inl p ↦ contains-append xs (cond b ys []) n (inl p)
  | inr q ↦ contains-append xs (cond b ys []) n (inr (contains-if b ys n q))
]

-- ---- single tokens

test_ok : {A : Type 0} (b : Bool) (a c : A) (k : TokenFault) → cond b (Ok a) (Err k) ≡ Ok c → b ≡ true
test_ok true a c k h = refl
test_ok false a c k h = absurd cc

or_with_false : (b : Bool) → b ≡ true → b || false ≡ true
or_with_false true h = refl
or_with_false false h = h

same_refl : {A : Type 0} (m : Result A TokenFault) → SameRefusal m m
same_refl (Ok a) = tt
same_refl (Err Number) = tt
same_refl (Err Syntax) = (Syntax, refl)
same_refl (Err Profile) = (Profile, refl)
same_refl (Err Limit) = tt

abbrev refuse : {A : Type 0} → TokenFault → Result A TokenFault
refuse k = Err k

err_is : {A : Type 0} (k l : TokenFault) → refuse {A = A} k ≡ refuse {A = A} l → k ≡ l
err_is k l e = cc

-- a test refuses as it is told to
test_refuses : {A : Type 0} (b : Bool) (a : A) (k l : TokenFault) → (k ≡ l → ⊥) → cond b (Ok a) (Err k) ≡ refuse {A = A} l → ⊥
test_refuses true a k l never e = cc
test_refuses {A} false a k l never e = never (err_is {A = A} k l e)

module _ {T : Type 0} (alphabet : Alphabet T) where
  alike_of : (bs : List ℕ) (t u : T) → is_number alphabet t ≡ true → alphabet.class u ≡ alphabet.class t → among alphabet bs t ≡ among alphabet bs u
  alike_of bs t u n m = ap (contains bs) (sym m)

  pub nothing : {A : Type 0} (a : A) → Rule alphabet (form.gives a) (form.gives a) (done a) [] [] true
  nothing a = record { law = gives_lawful alphabet a }

  pub seq : {A B : Type 0} {g wide : Form T A} {f : Reader T A} {k wide' : A → Form T B} {h : A → Reader T B} {xs ms ys ns : List ℕ} {e e' : Bool} → Rule alphabet g wide f xs ms e → ((a : A) → Rule alphabet (k a) (wide' a) (h a) ys ns e') → disjoint ms ys ≡ true
      → Rule alphabet (form.◌>>=◌ g k) (form.◌>>=◌ wide wide') (f >>= h) (xs ++ cond e ys []) (ns ++ cond e' ms []) (e && e')
  seq {g = g} {wide = wide} {f = f} {k = k} {wide' = wide'} {h = h} {xs = xs} {ms = ms} {ys = ys} {ns = ns} {e = e} {e' = e'} law laws d =
      record {
        law = widened alphabet (among alphabet (xs ++ cond e ys [])) (among alphabet (ns ++ cond e' ms []))
            (both_lawful alphabet g wide f k wide' h (among alphabet xs) (among alphabet ms) (among alphabet ys) (among alphabet ns) e e' law.law (λ a. (laws a).law) (λ t p q. apart_from ms ys d (alphabet.class t) p q))
            (λ t p. joined xs ys e (alphabet.class t) p)
            (λ t p. joined ns ms e' (alphabet.class t) p);
      }

  pub alt : {A : Type 0} {g g' wide wide' : Form T A} {f f' : Reader T A} {xs ms ys ns : List ℕ} {e : Bool} (bs : List ℕ) → Rule alphabet g wide f xs ms false → Rule alphabet g' wide' f' ys ns e → subset xs bs ≡ true → disjoint ys bs ≡ true
      → Rule alphabet (form.either g g') (form.either wide wide') (pick (among alphabet bs) f f') (xs ++ ys) ((ms ++ ns) ++ cond e bs []) e
  alt {g = g} {g' = g'} {wide = wide} {wide' = wide'} {f = f} {f' = f'} {xs = xs} {ms = ms} {ys = ys} {ns = ns} {e = e} bs law law' s d =
      record {
        law = widened alphabet (among alphabet (xs ++ ys)) (among alphabet ((ms ++ ns) ++ cond e bs []))
            (pick_lawful alphabet g g' wide wide' f f' (among alphabet bs) (among alphabet xs) (among alphabet ms) (among alphabet ys) (among alphabet ns) e law.law law'.law (alike_of bs) (λ t p. within_of xs bs s (alphabet.class t) p) (λ t p. is_false (contains bs (alphabet.class t)) (λ q. apart_from ys bs d (alphabet.class t) p q)))
            (λ t p. contains-append xs ys (alphabet.class t) (or_parts _ _ p))
            (λ t p. after_either (alphabet.class t) p);
      }
    where
      is_false : (b : Bool) → (b ≡ true → ⊥) → b ≡ false
      is_false true never = absurd (never refl)
      is_false false never = refl

      after_either : (n : ℕ) → (contains ms n || contains ns n) || (e && contains bs n) ≡ true → contains ((ms ++ ns) ++ cond e bs []) n ≡ true
      after_either n p = elim (or_parts (contains ms n || contains ns n) (e && contains bs n) p) [
        | inl q ↦ contains-append (ms ++ ns) (cond e bs []) n (inl (contains-append ms ns n (or_parts _ _ q)))
        | inr q ↦ contains-append (ms ++ ns) (cond e bs []) n (inr (contains-if e bs n q))
      ]

  pub many : {A : Type 0} {g wide : Form T A} {f : Reader T A} {xs ms : List ℕ} (bs : List ℕ) (room : ℕ) → Rule alphabet g wide f xs ms false → Opens alphabet bs wide → subset xs bs ≡ true → disjoint ms bs ≡ true → Rule alphabet (Many g room) (form.Star wide) (many_at (among alphabet bs) f room) xs (ms ++ bs) true
  many {g = g} {wide = wide} {f = f} {xs = xs} {ms = ms} bs room law o s d =
      record {
        law = widened alphabet (among alphabet xs) (among alphabet (ms ++ bs))
            (many_lawful alphabet g wide f (among alphabet bs) (among alphabet xs) (among alphabet ms) law.law (alike_of bs) (λ t p. within_of xs bs s (alphabet.class t) p) (λ t p q. apart_from ms bs d (alphabet.class t) p q) o room)
            (λ t p. p)
            (λ t p. contains-append ms bs (alphabet.class t) (or_parts _ _ p));
      }

  pub wider : {A : Type 0} {g wide : Form T A} {f : Reader T A} {xs ms : List ℕ} {e : Bool} (xs' ms' : List ℕ) → Rule alphabet g wide f xs ms e → subset xs xs' ≡ true → subset ms ms' ≡ true → Rule alphabet g wide f xs' ms' true
  wider {xs = xs} {ms = ms} xs' ms' law s d =
      let w = widened alphabet (among alphabet xs') (among alphabet ms') law.law (λ t p. within_of xs xs' s (alphabet.class t) p) (λ t p. within_of ms ms' d (alphabet.class t) p) in
      record { law = record { sound = w.sound; complete = w.complete; starts = w.starts; nothing = λ a s. refl; some = w.some; viable = w.viable; local = w.local; number = w.number; swap = w.swap; contains = w.contains; limit = w.limit; broad = record { starts = w.broad.starts; nothing = λ a s. refl; reads = w.broad.reads } } }

  pub star : {A : Type 0} {g wide : Form T A} {f : Reader T A} {xs ms : List ℕ} (bs : List ℕ) → Rule alphabet g wide f xs ms false → Opens alphabet bs wide → subset xs bs ≡ true → disjoint ms bs ≡ true → Rule alphabet (form.Star g) (form.Star wide) (star_at (among alphabet bs) f) xs (ms ++ bs) true
  star {g = g} {wide = wide} {f = f} {xs = xs} {ms = ms} bs law o s d =
      record {
        law = widened alphabet (among alphabet xs) (among alphabet (ms ++ bs))
            (star_lawful alphabet g wide f (among alphabet bs) (among alphabet xs) (among alphabet ms) law.law (alike_of bs) (λ t p. within_of xs bs s (alphabet.class t) p) (λ t p q. apart_from ms bs d (alphabet.class t) p q) o)
            (λ t p. p)
            (λ t p. contains-append ms bs (alphabet.class t) (or_parts _ _ p));
      }

  -- the same of a form whose first token may be out of range without the limits too
  pub any_number : {A : Type 0} {g wide : Form T A} {f : Reader T A} {xs ms : List ℕ} (bs : List ℕ) → Rule alphabet g wide f xs ms false → subset xs bs ≡ true → disjoint ms bs ≡ true → Rule alphabet (form.Star g) (form.Star wide) (star_at (among alphabet bs) f) xs (ms ++ bs) true
  any_number {g = g} {wide = wide} {f = f} {xs = xs} {ms = ms} bs law s d =
      record {
        law = widened alphabet (among alphabet xs) (among alphabet (ms ++ bs))
            (all_lawful alphabet g wide f (among alphabet bs) (among alphabet xs) (among alphabet ms) law.law (alike_of bs) (λ t p. within_of xs bs s (alphabet.class t) p) (λ t p q. apart_from ms bs d (alphabet.class t) p q))
            (λ t p. p)
            (λ t p. contains-append ms bs (alphabet.class t) (or_parts _ _ p));
      }

  -- a reader that doesn't refuse such a token
  pub opens_of : {A : Type 0} {g wide : Form T A} {f : Reader T A} {xs ms : List ℕ} (bs : List ℕ) → Rule alphabet g wide f xs ms false → ((t : T) → among alphabet bs t ≡ true → (e : Fault) → f (t ∷ []) ≡ Err e → e.left ≡ 0) → Opens alphabet bs wide
  opens_of {A} {g} {wide} {f} {xs} {ms} bs law opens t h = by_result (f (t ∷ [])) refl
    where
      never : false ≡ true → ⊥
      never e = cc

      by_front : (front rest : List T) (a : A) → t ∷ [] ≡ front ++ rest → g front a → (more : List T) × (b : A) × wide (t ∷ more) b × AllReal alphabet more
      by_front [] rest a e s = absurd (never (law.law.nothing a s))
      by_front (u ∷ []) rest a e s = ([], a, subst (λ (x : T). wide (x ∷ []) a) (sym (cons_is t u [] rest e).0) (law.law.contains (u ∷ []) a s), tt)
      by_front (u ∷ v ∷ front) rest a e s = absurd (omega (arith, ap length e, length-append front rest))

      by_viable : (front rest more : List T) (a : A) → t ∷ [] ≡ front ++ rest → length rest ≡ 0 → g (front ++ more) a → AllReal alphabet more → (more : List T) × (b : A) × wide (t ∷ more) b × AllReal alphabet more
      by_viable [] rest more a e l s rl = absurd (omega (arith, ap length e, l))
      by_viable (u ∷ []) rest more a e l s rl = (more, a, subst (λ (x : T). wide (x ∷ more) a) (sym (cons_is t u [] rest e).0) (law.law.contains (u ∷ more) a s), rl)
      by_viable (u ∷ v ∷ front) rest more a e l s rl = absurd (omega (arith, ap length e, length-append front rest))

      by_result : (r : Result (A × List T) Fault) → f (t ∷ []) ≡ r → (more : List T) × (b : A) × wide (t ∷ more) b × AllReal alphabet more
      by_result (Ok x) e = let s = law.law.sound (t ∷ []) x.1 x.0 e in by_front s.0 x.1 x.0 s.1 s.2
      by_result (Err d) e = let v = law.law.viable (t ∷ []) d e in by_viable v.front v.rest v.more v.value v.whole (v.here ∙ opens t h d e) v.spelled v.real

  -- a meaning that refuses no number for its range, and takes all numbers alike
  pub plainly_ranged : {A : Type 0} (meaning : T → Result A TokenFault) → ((t : T) → meaning t ≡ Err Number → ⊥) → ((t : T) → meaning t ≡ Err Limit → ⊥) → ((t u : T) → is_number alphabet t ≡ true → alphabet.class u ≡ alphabet.class t → meaning t ≡ meaning u) → IsRanged alphabet meaning
  plainly_ranged {A} meaning never unlimited same' = record {
    range = λ t e. absurd (never t e);
    alike = λ t u n m. subst (λ (x : Result A TokenFault). SameRefusal (meaning t) x) (same' t u n m) (same_refl (meaning t));
    never = unlimited;
  }

  pub class_rule : (refusal : ℕ → TokenFault) → ((n : ℕ) → refusal n ≡ Number → ⊥) → ((n : ℕ) → refusal n ≡ Limit → ⊥) → (wanted : ℕ) (sample : T) → is_class alphabet refusal wanted sample ≡ Ok tt → alphabet.Real sample
      → Rule alphabet (form.token (is_class alphabet refusal wanted)) (form.token (is_class alphabet refusal wanted)) (token_at (is_class alphabet refusal wanted)) (wanted ∷ []) [] false
  unfolding is_class
  class_rule refusal not_number not_limit wanted sample s rl = record {
    law = token_lawful alphabet (is_class alphabet refusal wanted) (among alphabet (wanted ∷ []))
        (plainly_ranged (is_class alphabet refusal wanted) (λ t e. test_refuses _ tt _ Number (not_number (alphabet.class t)) e) (λ t e. test_refuses _ tt _ Limit (not_limit (alphabet.class t)) e)
        (λ t u n m. ap (λ (x : ℕ). cond (nat_eq x wanted) (Ok tt) (Err (refusal x))) (sym m)))
        begins sample tt s rl;
  }
    where
      begins : (t : T) (a : Unit {0}) → is_class alphabet refusal wanted t ≡ Ok a → among alphabet (wanted ∷ []) t ≡ true
      begins t a h = or_with_false _ (test_ok (nat_eq (alphabet.class t) wanted) tt a (refusal (alphabet.class t)) h)

  pub limited : {A : Type 0} {g wide : Form T A} {f : Reader T A} {xs ms : List ℕ} (bs : List ℕ) (room : Option ℕ) → Rule alphabet g wide f xs ms false → Opens alphabet bs wide → subset xs bs ≡ true → disjoint ms bs ≡ true
      → Rule alphabet (upto room g) (form.Star wide) (upto_at (among alphabet bs) room f) xs (ms ++ bs) true
  limited bs None law o s d = star bs law o s d
  limited bs (Some room) law o s d = many bs room law o s d

  pub maybe : {A : Type 0} {g wide : Form T A} {f : Reader T A} {xs ms : List ℕ} (bs : List ℕ) → Rule alphabet g wide f xs ms false → subset (xs ++ []) bs ≡ true
      → Rule alphabet (optional g) (optional wide) (optional_at (among alphabet bs) f) ((xs ++ []) ++ []) ((ms ++ []) ++ bs) true
  maybe {A} {xs = xs} {ms = ms} bs law s = alt bs (seq law (λ a. nothing (Some a)) (none_shared ms)) (nothing None) s refl
    where
      none_shared : (ys : List ℕ) → disjoint ys [] ≡ true
      none_shared [] = refl
      none_shared (y ∷ ys) = none_shared ys

  -- ---- a token of several classes

  pub among_rule : {A : Type 0} (refusal : ℕ → TokenFault) → ((n : ℕ) → refusal n ≡ Number → ⊥) → ((n : ℕ) → refusal n ≡ Limit → ⊥) → (wanted : List ℕ) (value : T → A) (sample : T) → among alphabet wanted sample ≡ true → alphabet.Real sample
      → Rule alphabet (form.token (is_among alphabet refusal wanted value)) (form.token (is_among alphabet refusal wanted value)) (token_at (is_among alphabet refusal wanted value)) wanted [] false
  unfolding is_among
  among_rule {A} refusal not_number not_limit wanted value sample s rl = record {
    law = token_lawful alphabet (is_among alphabet refusal wanted value) (among alphabet wanted)
        (record {
          range = λ t e. absurd (test_refuses (among alphabet wanted t) (value t) (refusal (alphabet.class t)) Number (not_number (alphabet.class t)) e);
          alike = λ t u n m. by_test (among alphabet wanted t) (among alphabet wanted u) (alike_of wanted t u n m) t u (sym m);
          never = λ t e. test_refuses (among alphabet wanted t) (value t) (refusal (alphabet.class t)) Limit (not_limit (alphabet.class t)) e;
        })
        begins sample (value sample) (ap (λ (b : Bool). cond b (Ok (value sample)) (Err (refusal (alphabet.class sample)))) s) rl;
  }
    where
      begins : (t : T) (a : A) → is_among alphabet refusal wanted value t ≡ Ok a → among alphabet wanted t ≡ true
      begins t a h = test_ok (among alphabet wanted t) (value t) a (refusal (alphabet.class t)) h

      refused_alike : (k l : TokenFault) → k ≡ l → SameRefusal {A = A} (Err k) (Err l)
      refused_alike k l e = subst (λ (x : TokenFault). SameRefusal {A = A} (Err k) (Err x)) e (same_refl (Err k))

      by_test : (b c : Bool) → b ≡ c → (t u : T) → alphabet.class t ≡ alphabet.class u → SameRefusal {A = A} (cond b (Ok (value t)) (Err (refusal (alphabet.class t)))) (cond c (Ok (value u)) (Err (refusal (alphabet.class u))))
      by_test true c e t u d = tt
      by_test false true e t u d = absurd cc
      by_test false false e t u d = refused_alike (refusal (alphabet.class t)) (refusal (alphabet.class u)) (ap refusal d)

  -- a token that passes a test, of classes that write no number
  pub exact_rule : {A : Type 0} (refusal : ℕ → TokenFault) → ((n : ℕ) → refusal n ≡ Number → ⊥) → ((n : ℕ) → refusal n ≡ Limit → ⊥) → (wanted : List ℕ) → disjoint alphabet.numerals wanted ≡ true → (test : T → Bool) (value : T → A) (sample : T) → among alphabet wanted sample ≡ true → test sample ≡ true → alphabet.Real sample
      → Rule alphabet (form.token (is_exact alphabet refusal wanted test value)) (form.token (is_exact alphabet refusal wanted test value)) (token_at (is_exact alphabet refusal wanted test value)) wanted [] false
  unfolding is_exact
  exact_rule {A} refusal not_number not_limit wanted none test value sample s q rl = record {
    law = token_lawful alphabet (is_exact alphabet refusal wanted test value) (among alphabet wanted)
        (record {
          range = λ t e. absurd (test_refuses (among alphabet wanted t && test t) (value t) (refusal (alphabet.class t)) Number (not_number (alphabet.class t)) e);
          alike = λ t u n m. refused (among alphabet wanted t) (test t) (value t) (refusal (alphabet.class t)) (among alphabet wanted u) (test u) (value u) (refusal (alphabet.class u)) (is_false _ (apart_from alphabet.numerals wanted none (alphabet.class t) n)) (is_false _ (λ p. apart_from alphabet.numerals wanted none (alphabet.class t) n (ap (contains wanted) (sym m) ∙ p))) (ap refusal (sym m));
          never = λ t e. test_refuses (among alphabet wanted t && test t) (value t) (refusal (alphabet.class t)) Limit (not_limit (alphabet.class t)) e;
        })
        (λ t a h. (and_parts (among alphabet wanted t) (test t) (test_ok (among alphabet wanted t && test t) (value t) a (refusal (alphabet.class t)) h)).0)
        sample (value sample) (both_true (among alphabet wanted sample) (test sample) (value sample) (refusal (alphabet.class sample)) s q) rl;
  }
    where
      both_true : (b c : Bool) (a : A) (k : TokenFault) → b ≡ true → c ≡ true → cond (b && c) (Ok a) (Err k) ≡ Ok a
      both_true true true a k p q = refl
      both_true true false a k p q = absurd cc
      both_true false c a k p q = absurd cc

      refused : (b c : Bool) (a : A) (k : TokenFault) (b' c' : Bool) (a' : A) (k' : TokenFault) → b ≡ false → b' ≡ false → k ≡ k' → SameRefusal {A = A} (cond (b && c) (Ok a) (Err k)) (cond (b' && c') (Ok a') (Err k'))
      refused true c a k b' c' a' k' p q e = absurd cc
      refused false c a k true c' a' k' p q e = absurd cc
      refused false c a k false c' a' k' p q e = subst (λ (x : TokenFault). SameRefusal {A = A} (Err k) (Err x)) e (same_refl (Err k))

  -- the same in wider sets
  pub broader : {A : Type 0} {g wide : Form T A} {f : Reader T A} {xs ms : List ℕ} {e : Bool} (xs' ms' : List ℕ) → Rule alphabet g wide f xs ms e → subset xs xs' ≡ true → subset ms ms' ≡ true → Rule alphabet g wide f xs' ms' e
  broader {xs = xs} {ms = ms} xs' ms' law s d =
      record { law = widened alphabet (among alphabet xs') (among alphabet ms') law.law (λ t p. within_of xs xs' s (alphabet.class t) p) (λ t p. within_of ms ms' d (alphabet.class t) p) }

  -- ---- a token of several classes that may write a number

  pub valued_rule : {A : Type 0} (refusal : ℕ → TokenFault) → ((n : ℕ) → refusal n ≡ Number → ⊥) → ((n : ℕ) → refusal n ≡ Limit → ⊥) → (wanted : List ℕ) (value : T → Option A)
      → ((t : T) → among alphabet wanted t ≡ true → value t ≡ None → IsWithin alphabet wanted value t) → (sample : T) (b : A) → among alphabet wanted sample ≡ true → value sample ≡ Some b → alphabet.Real sample
      → Rule alphabet (form.token (is_valued alphabet refusal wanted value)) (form.token (is_valued alphabet refusal wanted value)) (token_at (is_valued alphabet refusal wanted value)) wanted [] false
  unfolding is_valued
  valued_rule {A} refusal not_number not_limit wanted value within sample b s v rl = record {
    law = token_lawful alphabet (is_valued alphabet refusal wanted value) (among alphabet wanted)
        (record {
          range = λ t e. by_range t (among alphabet wanted t) (value t) refl refl e;
          alike = λ t u n m. by_test (among alphabet wanted t) (among alphabet wanted u) (alike_of wanted t u n m) (value t) (value u) (refusal (alphabet.class t)) (refusal (alphabet.class u)) (ap refusal (sym m));
          never = λ t e. never (among alphabet wanted t) (value t) (refusal (alphabet.class t)) (not_limit (alphabet.class t)) e;
        })
        (λ t a h. begins (among alphabet wanted t) (value t) a (refusal (alphabet.class t)) h)
        sample b (is_ok sample b s v) rl;
  }
    where
      is_ok : (t : T) (a : A) → among alphabet wanted t ≡ true → value t ≡ Some a → is_valued alphabet refusal wanted value t ≡ Ok a
      is_ok t a p q = ap (λ (c : Bool). cond c (in_range (value t)) (Err (refusal (alphabet.class t)))) p ∙ ap in_range q

      begins : (c : Bool) (o : Option A) (a : A) (k : TokenFault) → cond c (in_range o) (Err k) ≡ Ok a → c ≡ true
      begins true o a k h = refl
      begins false o a k h = absurd cc

      never : (c : Bool) (o : Option A) (k : TokenFault) → (k ≡ Limit → ⊥) → cond c (in_range o) (Err k) ≡ refuse {A = A} Limit → ⊥
      never true None k p e = cc
      never true (Some a) k p e = cc
      never false o k p e = p (err_is {A = A} k Limit e)

      by_range : (t : T) (c : Bool) (o : Option A) → among alphabet wanted t ≡ c → value t ≡ o → cond c (in_range o) (Err (refusal (alphabet.class t))) ≡ refuse {A = A} Number → (is_number alphabet t ≡ true) × (u : T) × (a : A) × (alphabet.class u ≡ alphabet.class t) × (is_valued alphabet refusal wanted value u ≡ Ok a) × alphabet.Real u
      by_range t true None p q e =
          let w = within t p q in
          (w.writes, w.other, w.means, w.alike, is_ok w.other w.means (ap (contains wanted) w.alike ∙ p) w.has, w.real)
      by_range t true (Some a) p q e = absurd cc
      by_range t false o p q e = absurd (not_number (alphabet.class t) (err_is {A = A} (refusal (alphabet.class t)) Number e))

      refused_alike : (k l : TokenFault) → k ≡ l → SameRefusal {A = A} (Err k) (Err l)
      refused_alike k l e = subst (λ (x : TokenFault). SameRefusal {A = A} (Err k) (Err x)) e (same_refl (Err k))

      by_test : (c d : Bool) → c ≡ d → (o p : Option A) (k l : TokenFault) → k ≡ l → SameRefusal {A = A} (cond c (in_range o) (Err k)) (cond d (in_range p) (Err l))
      by_test true d e None p k l h = tt
      by_test true d e (Some a) p k l h = tt
      by_test false true e o p k l h = absurd cc
      by_test false false e o p k l h = refused_alike k l h

  abbrev good : {A : Type 0} → A → Result A TokenFault
  good x = Ok x

  -- a name of several classes, whatever number it writes
  pub any_broad : {A : Type 0} (refusal : ℕ → TokenFault) (wanted : List ℕ) (value : T → Option A) (any : T → A) → ((t : T) (a : A) → value t ≡ Some a → a ≡ any t) → disjoint wanted alphabet.literals ≡ true → Broad alphabet (form.token (is_among alphabet refusal wanted any)) (token_at (is_valued alphabet refusal wanted value)) (among alphabet wanted) (among alphabet []) false
  unfolding is_among is_valued
  any_broad {A} refusal wanted value any same' names = record { starts = starts; nothing = λ a s. absurd s; reads = λ front rest a s d. reads front rest a s }
    where
      same_right : (x y : A) → good x ≡ good y → x ≡ y
      same_right x y e = cc

      starts : (t : T) (ts : List T) (a : A) → form.token (is_among alphabet refusal wanted any) (t ∷ ts) a → among alphabet wanted t ≡ true
      starts t [] a s = test_ok (among alphabet wanted t) (any t) a (refusal (alphabet.class t)) s
      starts t (u ∷ ts) a s = absurd s

      is_name : (t : T) → among alphabet wanted t ≡ true → is_literal alphabet t ≡ false
      is_name t p = is_false (is_literal alphabet t) (λ q. apart_from wanted alphabet.literals names (alphabet.class t) p q)

      by_value : (t : T) (rest : List T) (a : A) (o : Option A) → among alphabet wanted t ≡ true → value t ≡ o → any t ≡ a → UpTo alphabet (t ∷ rest) (token_means t rest (in_range o)) (Ok (a, rest))
      by_value t rest a None p q e = inr (record { front = []; bad = t; rest = rest; kind = Number; whole = refl; bound = tt; named = λ d. is_name t p; ends = refl })
      by_value t rest a (Some b) p q e = inl (ap (λ (x : A). Ok (x, rest)) (same' t b q ∙ e))

      by_test : (t : T) (rest : List T) (a : A) (c : Bool) → among alphabet wanted t ≡ c → cond c (Ok (any t)) (Err (refusal (alphabet.class t))) ≡ Ok a → UpTo alphabet (t ∷ rest) (token_means t rest (cond c (in_range (value t)) (Err (refusal (alphabet.class t))))) (Ok (a, rest))
      by_test t rest a true p h = by_value t rest a (value t) p refl (same_right (any t) a h)
      by_test t rest a false p h = absurd cc

      reads : (front rest : List T) (a : A) → form.token (is_among alphabet refusal wanted any) front a → UpTo alphabet (front ++ rest) (token_at (is_valued alphabet refusal wanted value) (front ++ rest)) (Ok (a, rest))
      reads [] rest a s = absurd s
      reads (t ∷ []) rest a s = by_test t rest a (among alphabet wanted t) refl s
      reads (t ∷ u ∷ front) rest a s = absurd s

  -- ---- tokens that begin something of a form

  abbrev fine : Unit {0} → Result (Unit {0}) TokenFault
  fine u = Ok u

  class_is_fine : (k : TokenFault) (b : Bool) → b || false ≡ true → cond b (fine tt) (Err k) ≡ fine tt
  class_is_fine k true h = refl
  class_is_fine k false h = absurd cc

  contains-parts : (xs ys : List ℕ) (n : ℕ) → contains (xs ++ ys) n ≡ true → (contains xs n ≡ true) ⊎ (contains ys n ≡ true)
  contains-parts [] ys n h = inr h
  contains-parts (x ∷ xs) ys n h = elim (or_parts (nat_eq n x) (contains (xs ++ ys) n) h) [
    | inl e ↦ inl (or_intro (nat_eq n x) (contains xs n) (inl e))
    | inr r ↦ elim (contains-parts xs ys n r) [ inl p ↦ inl (or_intro (nat_eq n x) (contains xs n) (inr p)) | inr q ↦ inr q ]
  ]

  pub opens_class : (refusal : ℕ → TokenFault) (wanted : ℕ) → Opens alphabet (wanted ∷ []) (form.token (is_class alphabet refusal wanted))
  unfolding is_class
  opens_class refusal wanted t h = ([], tt, class_is_fine (refusal (alphabet.class t)) (nat_eq (alphabet.class t) wanted) h, tt)

  pub opens_among : {A : Type 0} (refusal : ℕ → TokenFault) (wanted : List ℕ) (value : T → A) → Opens alphabet wanted (form.token (is_among alphabet refusal wanted value))
  unfolding is_among
  opens_among refusal wanted value t h = ([], value t, ap (λ (b : Bool). cond b (Ok (value t)) (Err (refusal (alphabet.class t)))) h, tt)

  pub opens_seq : {A B : Type 0} (bs : List ℕ) (wide : Form T A) {k wide' : A → Form T B} {f : A → Reader T B} {ys ns : List ℕ} {e : Bool} → Opens alphabet bs wide → ((a : A) → Rule alphabet (k a) (wide' a) (f a) ys ns e) → Opens alphabet bs (form.◌>>=◌ wide wide')
  unfolding form.◌>>=◌
  opens_seq bs wide opens laws t h =
      let o = opens t h in
      let s = (laws o.1).law.some in
      (o.0 ++ s.0, s.1, (t ∷ o.0, s.0, o.1, refl, o.2, (laws o.1).law.contains s.0 s.1 s.2), all_real alphabet o.0 s.0 o.3 s.3)

  pub opens_either : {A : Type 0} (xs ys : List ℕ) (wide wide' : Form T A) → Opens alphabet xs wide → Opens alphabet ys wide' → Opens alphabet (xs ++ ys) (form.either wide wide')
  unfolding form.either
  opens_either {A} xs ys wide wide' one other t h = by_side (contains-parts xs ys (alphabet.class t) h)
    where
      by_side : (contains xs (alphabet.class t) ≡ true) ⊎ (contains ys (alphabet.class t) ≡ true) → (more : List T) × (a : A) × ((wide (t ∷ more) a) ⊎ (wide' (t ∷ more) a)) × AllReal alphabet more
      by_side (inl p) = let o = one t p in (o.0, o.1, inl o.2, o.3)
      by_side (inr q) = let o = other t q in (o.0, o.1, inr o.2, o.3)

  -- fewer tokens, and the same classes in another order
  pub opens_fewer : {A : Type 0} (bs xs : List ℕ) (wide : Form T A) → subset bs xs ≡ true → Opens alphabet xs wide → Opens alphabet bs wide
  opens_fewer bs xs wide s opens t h = opens t (within_of bs xs s (alphabet.class t) h)
