-- Where a type may stand or not, a type that is left out is told as one: readers that stop before it give what those give that go on.
use Rattle.std.proofs.Common.{◌≡◌, ℕ, zero, suc, ◌≤◌, nat_eq, Bool, true, false, cond, ◌||◌, List, [], ◌∷◌, ◌++◌, length, Result, Ok, Err, refl, sym, ap, ◌∙◌, arith, inl, inr}
use Rattle.std.proofs.lemmas.List.{length-append}
use Rattle.ir_lex.specs.TokenKinds.{number}
use Rattle.ir_lex.specs.Tok.{Tok}
use Rattle.ir_lex.specs.declared.token_kind.TokenKind.TheVariants as kinds
use Rattle.ir_lex.specs.declared.token_kind.TokenKind.{TokenKind}
use Rattle.ir_parse_parts.specs.Alphabet.{among, contains}
use Rattle.ir_parse_parts.specs.Forms as form
use Rattle.ir_parse_parts.specs.Forms.{Form, Star}
use Rattle.ir_parse_parts.specs.Readers.{Reader, done, fault_at, follow, ◌>>=◌, token_means, token_at, pick, many_at, star_at}
use Rattle.ir_parse_parts.specs.Rules.{is_among, is_class}
use Rattle.ir_parse_parts.specs.declared.fault.Fault.{Fault}
use Rattle.ir_parse_parts.specs.declared.fault.TokenFault.TheVariants.{Profile}
use Rattle.ir_parse_parts.specs.declared.fault.TokenFault.{TokenFault}
use Rattle.ir_parse_parts.specs.Classes.{tokens, refusal, the, the_at}
use Rattle.ir_parse_parts.specs.Operands.{REFUSED_TYPES, REG, type_refusal}
use Rattle.ir_parse.specs.Refusals.{WORD}
use Rattle.ir_parse.proofs.Exchanged.{Exchanges, alt, nothing, recast, same_reader, seq, star, apart}

-- types that are left out, and plain words
abbrev pub OTHERS : List ℕ
OTHERS = REFUSED_TYPES ++ WORD

-- and types of registers
abbrev pub ANY_TYPES : List ℕ
ANY_TYPES = OTHERS ++ REG

same : (n m : ℕ) → nat_eq n m ≡ true → n ≡ m
same n m h = grind arith

abbrev refuse : {A : Type 0} → TokenFault → Result A TokenFault
refuse k = Err k

-- of other tokens only those of registers are types
any_type_is : (n : ℕ) → contains OTHERS n ≡ false → contains ANY_TYPES n ≡ contains REG n
any_type_is n e = by_tests (nat_eq n (number kinds.Target)) (nat_eq n (number kinds.RefusedType)) (nat_eq n (number kinds.Word)) e
  where
    by_tests : (a b c : Bool) → a || (b || (c || false)) ≡ false → a || (b || (c || contains REG n)) ≡ contains REG n
    by_tests true b c e = absurd cc
    by_tests false true c e = absurd cc
    by_tests false false true e = absurd cc
    by_tests false false false e = refl

any_type_too : (n : ℕ) → contains OTHERS n ≡ true → contains ANY_TYPES n ≡ true
any_type_too n e = by_tests (nat_eq n (number kinds.Target)) (nat_eq n (number kinds.RefusedType)) (nat_eq n (number kinds.Word)) e
  where
    by_tests : (a b c : Bool) → a || (b || (c || false)) ≡ true → a || (b || (c || contains REG n)) ≡ true
    by_tests true b c e = refl
    by_tests false true c e = refl
    by_tests false false true e = refl
    by_tests false false false e = absurd cc

no_type : (n : ℕ) → contains OTHERS n ≡ false → contains REFUSED_TYPES n ≡ false
no_type n e = by_tests (nat_eq n (number kinds.Target)) (nat_eq n (number kinds.RefusedType)) (nat_eq n (number kinds.Word)) e
  where
    by_tests : (a b c : Bool) → a || (b || (c || false)) ≡ false → a || (b || false) ≡ false
    by_tests true b c e = absurd cc
    by_tests false true c e = absurd cc
    by_tests false false c e = refl

no_reg : (n : ℕ) → contains OTHERS n ≡ true → contains REG n ≡ false
no_reg n e = apart OTHERS REG refl n e

-- what is said there of one of these
pub type_told : {A : Type 0} (value : Tok → A) (t : Tok) (ts : List Tok) → contains OTHERS (number t.kind) ≡ true → token_at (is_among tokens type_refusal REG value) (t ∷ ts) ≡ fault_at (type_refusal (number t.kind)) (t ∷ ts)
unfolding is_among
type_told {A} value t ts e = ap (λ (b : Bool). token_means t ts (cond b (Ok (value t)) (Err (type_refusal (number t.kind))))) (no_reg (number t.kind) e)

module _ (closer : TokenKind) (other : contains OTHERS (number closer) ≡ false) where
  abbrev pub typed_end : Tok → Result (Unit {0}) TokenFault
  typed_end = is_class tokens type_refusal (number closer)

  abbrev plain_end : Tok → Result (Unit {0}) TokenFault
  plain_end = is_class tokens refusal (number closer)

  abbrev fine : Unit {0} → Result (Unit {0}) TokenFault
  fine u = Ok u

  same_end : (t : Tok) → contains OTHERS (number t.kind) ≡ false → typed_end t ≡ plain_end t
  unfolding is_class
  same_end t e = ap (λ (c : Bool). cond (nat_eq (number t.kind) (number closer)) (fine tt) (refuse (cond c Profile (refusal (number t.kind))))) (no_type (number t.kind) e)

  end_told : (t : Tok) → contains OTHERS (number t.kind) ≡ true → typed_end t ≡ Err (type_refusal (number t.kind))
  unfolding is_class
  end_told t e = by_test (nat_eq (number t.kind) (number closer)) refl
    where
      differ : true ≡ false → ⊥
      differ e = cc

      by_test : (b : Bool) → nat_eq (number t.kind) (number closer) ≡ b → cond b (fine tt) (refuse (type_refusal (number t.kind))) ≡ refuse (type_refusal (number t.kind))
      by_test true p = absurd (differ (sym e ∙ ap (contains OTHERS) (same (number t.kind) (number closer) p) ∙ other))
      by_test false p = refl

  module _ {A : Type 0} (k : Unit {0} → Reader Tok A) where
    ends_typed : Reader Tok A
    ends_typed = token_at typed_end >>= k

    ends_plainly : Reader Tok A
    ends_plainly = token_at plain_end >>= k

    ends_same : (t : Tok) (ts : List Tok) → contains OTHERS (number t.kind) ≡ false → ends_plainly (t ∷ ts) ≡ ends_typed (t ∷ ts)
    unfolding ends_plainly ends_typed
    ends_same t ts e = ap (λ (m : Result (Unit {0}) TokenFault). follow (token_means t ts m) k) (sym (same_end t e))

    ends_told : (t : Tok) (ts : List Tok) → contains OTHERS (number t.kind) ≡ true → ends_typed (t ∷ ts) ≡ fault_at (type_refusal (number t.kind)) (t ∷ ts)
    unfolding ends_typed
    ends_told t ts e = ap (λ (m : Result (Unit {0}) TokenFault). follow (token_means t ts m) k) (end_told t e)

    -- types, or none
    module _ (f : Reader Tok A) (told : (t : Tok) (ts : List Tok) → contains OTHERS (number t.kind) ≡ true → f (t ∷ ts) ≡ fault_at (type_refusal (number t.kind)) (t ∷ ts)) where
      listed_same : (ts : List Tok) → pick (among tokens ANY_TYPES) f ends_plainly ts ≡ pick (among tokens REG) f ends_typed ts
      unfolding ends_plainly ends_typed
      listed_same [] = refl
      listed_same (t ∷ ts) = by_test (contains OTHERS (number t.kind)) refl
        where
          by_reg : (b : Bool) → contains OTHERS (number t.kind) ≡ false → cond b (f (t ∷ ts)) (ends_plainly (t ∷ ts)) ≡ cond b (f (t ∷ ts)) (ends_typed (t ∷ ts))
          by_reg true e = refl
          by_reg false e = ends_same t ts e

          by_test : (b : Bool) → contains OTHERS (number t.kind) ≡ b → cond (among tokens ANY_TYPES t) (f (t ∷ ts)) (ends_plainly (t ∷ ts)) ≡ cond (among tokens REG t) (f (t ∷ ts)) (ends_typed (t ∷ ts))
          by_test true e = rw (any_type_too (number t.kind) e, no_reg (number t.kind) e) (told t ts e ∙ sym (ends_told t ts e))
          by_test false e = rw (any_type_is (number t.kind) e) (by_reg (among tokens REG t) e)

  -- ---- as many of what begins with a type as there are

  module _ {A : Type 0} {wide : Form Tok A} {f : Reader Tok A} (law : Exchanges wide f) (some : (a : A) → wide [] a → ⊥) (told : (t : Tok) (ts : List Tok) → contains OTHERS (number t.kind) ≡ true → f (t ∷ ts) ≡ fault_at (type_refusal (number t.kind)) (t ∷ ts)) where
    shorter : (t : Tok) (ts : List Tok) (x : A × List Tok) → f (t ∷ ts) ≡ Ok x → length x.1 ≤ length ts
    shorter t ts x e = let s = law.sound (t ∷ ts) x.1 x.0 e in by_front s.0 s.1 s.2
      where
        by_front : (front : List Tok) → t ∷ ts ≡ front ++ x.1 → wide front x.0 → length x.1 ≤ length ts
        by_front [] e s = absurd (some x.0 s)
        by_front (u ∷ front) e s = omega (arith, ap length e, length-append front x.1)

    follow_in : {B : Type 0} (r : Result (List A × List Tok) Fault) (a : A) (h : List A → Reader Tok B) → follow (follow r (λ m. done (a ∷ m))) h ≡ follow r (λ m. h (a ∷ m))
    follow_in (Ok y) a h = refl
    follow_in (Err e) a h = refl

    cases_same : {B : Type 0} (n : ℕ) (ts : List Tok) (k : List A → Unit {0} → Reader Tok B) → length ts ≤ n → follow (many_at (among tokens ANY_TYPES) f n ts) (λ as'. ends_plainly (k as')) ≡ follow (many_at (among tokens REG) f n ts) (λ as'. ends_typed (k as'))
    unfolding ends_plainly ends_typed
    cases_same zero [] k le = refl
    cases_same zero (t ∷ ts) k le = absurd (omega (arith, le))
    cases_same (suc n) [] k le = refl
    cases_same {B} (suc n) (t ∷ ts) k le = by_test (λ mid k' le'. cases_same n mid k' le') (contains OTHERS (number t.kind)) refl
      where
        Again : Type 0
        Again = (mid : List Tok) (k' : List A → Unit {0} → Reader Tok B) → length mid ≤ n → follow (many_at (among tokens ANY_TYPES) f n mid) (λ as'. ends_plainly (k' as')) ≡ follow (many_at (among tokens REG) f n mid) (λ as'. ends_typed (k' as'))

        by_piece : Again → (r : Result (A × List Tok) Fault) → f (t ∷ ts) ≡ r → follow (follow r (λ a. many_at (among tokens ANY_TYPES) f n >>= λ more. done (a ∷ more))) (λ as'. ends_plainly (k as')) ≡ follow (follow r (λ a. many_at (among tokens REG) f n >>= λ more. done (a ∷ more))) (λ as'. ends_typed (k as'))
        by_piece again (Err e) q = refl
        by_piece again (Ok x) q =
            follow_in (many_at (among tokens ANY_TYPES) f n x.1) x.0 (λ as'. ends_plainly (k as')) ∙ again x.1 (λ m. k (x.0 ∷ m)) (omega (arith, le, shorter t ts x q)) ∙ sym (follow_in (many_at (among tokens REG) f n x.1) x.0 (λ as'. ends_typed (k as')))

        by_reg : Again → (b : Bool) → contains OTHERS (number t.kind) ≡ false → follow (cond b ((f >>= λ a. many_at (among tokens ANY_TYPES) f n >>= λ more. done (a ∷ more)) (t ∷ ts)) (Ok ([], t ∷ ts))) (λ as'. ends_plainly (k as')) ≡ follow (cond b ((f >>= λ a. many_at (among tokens REG) f n >>= λ more. done (a ∷ more)) (t ∷ ts)) (Ok ([], t ∷ ts))) (λ as'. ends_typed (k as'))
        by_reg again true e = by_piece again (f (t ∷ ts)) refl
        by_reg again false e = ends_same (k []) t ts e

        by_test : Again → (b : Bool) → contains OTHERS (number t.kind) ≡ b → follow (cond (among tokens ANY_TYPES t) ((f >>= λ a. many_at (among tokens ANY_TYPES) f n >>= λ more. done (a ∷ more)) (t ∷ ts)) (Ok ([], t ∷ ts))) (λ as'. ends_plainly (k as')) ≡ follow (cond (among tokens REG t) ((f >>= λ a. many_at (among tokens REG) f n >>= λ more. done (a ∷ more)) (t ∷ ts)) (Ok ([], t ∷ ts))) (λ as'. ends_typed (k as'))
        by_test again true e = rw (any_type_too (number t.kind) e, no_reg (number t.kind) e, told t ts e) (sym (ends_told (k []) t ts e))
        by_test again false e = rw (any_type_is (number t.kind) e) (by_reg again (among tokens REG t) e)

    pub star_same : {B : Type 0} (k : List A → Unit {0} → Reader Tok B) (ts : List Tok) → (star_at (among tokens ANY_TYPES) f >>= λ as'. the_at closer >>= k as') ts ≡ (star_at (among tokens REG) f >>= λ as'. token_at typed_end >>= k as') ts
    unfolding ends_plainly ends_typed
    star_same k ts = cases_same (length ts) ts k (omega arith)

  pub types_same : {A : Type 0} (k : Unit {0} → Reader Tok A) (f : Reader Tok A) → ((t : Tok) (ts : List Tok) → contains OTHERS (number t.kind) ≡ true → f (t ∷ ts) ≡ fault_at (type_refusal (number t.kind)) (t ∷ ts)) → (ts : List Tok) → pick (among tokens ANY_TYPES) f (the_at closer >>= k) ts ≡ pick (among tokens REG) f (token_at typed_end >>= k) ts
  unfolding ends_plainly ends_typed
  types_same k f told ts = listed_same k f told ts

-- ---- laws

-- at a type that is left out it tells that
abbrev pub Types : {A : Type 0} → Reader Tok A → Type 0
Types f = (t : Tok) (ts : List Tok) → contains OTHERS (number t.kind) ≡ true → f (t ∷ ts) ≡ fault_at (type_refusal (number t.kind)) (t ∷ ts)

pub types_first : {A B : Type 0} (f : Reader Tok A) → Types f → (h : A → Reader Tok B) → Types (f >>= h)
types_first {A} f told h t ts e = ap (λ (r : Result (A × List Tok) Fault). follow r h) (told t ts e)

module _ (closer : TokenKind) (other : contains OTHERS (number closer) ≡ false) (law : Exchanges (the closer) (the_at closer)) where
  pub end_form : (ts : List Tok) (u : Unit {0}) → the closer ts u → form.token (typed_end closer other) ts u
  unfolding is_class
  end_form [] u s = absurd s
  end_form (t ∷ []) u s = by_test (nat_eq (number t.kind) (number closer)) s
    where
      by_test : (b : Bool) → cond b (fine closer other tt) (refuse (refusal (number t.kind))) ≡ Ok u → cond b (fine closer other tt) (refuse (type_refusal (number t.kind))) ≡ Ok u
      by_test true s = s
      by_test false s = absurd cc
  end_form (t ∷ v ∷ ts) u s = absurd s

  closed_too : {A : Type 0} (wide : Form Tok A) (a : A) (ts : List Tok) (b : A) → form.either wide (form.◌>>=◌ (the closer) (λ _. form.gives a)) ts b → form.either wide (form.◌>>=◌ (form.token (typed_end closer other)) (λ _. form.gives a)) ts b
  unfolding form.either form.◌>>=◌
  closed_too wide a ts b (inl s) = inl s
  closed_too wide a ts b (inr (front, back, u, e, c, r)) = inr (front, back, u, e, end_form front u c, r)

  all_closed_too : {A B : Type 0} (wide : Form Tok A) (k : List A → B) (ts : List Tok) (b : B) → form.◌>>=◌ (Star wide) (λ as'. form.◌>>=◌ (the closer) (λ _. form.gives (k as'))) ts b → form.◌>>=◌ (Star wide) (λ as'. form.◌>>=◌ (form.token (typed_end closer other)) (λ _. form.gives (k as'))) ts b
  unfolding form.◌>>=◌
  all_closed_too wide k ts b (front, back, as', e, s, (front', back', u, e', c, r)) = (front, back, as', e, s, (front', back', u, e', end_form front' u c, r))

  -- what begins with a type, or nothing before what closes it
  pub listed_exchanged : {A : Type 0} {wide : Form Tok A} {f : Reader Tok A} (a : A) → Exchanges wide f → Types f → Exchanges (form.either wide (form.◌>>=◌ (form.token (typed_end closer other)) (λ _. form.gives a))) (pick (among tokens REG) f (token_at (typed_end closer other) >>= λ _. done a))
  listed_exchanged {wide = wide} {f = f} a one told = recast (closed_too wide a) (same_reader (types_same closer other (λ _. done a) f told) (alt ANY_TYPES refl one (seq law (λ _. nothing a))))

  -- any number of what begins with a type, up to what closes them
  pub all_exchanged : {A B : Type 0} {wide : Form Tok A} {f : Reader Tok A} (k : List A → B) → Exchanges wide f → ((a : A) → wide [] a → ⊥) → Types f
      → Exchanges (form.◌>>=◌ (Star wide) (λ as'. form.◌>>=◌ (form.token (typed_end closer other)) (λ _. form.gives (k as')))) (star_at (among tokens REG) f >>= λ as'. token_at (typed_end closer other) >>= λ _. done (k as'))
  all_exchanged {wide = wide} k one some told = recast (all_closed_too wide k) (same_reader (star_same closer other one some told (λ as' _. done (k as'))) (seq (star ANY_TYPES refl one some) (λ as'. seq law (λ _. nothing (k as')))))
