-- What holds of each value that a form spells, put together as forms are.
use Rattle.std.proofs.Common.{◌≡◌, ℕ, zero, suc, Bool, true, false, cond, ◌&&◌, ◌⊎◌, inl, inr, List, [], ◌∷◌, ◌++◌, Option, Some, None, Result, Ok, Err, refl, sym, ap, subst}
use Rattle.std.specs.List.{AllByRecursion as Each, fold}
use Rattle.std.specs.Prelude.{IfSome}
use Rattle.std.proofs.lemmas.Bool.{and_parts}
use Rattle.ir_lex.specs.TokenKinds.{number}
use Rattle.ir_lex.specs.Tok.{Tok}
use Rattle.ir_parse_parts.specs.Alphabet.{contains}
use Rattle.ir_parse_parts.specs.Chained.{Chain}
use Rattle.ir_parse_parts.specs.Forms as form
use Rattle.ir_parse_parts.specs.Forms.{Form}
use Rattle.ir_parse_parts.specs.Rules.{in_range, is_among, is_exact, is_valued}
use Rattle.ir_parse_parts.specs.declared.fault.TokenFault.{TokenFault}
use Rattle.ir_parse_bodies.specs.Successive.{Successive}
use Rattle.ir_parse_parts.specs.Classes.{tokens}
use Rattle.ir_parse.specs.Sized.{IsSized}

pub record Means {A : Type 0} (g : Form Tok A) (P : A → Type 0) : Type 0 where
  pub of : (ts : List Tok) (a : A) → Each IsSized ts → g ts a → P a

-- ---- lists of tokens

front_sized : (xs ys : List Tok) → Each IsSized (xs ++ ys) → Each IsSized xs
front_sized [] ys h = tt
front_sized (x ∷ xs) ys h = (h.0, front_sized xs ys h.1)

back_sized : (xs ys : List Tok) → Each IsSized (xs ++ ys) → Each IsSized ys
back_sized [] ys h = h
back_sized (x ∷ xs) ys h = back_sized xs ys h.1

-- ---- forms behind one another

pub nothing : {A : Type 0} {a : A} {P : A → Type 0} → P a → Means (form.gives a) P
nothing {P = P} p = record { of = λ ts b s h. subst P (sym h.1) p }

pub follow : {A B : Type 0} {g : Form Tok A} {k : A → Form Tok B} {P : A → Type 0} {Q : B → Type 0} → Means g P → ((a : A) → P a → Means (k a) Q) → Means (form.◌>>=◌ g k) Q
unfolding form.◌>>=◌
follow p q = record {
  of = λ ts b s h.
      let all : Each IsSized (h.0 ++ h.1) = subst (Each IsSized) h.3 s in
      (q h.2 (p.of h.0 h.2 (front_sized h.0 h.1 all) h.4)).of h.1 b (back_sized h.0 h.1 all) h.5;
}

-- the same where nothing is asked of the first
pub skip : {A B : Type 0} (g : Form Tok A) {k : A → Form Tok B} {Q : B → Type 0} → ((a : A) → Means (k a) Q) → Means (form.◌>>=◌ g k) Q
skip {A} {B} g {k} {Q} q = follow {P = λ a. Unit {0}} (record { of = λ ts a s h. tt }) (λ a _. q a)

pub either_means : {A : Type 0} {one other : Form Tok A} {P : A → Type 0} → Means one P → Means other P → Means (form.either one other) P
unfolding form.either
either_means {A} {one} {other} {P} p q = record { of = λ ts a s h. by ts a s h }
  where
    by : (ts : List Tok) (a : A) → Each IsSized ts → one ts a ⊎ other ts a → P a
    by ts a s (inl h) = p.of ts a s h
    by ts a s (inr h) = q.of ts a s h

pub optional_means : {A : Type 0} {one : Form Tok A} {P : Option A → Type 0} → Means one (λ a. P (Some a)) → P None → Means (form.optional one) P
optional_means p none = either_means (follow p (λ a h. nothing h)) (nothing none)

-- ---- tokens

pub token_means : {A E : Type 0} {meaning : Tok → Result A E} {P : A → Type 0} → ((t : Tok) (a : A) → IsSized t → meaning t ≡ Ok a → P a) → Means (form.token meaning) P
token_means {A} {E} {meaning} {P} f = record { of = of }
  where
    of : (ts : List Tok) (a : A) → Each IsSized ts → form.token meaning ts a → P a
    of [] a s h = absurd h
    of (t ∷ []) a s h = f t a s.0 h
    of (t ∷ u ∷ ts) a s h = absurd h

pub accepted : {A : Type 0} (b : Bool) (r : Result A TokenFault) (k : TokenFault) (a : A) → cond b r (Err k) ≡ Ok a → (b ≡ true) × (r ≡ Ok a)
accepted true r k a e = (refl, e)
accepted false r k a e = absurd cc

pub valued : {A : Type 0} (o : Option A) (a : A) → in_range o ≡ Ok a → o ≡ Some a
valued None a e = absurd cc
valued (Some b) a e = let same : b ≡ a = cc in ap (λ x. Some x) same

pub among_means : {A : Type 0} (refuse : ℕ → TokenFault) (classes : List ℕ) (value : Tok → A) {P : A → Type 0}
    → ((t : Tok) → IsSized t → contains classes (number t.kind) ≡ true → P (value t)) → Means (form.token (is_among tokens refuse classes value)) P
unfolding is_among
among_means {A} refuse classes value {P} f =
    token_means (λ t a s h.
    let yes = accepted (contains classes (number t.kind)) (Ok (value t)) (refuse (number t.kind)) a h in
    let same : value t ≡ a = cc (yes.1) in subst P same (f t s yes.0))

pub exact_means : {A : Type 0} (refuse : ℕ → TokenFault) (classes : List ℕ) (test : Tok → Bool) (value : Tok → A) {P : A → Type 0}
    → ((t : Tok) → IsSized t → contains classes (number t.kind) ≡ true → P (value t)) → Means (form.token (is_exact tokens refuse classes test value)) P
unfolding is_exact
exact_means {A} refuse classes test value {P} f =
    token_means (λ t a s h.
    let yes = accepted (contains classes (number t.kind) && test t) (Ok (value t)) (refuse (number t.kind)) a h in
    let same : value t ≡ a = cc (yes.1) in subst P same (f t s (and_parts (contains classes (number t.kind)) (test t) yes.0).0))

pub valued_means : {A : Type 0} (refuse : ℕ → TokenFault) (classes : List ℕ) {value : Tok → Option A} {P : A → Type 0}
    → ((t : Tok) (a : A) → IsSized t → value t ≡ Some a → P a) → Means (form.token (is_valued tokens refuse classes value)) P
unfolding is_valued
valued_means {A} refuse classes {value} {P} f =
    token_means (λ t a s h.
    let yes = accepted (contains classes (number t.kind)) (in_range (value t)) (refuse (number t.kind)) a h in f t a s (valued (value t) a yes.1))

-- ---- lists

pub star_means : {A : Type 0} {one : Form Tok A} {P : A → Type 0} → Means one P → Means (form.Star one) (Each P)
star_means {A} {one} {P} p = record { of = of }
  where
    of : (ts : List Tok) (as' : List A) → Each IsSized ts → form.Star one ts as' → Each P as'
    of ts [] s h = tt
    of ts (a ∷ more) s h =
        let all : Each IsSized (h.0 ++ h.1) = subst (Each IsSized) h.2 s in (p.of h.0 a (front_sized h.0 h.1 all) h.3, of h.1 more (back_sized h.0 h.1 all) h.4)

pub many_means : {A : Type 0} {one : Form Tok A} {P : A → Type 0} (room : ℕ) → Means one P → Means (form.Many one room) (Each P)
many_means {A} {one} {P} room p = record { of = of room }
  where
    of : (room : ℕ) (ts : List Tok) (as' : List A) → Each IsSized ts → form.Many one room ts as' → Each P as'
    of room ts [] s h = tt
    of zero ts (a ∷ more) s h = absurd h
    of (suc room) ts (a ∷ more) s h =
        let all : Each IsSized (h.0 ++ h.1) = subst (Each IsSized) h.2 s in (p.of h.0 a (front_sized h.0 h.1 all) h.3, of room h.1 more (back_sized h.0 h.1 all) h.4)

pub chain_means : {A S : Type 0} {final : S → Bool} {piece : S → Form Tok (A × S)} {P : A → Type 0} (s : S) → ((s : S) → Means (piece s) (λ x. P x.0)) → Means (Chain final piece s) (Each P)
chain_means {A} {S} {final} {piece} {P} start p = record { of = of start }
  where
    of : (state : S) (ts : List Tok) (as' : List A) → Each IsSized ts → Chain final piece state ts as' → Each P as'
    of state ts [] s h = tt
    of state ts (a ∷ more) s h =
        let all : Each IsSized (h.0 ++ h.1) = subst (Each IsSized) h.3 s in ((p state).of h.0 (a, h.2) (front_sized h.0 h.1 all) h.4, of h.2 h.1 more (back_sized h.0 h.1 all) h.5)

pub successive_means : {A S : Type 0} {piece : S → Form Tok (A × S)} {P : A → Type 0} (room : ℕ) (s : S) → ((s : S) → Means (piece s) (λ x. P x.0)) → Means (Successive piece room s) (Each P)
successive_means {A} {S} {piece} {P} room start p = record { of = of room start }
  where
    of : (room : ℕ) (state : S) (ts : List Tok) (as' : List A) → Each IsSized ts → Successive piece room state ts as' → Each P as'
    of room state ts [] s h = tt
    of zero state ts (a ∷ more) s h = absurd h
    of (suc room) state ts (a ∷ more) s h =
        let all : Each IsSized (h.0 ++ h.1) = subst (Each IsSized) h.3 s in ((p state).of h.0 (a, h.2) (front_sized h.0 h.1 all) h.4, of room h.2 h.1 more (back_sized h.0 h.1 all) h.5)

-- ---- values of lists

-- what a start has, and each step keeps, the fold has
pub folded : {A B : Type 0} (step : B → A → B) (P : A → Type 0) (Q : B → Type 0) → ((b : B) (a : A) → Q b → P a → Q (step b a)) → (start : B) (as' : List A) → Q start → Each P as' → Q (fold step start as')
folded step P Q keeps start [] q h = q
folded step P Q keeps start (a ∷ more) q h = folded step P Q keeps (step start a) more (keeps start a q h.0) h.1

pub pushed : {A : Type 0} (P : A → Type 0) (front : List A) (a : A) → Each P front → P a → Each P (front ++ a ∷ [])
pushed P [] a h p = (p, tt)
pushed P (b ∷ front) a h p = (h.0, pushed P front a h.1 p)

-- of values that may be left out, those that are kept
pub kept_means : {A : Type 0} (P : A → Type 0) (keep : List A → Option A → List A) → ((front : List A) → keep front None ≡ front) → ((front : List A) (a : A) → keep front (Some a) ≡ front ++ a ∷ [])
    → (front : List A) (all : List (Option A)) → Each P front → Each (λ o. IfSome o P) all → Each P (fold keep front all)
kept_means {A} P keep none some front all h hs = folded keep (λ o. IfSome o P) (Each P) step front all h hs
  where
    step : (front : List A) (o : Option A) → Each P front → IfSome o P → Each P (keep front o)
    step front None q p = subst (Each P) (sym (none front)) q
    step front (Some a) q p = subst (Each P) (sym (some front a)) (pushed P front a q p)

pub joined : {A : Type 0} (P : A → Type 0) (xs ys : List A) → Each P xs → Each P ys → Each P (xs ++ ys)
joined P [] ys h k = k
joined P (x ∷ xs) ys h k = (h.0, joined P xs ys h.1 k)
