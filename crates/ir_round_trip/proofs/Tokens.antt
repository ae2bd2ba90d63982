-- Single pieces that are read as tokens of a class.
use Rattle.std.proofs.Common.{◌≡◌, ℕ, Bool, true, false, cond, ◌&&◌, nat_eq, Option, Some, Result, Ok, Err, List, [], ◌∷◌, refl, sym, ap, subst, ◌∙◌, arith}
use Rattle.ir_lex.specs.TokenKinds.{number, kind_of}
use Rattle.ir_lex.specs.Tok.{Tok}
use Rattle.ir_lex.specs.declared.token_kind.TokenKind.{TokenKind}
use Rattle.ir_lex.specs.declared.token.TokenForm.{TokenForm}
use Rattle.ir_print.specs.Tokens.{piece}
use Rattle.ir_parse_parts.specs.Alphabet.{contains}
use Rattle.ir_parse_parts.specs.declared.fault.TokenFault.{TokenFault}
use Rattle.ir_parse_parts.specs.Forms as form
use Rattle.ir_parse_parts.specs.Rules.{in_range, is_class, is_among, is_exact, is_valued}
use Rattle.ir_parse_parts.specs.Classes.{tokens, refusal, the}
use Rattle.ir_round_trip.specs.Reads.{Parses, Any}

-- a token of this kind and text, of the class that its text has alone
pub record IsToken (k : TokenForm) (bytes : List ℕ) (t : Tok) : Type 0 where
  pub form : t.form ≡ k
  pub text : t.text ≡ bytes
  pub kind : t.kind ≡ kind_of k bytes []

-- the number of the class that a text has alone
abbrev pub class_of : TokenForm → List ℕ → ℕ
class_of kind text = number (kind_of kind text [])

-- what such a token means
abbrev pub Means : {A : Type 0} → (Tok → Result A TokenFault) → (A → Type 0) → TokenForm → List ℕ → Type 0
Means {A} meaning P kind text = (t : Tok) → IsToken kind text t → (a : A) × (meaning t ≡ Ok a) × P a

pub single : {A : Type 0} {meaning : Tok → Result A TokenFault} {P : A → Type 0} (blank : List ℕ) (kind : TokenForm) (c : ℕ) (cs : List ℕ)
    → Means meaning P kind (c ∷ cs) → Parses (form.token meaning) P (record { blank = blank; form = kind; first = c; others = cs } ∷ [])
single blank kind c cs f = record { value = λ behind line. f _ (record { form = refl; text = refl; kind = refl }) }

-- text that isn't empty
pub record NonEmpty (text : List ℕ) : Type 0 where
  pub first : ℕ
  pub others : List ℕ
  pub whole : text ≡ first ∷ others

pub piece_read : {A : Type 0} {meaning : Tok → Result A TokenFault} {P : A → Type 0} (blank : List ℕ) (kind : TokenForm) (text : List ℕ)
    → NonEmpty text → Means meaning P kind text → Parses (form.token meaning) P (piece blank kind text)
piece_read {meaning = meaning} {P = P} blank kind text s f =
    subst (λ (all : List ℕ). Parses (form.token meaning) P (piece blank kind all)) (sym s.whole)
    (single blank kind s.first s.others (subst (Means meaning P kind) s.whole f))

-- ---- classes

same : (n : ℕ) → nat_eq n n ≡ true
same n = grind arith

-- the class of the token
class_is : (kind : TokenForm) (text : List ℕ) (t : Tok) (n : ℕ) → IsToken kind text t → class_of kind text ≡ n → number t.kind ≡ n
class_is kind text t n i e = ap number i.kind ∙ e

accepted : {A : Type 0} (a : A) (k : TokenFault) (b : Bool) → b ≡ true → cond b (Ok a) (Err k) ≡ Ok a
accepted a k true e = refl
accepted a k false e = absurd cc

taken : {A : Type 0} (r : Result A TokenFault) (k : TokenFault) (b : Bool) → b ≡ true → cond b r (Err k) ≡ r
taken r k true e = refl
taken r k false e = absurd cc

both : (a b : Bool) → a ≡ true → b ≡ true → a && b ≡ true
both true b d e = e
both false b d e = absurd cc

pub by_class : (refuse : ℕ → TokenFault) (h : TokenKind) (kind : TokenForm) (text : List ℕ) → class_of kind text ≡ number h → Means (is_class tokens refuse (number h)) Any kind text
unfolding is_class
by_class refuse h kind text e t i =
    (tt, accepted tt (refuse (number t.kind)) (nat_eq (number t.kind) (number h)) (ap (λ (n : ℕ). nat_eq n (number h)) (class_is kind text t (number h) i e) ∙ same (number h)), tt)

pub by_classes : {A : Type 0} {P : A → Type 0} (refuse : ℕ → TokenFault) (classes : List ℕ) (value : Tok → A) (kind : TokenForm) (text : List ℕ)
    → contains classes (class_of kind text) ≡ true → ((t : Tok) → IsToken kind text t → P (value t)) → Means (is_among tokens refuse classes value) P kind text
unfolding is_among
by_classes refuse classes value kind text e f t i =
    (value t, accepted (value t) (refuse (number t.kind)) (contains classes (number t.kind)) (ap (contains classes) (class_is kind text t _ i refl) ∙ e), f t i)

pub by_test : {A : Type 0} {P : A → Type 0} (refuse : ℕ → TokenFault) (classes : List ℕ) (test : Tok → Bool) (value : Tok → A) (kind : TokenForm) (text : List ℕ)
    → contains classes (class_of kind text) ≡ true → ((t : Tok) → IsToken kind text t → (test t ≡ true) × P (value t)) → Means (is_exact tokens refuse classes test value) P kind text
unfolding is_exact
by_test refuse classes test value kind text e f t i =
    let h = f t i in
    (value t, accepted (value t) (refuse (number t.kind)) (contains classes (number t.kind) && test t) (both (contains classes (number t.kind)) (test t) (ap (contains classes) (class_is kind text t _ i refl) ∙ e) h.0), h.1)

pub by_value : {A : Type 0} {P : A → Type 0} (refuse : ℕ → TokenFault) (classes : List ℕ) (value : Tok → Option A) (kind : TokenForm) (text : List ℕ)
    → contains classes (class_of kind text) ≡ true → ((t : Tok) → IsToken kind text t → (a : A) × (value t ≡ Some a) × P a) → Means (is_valued tokens refuse classes value) P kind text
unfolding is_valued
by_value refuse classes value kind text e f t i =
    let h = f t i in
    (h.0, taken (in_range (value t)) (refuse (number t.kind)) (contains classes (number t.kind)) (ap (contains classes) (class_is kind text t _ i refl) ∙ e) ∙ ap in_range h.1, h.2)

-- a token of one class
pub the_read : (h : TokenKind) (blank : List ℕ) (kind : TokenForm) (c : ℕ) (cs : List ℕ) → class_of kind (c ∷ cs) ≡ number h → Parses (the h) Any (record { blank = blank; form = kind; first = c; others = cs } ∷ [])
the_read h blank kind c cs e = single blank kind c cs (by_class refusal h kind (c ∷ cs) e)
