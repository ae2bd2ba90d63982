-- The first token at which no reading goes on, and the kind of a fault there.
use Rattle.std.specs.Prelude.{◌≡◌, ℕ, true, false, List, [], ◌∷◌, ◌++◌, length}
use Rattle.ir_parse_parts.specs.declared.fault.Fault.{Fault}
use Rattle.ir_parse_parts.specs.declared.fault.TokenFault.{TokenFault}
use Rattle.ir_parse_parts.specs.declared.fault.TokenFault.TheVariants.{Syntax, Profile, Number, Limit}
use Rattle.ir_tree.specs.declared.failure.Failure.{Failure}
use Rattle.ir_tree.specs.declared.failure.Failure.TheVariants as errors
use Rattle.ir_parse_parts.specs.Alphabet.{Alphabet, AllReal, is_literal, is_number}
use Rattle.ir_parse_parts.specs.Forms.{Form}

-- some continuation of these tokens is of the form
abbrev pub Extends : {T A : Type 0} → Form T A → List T → Type 0
Extends {T} {A} g ts = (more : List T) × (a : A) × g (ts ++ more) a

-- none is that goes on with the next token; at the end, the tokens themselves are not of the form
abbrev pub Dead : {T A : Type 0} → Form T A → List T → List T → Type 0
Dead {A = A} g front [] = (a : A) → g front a → ⊥
Dead {A = A} g front (t ∷ rest) = Extends g (front ++ t ∷ []) → ⊥

module _ {T : Type 0} (alphabet : Alphabet T) where
  -- some continuation of these tokens by tokens that bytes spell is of the form
  abbrev pub Viable : {A : Type 0} → Form T A → List T → Type 0
  Viable {A} g ts = (more : List T) × (a : A) × g (ts ++ more) a × AllReal alphabet more

  -- no reading goes on at the first of the last tokens, so many, and what stands before goes on
  pub record StopsAt {A : Type 0} (g : Form T A) (ts : List T) (left : ℕ) : Type 0 where
    pub front : List T
    pub rest : List T
    pub whole : ts ≡ front ++ rest
    pub here : length rest ≡ left
    pub before : Viable g front
    pub dead : Dead g front rest

  -- before the last tokens, so many, of which the first writes a number, another token of its class goes on
  pub record NumberGoesOn {A : Type 0} (g : Form T A) (ts : List T) (left : ℕ) : Type 0 where
    pub front : List T
    pub bad : T
    pub rest : List T
    pub whole : ts ≡ front ++ bad ∷ rest
    pub here : length (bad ∷ rest) ≡ left
    pub bad_is : is_number alphabet bad ≡ true
    pub good : T
    pub good_is : alphabet.class good ≡ alphabet.class bad
    pub more : List T
    pub value : A
    pub spelled : g (front ++ good ∷ more) value
    pub real : AllReal alphabet (good ∷ more)

  -- where the first of the last tokens, so many, writes a number, no token of its class goes on in its place
  abbrev pub NoNumberGoesOn : {A : Type 0} → Form T A → List T → ℕ → Type 0
  NoNumberGoesOn g ts left = (front : List T) (t : T) (rest : List T) → ts ≡ front ++ t ∷ rest → length (t ∷ rest) ≡ left → is_number alphabet t ≡ true → (u : T) → alphabet.class u ≡ alphabet.class t → Extends g (front ++ u ∷ []) → ⊥

  -- the same where it is no literal
  abbrev pub NoNameGoesOn : {A : Type 0} → Form T A → List T → ℕ → Type 0
  NoNameGoesOn g ts left =
      (front : List T) (t : T) (rest : List T) → ts ≡ front ++ t ∷ rest → length (t ∷ rest) ≡ left → is_number alphabet t ≡ true → is_literal alphabet t ≡ false → (u : T) → alphabet.class u ≡ alphabet.class t → Extends g (front ++ u ∷ []) → ⊥

  -- a fault is a number out of range only where a token that writes another, of the same class, goes on there; where one does, it is
  -- that, or of a literal a limit
  abbrev pub FitsKind : {A : Type 0} → Form T A → List T → ℕ → TokenFault → Type 0
  FitsKind g ts left Number = NumberGoesOn g ts left
  FitsKind g ts left Syntax = NoNumberGoesOn g ts left
  FitsKind g ts left Profile = NoNumberGoesOn g ts left
  FitsKind g ts left Limit = NoNameGoesOn g ts left

  -- without the limits the first of the last tokens, so many, goes on
  pub record LimitGoesOn {A : Type 0} (wide : Form T A) (ts : List T) (left : ℕ) : Type 0 where
    pub front : List T
    pub bad : T
    pub rest : List T
    pub whole : ts ≡ front ++ bad ∷ rest
    pub here : length (bad ∷ rest) ≡ left
    pub more : List T
    pub value : A
    pub spelled : wide (front ++ bad ∷ more) value
    pub real : AllReal alphabet more

  -- without the limits none goes on with the first of the last tokens, so many
  abbrev pub NoneGoesOn : {A : Type 0} → Form T A → List T → ℕ → Type 0
  NoneGoesOn wide ts left = (front : List T) (t : T) (rest : List T) → ts ≡ front ++ t ∷ rest → length (t ∷ rest) ≡ left → Extends wide (front ++ t ∷ []) → ⊥

  -- the same where it is a literal
  abbrev pub NoLiteralGoesOn : {A : Type 0} → Form T A → List T → ℕ → Type 0
  NoLiteralGoesOn wide ts left =
      (front : List T) (t : T) (rest : List T) → ts ≡ front ++ t ∷ rest → length (t ∷ rest) ≡ left → is_literal alphabet t ≡ true → Extends wide (front ++ t ∷ []) → ⊥

  -- without the limits none goes on with the token, unless the fault is of a limit, or of a name whose number is out of range
  abbrev pub FitsBound : {A : Type 0} → Form T A → List T → ℕ → TokenFault → Type 0
  FitsBound wide ts left Limit = LimitGoesOn wide ts left
  FitsBound wide ts left Number = NoLiteralGoesOn wide ts left
  FitsBound wide ts left Syntax = NoneGoesOn wide ts left
  FitsBound wide ts left Profile = NoneGoesOn wide ts left
