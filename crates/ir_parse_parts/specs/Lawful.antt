-- What ties a reader to the form that it reads.
use Rattle.std.specs.Prelude.{◌≡◌, ◌⊎◌, ℕ, Bool, true, false, List, [], ◌∷◌, ◌++◌, length, Result, Ok, Err}
use Rattle.ir_parse_parts.specs.declared.fault.Fault.{Fault}
use Rattle.ir_parse_parts.specs.declared.fault.TokenFault.{TokenFault}
use Rattle.ir_parse_parts.specs.declared.fault.TokenFault.TheVariants.{Syntax, Profile, Number, Limit}
use Rattle.ir_parse_parts.specs.Alphabet.{Alphabet, AllReal, is_literal, is_number}
use Rattle.ir_parse_parts.specs.Faults.{NumberGoesOn, LimitGoesOn}
use Rattle.ir_parse_parts.specs.Forms.{Form}
use Rattle.ir_parse_parts.specs.Readers.{Reader, fault_at}

-- how a reading ended, and the tokens that were left
abbrev pub ends : {T A : Type 0} → Result A TokenFault → List T → Result (A × List T) Fault
ends (Ok a) rest = Ok (a, rest)
ends (Err kind) rest = fault_at kind rest

-- the next token, if there is one, is none of these
abbrev pub Stops : {T : Type 0} → (T → Bool) → List T → Type 0
Stops more [] = Unit {0}
Stops more (t ∷ ts) = more t ≡ false

-- what reading gives where a token that writes another number stands in the place of the next one, which writes one: of a number
-- that is out of range, or of a literal past a limit, nothing is said
abbrev pub Swapped : {T A : Type 0} → Bool → Result A TokenFault → Result (A × List T) Fault → T → List T → Type 0
Swapped literal (Ok a) r u rest = r ≡ Ok (a, u ∷ rest)
Swapped literal (Err Number) r u rest = Unit {0}
Swapped literal (Err Syntax) r u rest = (k : TokenFault) × (r ≡ fault_at k (u ∷ rest))
Swapped literal (Err Profile) r u rest = (k : TokenFault) × (r ≡ fault_at k (u ∷ rest))
Swapped literal (Err Limit) r u rest = literal ≡ false → (k : TokenFault) × (r ≡ fault_at k (u ∷ rest))

-- a refusal of a token that writes a number, but for its range or a limit, is a refusal of each of its class
abbrev pub SameRefusal : {A : Type 0} → Result A TokenFault → Result A TokenFault → Type 0
SameRefusal {A} (Ok a) m = Unit {0}
SameRefusal {A} (Err Number) m = Unit {0}
SameRefusal {A} (Err Syntax) m = (k : TokenFault) × (m ≡ Err k)
SameRefusal {A} (Err Profile) m = (k : TokenFault) × (m ≡ Err k)
SameRefusal {A} (Err Limit) m = Unit {0}

-- a range or a limit ends a reading that goes on without them
abbrev pub IsBound : TokenFault → Type 0
IsBound Number = Unit {0}
IsBound Limit = Unit {0}
IsBound Syntax = ⊥
IsBound Profile = ⊥

module _ {T : Type 0} (alphabet : Alphabet T) where
  -- a reading of these tokens is past a limit, or at a name whose number is out of range
  pub record Bounded {X : Type 0} (ts : List T) (r : Result X Fault) : Type 0 where
    pub front : List T
    pub bad : T
    pub rest : List T
    pub kind : TokenFault
    pub whole : ts ≡ front ++ bad ∷ rest
    pub bound : IsBound kind
    pub named : kind ≡ Number → is_literal alphabet bad ≡ false
    pub ends : r ≡ Err (record { left = length (bad ∷ rest); kind = kind })

  -- the first is so, or they are one
  abbrev pub UpTo : {X : Type 0} → List T → Result X Fault → Result X Fault → Type 0
  UpTo ts r free = (r ≡ free) ⊎ Bounded ts r

  -- What is spelled so without the limits begins with a token of first, or is empty, and f reads it up to such a fault.
  pub record Broad {A : Type 0} (wide : Form T A) (f : Reader T A) (first more : T → Bool) (empty : Bool) : Type 0 where
    pub starts : (t : T) (ts : List T) (a : A) → wide (t ∷ ts) a → first t ≡ true
    pub nothing : (a : A) → wide [] a → empty ≡ true
    pub reads : (front rest : List T) (a : A) → wide front a → Stops more rest → UpTo (front ++ rest) (f (front ++ rest)) (Ok (a, rest))

  -- what stands before the last tokens, so many, goes on somehow to what the form has
  pub record GoesOn {A : Type 0} (g : Form T A) (ts : List T) (left : ℕ) : Type 0 where
    pub front : List T
    pub rest : List T
    pub whole : ts ≡ front ++ rest
    pub here : length rest ≡ left
    pub more : List T
    pub value : A
    pub spelled : g (front ++ more) value
    pub real : AllReal alphabet more

  -- what a meaning says of tokens that write numbers
  pub record IsRanged {A : Type 0} (meaning : T → Result A TokenFault) : Type 0 where
    -- out of range is said of these alone, and another one of the same class is in range
    pub range : (t : T) → meaning t ≡ Err Number → (is_number alphabet t ≡ true) × (u : T) × (b : A) × (alphabet.class u ≡ alphabet.class t) × (meaning u ≡ Ok b) × alphabet.Real u
    pub alike : (t u : T) → is_number alphabet t ≡ true → alphabet.class u ≡ alphabet.class t → SameRefusal (meaning t) (meaning u)
    -- no single token is past a limit
    pub never : (t : T) → meaning t ≡ Err Limit → ⊥

  -- f reads the form g. A reading begins with a token of first, or is empty; it goes on exactly at a token of more.
  pub record Lawful {A : Type 0} (g wide : Form T A) (f : Reader T A) (first more : T → Bool) (empty : Bool) : Type 0 where
    -- what is read is spelled so
    pub sound : (ts rest : List T) (a : A) → f ts ≡ Ok (a, rest) → (front : List T) × (ts ≡ front ++ rest) × g front a
    -- what is spelled so is read
    pub complete : (front rest : List T) (a : A) → g front a → Stops more rest → f (front ++ rest) ≡ Ok (a, rest)
    pub starts : (t : T) (ts : List T) (a : A) → g (t ∷ ts) a → first t ≡ true
    pub nothing : (a : A) → g [] a → empty ≡ true
    -- something is spelled so
    pub some : (ts : List T) × (a : A) × g ts a × AllReal alphabet ts
    -- what stands before a fault goes on somehow
    pub viable : (ts : List T) (e : Fault) → f ts ≡ Err e → GoesOn g ts e.left
    -- what is read, and where it stops, depends on the tokens up to the next one alone
    pub local : (front : List T) (t : T) (rest rest' : List T) (o : Result A TokenFault) → f (front ++ t ∷ rest) ≡ ends o (t ∷ rest) → f (front ++ t ∷ rest') ≡ ends o (t ∷ rest')
    -- where a number is out of range, another one goes on
    pub number : (ts : List T) (left : ℕ) → f ts ≡ Err (record { left = left; kind = Number }) → NumberGoesOn alphabet g ts left
    -- a fault but of a range, or of a literal's limit, at a token that writes a number comes for each of its class there
    pub swap : (front : List T) (t u : T) (rest rest' : List T) (o : Result A TokenFault) → is_number alphabet t ≡ true → alphabet.class u ≡ alphabet.class t → f (front ++ t ∷ rest) ≡ ends o (t ∷ rest) → Swapped (is_literal alphabet t) o (f (front ++ u ∷ rest')) u rest'
    -- what is spelled so is spelled so without the limits
    pub contains : (ts : List T) (a : A) → g ts a → wide ts a
    -- a fault of a limit stands where a reading without the limits goes on
    pub limit : (ts : List T) (left : ℕ) → f ts ≡ Err (record { left = left; kind = Limit }) → LimitGoesOn alphabet wide ts left
    -- a reading without the limits is one of f, up to a limit, or the number of a name
    pub broad : Broad wide f first more empty
