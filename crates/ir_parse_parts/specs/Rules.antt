-- The laws of readers that choose by sets of classes, so that what is asked of the sets computes.
use Rattle.std.specs.Prelude.{◌≡◌, ℕ, nat_eq, Bool, true, ◌&&◌, not, if◌then◌else◌, Option, Some, None, List, [], ◌∷◌, Result, Ok, Err}
use Rattle.ir_parse_parts.specs.declared.fault.TokenFault.{TokenFault}
use Rattle.ir_parse_parts.specs.declared.fault.TokenFault.TheVariants.{Number}
use Rattle.ir_parse_parts.specs.Alphabet.{Alphabet, AllReal, among, contains, is_number}
use Rattle.ir_parse_parts.specs.Forms.{Form}
use Rattle.ir_parse_parts.specs.Lawful.{Lawful}
use Rattle.ir_parse_parts.specs.Readers.{Reader}

abbrev pub disjoint : List ℕ → List ℕ → Bool
disjoint [] ys = true
disjoint (x ∷ xs) ys = not (contains ys x) && disjoint xs ys

abbrev pub subset : List ℕ → List ℕ → Bool
subset [] ys = true
subset (x ∷ xs) ys = contains ys x && subset xs ys

-- a value, or what it is written by is out of range
abbrev pub in_range : {A : Type 0} → Option A → Result A TokenFault
in_range None = Err Number
in_range (Some a) = Ok a

module _ {T : Type 0} (alphabet : Alphabet T) where
  -- a token of this class; the class of another says why it can't stand here
  unfoldable pub is_class : (ℕ → TokenFault) → ℕ → T → Result (Unit {0}) TokenFault
  is_class refusal wanted t = if nat_eq (alphabet.class t) wanted then Ok tt else Err (refusal (alphabet.class t))

  -- a token of one of these classes, which means a value; the class of another says why it can't stand here
  unfoldable pub is_among : {A : Type 0} → (ℕ → TokenFault) → List ℕ → (T → A) → T → Result A TokenFault
  is_among refusal wanted value t = if among alphabet wanted t then Ok (value t) else Err (refusal (alphabet.class t))

  -- a token of one of these classes, which means a value unless the number that it writes is out of range
  unfoldable pub is_valued : {A : Type 0} → (ℕ → TokenFault) → List ℕ → (T → Option A) → T → Result A TokenFault
  is_valued refusal wanted value t = if among alphabet wanted t then in_range (value t) else Err (refusal (alphabet.class t))

  -- a token of one of these classes that passes a test
  unfoldable pub is_exact : {A : Type 0} → (ℕ → TokenFault) → List ℕ → (T → Bool) → (T → A) → T → Result A TokenFault
  is_exact refusal wanted test value t = if among alphabet wanted t && test t then Ok (value t) else Err (refusal (alphabet.class t))

  -- where a token writes a number that is out of range, another one of its class has a value
  pub record IsWithin {A : Type 0} (wanted : List ℕ) (value : T → Option A) (t : T) : Type 0 where
    pub writes : is_number alphabet t ≡ true
    pub other : T
    pub means : A
    pub alike : alphabet.class other ≡ alphabet.class t
    pub has : value other ≡ Some means
    pub real : alphabet.Real other

  -- each token of these classes begins something of the form
  abbrev pub Opens : {A : Type 0} → List ℕ → Form T A → Type 0
  Opens {A} bs wide = (t : T) → among alphabet bs t ≡ true → (more : List T) × (a : A) × wide (t ∷ more) a × AllReal alphabet more

  -- f reads g, and wide without limits; a reading begins with one of the classes first, and goes on exactly at one of more
  pub record Rule {A : Type 0} (g wide : Form T A) (f : Reader T A) (first more : List ℕ) (empty : Bool) : Type 0 where
    pub law : Lawful alphabet g wide f (among alphabet first) (among alphabet more) empty
