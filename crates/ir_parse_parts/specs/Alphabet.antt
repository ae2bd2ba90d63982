-- What a grammar knows of its tokens.
use Rattle.std.specs.Prelude.{ℕ, Bool, false, ◌||◌, nat_eq, List, [], ◌∷◌}

-- a class for each token, by which a reader chooses; the classes of tokens that write a number; of these the literals, where the
-- others are names; and which tokens some text has
pub record Alphabet (T : Type 0) : Type 1 where
  pub class : T → ℕ
  pub numerals : List ℕ
  pub literals : List ℕ
  pub Real : T → Type 0

abbrev pub contains : List ℕ → ℕ → Bool
contains [] n = false
contains (m ∷ ms) n = nat_eq n m || contains ms n

-- the token is of one of these classes
abbrev pub among : {T : Type 0} → Alphabet T → List ℕ → T → Bool
among alphabet classes t = contains classes (alphabet.class t)

-- the token writes a number
abbrev pub is_number : {T : Type 0} → Alphabet T → T → Bool
is_number alphabet t = contains alphabet.numerals (alphabet.class t)

-- and the number is a literal
abbrev pub is_literal : {T : Type 0} → Alphabet T → T → Bool
is_literal alphabet t = contains alphabet.literals (alphabet.class t)

-- some text has each of these tokens
abbrev pub AllReal : {T : Type 0} → Alphabet T → List T → Type 0
AllReal alphabet [] = Unit {0}
AllReal alphabet (t ∷ ts) = alphabet.Real t × AllReal alphabet ts
