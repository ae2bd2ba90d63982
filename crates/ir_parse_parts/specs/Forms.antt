-- Grammars as relations: which tokens spell which value. No reader and no order of trial occurs here.
use Rattle.std.specs.Prelude.{◌≡◌, ℕ, zero, suc, ◌⊎◌, Option, Some, None, Result, Ok, List, [], ◌∷◌, ◌++◌}

-- which lists of tokens spell which values
abbrev pub Form : Type 0 → Type 0 → Type 1
Form T A = List T → A → Type 0

-- no token, for this value
abbrev pub gives : {T A : Type 0} → A → Form T A
gives a ts b = (ts ≡ []) × (b ≡ a)

-- one token, which means the value
abbrev pub token : {T A E : Type 0} → (T → Result A E) → Form T A
token meaning [] a = ⊥
token meaning (t ∷ []) a = meaning t ≡ Ok a
token meaning (t ∷ u ∷ ts) a = ⊥

-- one form, and behind it another, which may depend on what the first one means
infixl 10 ◌>>=◌
unfoldable pub ◌>>=◌ : {T A B : Type 0} → Form T A → (A → Form T B) → Form T B
◌>>=◌ {T} {A} first second ts b =
    (front : List T) × (back : List T) × (a : A) × (ts ≡ front ++ back) × first front a × second a back b

-- one of two forms
unfoldable pub either : {T A : Type 0} → Form T A → Form T A → Form T A
either one other ts a = one ts a ⊎ other ts a

-- at most so many of a form, one behind another
abbrev pub Many : {T A : Type 0} → Form T A → ℕ → List T → List A → Type 0
Many one room ts [] = ts ≡ []
Many one zero ts (a ∷ more) = ⊥
Many {T} one (suc room) ts (a ∷ more) =
    (front : List T) × (back : List T) × (ts ≡ front ++ back) × one front a × Many one room back more

-- any number of a form, one behind another
abbrev pub Star : {T A : Type 0} → Form T A → List T → List A → Type 0
Star one ts [] = ts ≡ []
Star {T} one ts (a ∷ more) = (front : List T) × (back : List T) × (ts ≡ front ++ back) × one front a × Star one back more

-- any number, or at most so many where there is a limit
abbrev pub upto : {T A : Type 0} → Option ℕ → Form T A → Form T (List A)
upto None one = Star one
upto (Some room) one = Many one room

-- at most one
abbrev pub optional : {T A : Type 0} → Form T A → Form T (Option A)
optional one = either (one >>= λ a. gives (Some a)) (gives None)
