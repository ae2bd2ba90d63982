-- Readers on lists of tokens: the value and the tokens behind it, or the first fault.
use Rattle.std.specs.List.{fold}
use Rattle.std.specs.Prelude.{◌≡◌, ℕ, zero, suc, Bool, false, if◌then◌else◌, Option, Some, None, Result, Ok, Err, List, [], ◌∷◌, length}
use Rattle.ir_parse_parts.specs.declared.fault.Fault.{Fault}
use Rattle.ir_parse_parts.specs.declared.fault.TokenFault.{TokenFault}
use Rattle.ir_parse_parts.specs.declared.fault.TokenFault.TheVariants.{Syntax, Limit}
use Rattle.ir_tree.specs.declared.failure.Failure.{Failure}
use Rattle.ir_tree.specs.declared.failure.Failure.TheVariants as errors

abbrev pub Reader : Type 0 → Type 0 → Type 0
Reader T A = List T → Result (A × List T) Fault

-- a fault at the first of these tokens, or at the end
abbrev pub fault_at : {T A : Type 0} → TokenFault → Reader T A
fault_at kind ts = Err (record { left = length ts; kind = kind })

abbrev pub done : {T A : Type 0} → A → Reader T A
done a ts = Ok (a, ts)

abbrev pub follow : {T A B : Type 0} → Result (A × List T) Fault → (A → Reader T B) → Result (B × List T) Fault
follow (Ok x) second = second x.0 x.1
follow (Err e) second = Err e

infixl 10 ◌>>=◌
abbrev pub ◌>>=◌ : {T A B : Type 0} → Reader T A → (A → Reader T B) → Reader T B
◌>>=◌ first second ts = follow (first ts) second

abbrev pub token_means : {T A : Type 0} → T → List T → Result A TokenFault → Result (A × List T) Fault
token_means t ts (Ok a) = Ok (a, ts)
token_means t ts (Err kind) = fault_at kind (t ∷ ts)

abbrev pub token_at : {T A : Type 0} → (T → Result A TokenFault) → Reader T A
token_at meaning [] = fault_at Syntax []
token_at meaning (t ∷ ts) = token_means t ts (meaning t)

-- the first reader where the next token is one that begins it, else the other
abbrev pub pick : {T A : Type 0} → (T → Bool) → Reader T A → Reader T A → Reader T A
pick begins one other [] = other []
pick begins one other (t ∷ ts) = if begins t then one (t ∷ ts) else other (t ∷ ts)

-- as many as there are, up to a limit
abbrev pub many_at : {T A : Type 0} → (T → Bool) → Reader T A → ℕ → Reader T (List A)
many_at begins one zero = pick begins (fault_at Limit) (done [])
many_at begins one (suc room) = pick begins (one >>= λ a. many_at begins one room >>= λ more. done (a ∷ more)) (done [])

-- what a function returned, seen by view, is what reading gives, unless memory ran out
abbrev pub Fails : {Y : Type 0} → Failure Fault → Result Y Fault → Type 0
Fails errors.NoMemory read = Unit {0}
Fails (errors.Fault f) read = read ≡ Err f

abbrev pub Returns : {X Y : Type 0} → (X → Y) → Result X (Failure Fault) → Result Y Fault → Type 0
Returns view (Ok x) read = read ≡ Ok (view x)
Returns view (Err e) read = Fails e read

abbrev pub view_result : {X Y E : Type 0} → (X → Y) → Result X E → Result Y E
view_result view (Ok x) = Ok (view x)
view_result view (Err e) = Err e

-- whether the next token is one of these
abbrev pub next_is : {T : Type 0} → (T → Bool) → List T → Bool
next_is begins [] = false
next_is begins (t ∷ ts) = begins t

-- as many as there are
abbrev pub star_at : {T A : Type 0} → (T → Bool) → Reader T A → Reader T (List A)
star_at begins one ts = many_at begins one (length ts) ts

-- a reading of all tokens; what is left over is refused at its first token
abbrev pub ended : {T A : Type 0} → (T → TokenFault) → A → List T → Result A Fault
ended extra a [] = Ok a
ended extra a (t ∷ rest) = Err (record { left = length (t ∷ rest); kind = extra t })

abbrev pub whole_of : {T A : Type 0} → (T → TokenFault) → Result (A × List T) Fault → Result A Fault
whole_of extra (Ok x) = ended extra x.0 x.1
whole_of extra (Err e) = Err e

-- as many as there are, or up to a limit where there is one
abbrev pub upto_at : {T A : Type 0} → (T → Bool) → Option ℕ → Reader T A → Reader T (List A)
upto_at begins None one = star_at begins one
upto_at begins (Some room) one = many_at begins one room

-- one, where the next token begins it
abbrev pub optional_at : {T A : Type 0} → (T → Bool) → Reader T A → Reader T (Option A)
optional_at begins one = pick begins (one >>= λ a. done (Some a)) (done None)

-- ---- values that are folded as they are read

abbrev pub folded : {T A B : Type 0} → (B → A → B) → B → Result (List A × List T) Fault → Result (B × List T) Fault
folded step acc (Ok x) = Ok (fold step acc x.0, x.1)
folded step acc (Err e) = Err e

-- nothing is kept of what is read
abbrev pub dropped : {A : Type 0} → Unit {0} → A → Unit {0}
dropped u a = tt
