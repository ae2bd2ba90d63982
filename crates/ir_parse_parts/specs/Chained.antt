-- Pieces of a form one behind another, where each leaves a state for the next: lists that nest without recursion.
use Rattle.std.specs.Prelude.{◌≡◌, ℕ, zero, suc, Bool, true, ◌&&◌, not, if◌then◌else◌, List, [], ◌∷◌, ◌++◌, length}
use Rattle.ir_parse_parts.specs.declared.fault.TokenFault.TheVariants.{Syntax}
use Rattle.ir_parse_parts.specs.Forms.{Form}
use Rattle.ir_parse_parts.specs.Readers.{Reader, fault_at, done, ◌>>=◌, next_is}

-- in a final state a reading stops before a token that begins no piece
abbrev pub stops_here : {T S : Type 0} → (S → Bool) → (S → T → Bool) → S → List T → Bool
stops_here final begins s ts = final s && not (next_is (begins s) ts)

module _ {T S A : Type 0} (final : S → Bool) where
  -- pieces, the first from this state and each further one from the state behind the one before, up to a final state
  abbrev pub Chain : (S → Form T (A × S)) → S → List T → List A → Type 0
  Chain piece s ts [] = (final s ≡ true) × (ts ≡ [])
  Chain piece s ts (a ∷ more) = (front : List T) × (back : List T) × (next : S) × (ts ≡ front ++ back) × piece s front (a, next) × Chain piece next back more

  -- at most so many pieces
  abbrev pub chain_within : (S → T → Bool) → (S → Reader T (A × S)) → ℕ → S → Reader T (List A)
  chain_within begins one zero s ts = if stops_here final begins s ts then done [] ts else fault_at Syntax ts
  chain_within begins one (suc room) s ts = if stops_here final begins s ts then done [] ts else (one s >>= λ x. chain_within begins one room x.1 >>= λ more. done (x.0 ∷ more)) ts

  -- each piece takes a token, so there is always room
  abbrev pub chain_at : (S → T → Bool) → (S → Reader T (A × S)) → S → Reader T (List A)
  chain_at begins one s ts = chain_within begins one (suc (length ts)) s ts
