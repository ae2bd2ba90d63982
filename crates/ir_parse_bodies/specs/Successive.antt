-- Pieces of a form one behind another, each from the state that the one before left, at most so many.
use Rattle.std.specs.Prelude.{◌≡◌, ℕ, zero, suc, Bool, List, [], ◌∷◌, ◌++◌}
use Rattle.ir_parse_parts.specs.declared.fault.TokenFault.TheVariants.{Limit}
use Rattle.ir_parse_parts.specs.Forms.{Form}
use Rattle.ir_parse_parts.specs.Readers.{Reader, ◌>>=◌, done, fault_at, pick}

module _ {T S A : Type 0} where
  abbrev pub Successive : (S → Form T (A × S)) → ℕ → S → List T → List A → Type 0
  Successive piece room s ts [] = ts ≡ []
  Successive piece zero s ts (a ∷ more) = ⊥
  Successive piece (suc room) s ts (a ∷ more) = (front : List T) × (back : List T) × (next : S) × (ts ≡ front ++ back) × piece s front (a, next) × Successive piece room next back more

  abbrev pub successive_at : (T → Bool) → (S → Reader T (A × S)) → ℕ → S → Reader T (List A)
  successive_at begins one zero s = pick begins (fault_at Limit) (done [])
  successive_at begins one (suc room) s = pick begins (one s >>= λ x. successive_at begins one room x.1 >>= λ more. done (x.0 ∷ more)) (done [])
