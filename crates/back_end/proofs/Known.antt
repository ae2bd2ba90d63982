-- What is known of a function's control flow, while it is known.
use Rattle.std.proofs.Common.{◌≡◌, Bool, false, Option, Some, None, subst}
use Rattle.std.specs.Prelude.{IfSome}

-- where nothing changed the function, it is known still
pub still_known : {A : Type 0} (P Q : A → Type 0) (changed : Bool) (before now : Option A) → (changed ≡ false → (a : A) → P a → Q a) → IfSome before P
    → IfSome now (λ a. (changed ≡ false) × (before ≡ Some a)) → IfSome now Q
still_known P Q changed before None step known is = tt
still_known P Q changed before (Some a) step known is = step is.0 a (subst (λ (o : Option _). IfSome o P) is.1 known)
