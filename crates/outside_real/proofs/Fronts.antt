-- A front that is shorter than it may be is all.
use Rattle.std.proofs.Common.{arith, ◌≡◌, ◌+◌, ◌≤◌, ◌++◌, ℕ, List, [], Option, None, Some, IfSome, length, take, sym, subst, ap, ◌∙◌, min}
use Rattle.std.specs.Option.{option_map}
use Rattle.std.specs.Io.Take.{take_limit, take_inner, take_remaining}
use Rattle.std.specs.declared.io.traits.Take.{Take}
use Rattle.std.proofs.lemmas.List.{take_all, length-take}

short_front : (left : Option (List ℕ)) (limit : ℕ) (text : List ℕ) → length text ≤ limit → IfSome (option_map (take (limit + 1)) left) (λ xs. text ≡ xs) → IfSome left (λ bytes. text ≡ bytes)
short_front None limit text short is = tt
short_front (Some bytes) limit text short is =
    let long : length text ≡ min (limit + 1) (length bytes) = ap length is ∙ length-take (limit + 1) bytes in
    is ∙ take_all (limit + 1) bytes (omega arith)

module _ {R : Type 0} (remaining : R → Option (List ℕ)) where
  -- as code has it
  pub all_read : (front : Take R) (reader : R) (limit : ℕ) (before after text : List ℕ) → take_limit front ≡ limit + 1 → take_inner front ≡ reader → before ≡ [] → text ≡ after → length text ≤ limit → IfSome (take_remaining remaining front) (λ xs. after ≡ before ++ xs) → IfSome (remaining reader) (λ bytes. text ≡ bytes)
  all_read front reader limit before after text most inner none is short read =
      let limited : IfSome (option_map (take (limit + 1)) (remaining front.inner)) (λ xs. after ≡ before ++ xs) = subst (λ (n : ℕ). IfSome (option_map (take n) (remaining front.inner)) (λ xs. after ≡ before ++ xs)) most read in
      let of_reader : IfSome (option_map (take (limit + 1)) (remaining reader)) (λ xs. after ≡ before ++ xs) = subst (λ (r : R). IfSome (option_map (take (limit + 1)) (remaining r)) (λ xs. after ≡ before ++ xs)) inner limited in
      let of_none : IfSome (option_map (take (limit + 1)) (remaining reader)) (λ xs. after ≡ xs) = subst (λ (b : List ℕ). IfSome (option_map (take (limit + 1)) (remaining reader)) (λ xs. after ≡ b ++ xs)) none of_reader in
      short_front (remaining reader) limit text short (subst (λ (t : List ℕ). IfSome (option_map (take (limit + 1)) (remaining reader)) (λ xs. t ≡ xs)) (sym is) of_none)
