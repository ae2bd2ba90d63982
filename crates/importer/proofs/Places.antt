-- Places in lists, and the first element that passes a test.
use Rattle.std.proofs.Common.{◌≡◌, ◌∙◌, ◌⊎◌, inl, inr, ℕ, Bool, true, false, cond, List, [], ◌∷◌, map, filter, Some, None, slice_get, refl, ap}
use Rattle.std.specs.List.{Contains, find}
use Rattle.merge_meaning.proofs.Standing.{first_or_later, in_filter, in_map, nothing}
use Rattle.merge_meaning.proofs.Names.{clash}
use Rattle.merge_meaning.proofs.Reordered.{contained, contains}

pub placed : {X : Type 0} (xs : List X) (x : X) → Contains xs x → (j : ℕ) × (slice_get xs j ≡ Some x)
placed xs x c = (c.0, contained xs c.0 x c.1 c.2)

-- what passes has a place in a filtered and changed list
pub to_kept : {X Y : Type 0} (change : X → Y) (keeps : X → Bool) (xs : List X) (i : ℕ) (x : X) → slice_get xs i ≡ Some x → keeps x ≡ true
    → (p : ℕ) × (slice_get (map change (filter keeps xs)) p ≡ Some (change x))
to_kept change keeps xs i x at k =
    placed (map change (filter keeps xs)) (change x) (in_map change (filter keeps xs) x (in_filter keeps xs x (contains xs i x at) k))

-- what passes is found, or another one before it
pub found_some : {X : Type 0} (test : X → Bool) (xs : List X) (x : X) → Contains xs x → test x ≡ true → find test xs ≡ None → ⊥
found_some test [] x c k none = nothing x c
found_some {X} test (z ∷ xs) x c k none = by (test z) refl none (first_or_later z x xs c) (λ more e. found_some test xs x more k e)
  where
    by : (b : Bool) → test z ≡ b → cond b (Some z) (find test xs) ≡ None → (z ≡ x) ⊎ Contains xs x → (Contains xs x → find test xs ≡ None → ⊥) → ⊥
    by true e n there rest = cc n
    by false e n (inl same) rest = clash (test z) e (ap test same ∙ k)
    by false e n (inr more) rest = rest more n
