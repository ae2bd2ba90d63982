-- Names of globals in the set, and what they stand for.
use Rattle.std.proofs.Common.{◌≡◌, refl, ap, Bool, false, ◌||◌, ℕ, nat_eq, List, [], ◌∷◌, ◌++◌, map}
use Rattle.std.specs.Cmp.Lexicographic.{pointwise}
use Rattle.std.specs.Cow.{cow_slice_items}
use Rattle.std.specs.declared.borrow.CowSlice.{CowSlice}
use Rattle.std.specs.List.{list_any}
use Rattle.indexmap.specs.IndexSet.{insert_key}
use Rattle.ir_parse_names.specs.Globals.{has_name}

module _ {A : Type 0} where
  -- two names are equal in the code where their bytes are
  abbrev pub alike : CowSlice ℕ A → CowSlice ℕ A → Bool
  alike x y = pointwise nat_eq (cow_slice_items x) (cow_slice_items y)

  pub any_name : (w : CowSlice ℕ A) (ks : List (CowSlice ℕ A)) → list_any (alike w) ks ≡ has_name (map cow_slice_items ks) (cow_slice_items w)
  any_name w [] = refl
  any_name w (k ∷ ks) = ap (λ b. alike w k || b) (any_name w ks)

  behind : (ks : List (CowSlice ℕ A)) (w : CowSlice ℕ A) → map cow_slice_items (ks ++ w ∷ []) ≡ map cow_slice_items ks ++ cow_slice_items w ∷ []
  behind [] w = refl
  behind (k ∷ ks) w = ap (λ ns. cow_slice_items k ∷ ns) (behind ks w)

  -- a new name goes behind the others
  pub named : (ks : List (CowSlice ℕ A)) (w : CowSlice ℕ A) → has_name (map cow_slice_items ks) (cow_slice_items w) ≡ false → map cow_slice_items (insert_key alike ks w) ≡ map cow_slice_items ks ++ cow_slice_items w ∷ []
  named ks w free = rw (any_name w ks, free) (behind ks w)
