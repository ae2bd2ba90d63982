-- What is kept of a list of entries, of which each has a value.
use Rattle.std.proofs.Common.{◌≡◌, Option, Some, List, [], ◌∷◌, ◌++◌, refl, sym, ap, subst, ◌∙◌, append_assoc, append-nil}
use Rattle.std.specs.List.{fold}
use Rattle.ir_round_trip.specs.PartsPrinted.{Paired}

abbrev all_some : {B : Type 0} → List B → List (Option B)
all_some [] = []
all_some (b ∷ bs) = Some b ∷ all_some bs

-- entries that each have a value, and these stand for the others in turn
pub record Kept {A B : Type 0} (R : A → B → Type 0) (as' : List A) (entries : List (Option B)) : Type 0 where
  pub values : List B
  pub entries_are : entries ≡ all_some values
  pub paired : Paired R as' values

pub kept_none : {A B : Type 0} (R : A → B → Type 0) → Kept R [] []
kept_none R = record { values = []; entries_are = refl; paired = tt }

-- one entry that has a value
abbrev pub IsKept : {A B : Type 0} → (A → B → Type 0) → A → Option B → Type 0
IsKept {B = B} R a o = (b : B) × (o ≡ Some b) × R a b

pub kept_more : {A B : Type 0} (R : A → B → Type 0) {a : A} {as' : List A} {o : Option B} {more : List (Option B)} → IsKept R a o → Kept R as' more → Kept R (a ∷ as') (o ∷ more)
kept_more R {o = o} {more = more} p q = record {
  values = p.0 ∷ q.values;
  entries_are = ap (λ x. x ∷ more) p.1 ∙ ap (λ xs. Some p.0 ∷ xs) q.entries_are;
  paired = (p.2, q.paired);
}

folded : {B : Type 0} (keep : List B → Option B → List B) → ((front : List B) (b : B) → keep front (Some b) ≡ front ++ b ∷ []) → (front bs : List B) → fold keep front (all_some bs) ≡ front ++ bs
folded keep h front [] = sym (append-nil front)
folded keep h front (b ∷ bs) = ap (λ f. fold keep f (all_some bs)) (h front b) ∙ folded keep h (front ++ b ∷ []) bs ∙ append_assoc front (b ∷ []) bs

-- behind others
pub kept_behind : {A B : Type 0} (R : A → B → Type 0) (keep : List B → Option B → List B) → ((front : List B) (b : B) → keep front (Some b) ≡ front ++ b ∷ []) → {as' : List A} {entries : List (Option B)} (front : List B) → (k : Kept R as' entries) → fold keep front entries ≡ front ++ k.values
kept_behind R keep h front k = ap (fold keep front) k.entries_are ∙ folded keep h front k.values

pub kept : {A B : Type 0} (R : A → B → Type 0) (keep : List B → Option B → List B) → ((front : List B) (b : B) → keep front (Some b) ≡ front ++ b ∷ []) → {as' : List A} {entries : List (Option B)} → Kept R as' entries → Paired R as' (fold keep [] entries)
kept R keep h {as' = xs} k = subst (Paired R xs) (sym (kept_behind R keep h [] k)) k.paired
