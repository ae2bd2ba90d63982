-- Names rise where each comes before the next.
use Rattle.std.proofs.Common.{◌≡◌, ◌∙◌, ◌⊎◌, inl, inr, ℕ, zero, suc, ◌+◌, ◌-◌, ◌<◌, ◌≤◌, List, [], ◌∷◌, length, map, get_or, arith, sym, ap, ap₂, subst}
use Rattle.std.proofs.lemmas.Bool.{cases_eq}
use Rattle.std.proofs.lemmas.Cmp.{nat_list_cmp_total}
use Rattle.std.proofs.lemmas.List.{get_or-map, get_or_default}
use Rattle.std.proofs.lemmas.Map.Keys.{sorted_from_all_adjacent}
use Rattle.std.specs.Cmp.Lexicographic.{slice_cmp}
use Rattle.std.specs.List.{AllByRecursion}
use Rattle.std.specs.List.Sorted.{IsStrictlySortedBy}
use Rattle.std.specs.Ordering.{nat_cmp}
use Rattle.std.specs.declared.cmp.Ordering.TheVariants.{Less}
use Rattle.lto_task.specs.Pieces.{NamesRise}
use Rattle.lto_task.specs.declared.piece.Piece.{Piece}

-- the names at the places below i rise
abbrev pub RiseBelow : List (List ℕ) → ℕ → Type 0
RiseBelow names i = (k : ℕ) → k + 1 < i → slice_cmp nat_cmp (get_or names k []) (get_or names (k + 1) []) ≡ Less

pub rise_more : (names : List (List ℕ)) (i : ℕ) (x y : List ℕ) → 0 < i → x ≡ get_or names (i - 1) [] → y ≡ get_or names i [] → slice_cmp nat_cmp x y ≡ Less → RiseBelow names i → RiseBelow names (i + 1)
rise_more names i x y some is_x is_y less below k lt = by (cases_eq (k + 1) i)
  where
    by : (k + 1 ≡ i) ⊎ (k + 1 ≡ i → ⊥) → slice_cmp nat_cmp (get_or names k []) (get_or names (k + 1) []) ≡ Less
    by (inl e) =
        let before : i - 1 ≡ k = omega (arith, e) in
        subst (λ (n : ℕ). slice_cmp nat_cmp (get_or names k []) (get_or names n []) ≡ Less) (sym e)
        (subst (λ (n : ℕ). slice_cmp nat_cmp (get_or names n []) (get_or names i []) ≡ Less) before (ap₂ (slice_cmp nat_cmp) (sym is_x) (sym is_y) ∙ less))
    by (inr other) = below k (omega (arith, lt, other))

pub rises : (names : List (List ℕ)) → RiseBelow names (length names) → NamesRise names
rises names below = sorted_from_all_adjacent nat_list_cmp_total names [] below

second_above : (x : List ℕ) (xs : List (List ℕ)) → AllByRecursion (λ y. slice_cmp nat_cmp x y ≡ Less) xs → (d : List ℕ) → 0 < length xs → slice_cmp nat_cmp x (get_or xs 0 d) ≡ Less
second_above x [] all d lt = absurd (omega (arith, lt))
second_above x (y ∷ ys) all d lt = all.0

pub rise_at : (names : List (List ℕ)) → NamesRise names → (k : ℕ) (d : List ℕ) → k + 1 < length names → slice_cmp nat_cmp (get_or names k d) (get_or names (k + 1) d) ≡ Less
unfolding IsStrictlySortedBy
rise_at [] up k d lt = absurd (omega (arith, lt))
rise_at (x ∷ xs) up zero d lt = second_above x xs up.0 d (omega (arith, lt))
rise_at (x ∷ xs) up (suc k) d lt =
    let next : suc (k + 1) ≡ suc k + 1 = omega arith in
    subst (λ (n : ℕ). slice_cmp nat_cmp (get_or xs k d) (get_or (x ∷ xs) n d) ≡ Less) next (rise_at xs up.1 k d (omega (arith, lt)))

-- what stands at a place, whatever would stand behind the end
pub at_place : (names : List (List ℕ)) (i : ℕ) (x : List ℕ) → i < length names → x ≡ get_or names i x → x ≡ get_or names i []
at_place names i x inside is = is ∙ get_or_default names i x [] inside

-- the name of what stands at a place
pub named_at : (pieces : List Piece) (i : ℕ) (p : Piece) → i < length pieces → (get_or pieces i p).name ≡ get_or (map (λ q. q.name) pieces) i []
named_at pieces i p inside = sym (get_or-map (λ (q : Piece). q.name) pieces i p [] inside)

-- two that stand in order where the names rise
pub rise_pair : (names : List (List ℕ)) (i : ℕ) (x y : List ℕ) → 0 < i → i < length names → x ≡ get_or names (i - 1) [] → y ≡ get_or names i [] → NamesRise names → slice_cmp nat_cmp x y ≡ Less
rise_pair names i x y some inside is_x is_y up =
    let next : i - 1 + 1 ≡ i = omega (arith, some) in
    ap₂ (slice_cmp nat_cmp) is_x (is_y ∙ ap (λ (n : ℕ). get_or names n []) (sym next)) ∙ rise_at names up (i - 1) [] (omega (arith, some, inside))

pub rise_below_all : (names : List (List ℕ)) (i : ℕ) → length names ≤ i → RiseBelow names i → NamesRise names
rise_below_all names i past below = rises names (λ k lt. below k (omega (arith, lt, past)))
