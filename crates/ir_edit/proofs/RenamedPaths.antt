-- What is available in a function is available under other numbers.
use Rattle.std.proofs.Common.{◌≡◌, ℕ, suc, ◌<◌, max, nat_eq, ◌&&◌, ◌||◌, ◌⊎◌, inl, inr, Bool, true, false, List, [], ◌∷◌, ◌++◌, Option, Some, None, option_map, length, take, refl, sym, ◌∙◌, ap, subst, arith, if◌then◌else◌}
use Rattle.std.specs.Prelude.{slice_get}
use Rattle.std.specs.List.{list_any}
use Rattle.std.proofs.lemmas.Bool.Decides.{nat_tests}
use Rattle.std.proofs.lemmas.List.{length-map, map-append, take-map}
use Rattle.std.proofs.lemmas.Option.{slice_get-map}
use Rattle.ir_tree.specs.Flow.{AtEnds, Available, AvailableAt, AvailableAtEnd, IsJustified, Justified, availability, defined_before, defined_in, definitions, edges, entry_row, holds, line_count, locals, parameters, phi_locals, results, room}
use Rattle.ir_tree.specs.declared.block.Block.{Block}
use Rattle.ir_tree.specs.declared.function.Function.{Function}
use Rattle.ir_tree.specs.Edited.{renamed}
use Rattle.ir_edit.specs.OneToOne.{IsOneToOne}
use Rattle.ir_edit.proofs.RenamedParts.{block_under, definitions_under, edges_under, holds_under, line_under, locals_under, parameters_under, phi_locals_under, results_under}
use Rattle.ir_edit.proofs.Squares.{or_cases, or_left, or_right}

same_number : (x y : ℕ) → nat_eq x y ≡ true → x ≡ y
same_number x y h = grind (arith, nat_tests)

is_same : (x : ℕ) → nat_eq x x ≡ true
is_same x = grind (arith, nat_tests)

both_true : (a b : Bool) → a ≡ true → b ≡ true → (a && b) ≡ true
both_true true b h g = g
both_true false b h g = absurd cc

first_true : (a b : Bool) → (a && b) ≡ true → a ≡ true
first_true true b h = refl
first_true false b h = absurd cc

second_true : (a b : Bool) → (a && b) ≡ true → b ≡ true
second_true true b h = h
second_true false b h = absurd cc

-- an element that passes
any_in : (p : ℕ → Bool) (xs : List ℕ) (x : ℕ) → holds xs x ≡ true → p x ≡ true → list_any p xs ≡ true
any_in p [] x h passes = absurd cc
any_in p (y ∷ ys) x h passes = at (or_cases (nat_eq x y) (holds ys x) h) (λ g. any_in p ys x g passes)
  where
    at : (nat_eq x y ≡ true) ⊎ (holds ys x ≡ true) → (holds ys x ≡ true → list_any p ys ≡ true) → (p y || list_any p ys) ≡ true
    at (inl e) more = or_left (p y) (list_any p ys) (ap p (sym (same_number x y e)) ∙ passes)
    at (inr g) more = or_right (p y) (list_any p ys) (more g)

abbrev Passes : (ℕ → Bool) → List ℕ → Type 0
Passes p xs = (x : ℕ) × (holds xs x ≡ true) × (p x ≡ true)

any_out : (p : ℕ → Bool) (xs : List ℕ) → list_any p xs ≡ true → Passes p xs
any_out p [] h = absurd cc
any_out p (y ∷ ys) h = at (or_cases (p y) (list_any p ys) h) (any_out p ys)
  where
    at : (p y ≡ true) ⊎ (list_any p ys ≡ true) → (list_any p ys ≡ true → Passes p ys) → Passes p (y ∷ ys)
    at (inl e) more = (y, or_left (nat_eq y y) (holds ys y) (is_same y), e)
    at (inr g) more = let r : Passes p ys = more g in (r.0, or_right (nat_eq r.0 y) (holds ys r.0) r.1, r.2)

has_room : (xs : List ℕ) (x : ℕ) → holds xs x ≡ true → x < room xs
has_room [] x h = absurd cc
has_room (y ∷ ys) x h = at (or_cases (nat_eq x y) (holds ys x) h) (has_room ys x)
  where
    at : (nat_eq x y ≡ true) ⊎ (holds ys x ≡ true) → (holds ys x ≡ true → x < room ys) → x < max (suc y) (room ys)
    at (inl e) more = let same : x ≡ y = same_number x y e in omega (arith, same)
    at (inr g) more = let lt : x < room ys = more g in omega (arith, lt)

module _ (new : ℕ → ℕ) (apart : IsOneToOne new) (f : Function) where
  defined_under : (o : Option Block) (x : ℕ) → defined_in (option_map (block_under new) o) (new x) ≡ defined_in o x
  defined_under None x = refl
  defined_under (Some b) x = ap (λ (l : List ℕ). holds l (new x)) (definitions_under new b) ∙ holds_under new apart (definitions b) x

  defined_in_under : (b x : ℕ) → defined_in (slice_get (renamed new f).blocks b) (new x) ≡ defined_in (slice_get f.blocks b) x
  defined_in_under b x = ap (λ (o : Option Block). defined_in o (new x)) (slice_get-map (block_under new) f.blocks b) ∙ defined_under (slice_get f.blocks b) x

  -- a family of marks under other numbers
  abbrev marks_under : (ℕ → ℕ → Bool) → ℕ → ℕ → Bool
  marks_under rows b y = list_any (λ x. nat_eq (new x) y && rows b x) (locals f)

  mark_under : (rows : ℕ → ℕ → Bool) (b x : ℕ) → holds (locals f) x ≡ true → rows b x ≡ true → marks_under rows b (new x) ≡ true
  mark_under rows b x there mark =
      any_in (λ z. nat_eq (new z) (new x) && rows b z) (locals f) x there (both_true (nat_eq (new x) (new x)) (rows b x) (is_same (new x)) mark)

  at_ends_under : (rows : ℕ → ℕ → Bool) (x : ℕ) → holds (locals f) x ≡ true → (ps : List ℕ)
      → AtEnds (availability f) rows x ps → AtEnds (availability (renamed new f)) (marks_under rows) (new x) ps
  at_ends_under rows x there [] h = tt
  at_ends_under rows x there (p ∷ ps) h = (at (or_cases (rows p x) (defined_in (slice_get f.blocks p) x) h.0), at_ends_under rows x there ps h.1)
    where
      at : (rows p x ≡ true) ⊎ (defined_in (slice_get f.blocks p) x ≡ true)
          → (marks_under rows p (new x) || defined_in (slice_get (renamed new f).blocks p) (new x)) ≡ true
      at (inl e) = or_left (marks_under rows p (new x)) (defined_in (slice_get (renamed new f).blocks p) (new x)) (mark_under rows p x there e)
      at (inr e) = or_right (marks_under rows p (new x)) (defined_in (slice_get (renamed new f).blocks p) (new x)) (defined_in_under p x ∙ e)

  justified_under : (rows : ℕ → ℕ → Bool) (b x : ℕ) → holds (locals f) x ≡ true
      → Justified (availability f) rows b x (entry_row b (parameters f)) → Justified (availability (renamed new f)) (marks_under rows) b (new x) (entry_row b (parameters (renamed new f)))
  justified_under rows b x there = at (nat_eq b 0)
    where
      at : (t : Bool) → Justified (availability f) rows b x (if t then Some (holds (parameters f)) else None)
          → Justified (availability (renamed new f)) (marks_under rows) b (new x) (if t then Some (holds (parameters (renamed new f))) else None)
      at true h = ap (λ (l : List ℕ). holds l (new x)) (parameters_under new f) ∙ holds_under new apart (parameters f) x ∙ h
      at false h = subst (AtEnds (availability (renamed new f)) (marks_under rows) (new x)) (sym (edges_under new apart f b)) (at_ends_under rows x there (edges f b) h)

  family_under : (rows : ℕ → ℕ → Bool) → IsJustified (availability f) rows → IsJustified (availability (renamed new f)) (marks_under rows)
  family_under rows just b y mark = at (any_out (λ x. nat_eq (new x) y && rows b x) (locals f) mark)
    where
      at : Passes (λ x. nat_eq (new x) y && rows b x) (locals f)
          → (b < length (renamed new f).blocks) × (y < room (locals (renamed new f))) × Justified (availability (renamed new f)) (marks_under rows) b y (entry_row b (parameters (renamed new f)))
      at (x, there, passes) =
          let same : new x ≡ y = same_number (new x) y (first_true (nat_eq (new x) y) (rows b x) passes) in
          let old : (b < length f.blocks) × (x < room (locals f)) × Justified (availability f) rows b x (entry_row b (parameters f)) = just b x (second_true (nat_eq (new x) y) (rows b x) passes) in (
            subst (λ (n : ℕ). b < n) (sym (length-map f.blocks (block_under new))) old.0,
            subst (λ (z : ℕ). z < room (locals (renamed new f))) same
                (has_room (locals (renamed new f)) (new x) (ap (λ (l : List ℕ). holds l (new x)) (locals_under new f) ∙ holds_under new apart (locals f) x ∙ there)),
            subst (λ (z : ℕ). Justified (availability (renamed new f)) (marks_under rows) b z (entry_row b (parameters (renamed new f)))) same (justified_under rows b x there old.2),
          )

  pub available_under : (b x : ℕ) → holds (locals f) x ≡ true → Available f b x → Available (renamed new f) b (new x)
  available_under b x there (rows, just, mark) = (marks_under rows, family_under rows just, mark_under rows b x there mark)

  before_under : (o : Option Block) (k x : ℕ) → defined_before (option_map (block_under new) o) k (new x) ≡ defined_before o k x
  before_under None k x = refl
  before_under (Some b) k x =
      ap (λ (l : List ℕ). holds l (new x))
      ((λ i. phi_locals_under new b i ++ (ap results (take-map (line_under new) k b.lines) ∙ results_under new (take k b.lines)) i)
      ∙ sym (map-append new (phi_locals b) (results (take k b.lines))))
      ∙ holds_under new apart (phi_locals b ++ results (take k b.lines)) x

  pub available_at_under : (b k x : ℕ) → holds (locals f) x ≡ true → AvailableAt f b k x → AvailableAt (renamed new f) b k (new x)
  available_at_under b k x there (inl h) = inl (available_under b x there h)
  available_at_under b k x there (inr h) =
      inr (ap (λ (o : Option Block). defined_before o k (new x)) (slice_get-map (block_under new) f.blocks b) ∙ before_under (slice_get f.blocks b) k x ∙ h)

  count_under : (o : Option Block) → line_count (option_map (block_under new) o) ≡ line_count o
  count_under None = refl
  count_under (Some b) = length-map b.lines (line_under new)

  pub available_at_end_under : (b x : ℕ) → holds (locals f) x ≡ true → AvailableAtEnd f b x → AvailableAtEnd (renamed new f) b (new x)
  available_at_end_under b x there h =
      subst (λ (k : ℕ). AvailableAt (renamed new f) b k (new x)) (sym (ap line_count (slice_get-map (block_under new) f.blocks b) ∙ count_under (slice_get f.blocks b)))
      (available_at_under b (line_count (slice_get f.blocks b)) x there h)
