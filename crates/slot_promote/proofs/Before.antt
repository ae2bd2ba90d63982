-- In a block that is reached no local is available before its own definition.
use Rattle.std.proofs.Common.{◌≡◌, ℕ, zero, suc, ◌+◌, ◌≤◌, ◌<◌, nat_eq, Bool, true, false, ◌⊎◌, inl, inr, List, [], ◌∷◌, ◌++◌, Option, Some, None, refl, sym, ◌∙◌, ap, subst, arith, if◌then◌else◌}
use Rattle.std.specs.Prelude.{slice_get, flat_map}
use Rattle.std.proofs.lemmas.Bool.{eq-eqb, eqb-true, or_cases}
use Rattle.ir_tree.specs.Flow.{Among, Available, Path, Reachable, defined_in, definitions, holds, locals, parameters}
use Rattle.ir_tree.specs.Formed.{Formed, numbers}
use Rattle.ir_tree.specs.declared.block.Block.{Block}
use Rattle.ir_tree.specs.declared.function.Function.{Function}
use Rattle.ir_flow.specs.Laws.{Passed}
use Rattle.ir_flow.proofs.Availability.{available-passed}
use Rattle.ir_edit.proofs.Tally.{tally, tally_both, tally_once, tally_same}

-- ---- paths that come to a block for the first time

abbrev First : Function → ℕ → Type 0
First f b = (qs : List ℕ) × (Path f qs b × (Among b qs → ⊥))

abbrev Sought : Function → ℕ → List ℕ → Type 0
Sought f b ps = First f b ⊎ (Among b ps → ⊥)

-- a path to c comes to b on its way, or b is none of its blocks
sought : (f : Function) (b c : ℕ) (ps : List ℕ) → Path f ps c → Sought f b (c ∷ ps)
sought f b c [] path = by (nat_eq b c) refl
  where
    by : (t : Bool) → nat_eq b c ≡ t → Sought f b (c ∷ [])
    by true is = inl ([], (subst (λ (n : ℕ). Path f [] n) (sym (eqb-true b c is)) path, λ h. h))
    by false other = inr (λ h. elim h [ inl s ↦ let t : true ≡ false = sym (eq-eqb b c s) ∙ other in absurd (cc t) | inr n ↦ n ])
sought f b c (p ∷ ps) path = by (sought f b p ps path.1)
  where
    by : Sought f b (p ∷ ps) → Sought f b (c ∷ p ∷ ps)
    by (inl first) = inl first
    by (inr none) = at (nat_eq b c) refl
      where
        at : (t : Bool) → nat_eq b c ≡ t → Sought f b (c ∷ p ∷ ps)
        at true is = inl (p ∷ ps, (subst (λ (n : ℕ). Path f (p ∷ ps) n) (sym (eqb-true b c is)) path, none))
        at false other = inr (λ h. elim h [ inl s ↦ let t : true ≡ false = sym (eq-eqb b c s) ∙ other in absurd (cc t) | inr n ↦ none n ])

pub first_path : (f : Function) (b : ℕ) → Reachable f b → First f b
first_path f b (ps, path) = by (sought f b b ps path)
  where
    by : Sought f b (b ∷ ps) → First f b
    by (inl first) = first
    by (inr none) = absurd (none (inl refl))

pub apart : (b q : ℕ) → (b ≡ q → ⊥) → (b < q) ⊎ (q < b)
apart zero zero other = absurd (other refl)
apart zero (suc q) other = inl (omega arith)
apart (suc b) zero other = inr (omega arith)
apart (suc b) (suc q) other = by (apart b q (λ s. other (ap suc s)))
  where
    by : (b < q) ⊎ (q < b) → (suc b < suc q) ⊎ (suc q < suc b)
    by (inl lt) = inl (omega (arith, lt))
    by (inr lt) = inr (omega (arith, lt))

-- ---- a local is defined once

pub tally_held : (x : ℕ) (xs : List ℕ) → holds xs x ≡ true → 1 ≤ tally x xs
tally_held x [] h = absurd cc
tally_held x (y ∷ ys) h = by (or_cases (nat_eq x y) (holds ys x) h) (tally_held x ys)
  where
    by : (nat_eq x y ≡ true) ⊎ (holds ys x ≡ true) → (holds ys x ≡ true → 1 ≤ tally x ys) → 1 ≤ tally x (y ∷ ys)
    by (inl e) more = let one : 1 ≤ (if nat_eq x y then 1 else 0) = tally_same x y (eqb-true x y e) in omega (arith, one)
    by (inr h) more = let some : 1 ≤ tally x ys = more h in omega (arith, some)

-- how often the block at a place defines x
abbrev pub count_in : ℕ → Option Block → ℕ
count_in x None = 0
count_in x (Some b) = tally x (definitions b)

pub one_block : (x : ℕ) (bs : List Block) (i : ℕ) → count_in x (slice_get bs i) ≤ tally x (flat_map definitions bs)
one_block x [] i = omega arith
one_block x (b ∷ bs) zero = let all : tally x (definitions b ++ flat_map definitions bs) ≡ tally x (definitions b) + tally x (flat_map definitions bs) = tally_both x (definitions b) (flat_map definitions bs) in omega (arith, all)
one_block x (b ∷ bs) (suc i) =
    let all : tally x (definitions b ++ flat_map definitions bs) ≡ tally x (definitions b) + tally x (flat_map definitions bs) = tally_both x (definitions b) (flat_map definitions bs) in
    let more : count_in x (slice_get bs i) ≤ tally x (flat_map definitions bs) = one_block x bs i in
    omega (arith, all, more)

two_blocks : (x : ℕ) (bs : List Block) (i j : ℕ) → i < j → count_in x (slice_get bs i) + count_in x (slice_get bs j) ≤ tally x (flat_map definitions bs)
two_blocks x [] i j lt = omega arith
two_blocks x (b ∷ bs) zero zero lt = absurd (omega (arith, lt))
two_blocks x (b ∷ bs) zero (suc j) lt =
    let all : tally x (definitions b ++ flat_map definitions bs) ≡ tally x (definitions b) + tally x (flat_map definitions bs) = tally_both x (definitions b) (flat_map definitions bs) in
    let more : count_in x (slice_get bs j) ≤ tally x (flat_map definitions bs) = one_block x bs j in
    omega (arith, all, more)
two_blocks x (b ∷ bs) (suc i) zero lt = absurd (omega (arith, lt))
two_blocks x (b ∷ bs) (suc i) (suc j) lt =
    let all : tally x (definitions b ++ flat_map definitions bs) ≡ tally x (definitions b) + tally x (flat_map definitions bs) = tally_both x (definitions b) (flat_map definitions bs) in
    let more : count_in x (slice_get bs i) + count_in x (slice_get bs j) ≤ tally x (flat_map definitions bs) = two_blocks x bs i j (omega (arith, lt)) in
    omega (arith, all, more)

module _ (f : Function) (formed : Formed f) where
  -- how often a local is defined: as a parameter, or in blocks
  pub counted_once : (x : ℕ) → tally x (parameters f) + (tally x (flat_map definitions f.blocks) + tally x (numbers f)) ≤ 1
  counted_once x =
      let once : tally x (locals f ++ numbers f) ≤ 1 = tally_once x (locals f ++ numbers f) formed.once in
      let both : tally x (locals f ++ numbers f) ≡ tally x (locals f) + tally x (numbers f) = tally_both x (locals f) (numbers f) in
      let parts : tally x (locals f) ≡ tally x (parameters f) + tally x (flat_map definitions f.blocks) = tally_both x (parameters f) (flat_map definitions f.blocks) in
      omega (arith, once, both, parts)

  -- the block at a place that defines x is the only one
  pub only_block : (x i j : ℕ) → 1 ≤ count_in x (slice_get f.blocks i) → 1 ≤ count_in x (slice_get f.blocks j) → (i < j) ⊎ (j < i) → ⊥
  only_block x i j a b (inl lt) =
      let two : count_in x (slice_get f.blocks i) + count_in x (slice_get f.blocks j) ≤ tally x (flat_map definitions f.blocks) = two_blocks x f.blocks i j lt in
      let once : tally x (parameters f) + (tally x (flat_map definitions f.blocks) + tally x (numbers f)) ≤ 1 = counted_once x in
      omega (arith, a, b, two, once)
  only_block x i j a b (inr lt) =
      let two : count_in x (slice_get f.blocks j) + count_in x (slice_get f.blocks i) ≤ tally x (flat_map definitions f.blocks) = two_blocks x f.blocks j i lt in
      let once : tally x (parameters f) + (tally x (flat_map definitions f.blocks) + tally x (numbers f)) ≤ 1 = counted_once x in
      omega (arith, a, b, two, once)

  counts : (x : ℕ) (o : Option Block) → defined_in o x ≡ true → 1 ≤ count_in x o
  counts x None h = absurd cc
  counts x (Some b) h = tally_held x (definitions b) h

  not_passed : (x b : ℕ) → 1 ≤ count_in x (slice_get f.blocks b) → (qs : List ℕ) → (Among b qs → ⊥) → Passed f x qs → ⊥
  not_passed x b here [] away passed =
      let some : 1 ≤ tally x (parameters f) = tally_held x (parameters f) passed in
      let more : count_in x (slice_get f.blocks b) ≤ tally x (flat_map definitions f.blocks) = one_block x f.blocks b in
      let once : tally x (parameters f) + (tally x (flat_map definitions f.blocks) + tally x (numbers f)) ≤ 1 = counted_once x in
      omega (arith, some, more, once, here)
  not_passed x b here (q ∷ qs) away (inl defined) = only_block x b q here (counts x (slice_get f.blocks q) defined) (apart b q (λ s. away (inl s)))
  not_passed x b here (q ∷ qs) away (inr passed) = not_passed x b here qs (λ h. away (inr h)) passed

  -- in a block that is reached what the block defines isn't available at its start
  pub not_before : (b x : ℕ) → Reachable f b → 1 ≤ count_in x (slice_get f.blocks b) → Available f b x → ⊥
  not_before b x r here available = by (first_path f b r)
    where
      by : First f b → ⊥
      by (qs, (path, away)) = not_passed x b here qs away (available-passed f b x available qs path)
