-- Where blocks stand before and after a join.
use Rattle.std.proofs.Common.{◌≡◌, ℕ, zero, suc, ◌≤◌, nat_eq, Bool, true, false, ◌⊎◌, inl, inr, List, [], ◌∷◌, Some, refl, sym, ◌∙◌, ap, subst, arith, if◌then◌else◌}
use Rattle.std.specs.Prelude.{slice_get}
use Rattle.std.proofs.lemmas.Bool.{eq-eqb, eqb-true, eqb-false, ne_eqb, or_cases, or_left, or_right}
use Rattle.ir_tree.specs.Flow.{Among, edges, holds, successors}
use Rattle.ir_tree.specs.Rules.{place}
use Rattle.ir_tree.specs.declared.block.Block.{Block}
use Rattle.ir_tree.specs.declared.block.Terminator.{Terminator}
use Rattle.ir_tree.specs.declared.function.Function.{Function}
use Rattle.ir_meaning.specs.Counted.{times}
use Rattle.ir_meaning.proofs.Counting.{among_times, edges_from, number_at, numbers_in, out_to, place_is}
use Rattle.block_trim.specs.Merged.{CanJoin, IsOneOf, behind_entry, joined, joined_block, joined_blocks}
use Rattle.block_trim.proofs.Better.{only_from}
use Rattle.block_trim.proofs.Fitting.{Fits, Stood, fits_still, same_block, stood}

-- ---- blocks by their numbers

-- a number of these blocks is that of one of them
pub block_named : (bs : List Block) (n : ℕ) → holds (numbers_in bs) n ≡ true → (i : ℕ) × (b : Block) × (slice_get bs i ≡ Some b) × (b.number ≡ n)
block_named [] n h = absurd cc
block_named (x ∷ bs) n h = by (or_cases (nat_eq n x.number) (holds (numbers_in bs) n) h) (block_named bs n)
  where
    further : (i : ℕ) × (b : Block) × (slice_get bs i ≡ Some b) × (b.number ≡ n) → (i : ℕ) × (b : Block) × (slice_get (x ∷ bs) i ≡ Some b) × (b.number ≡ n)
    further (i, b, at, number) = (suc i, b, at, number)

    by : (nat_eq n x.number ≡ true) ⊎ (holds (numbers_in bs) n ≡ true) → (holds (numbers_in bs) n ≡ true → (i : ℕ) × (b : Block) × (slice_get bs i ≡ Some b) × (b.number ≡ n))
        → (i : ℕ) × (b : Block) × (slice_get (x ∷ bs) i ≡ Some b) × (b.number ≡ n)
    by (inl e) more = (0, x, refl, sym (eqb-true n x.number e))
    by (inr g) more = further (more g)

pub number_there : (bs : List Block) (i : ℕ) (b : Block) → slice_get bs i ≡ Some b → holds (numbers_in bs) b.number ≡ true
number_there [] i b e = absurd cc
number_there (x ∷ bs) zero b e = let same : x ≡ b = cc e in or_left (nat_eq b.number x.number) (holds (numbers_in bs) b.number) (eq-eqb b.number x.number (ap (λ (z : Block). z.number) (sym same)))
number_there (x ∷ bs) (suc i) b e = or_right (nat_eq b.number x.number) (holds (numbers_in bs) b.number) (number_there bs i b e)

-- a block of another number stays
goes_on : (a : ℕ) (y : Block) (bs : List Block) (i : ℕ) (b : Block) → slice_get bs i ≡ Some b → nat_eq y.number b.number ≡ false → IsOneOf (joined_blocks a y bs) (joined_block a y b)
goes_on a y [] i b e r = absurd cc
goes_on a y (x ∷ bs) zero b e r =
    let same : x ≡ b = cc e in (
      0,
      subst (λ (z : Block). slice_get (if nat_eq y.number z.number then joined_blocks a y bs else joined_block a y z ∷ joined_blocks a y bs) 0 ≡ Some (joined_block a y b)) (sym same)
          (ap (λ (t : Bool). slice_get (if t then joined_blocks a y bs else joined_block a y b ∷ joined_blocks a y bs) 0) r),
    )
goes_on a y (x ∷ bs) (suc i) b e r = by (nat_eq y.number x.number) (goes_on a y bs i b e r)
  where
    by : (t : Bool) → IsOneOf (joined_blocks a y bs) (joined_block a y b) → IsOneOf (if t then joined_blocks a y bs else joined_block a y x ∷ joined_blocks a y bs) (joined_block a y b)
    by true (j, at) = (j, at)
    by false (j, at) = (suc j, at)

-- ---- one join

module _ (f : Function) (fits : Fits f) (a y : Block) (can : CanJoin f a y) where
  abbrev g : Function
  g = joined a.number y f

  -- a block at its old and its new place
  pub record Stays (i j : ℕ) (b : Block) : Type 0 where
    pub old : slice_get f.blocks i ≡ Some b
    pub new : slice_get g.blocks j ≡ Some (joined_block a.number y b)
    pub apart : nat_eq y.number b.number ≡ false

  pub stays_from : (i : ℕ) (b : Block) → slice_get f.blocks i ≡ Some b → nat_eq y.number b.number ≡ false → (j : ℕ) × Stays i j b
  stays_from i b at apart =
      let there : IsOneOf g.blocks (joined_block a.number y b) = goes_on a.number y f.blocks i b at apart in
      (there.0, record { old = at; new = there.1; apart = apart })

  pub stays_at : (j : ℕ) (c : Block) → slice_get g.blocks j ≡ Some c → (i : ℕ) × (b : Block) × (c ≡ joined_block a.number y b) × Stays i j b
  stays_at j c at = by (stood a.number y f.blocks c (j, at))
    where
      by : Stood a.number y f.blocks c → (i : ℕ) × (b : Block) × (c ≡ joined_block a.number y b) × Stays i j b
      by (b, (i, old), apart, is) = (i, b, is, record { old = old; new = at ∙ ap (λ (x : Block). Some x) is; apart = apart })

  pub old_place : (i j : ℕ) (b : Block) → Stays i j b → place f.blocks b.number ≡ i
  old_place i j b k = place_is f.blocks fits.once i b k.old

  pub new_place : (i j : ℕ) (b : Block) → Stays i j b → place g.blocks b.number ≡ j
  new_place i j b k = place_is g.blocks (fits_still f fits a y can).once j (joined_block a.number y b) k.new

  -- ---- the two blocks

  pub first : (j : ℕ) × Stays can.first.0 j a
  first = stays_from can.first.0 a can.first.1 (ne_eqb y.number a.number can.other)

  second_place : (bs : List Block) → IsOneOf (behind_entry bs) y → (k : ℕ) × (slice_get bs (suc k) ≡ Some y)
  second_place [] (i, at) = absurd cc
  second_place (x ∷ bs) (i, at) = (i, at)

  pub second : (k : ℕ) × (slice_get f.blocks (suc k) ≡ Some y)
  second = second_place f.blocks can.second

  pub is_first : (b : Block) → IsOneOf f.blocks b → nat_eq a.number b.number ≡ true → a ≡ b
  is_first b is e = same_block f.blocks fits.once a b can.first is (eqb-true a.number b.number e)

  pub is_second : (b : Block) → IsOneOf f.blocks b → nat_eq y.number b.number ≡ true → y ≡ b
  is_second b is e = same_block f.blocks fits.once y b (suc second.0, second.1) is (eqb-true y.number b.number e)

  pub first_leads : (i : ℕ) (b : Block) → slice_get f.blocks i ≡ Some b → nat_eq a.number b.number ≡ true → Among i (edges f (suc second.0))
  first_leads i b at e =
      let many : times i (edges f (suc second.0)) ≡ times y.number (successors b.end) = edges_from f (suc second.0) y second.1 i ∙ ap (out_to y.number) at in
      let jumps : times y.number (successors b.end) ≡ 1 =
      ap (λ (c : Block). times y.number (successors c.end)) (sym (is_first b (i, at) e)) ∙ ap (λ (t : Terminator). times y.number (successors t)) can.jumps ∙ ap (λ (t : Bool). if t then 1 else 0) (eq-eqb y.number y.number refl) in
      among_times i (edges f (suc second.0)) (omega (arith, many, jumps))

  -- the other blocks lead to others than the second
  pub leads_apart : (c : Block) → IsOneOf f.blocks c → nat_eq a.number c.number ≡ false → (n : ℕ) → 1 ≤ times n (successors c.end) → nat_eq y.number n ≡ false
  leads_apart c is other n some =
      ne_eqb y.number n (λ s. eqb-false a.number c.number other (sym (only_from f fits a y can c is (subst (λ (m : ℕ). 1 ≤ times m (successors c.end)) (sym s) some))))

  -- ---- the entry stays the entry

  entry_apart : (x : Block) → slice_get f.blocks 0 ≡ Some x → nat_eq y.number x.number ≡ false
  entry_apart x at =
      ne_eqb y.number x.number (λ s.
      let h : 0 ≡ suc second.0 = fits.once 0 (suc second.0) y.number (number_at f.blocks 0 x at ∙ ap (λ (n : ℕ). Some n) (sym s)) (number_at f.blocks (suc second.0) y second.1) in
      omega (arith, h))

  pub entry_kept : (bs : List Block) → f.blocks ≡ bs → (n : ℕ) → nat_eq (place f.blocks n) 0 ≡ nat_eq (place g.blocks n) 0
  entry_kept [] is n = ap (λ (bs : List Block). nat_eq (place bs n) 0) is ∙ sym (ap (λ (bs : List Block). nat_eq (place (joined_blocks a.number y bs) n) 0) is)
  entry_kept (x ∷ xs) is n =
      let new : g.blocks ≡ joined_block a.number y x ∷ joined_blocks a.number y xs =
      ap (joined_blocks a.number y) is ∙ ap (λ (t : Bool). if t then joined_blocks a.number y xs else joined_block a.number y x ∷ joined_blocks a.number y xs) (entry_apart x (ap (λ (bs : List Block). slice_get bs 0) is)) in
      ap (λ (bs : List Block). nat_eq (place bs n) 0) is ∙ by (nat_eq x.number n) ∙ sym (ap (λ (bs : List Block). nat_eq (place bs n) 0) new)
    where
      by : (t : Bool) → nat_eq (if t then 0 else suc (place xs n)) 0 ≡ nat_eq (if t then 0 else suc (place (joined_blocks a.number y xs) n)) 0
      by true = refl
      by false = ne_eqb (suc (place xs n)) 0 (λ e. omega (arith, e)) ∙ sym (ne_eqb (suc (place (joined_blocks a.number y xs) n)) 0 (λ e. omega (arith, e)))

  pub same_entry : (i j : ℕ) (b : Block) → Stays i j b → nat_eq i 0 ≡ nat_eq j 0
  same_entry i j b k = ap (λ (n : ℕ). nat_eq n 0) (sym (old_place i j b k)) ∙ entry_kept f.blocks refl b.number ∙ ap (λ (n : ℕ). nat_eq n 0) (new_place i j b k)
