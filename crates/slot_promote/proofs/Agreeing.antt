-- Two functions that have the same blocks where they are reached: each is better than the other.
use Rattle.std.proofs.Common.{◌≡◌, ℕ, zero, suc, ◌≤◌, nat_eq, Bool, true, false, List, [], ◌∷◌, Some, None, ◌⊎◌, inr, refl, sym, ◌∙◌, ap, arith, if◌then◌else◌}
use Rattle.std.specs.Prelude.{slice_get}
use Rattle.ir_tree.specs.Flow.{edges, successors}
use Rattle.ir_tree.specs.Rules.{place}
use Rattle.ir_tree.specs.declared.block.Block.{Block}
use Rattle.ir_tree.specs.declared.function.Function.{Function}
use Rattle.ir_meaning.specs.Act.{Leads', exit_of, find_block, phis_bound}
use Rattle.ir_meaning.specs.Frame.{Locals, Signature, value_of}
use Rattle.ir_meaning.specs.Near.{BetterThan}
use Rattle.ir_meaning.specs.Program.{Program}
use Rattle.ir_meaning.specs.Formed.{IsFormed}
use Rattle.ir_meaning.specs.Reshape.{IsShape, IsStuck, LeavesAlike, Spot, spot_of}
use Rattle.ir_meaning.proofs.Blocks.Reshaped.{shape_better}
use Rattle.ir_meaning.specs.Counted.{times}
use Rattle.ir_meaning.proofs.Counting.{among_times, edges_from, out_to}
use Rattle.ir_meaning.proofs.Exits.{exit_among, number_found}
use Rattle.slot_promote.proofs.Reached.{next_reached, reached}

-- the first block of a number stands at the number's place
pub find_is : (bs : List Block) (n : ℕ) → find_block bs n ≡ slice_get bs (place bs n)
find_is [] n = refl
find_is (b ∷ bs) n = by (nat_eq b.number n) (find_is bs n)
  where
    by : (t : Bool) → find_block bs n ≡ slice_get bs (place bs n) → (if t then Some b else find_block bs n) ≡ slice_get (b ∷ bs) (if t then zero else suc (place bs n))
    by true h = refl
    by false h = h

-- a block to which a reached one leads is reached
pub target_reached : (f : Function) (p m : ℕ) (b z : Block) → slice_get f.blocks p ≡ Some b → reached f p ≡ true → 1 ≤ times m (successors b.end) → find_block f.blocks m ≡ Some z → reached f (place f.blocks m) ≡ true
target_reached f p m b z at_p r leads found =
    let at_m : slice_get f.blocks (place f.blocks m) ≡ Some z = sym (find_is f.blocks m) ∙ found in
    let number : z.number ≡ m = number_found f.blocks m z found in
    let many : times p (edges f (place f.blocks m)) ≡ times m (successors b.end) = edges_from f (place f.blocks m) z at_m p ∙ ap (out_to z.number) at_p ∙ ap (λ (k : ℕ). times k (successors b.end)) number in
    next_reached f p (place f.blocks m) r (among_times p (edges f (place f.blocks m)) (omega (arith, many, leads)))

-- the functions have the same blocks at the places of a set that has the entry, and to which alone those blocks lead
pub record Agree (first second : Function) (r : ℕ → Bool) : Type 0 where
  pub params : first.params ≡ second.params
  pub same : (p : ℕ) → r p ≡ true → slice_get first.blocks p ≡ slice_get second.blocks p
  pub places : (n : ℕ) → place first.blocks n ≡ place second.blocks n
  pub entry : r 0 ≡ true
  pub next : (p m : ℕ) (y z : Block) → r p ≡ true → slice_get second.blocks p ≡ Some y → 1 ≤ times m (successors y.end) → find_block second.blocks m ≡ Some z → r (place second.blocks m) ≡ true

module _ (first second : Function) (r : ℕ → Bool) (agree : Agree first second r) where
  record Here (a b : Spot) : Type 0 where
    same_spot : a ≡ b
    at_place : ℕ
    block : Block
    found : slice_get second.blocks at_place ≡ Some block
    inside : r at_place ≡ true
    end_is : b.end ≡ block.end

  abbrev Near : ℕ → Spot → Spot → Type 0
  Near k a b = Here a b

  found_too : (m : ℕ) (z : Block) → r (place second.blocks m) ≡ true → find_block second.blocks m ≡ Some z → find_block first.blocks m ≡ Some z
  found_too m z inside found =
      find_is first.blocks m ∙ ap (slice_get first.blocks) (agree.places m) ∙ agree.same (place second.blocks m) inside ∙ sym (find_is second.blocks m) ∙ found

  abbrev Enters : Signature → Locals → Spot → Spot → Block → ℕ → Type 0
  Enters sig locals a b y n = (x : Block) × (find_block first.blocks n ≡ Some x) × (phis_bound sig locals a.block x.phis locals ≡ phis_bound sig locals b.block y.phis locals) × Near 0 (spot_of x) (spot_of y)

  enters : (sig : Signature) (locals : Locals) (a b : Spot) → Here a b → (n : ℕ) (y : Block) → exit_of (value_of sig locals) b.end ≡ Leads' n → find_block second.blocks n ≡ Some y → Enters sig locals a b y n
  enters sig locals a b h n y leads found =
      let some : 1 ≤ times n (successors h.block.end) = exit_among (value_of sig locals) h.block.end n (ap (exit_of (value_of sig locals)) (sym h.end_is) ∙ leads) in
      let inside : r (place second.blocks n) ≡ true = agree.next h.at_place n h.block y h.inside h.found some found in (
        y,
        found_too n y inside found,
        ap (λ (s : Spot). phis_bound sig locals s.block y.phis locals) h.same_spot,
        record { same_spot = refl; at_place = place second.blocks n; block = y; found = sym (find_is second.blocks n) ∙ found; inside = inside; end_is = refl },
      )

  abbrev Leaves : Signature → Locals → Spot → Spot → Type 0
  Leaves sig locals a b = IsStuck (exit_of (value_of sig locals) b.end) ⊎ LeavesAlike Near 0 first second a b sig locals

  leaves : (a b : Spot) → Here a b → (sig : Signature) (locals : Locals) → Leaves sig locals a b
  leaves a b h sig locals = inr (record { exit = ap (λ (s : Spot). exit_of (value_of sig locals) s.end) h.same_spot; next = λ n y leads found. enters sig locals a b h n y leads found })

  same_block : (y : Block) (xs : List Block) → first.blocks ≡ xs → slice_get first.blocks 0 ≡ Some y → (zs : List Block) × (first.blocks ≡ y ∷ zs)
  same_block y [] is at_0 = absurd (let none : None ≡ Some y = sym (ap (λ (bs : List Block). slice_get bs 0) is) ∙ at_0 in cc none)
  same_block y (x ∷ xs) is at_0 =
      let some : Some x ≡ Some y = sym (ap (λ (bs : List Block). slice_get bs 0) is) ∙ at_0 in
      (xs, is ∙ ap (λ (b : Block). b ∷ xs) (cc some))

  shape : (y : Block) (ys : List Block) → second.blocks ≡ y ∷ ys → IsShape Near 0 first second
  shape y ys is =
      let at_0 : slice_get second.blocks 0 ≡ Some y = ap (λ (bs : List Block). slice_get bs 0) is in
      let front : (zs : List Block) × (first.blocks ≡ y ∷ zs) = same_block y first.blocks refl (agree.same 0 agree.entry ∙ at_0) in
      record {
        line = λ k a b l rest h e. (
          rest,
          ap (λ (s : Spot). s.rest) h.same_spot ∙ e,
          record { same_spot = ap (λ (s : Spot). record s { rest = rest }) h.same_spot; at_place = h.at_place; block = h.block; found = h.found; inside = h.inside; end_is = h.end_is },
        );
        last = λ k a b h e. inr (ap (λ (s : Spot). s.rest) h.same_spot ∙ e, λ sig locals. leaves a b h sig locals);
        params = agree.params;
        entry = (y, y, front.0, ys, front.1, is, record { same_spot = refl; at_place = 0; block = y; found = at_0; inside = agree.entry; end_is = refl });
      }

  pub agreeing_better : (p : Program) → IsFormed p → (y : Block) (ys : List Block) → second.blocks ≡ y ∷ ys → BetterThan p 1 first second
  agreeing_better p formed y ys is = shape_better p formed Near 0 first second (shape y ys is)
