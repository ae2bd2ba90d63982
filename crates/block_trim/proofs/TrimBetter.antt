-- A function without the blocks that aren't reached is better in every program.
use Rattle.std.proofs.Common.{◌≡◌, ℕ, ◌≤◌, ◌<◌, nat_eq, Bool, true, false, List, [], ◌∷◌, ◌++◌, length, Option, Some, None, map, option_map, ◌⊎◌, inl, inr, refl, sym, ◌∙◌, ap, subst, arith, if◌then◌else◌, append-nil}
use Rattle.std.specs.Prelude.{slice_get}
use Rattle.std.proofs.lemmas.Bool.{eqb-true, eq-eqb}
use Rattle.ir_tree.specs.Flow.{Among, Reachable, edges, leading, leading_to, successors}
use Rattle.ir_tree.specs.declared.block.Block.{Block}
use Rattle.ir_tree.specs.declared.block.Terminator.{Terminator}
use Rattle.ir_tree.specs.declared.block.Terminator.TheVariants.{Unreachable}
use Rattle.ir_tree.specs.declared.function.Function.{Function}
use Rattle.ir_tree.specs.declared.instr.Incoming.{Incoming}
use Rattle.ir_tree.specs.declared.instr.Line.{Line}
use Rattle.ir_tree.specs.declared.instr.Phi.{Phi}
use Rattle.ir_meaning.specs.Act.{Leads', exit_of, find_block, incoming_value, phis_bound}
use Rattle.ir_meaning.specs.Frame.{Locals, Signature, value_of}
use Rattle.ir_meaning.specs.Near.{BetterThan}
use Rattle.ir_meaning.specs.Program.{Program}
use Rattle.ir_meaning.specs.Formed.{IsFormed}
use Rattle.ir_meaning.specs.Reshape.{IsShape, IsStuck, Layout, LeavesAlike, Spot, laid, spot_of}
use Rattle.ir_meaning.proofs.Alike.Itself.{same_better}
use Rattle.ir_meaning.proofs.Blocks.Reshaped.{reshaped_is_better}
use Rattle.ir_meaning.specs.Counted.{times}
use Rattle.ir_meaning.proofs.Counting.{among_times, edges_from, out_to}
use Rattle.ir_meaning.proofs.Exits.{end_in, end_of, exit_among, found_at, number_found}
use Rattle.block_trim.specs.Laws.{TrimIsBetter, TrimIsOne}
use Rattle.block_trim.specs.Trimmed.{AreReached, IsReached, block_in, blocks_in, entries_in, phi_in, trimmed}

-- ---- entries

entry_stays : (sig : Signature) (locals : Locals) (reached : ℕ → Bool) (n : ℕ) → reached n ≡ true → (es : List Incoming) → incoming_value sig locals n (entries_in reached es) ≡ incoming_value sig locals n es
entry_stays sig locals reached n r [] = refl
entry_stays sig locals reached n r (e ∷ es) = by (nat_eq e.from n) (reached e.from) refl refl (entry_stays sig locals reached n r es)
  where
    by : (t u : Bool) → nat_eq e.from n ≡ t → reached e.from ≡ u → incoming_value sig locals n (entries_in reached es) ≡ incoming_value sig locals n es
        → incoming_value sig locals n (if u then e ∷ entries_in reached es else entries_in reached es) ≡ (if t then value_of sig locals e.value else incoming_value sig locals n es)
    by true true x y rest = ap (λ (b : Bool). if b then value_of sig locals e.value else incoming_value sig locals n (entries_in reached es)) x
    by true false x y rest = let clash : false ≡ true = sym y ∙ ap reached (eqb-true e.from n x) ∙ r in absurd (cc clash)
    by false true x y rest = ap (λ (b : Bool). if b then value_of sig locals e.value else incoming_value sig locals n (entries_in reached es)) x ∙ rest
    by false false x y rest = rest

phis_stay : (sig : Signature) (locals : Locals) (reached : ℕ → Bool) (n : ℕ) → reached n ≡ true → (ps : List Phi) → phis_bound sig locals n (map (phi_in reached) ps) locals ≡ phis_bound sig locals n ps locals
phis_stay sig locals reached n r [] = refl
phis_stay sig locals reached n r (p ∷ ps) = λ k. (p.local, entry_stays sig locals reached n r p.incoming k) ∷ phis_stay sig locals reached n r ps k

-- ---- blocks that are reached

found_in : (reached : ℕ → Bool) (bs : List Block) (n : ℕ) → reached n ≡ true → find_block (blocks_in reached bs) n ≡ option_map (block_in reached) (find_block bs n)
found_in reached [] n r = refl
found_in reached (b ∷ bs) n r = by (nat_eq b.number n) (reached b.number) refl refl (found_in reached bs n r)
  where
    by : (t u : Bool) → nat_eq b.number n ≡ t → reached b.number ≡ u → find_block (blocks_in reached bs) n ≡ option_map (block_in reached) (find_block bs n)
        → find_block (if u then block_in reached b ∷ blocks_in reached bs else blocks_in reached bs) n ≡ option_map (block_in reached) (if t then Some b else find_block bs n)
    by true true x y rest = ap (λ (s : Bool). if s then Some (block_in reached b) else find_block (blocks_in reached bs) n) x
    by true false x y rest = let clash : false ≡ true = sym y ∙ ap reached (eqb-true b.number n x) ∙ r in absurd (cc clash)
    by false true x y rest = ap (λ (s : Bool). if s then Some (block_in reached b) else find_block (blocks_in reached bs) n) x ∙ rest
    by false false x y rest = rest

first_found : (bs : List Block) (b : Block) → slice_get bs 0 ≡ Some b → find_block bs b.number ≡ Some b
first_found [] b e = absurd cc
first_found (x ∷ bs) b e =
    let same : x ≡ b = cc e in
    ap (λ (y : Block). if nat_eq y.number b.number then Some y else find_block bs b.number) same ∙ ap (λ (t : Bool). if t then Some b else find_block bs b.number) (eq-eqb b.number b.number refl)

abbrev ReachedAt : Function → Block → Type 0
ReachedAt f y = (q : ℕ) × (slice_get f.blocks q ≡ Some y) × Reachable f q

-- the first block of a number that is reached is reached
first_reached : (f : Function) (n : ℕ) (y : Block) → find_block f.blocks n ≡ Some y → IsReached f n → ReachedAt f y
first_reached f n y found (b, block, at_b, number, ([], path)) =
    let at_0 : slice_get f.blocks 0 ≡ Some block = ap (slice_get f.blocks) (sym path.0) ∙ at_b in
    let same : Some block ≡ Some y = sym (first_found f.blocks block at_0) ∙ ap (find_block f.blocks) number ∙ found in
    let is : block ≡ y = cc same in
    (0, at_0 ∙ same, ([], (refl, subst (λ (i : ℕ). i < length f.blocks) path.0 path.1)))
first_reached f n y found (b, block, at_b, number, (p ∷ ps, path)) =
    let place : (q : ℕ) × (slice_get f.blocks q ≡ Some y) = found_at f.blocks n y found in
    let same : block.number ≡ y.number = number ∙ sym (number_found f.blocks n y found) in
    let alike : edges f b ≡ edges f place.0 = ap (leading_to f.blocks) at_b ∙ ap (λ (m : ℕ). leading m 0 f.blocks) same ∙ sym (ap (leading_to f.blocks) place.1) in
    (place.0, place.1, (p ∷ ps, (subst (Among p) alike path.0, path.1)))

-- so is each block to which it leads
next_reached : (f : Function) (y z : Block) (m : ℕ) → ReachedAt f y → 1 ≤ times m (successors y.end) → find_block f.blocks m ≡ Some z → IsReached f m
next_reached f y z m (q, at_q, (ps, path)) leads found =
    let place : (r : ℕ) × (slice_get f.blocks r ≡ Some z) = found_at f.blocks m z found in
    let number : z.number ≡ m = number_found f.blocks m z found in
    let many : times q (edges f place.0) ≡ times m (successors y.end) = edges_from f place.0 z place.1 q ∙ ap (out_to z.number) at_q ∙ ap (λ (k : ℕ). times k (successors y.end)) number in
    (place.0, z, place.1, number, (q ∷ ps, (among_times q (edges f place.0) (omega (arith, many, leads)), path)))

-- ---- the pass

module _ (f : Function) (reached : ℕ → Bool) (are : AreReached f reached) where
  -- a block that isn't reached is never entered, so that any end would do for it
  abbrev end_at : ℕ → Terminator
  end_at n = if reached n then end_in f.blocks n else Unreachable

  abbrev layout : Layout
  layout = record { home = λ n. n; tail = λ n. []; final = end_at; own = end_at; fuel = λ n. 0 }

  ends_at : (n : ℕ) → reached n ≡ true → end_at n ≡ end_in f.blocks n
  ends_at n r = ap (λ (t : Bool). if t then end_in f.blocks n else Unreachable) r

  starts : (y : Block) → reached y.number ≡ true → end_in f.blocks y.number ≡ y.end → laid layout 0 (spot_of (block_in reached y)) (spot_of y)
  starts y r e = let own : y.end ≡ end_at y.number = sym (ends_at y.number r ∙ e) in (refl, sym (append-nil y.lines), own, own, refl)

  abbrev Leaves : Signature → Locals → Spot → Spot → Type 0
  Leaves sig locals a b = IsStuck (exit_of (value_of sig locals) b.end) ⊎ LeavesAlike (laid layout) 0 (trimmed reached f) f a b sig locals

  abbrev Enters : Signature → Locals → Spot → Spot → ℕ → Block → Type 0
  Enters sig locals a b n y = (x : Block) × (find_block (trimmed reached f).blocks n ≡ Some x)
      × (phis_bound sig locals a.block x.phis locals ≡ phis_bound sig locals b.block y.phis locals) × laid layout 0 (spot_of x) (spot_of y)

  enters : (sig : Signature) (locals : Locals) (a b : Spot) → a.block ≡ b.block → reached b.block ≡ true → b.end ≡ end_in f.blocks b.block
      → (n : ℕ) (y : Block) → exit_of (value_of sig locals) b.end ≡ Leads' n → find_block f.blocks n ≡ Some y → Enters sig locals a b n y
  enters sig locals a b same r end n y leads at_n = by (find_block f.blocks b.block) refl
    where
      by : (o : Option Block) → find_block f.blocks b.block ≡ o → Enters sig locals a b n y
      by None e = let stuck : exit_of (value_of sig locals) Unreachable ≡ Leads' n = sym (ap (exit_of (value_of sig locals)) (end ∙ ap end_of e)) ∙ leads in absurd (cc stuck)
      by (Some from) e =
          let ends : b.end ≡ from.end = end ∙ ap end_of e in
          let some : 1 ≤ times n (successors from.end) = exit_among (value_of sig locals) from.end n (ap (exit_of (value_of sig locals)) (sym ends) ∙ leads) in
          let here : ReachedAt f from = first_reached f b.block from e ((are b.block).0 r) in
          let next : reached n ≡ true = (are n).1 (next_reached f from y n here some at_n) in
          let number : y.number ≡ n = number_found f.blocks n y at_n in (
            block_in reached y,
            found_in reached f.blocks n next ∙ ap (option_map (block_in reached)) at_n,
            ap (λ (m : ℕ). phis_bound sig locals m (block_in reached y).phis locals) same ∙ phis_stay sig locals reached b.block r y.phis,
            starts y (ap reached number ∙ next) (ap (end_in f.blocks) number ∙ ap end_of at_n),
          )

  leaves : (k : ℕ) (a b : Spot) → laid layout k a b → (sig : Signature) (locals : Locals) → Leaves sig locals a b
  leaves k a b w sig locals = by (reached b.block) refl
    where
      by : (t : Bool) → reached b.block ≡ t → Leaves sig locals a b
      by true r =
          inr (record {
            exit = ap (exit_of (value_of sig locals)) (w.2 ∙ sym w.3);
            next = λ n y leads at_n. enters sig locals a b w.0 r (w.3 ∙ ends_at b.block r) n y leads at_n;
          })
      by false r =
          let none : b.end ≡ Unreachable = w.3 ∙ ap (λ (t : Bool). if t then end_in f.blocks b.block else Unreachable) r in
          inl (subst (λ (t : Terminator). IsStuck (exit_of (value_of sig locals) t)) (sym none) tt)

  shape : (x : Block) (xs : List Block) → f.blocks ≡ x ∷ xs → IsShape (laid layout) 0 (trimmed reached f) f
  shape x xs is =
      let at_0 : slice_get f.blocks 0 ≡ Some x = ap (λ (bs : List Block). slice_get bs 0) is in
      let some : 0 < length f.blocks = subst (λ (bs : List Block). 0 < length bs) (sym is) (omega arith) in
      let r : reached x.number ≡ true = (are x.number).1 (0, x, at_0, refl, ([], (refl, some))) in
      record {
        line = λ k a b l rest w e. (rest ++ [], w.1 ∙ ap (λ (r : List Line). r ++ []) e, (w.0, refl, w.2, w.3, w.4));
        last = λ k a b w e. inr (w.1 ∙ ap (λ (r : List Line). r ++ []) e, λ sig locals. leaves k a b w sig locals);
        params = refl;
        entry = (
          block_in reached x,
          x,
          blocks_in reached xs,
          xs,
          ap (blocks_in reached) is ∙ ap (λ (t : Bool). if t then block_in reached x ∷ blocks_in reached xs else blocks_in reached xs) r,
          is,
          starts x r (ap end_of (first_found f.blocks x at_0)),
        );
      }

  pub better : (p : Program) → IsFormed p → BetterThan p 1 (trimmed reached f) f
  better p formed = by f.blocks refl
    where
      by : (bs : List Block) → f.blocks ≡ bs → BetterThan p 1 (trimmed reached f) f
      by [] e =
          let same : trimmed reached f ≡ f = ap (λ (l : List Block). record f { blocks = l }) (ap (blocks_in reached) e ∙ sym e) in
          subst (λ (g : Function). BetterThan p 1 g f) (sym same) (same_better p formed f)
      by (x ∷ xs) e = reshaped_is_better p formed layout 0 (trimmed reached f) f (shape x xs e)

pub is_better : TrimIsBetter
is_better f g (reached, are, is) p formed = subst (λ (h : Function). BetterThan p 1 h f) (sym is) (better f reached are p formed)

same_test : (b c : Bool) → (b ≡ true → c ≡ true) → (c ≡ true → b ≡ true) → b ≡ c
same_test true c h g = sym (h refl)
same_test false true h g = g refl
same_test false false h g = refl

one_set : (f : Function) (a b : ℕ → Bool) → AreReached f a → AreReached f b → a ≡ b
one_set f a b is other = λ i. λ n. same_test (a n) (b n) (λ r. (other n).1 ((is n).0 r)) (λ r. (is n).1 ((other n).0 r)) i

pub is_one : TrimIsOne
is_one f g h (a, is, g_is) (b, other, h_is) = g_is ∙ ap (λ (s : ℕ → Bool). trimmed s f) (one_set f a b is other) ∙ sym h_is
