-- A function whose blocks are joined is better in every program.
use Rattle.std.proofs.Common.{◌≡◌, ◌≢◌, ℕ, zero, suc, ◌+◌, ◌-◌, ◌*◌, ◌^◌, ◌≤◌, nat_eq, Bool, true, false, List, [], ◌∷◌, ◌++◌, length, map, option_map, Option, Some, None, ◌⊎◌, inl, inr, refl, sym, ◌∙◌, ap, subst, arith, if◌then◌else◌, append-nil}
use Rattle.std.specs.Prelude.{All, slice_get}
use Rattle.std.proofs.Math.Nat.{pow-succ'}
use Rattle.std.proofs.lemmas.Bool.{eq-eqb, eqb-true, eqb-false, ne_eqb}
use Rattle.std.proofs.lemmas.List.Elements.{All-head, All-tail}
use Rattle.ir_tree.specs.Flow.{edges, leading_to, successors}
use Rattle.ir_tree.specs.Formed.{Distinct}
use Rattle.ir_tree.specs.declared.block.Block.{Block}
use Rattle.ir_tree.specs.declared.block.Terminator.{Terminator}
use Rattle.ir_tree.specs.declared.block.Terminator.TheVariants.{Unreachable}
use Rattle.ir_tree.specs.declared.function.Function.{Function}
use Rattle.ir_tree.specs.declared.instr.Incoming.{Incoming}
use Rattle.ir_tree.specs.declared.instr.Line.{Line}
use Rattle.ir_tree.specs.declared.instr.Phi.{Phi}
use Rattle.ir_meaning.specs.Act.{Leads', exit_of, find_block, incoming_value, phis_bound}
use Rattle.ir_meaning.specs.Frame.{Locals, Signature, value_of}
use Rattle.ir_meaning.specs.Near.{BetterThan}
use Rattle.ir_meaning.specs.Program.{Program}
use Rattle.ir_meaning.specs.declared.value.Value.{Value}
use Rattle.ir_meaning.specs.Formed.{IsFormed}
use Rattle.ir_meaning.specs.Reshape.{GoesQuietly, IsShape, IsStuck, Layout, LeavesAlike, Spot, laid, spot_of}
use Rattle.ir_meaning.proofs.Alike.Itself.{same_better}
use Rattle.ir_meaning.proofs.Between.InARow.{in_a_row}
use Rattle.ir_meaning.proofs.Blocks.Reshaped.{reshaped_is_better}
use Rattle.ir_meaning.specs.Counted.{sources, times}
use Rattle.ir_meaning.proofs.Counting.{distinct_rest, edges_from, not_again, number_at, numbers_in, out_to}
use Rattle.ir_meaning.proofs.Exits.{end_in, end_of, exit_among, found_at, number_found}
use Rattle.block_trim.specs.MergeLaws.{MergeIsBetter}
use Rattle.block_trim.specs.Merged.{CanJoin, IsOneOf, Joins, behind_entry, entry_named, joined, joined_block, joined_blocks, phi_named, renamed}
use Rattle.block_trim.proofs.Fitting.{Fits, fits_still, in_behind, sound_fits}

-- ---- entries

-- entries of other blocks keep their values
others_stay : (sig : Signature) (ls : Locals) (old new n : ℕ) → n ≢ old → n ≢ new → (es : List Incoming) → incoming_value sig ls n (map (entry_named (renamed old new)) es) ≡ incoming_value sig ls n es
others_stay sig ls old new n o w [] = refl
others_stay sig ls old new n o w (e ∷ es) = by (nat_eq old e.from) refl (others_stay sig ls old new n o w es)
  where
    by : (t : Bool) → nat_eq old e.from ≡ t → incoming_value sig ls n (map (entry_named (renamed old new)) es) ≡ incoming_value sig ls n es
        → (if nat_eq (if t then new else e.from) n then value_of sig ls e.value else incoming_value sig ls n (map (entry_named (renamed old new)) es)) ≡ (if nat_eq e.from n then value_of sig ls e.value else incoming_value sig ls n es)
    by true x rest =
        ap (λ (b : Bool). if b then value_of sig ls e.value else incoming_value sig ls n (map (entry_named (renamed old new)) es)) (ne_eqb new n (λ s. w (sym s))) ∙ rest
        ∙ ap (λ (b : Bool). if b then value_of sig ls e.value else incoming_value sig ls n es) (sym (ne_eqb e.from n (λ s. o (sym s ∙ sym (eqb-true old e.from x)))))
    by false x rest = ap (λ (v : Value). if nat_eq e.from n then value_of sig ls e.value else v) rest

-- the renamed entries are found under the new name, where that had none
renamed_stay : (sig : Signature) (ls : Locals) (old new : ℕ) → (es : List Incoming) → times new (sources es) ≡ 0 → incoming_value sig ls new (map (entry_named (renamed old new)) es) ≡ incoming_value sig ls old es
renamed_stay sig ls old new [] none = refl
renamed_stay sig ls old new (e ∷ es) none = by (nat_eq old e.from) (nat_eq e.from new) refl refl none (renamed_stay sig ls old new es)
  where
    by : (t u : Bool) → nat_eq old e.from ≡ t → nat_eq e.from new ≡ u → (if u then suc (times new (sources es)) else times new (sources es)) ≡ 0
        → (times new (sources es) ≡ 0 → incoming_value sig ls new (map (entry_named (renamed old new)) es) ≡ incoming_value sig ls old es)
        → (if nat_eq (if t then new else e.from) new then value_of sig ls e.value else incoming_value sig ls new (map (entry_named (renamed old new)) es)) ≡ (if nat_eq e.from old then value_of sig ls e.value else incoming_value sig ls old es)
    by t true x z h go = absurd (omega (arith, h))
    by true false x z h go =
        ap (λ (b : Bool). if b then value_of sig ls e.value else incoming_value sig ls new (map (entry_named (renamed old new)) es)) (eq-eqb new new refl)
        ∙ ap (λ (b : Bool). if b then value_of sig ls e.value else incoming_value sig ls old es) (sym (eq-eqb e.from old (sym (eqb-true old e.from x))))
    by false false x z h go =
        ap (λ (b : Bool). if b then value_of sig ls e.value else incoming_value sig ls new (map (entry_named (renamed old new)) es)) z ∙ go h
        ∙ ap (λ (b : Bool). if b then value_of sig ls e.value else incoming_value sig ls old es) (sym (ne_eqb e.from old (λ s. eqb-false old e.from x (sym s))))

-- ---- blocks

find_there : (bs : List Block) → Distinct (numbers_in bs) → (b : Block) → IsOneOf bs b → find_block bs b.number ≡ Some b
find_there [] d b (i, at) = absurd cc
find_there (x ∷ bs) d b (zero, at) =
    let same : x ≡ b = cc at in
    ap (λ (z : Block). if nat_eq z.number b.number then Some z else find_block bs b.number) same ∙ ap (λ (t : Bool). if t then Some b else find_block bs b.number) (eq-eqb b.number b.number refl)
find_there (x ∷ bs) d b (suc i, at) =
    ap (λ (t : Bool). if t then Some x else find_block bs b.number) (not_again x.number (numbers_in bs) d i b.number (number_at bs i b at)) ∙ find_there bs (distinct_rest x.number (numbers_in bs) d) b (i, at)

find_joined : (a : ℕ) (y : Block) (bs : List Block) (n : ℕ) → nat_eq y.number n ≡ false → find_block (joined_blocks a y bs) n ≡ option_map (joined_block a y) (find_block bs n)
find_joined a y [] n ne = refl
find_joined a y (b ∷ bs) n ne = by (nat_eq b.number n) (nat_eq y.number b.number) refl refl (find_joined a y bs n ne)
  where
    by : (t u : Bool) → nat_eq b.number n ≡ t → nat_eq y.number b.number ≡ u → find_block (joined_blocks a y bs) n ≡ option_map (joined_block a y) (find_block bs n)
        → find_block (if u then joined_blocks a y bs else joined_block a y b ∷ joined_blocks a y bs) n ≡ option_map (joined_block a y) (if t then Some b else find_block bs n)
    by true true x z rest = let clash : true ≡ false = sym (eq-eqb y.number n (eqb-true y.number b.number z ∙ eqb-true b.number n x)) ∙ ne in absurd (cc clash)
    by true false x z rest = ap (λ (s : Bool). if s then Some (joined_block a y b) else find_block (joined_blocks a y bs) n) x
    by false true x z rest = rest
    by false false x z rest = ap (λ (s : Bool). if s then Some (joined_block a y b) else find_block (joined_blocks a y bs) n) x ∙ rest

single : (es : List ℕ) (i j : ℕ) → length es ≡ 1 → 1 ≤ times i es → 1 ≤ times j es → i ≡ j
single [] i j one h g = absurd (omega (arith, h))
single (q ∷ r ∷ es) i j one h g = absurd (omega (arith, one))
single (q ∷ []) i j one h g = by (nat_eq q i) (nat_eq q j) refl refl h g
  where
    by : (t u : Bool) → nat_eq q i ≡ t → nat_eq q j ≡ u → 1 ≤ (if t then suc 0 else 0) → 1 ≤ (if u then suc 0 else 0) → i ≡ j
    by true true x z h g = sym (eqb-true q i x) ∙ eqb-true q j z
    by true false x z h g = absurd (omega (arith, g))
    by false u x z h g = absurd (omega (arith, h))

-- ---- one join

module _ (f : Function) (fits : Fits f) (a y : Block) (can : CanJoin f a y) where
  y_is : IsOneOf f.blocks y
  y_is = in_behind f.blocks y can.second

  a_found : find_block f.blocks a.number ≡ Some a
  a_found = find_there f.blocks fits.once a can.first

  y_found : find_block f.blocks y.number ≡ Some y
  y_found = find_there f.blocks fits.once y y_is

  apart : nat_eq y.number a.number ≡ false
  apart = ne_eqb y.number a.number can.other

  apart' : nat_eq a.number y.number ≡ false
  apart' = ne_eqb a.number y.number (λ s. can.other (sym s))

  abbrev layout : Layout
  layout = record {
    home = renamed y.number a.number;
    tail = λ n. if nat_eq a.number n then y.lines else [];
    final = λ n. if nat_eq a.number n then y.end else end_in f.blocks n;
    own = end_in f.blocks;
    fuel = λ n. if nat_eq y.number n then 0 else 1;
  }

  starts : (b : Block) → find_block f.blocks b.number ≡ Some b → nat_eq y.number b.number ≡ false → laid layout 1 (spot_of (joined_block a.number y b)) (spot_of b)
  starts b found ne = (
    ap (λ (t : Bool). if t then a.number else b.number) (sym ne),
    lines (nat_eq a.number b.number),
    ap (λ (t : Terminator). if nat_eq a.number b.number then y.end else t) (sym own),
    sym own,
    ap (λ (t : Bool). if t then 0 else 1) (sym ne),
  )
    where
      own : end_in f.blocks b.number ≡ b.end
      own = ap end_of found

      lines : (t : Bool) → (if t then b.lines ++ y.lines else b.lines) ≡ b.lines ++ (if t then y.lines else [])
      lines true = refl
      lines false = sym (append-nil b.lines)

  -- no other block leads to the second
  pub only_from : (c : Block) → IsOneOf f.blocks c → 1 ≤ times y.number (successors c.end) → c.number ≡ a.number
  only_from c (i, at) some =
      let many : times i (edges f y_is.0) ≡ times y.number (successors c.end) = edges_from f y_is.0 y y_is.1 i ∙ ap (out_to y.number) at in
      let first : times can.first.0 (edges f y_is.0) ≡ times y.number (successors a.end) = edges_from f y_is.0 y y_is.1 can.first.0 ∙ ap (out_to y.number) can.first.1 in
      let jumps : times y.number (successors a.end) ≡ 1 = ap (λ (t : Terminator). times y.number (successors t)) can.jumps ∙ ap (λ (t : Bool). if t then 1 else 0) (eq-eqb y.number y.number refl) in
      let one : length (edges f y_is.0) ≡ 1 = ap (λ (o : Option Block). length (leading_to f.blocks o)) y_is.1 ∙ can.only in
      let same : i ≡ can.first.0 = single (edges f y_is.0) i can.first.0 one (omega (arith, many, some)) (omega (arith, first, jumps)) in
      let both : Some c ≡ Some a = sym at ∙ ap (slice_get f.blocks) same ∙ can.first.1 in
      let is : c ≡ a = cc both in
      ap (λ (b : Block). b.number) is

  -- ---- phis

  none_of_first : (b : Block) → IsOneOf f.blocks b → nat_eq y.number b.number ≡ false → All (λ p. times a.number (sources p.incoming) ≡ 0) b.phis
  none_of_first b is ne = λ k d lt. fits.entries b a is can.first k d lt ∙ ap (λ (t : Terminator). times b.number (successors t)) can.jumps ∙ ap (λ (t : Bool). if t then 1 else 0) ne

  phis_stay : (sig : Signature) (ls : Locals) (m : ℕ) → nat_eq a.number m ≡ false → (ps : List Phi) → All (λ p. times a.number (sources p.incoming) ≡ 0) ps
      → phis_bound sig ls (renamed y.number a.number m) (map (phi_named (renamed y.number a.number)) ps) ls ≡ phis_bound sig ls m ps ls
  phis_stay sig ls m ne [] all = refl
  phis_stay sig ls m ne (p ∷ ps) all =
      λ i. (p.local, value (nat_eq y.number m) refl i) ∷ phis_stay sig ls m ne ps (All-tail (λ p. times a.number (sources p.incoming) ≡ 0) p ps all) i
    where
      value : (t : Bool) → nat_eq y.number m ≡ t → incoming_value sig ls (if t then a.number else m) (map (entry_named (renamed y.number a.number)) p.incoming) ≡ incoming_value sig ls m p.incoming
      value true e =
          renamed_stay sig ls y.number a.number p.incoming (All-head (λ p. times a.number (sources p.incoming) ≡ 0) p ps all)
          ∙ ap (λ (n : ℕ). incoming_value sig ls n p.incoming) (eqb-true y.number m e)
      value false e = others_stay sig ls y.number a.number m (λ s. eqb-false y.number m e (sym s)) (λ s. eqb-false a.number m ne (sym s)) p.incoming

  -- ---- the ends of blocks

  abbrev Enters : Signature → Locals → Spot → Spot → ℕ → Block → Type 0
  Enters sig locals s t n z = (x : Block) × (find_block (joined a.number y f).blocks n ≡ Some x)
      × (phis_bound sig locals s.block x.phis locals ≡ phis_bound sig locals t.block z.phis locals) × laid layout 1 (spot_of x) (spot_of z)

  enters : (sig : Signature) (locals : Locals) (s t : Spot) → s.block ≡ renamed y.number a.number t.block → t.end ≡ end_in f.blocks t.block → nat_eq a.number t.block ≡ false
      → (n : ℕ) (z : Block) → exit_of (value_of sig locals) t.end ≡ Leads' n → find_block f.blocks n ≡ Some z → Enters sig locals s t n z
  enters sig locals s t home end ne n z leads at_n = by (find_block f.blocks t.block) refl
    where
      by : (o : Option Block) → find_block f.blocks t.block ≡ o → Enters sig locals s t n z
      by None e = let stuck : exit_of (value_of sig locals) Unreachable ≡ Leads' n = sym (ap (exit_of (value_of sig locals)) (end ∙ ap end_of e)) ∙ leads in absurd (cc stuck)
      by (Some from) e =
          let ends : t.end ≡ from.end = end ∙ ap end_of e in
          let some : 1 ≤ times n (successors from.end) = exit_among (value_of sig locals) from.end n (ap (exit_of (value_of sig locals)) (sym ends) ∙ leads) in
          let number : z.number ≡ n = number_found f.blocks n z at_n in
          let other : nat_eq y.number n ≡ false =
          ne_eqb y.number n (λ q. eqb-false a.number t.block ne (sym (only_from from (found_at f.blocks t.block from e) (subst (λ (m : ℕ). 1 ≤ times m (successors from.end)) (sym q) some)) ∙ number_found f.blocks t.block from e)) in
          let other' : nat_eq y.number z.number ≡ false = ap (nat_eq y.number) number ∙ other in (
            joined_block a.number y z,
            find_joined a.number y f.blocks n other ∙ ap (option_map (joined_block a.number y)) at_n,
            ap (λ (m : ℕ). phis_bound sig locals m (map (phi_named (renamed y.number a.number)) z.phis) locals) home
                ∙ phis_stay sig locals t.block ne z.phis (none_of_first z (found_at f.blocks n z at_n) other'),
            starts z (ap (find_block f.blocks) number ∙ at_n) other',
          )

  quietly : (s t : Spot) → laid layout 1 s t → t.rest ≡ [] → nat_eq a.number t.block ≡ true → GoesQuietly (laid layout) 1 f s t
  quietly s t w e is =
      let here : a.number ≡ t.block = eqb-true a.number t.block is in (
        y.number,
        y,
        w.3 ∙ ap (end_in f.blocks) (sym here) ∙ ap end_of a_found ∙ can.jumps,
        y_found,
        can.no_phis,
        (
          w.0 ∙ ap (renamed y.number a.number) (sym here) ∙ ap (λ (b : Bool). if b then a.number else a.number) apart ∙ ap (λ (b : Bool). if b then a.number else y.number) (sym (eq-eqb y.number y.number refl)),
          w.1 ∙ ap (λ (r : List Line). r ++ (if nat_eq a.number t.block then y.lines else [])) e ∙ ap (λ (b : Bool). if b then y.lines else []) is ∙ sym (append-nil y.lines)
              ∙ ap (λ (b : Bool). y.lines ++ (if b then y.lines else [])) (sym apart'),
          w.2 ∙ ap (λ (b : Bool). if b then y.end else end_in f.blocks t.block) is ∙ sym (ap end_of y_found) ∙ ap (λ (b : Bool). if b then y.end else end_in f.blocks y.number) (sym apart'),
          sym (ap end_of y_found),
          ap (λ (b : Bool). if b then 0 else 1) (sym (eq-eqb y.number y.number refl)),
        ),
      )

  abbrev Leaves : Signature → Locals → Spot → Spot → Type 0
  Leaves sig locals s t = IsStuck (exit_of (value_of sig locals) t.end) ⊎ LeavesAlike (laid layout) 1 (joined a.number y f) f s t sig locals

  last : (k : ℕ) (s t : Spot) → laid layout k s t → t.rest ≡ [] → GoesQuietly (laid layout) k f s t ⊎ ((s.rest ≡ []) × ((sig : Signature) (locals : Locals) → Leaves sig locals s t))
  last k s t w e = by (nat_eq a.number t.block) refl
    where
      by : (b : Bool) → nat_eq a.number t.block ≡ b → GoesQuietly (laid layout) k f s t ⊎ ((s.rest ≡ []) × ((sig : Signature) (locals : Locals) → Leaves sig locals s t))
      by true is =
          let one : k ≡ 1 = w.4 ∙ ap (λ (n : ℕ). if nat_eq y.number n then 0 else 1) (sym (eqb-true a.number t.block is)) ∙ ap (λ (b : Bool). if b then 0 else 1) apart in
          inl (subst (λ (n : ℕ). GoesQuietly (laid layout) n f s t) (sym one) (quietly s t (subst (λ (n : ℕ). laid layout n s t) one w) e is))
      by false ne =
          inr (
            w.1 ∙ ap (λ (r : List Line). r ++ (if nat_eq a.number t.block then y.lines else [])) e ∙ ap (λ (b : Bool). if b then y.lines else []) ne,
            λ sig locals.
                inr (record {
                  exit = ap (exit_of (value_of sig locals)) (w.2 ∙ ap (λ (b : Bool). if b then y.end else end_in f.blocks t.block) ne ∙ sym w.3);
                  next = λ n z leads at_n. enters sig locals s t w.0 w.3 ne n z leads at_n;
                }),
          )

  shape : (x : Block) (xs : List Block) → f.blocks ≡ x ∷ xs → IsShape (laid layout) 1 (joined a.number y f) f
  shape x xs is = record {
    line = λ k s t l rest w e. (rest ++ layout.tail t.block, w.1 ∙ ap (λ (r : List Line). r ++ layout.tail t.block) e, (w.0, refl, w.2, w.3, w.4));
    last = last;
    params = refl;
    entry = (
      joined_block a.number y x,
      x,
      joined_blocks a.number y xs,
      xs,
      ap (joined_blocks a.number y) is ∙ ap (λ (t : Bool). if t then joined_blocks a.number y xs else joined_block a.number y x ∷ joined_blocks a.number y xs) first,
      is,
      starts x (find_there f.blocks fits.once x (0, ap (λ (bs : List Block). slice_get bs 0) is)) first,
    );
  }
    where
      behind : IsOneOf xs y
      behind = subst (λ (bs : List Block). IsOneOf (behind_entry bs) y) is can.second

      first : nat_eq y.number x.number ≡ false
      first = ne_eqb y.number x.number (λ s. eqb-false x.number y.number (not_again x.number (numbers_in xs) (subst (λ (bs : List Block). Distinct (numbers_in bs)) is fits.once) behind.0 y.number (number_at xs behind.0 y behind.1)) (sym s))

  pub join_better : (p : Program) → IsFormed p → BetterThan p 2 (joined a.number y f) f
  join_better p formed = by f.blocks refl
    where
      by : (bs : List Block) → f.blocks ≡ bs → BetterThan p 2 (joined a.number y f) f
      by [] e = let clash : None ≡ Some a = sym (ap (λ (bs : List Block). slice_get bs can.first.0) e) ∙ can.first.1 in absurd (cc clash)
      by (x ∷ xs) e = reshaped_is_better p formed layout 1 (joined a.number y f) f (shape x xs e)

-- ---- all joins

none_goes : (a : ℕ) (y : Block) (bs : List Block) → ((i : ℕ) (b : Block) → slice_get bs i ≡ Some b → nat_eq y.number b.number ≡ false) → length (joined_blocks a y bs) ≡ length bs
none_goes a y [] h = refl
none_goes a y (b ∷ bs) h =
    ap (λ (t : Bool). length (if t then joined_blocks a y bs else joined_block a y b ∷ joined_blocks a y bs)) (h 0 b refl) ∙ ap suc (none_goes a y bs (λ i c e. h (suc i) c e))

-- one block goes
one_goes : (a : ℕ) (y : Block) (bs : List Block) → Distinct (numbers_in bs) → IsOneOf bs y → length (joined_blocks a y bs) + 1 ≡ length bs
one_goes a y [] d (i, at) = absurd cc
one_goes a y (b ∷ bs) d (zero, at) =
    let same : b ≡ y = cc at in
    let number : y.number ≡ b.number = ap (λ (x : Block). x.number) (sym same) in
    let gone : length (joined_blocks a y (b ∷ bs)) ≡ length (joined_blocks a y bs) = ap (λ (t : Bool). length (if t then joined_blocks a y bs else joined_block a y b ∷ joined_blocks a y bs)) (eq-eqb y.number b.number number) in
    let rest : length (joined_blocks a y bs) ≡ length bs = none_goes a y bs (λ i c e. ap (λ (n : ℕ). nat_eq n c.number) number ∙ not_again b.number (numbers_in bs) d i c.number (number_at bs i c e)) in
    omega (arith, gone, rest)
one_goes a y (b ∷ bs) d (suc i, at) =
    let other : nat_eq y.number b.number ≡ false = ne_eqb y.number b.number (λ s. eqb-false b.number y.number (not_again b.number (numbers_in bs) d i y.number (number_at bs i y at)) (sym s)) in
    let stays : length (joined_blocks a y (b ∷ bs)) ≡ suc (length (joined_blocks a y bs)) = ap (λ (t : Bool). length (if t then joined_blocks a y bs else joined_block a y b ∷ joined_blocks a y bs)) other in
    let rest : length (joined_blocks a y bs) + 1 ≡ length bs = one_goes a y bs (distinct_rest b.number (numbers_in bs) d) (i, at) in
    omega (arith, stays, rest)

-- after so many joins
pub record Steady (p : Program) (k : ℕ) (f g : Function) : Type 0 where
  pub fits : Fits g
  pub count : length g.blocks + k ≡ length f.blocks
  pub some : 1 ≤ 2 ^ k
  pub better : BetterThan p (2 ^ k) g f

joins_better : (p : Program) → IsFormed p → (k : ℕ) (f g : Function) → Fits f → Joins k f g → Steady p k f g
joins_better p formed zero f g fits is = subst (λ (h : Function). Steady p zero f h) (sym is) (record { fits = fits; count = omega arith; some = omega arith; better = same_better p formed f })
joins_better p formed (suc k) f g fits (h, a, y, before, can, a_first, is) = by (joins_better p formed k f h fits before)
  where
    by : Steady p k f h → Steady p (suc k) f g
    by was =
        let twice : 2 * 2 ^ k ≡ 2 ^ suc k = sym (pow-succ' 2 k) in
        let gone : length (joined_blocks a.number y h.blocks) + 1 ≡ length h.blocks = one_goes a.number y h.blocks was.fits.once (in_behind h.blocks y can.second) in
        let before : length h.blocks + k ≡ length f.blocks = was.count in
        let some : 1 ≤ 2 ^ k = was.some in
        subst (λ (g : Function). Steady p (suc k) f g) (sym is) (record {
          fits = fits_still h was.fits a y can;
          count = omega (arith, gone, before);
          some = omega (arith, twice, some);
          better = subst (λ (b : ℕ). BetterThan p b (joined a.number y h) f) twice (in_a_row p formed 2 (2 ^ k) some (joined a.number y h) h f (join_better h was.fits a y can p formed) was.better);
        })

pub is_better : MergeIsBetter
is_better f g sound (k, joins, none) p formed =
    let steady : Steady p k f g = joins_better p formed k f g (sound_fits f sound) joins in
    let count : length g.blocks + k ≡ length f.blocks = steady.count in
    let gone : k ≡ length f.blocks - length g.blocks = omega (arith, count) in
    subst (λ (n : ℕ). BetterThan p (2 ^ n) g f) gone steady.better
