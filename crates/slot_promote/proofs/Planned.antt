-- The plan's condition, over the function's blocks that are reached.
use Rattle.std.proofs.Common.{◌≡◌, ℕ, zero, suc, ◌+◌, ◌*◌, ◌≤◌, ◌<◌, nat_eq, Bool, true, false, not, ◌&&◌, ◌||◌, List, [], ◌∷◌, ◌++◌, length, map, Option, Some, None, option_map, inl, inr, refl, sym, ◌∙◌, ap, subst, arith, if◌then◌else◌}
use Rattle.std.specs.Prelude.{All, slice_get}
use Rattle.std.proofs.lemmas.Bool.{eqb-true, eq-eqb}
use Rattle.ir_tree.specs.Flow.{Among, edges, holds, locals, room, successors}
use Rattle.ir_tree.specs.Formed.{Distinct, ItemFormed, numbers}
use Rattle.ir_tree.specs.Items.{block_items}
use Rattle.ir_tree.specs.Rules.{Keeps, Sound, place}
use Rattle.ir_tree.specs.declared.block.Block.{Block}
use Rattle.ir_tree.specs.declared.block.Case.{Case}
use Rattle.ir_tree.specs.declared.block.Terminator.{Terminator}
use Rattle.ir_tree.specs.declared.block.Terminator.TheVariants.{Branch, Jump, Return, Switch, Unreachable}
use Rattle.ir_tree.specs.declared.function.Function.{Function}
use Rattle.ir_tree.specs.declared.function.Param.{Param}
use Rattle.ir_tree.specs.declared.instr.Line.{Line}
use Rattle.ir_tree.specs.declared.instr.Phi.{Phi}
use Rattle.ir_tree.specs.declared.operand.Operand.TheVariants.{Local}
use Rattle.ir_tree.specs.declared.rule.Rule.TheVariants.{EntryBranch}
use Rattle.ir_meaning.specs.Act.{find_block}
use Rattle.ir_meaning.specs.Near.{BetterThan}
use Rattle.ir_meaning.specs.Program.{Program}
use Rattle.ir_meaning.specs.Facts.{InCases, IsTarget, edge_operand, is_phi, phi_operand}
use Rattle.ir_meaning.specs.Formed.{IsFormed}
use Rattle.ir_meaning.specs.Promote.{AreNew, BlockRight, BlocksRight, Current, LinesRight, ParamsFree, PlanRight, behind_all, block_promoted, blocks_promoted, lines_promoted, promoted, put}
use Rattle.ir_meaning.proofs.Alike.Itself.{same_better}
use Rattle.ir_meaning.proofs.Between.InARow.{in_a_row}
use Rattle.ir_meaning.proofs.Between.LargerBounds.{wider}
use Rattle.ir_meaning.proofs.Slots.Promoted.{promoted_is_better}
use Rattle.ir_edit.proofs.Tally.{tally, tally_same}
use Rattle.ir_meaning.specs.Counted.{times}
use Rattle.ir_meaning.proofs.Counting.{among_times, edges_from, here, later, numbers_in, out_to, place_is}
use Rattle.ir_meaning.proofs.Entries.{apart}
use Rattle.ir_meaning.proofs.Everywhere.{all_among}
use Rattle.ir_meaning.proofs.Exits.{number_found}
use Rattle.slot_promote.specs.Laws.{PromotedIsBetter, longest}
use Rattle.slot_promote.specs.Promoted.{block_with, blocks_with, end_at, end_with, entries_of, first_at, free, new_phis, next_number, phis_from, promoted_with}
use Rattle.promotable_slots.specs.Slots.{promoted_slots}
use Rattle.slot_promote.specs.Values.{at_start, behind_line, behind_lines, is_there, placed, rank_of, reg_of, regs, use_of, value_at_start, without_slots}
use Rattle.promotable_slots.specs.declared.slots.Slot.{Slot}
use Rattle.slot_promote.proofs.Agreeing.{Agree, agreeing_better, find_is, target_reached}
use Rattle.slot_promote.proofs.Before.{tally_held}
use Rattle.slot_promote.proofs.Edges.{end_number, entry_found, first_above, has_room, news_new, one_end, phi_takes, phi_there, takes_there}
use Rattle.slot_promote.proofs.Facts.{in_block, in_end, in_phis, used_in_block, used_in_end, used_in_phis}
use Rattle.slot_promote.proofs.Plans.{ValueOk, behind_same, kept_end, kept_phis, lines_right, made_gives, made_slot, plan, plan_values, slot_accessed}
use Rattle.slot_promote.proofs.Reached.{entry_reached, path_to, reached}
use Rattle.slot_promote.proofs.Shapes.{block_at, place_stays, put_is}
use Rattle.slot_promote.proofs.Slotted.{AreRight, Made, Stands, are_right, no_parameter, no_phi, stands}
use Rattle.ir_edit.proofs.Holding.{holds_front}

-- ---- a function where only reached blocks do anything

abbrev bare : Block → Block
bare b = record b { phis = []; lines = []; end = Unreachable }

abbrev one_of : Bool → Block → Block
one_of r b = if r then b else bare b

abbrev only : (ℕ → Bool) → ℕ → List Block → List Block
only r s [] = []
only r s (b ∷ bs) = one_of (r s) b ∷ only r (suc s) bs

abbrev within : Function → Function
within f = record f { blocks = only (reached f) 0 f.blocks }

only_at : (r : ℕ → Bool) (s p : ℕ) (bs : List Block) → slice_get (only r s bs) p ≡ option_map (one_of (r (s + p))) (slice_get bs p)
only_at r s p [] = refl
only_at r s zero (b ∷ bs) = ap (λ (q : ℕ). Some (one_of (r q) b)) (omega arith)
only_at r s (suc p) (b ∷ bs) = only_at r (suc s) p bs ∙ ap (λ (q : ℕ). option_map (one_of (r q)) (slice_get bs p)) (omega arith)

one_number : (r : Bool) (b : Block) → (one_of r b).number ≡ b.number
one_number true b = refl
one_number false b = refl

only_place : (r : ℕ → Bool) (s n : ℕ) (bs : List Block) → place (only r s bs) n ≡ place bs n
only_place r s n [] = refl
only_place r s n (b ∷ bs) =
    ap (λ (m : ℕ). if nat_eq m n then zero else suc (place (only r (suc s) bs) n)) (one_number (r s) b) ∙ ap (λ (m : ℕ). if nat_eq b.number n then zero else suc m) (only_place r (suc s) n bs)

was_there : (g : Block → Block) (o : Option Block) (y : Block) → option_map g o ≡ Some y → (z : Block) × (o ≡ Some z) × (g z ≡ y)
was_there g None y h = absurd cc
was_there g (Some z) y h = (z, refl, cc h)

all_same : (o : Option Block) → option_map (one_of true) o ≡ o
all_same None = refl
all_same (Some b) = refl

-- ---- successors

case_target : (cs : List Case) (n : ℕ) → InCases cs n → 1 ≤ times n (map (λ c. c.target) cs)
case_target [] n h = absurd h
case_target (c ∷ cs) n (inl e) = here n c.target (map (λ c. c.target) cs) e
case_target (c ∷ cs) n (inr h) = later n c.target (map (λ c. c.target) cs) (case_target cs n h)

is_target : (e : Terminator) (n : ℕ) → IsTarget e n → 1 ≤ times n (successors e)
is_target (Return argument) n h = absurd h
is_target (Jump target) n h = here n target [] h
is_target (Branch condition t f) n (inl h) = here n t (f ∷ []) h
is_target (Branch condition t f) n (inr h) = later n t (f ∷ []) (here n f [] h)
is_target (Switch width value default cases) n (inl h) = here n default (map (λ c. c.target) cases) h
is_target (Switch width value default cases) n (inr h) = later n default (map (λ c. c.target) cases) (case_target cases n h)
is_target Unreachable n h = absurd h

phi_among : (x : ℕ) (ps : List Phi) → tally x (map (λ p. p.local) ps) ≡ 0 → is_phi x ps ≡ false
phi_among x [] h = refl
phi_among x (p ∷ ps) h = by (nat_eq p.local x) refl (phi_among x ps)
  where
    by : (t : Bool) → nat_eq p.local x ≡ t → (tally x (map (λ p. p.local) ps) ≡ 0 → is_phi x ps ≡ false) → (t || is_phi x ps) ≡ false
    by true is more =
        let held : holds (p.local ∷ map (λ p. p.local) ps) x ≡ true = holds_front x (p.local ∷ []) (map (λ p. p.local) ps) (same_held x p.local (sym (eqb-true p.local x is))) in
        let some : 1 ≤ tally x (p.local ∷ map (λ p. p.local) ps) = tally_held x (p.local ∷ map (λ p. p.local) ps) held in
        absurd (omega (arith, some, h))
      where
        same_held : (x y : ℕ) → x ≡ y → holds (y ∷ []) x ≡ true
        same_held x y e = ap (λ (t : Bool). t || false) (eq-eqb x y e)
    by false is more = more (none (nat_eq x p.local) (tally x (map (λ p. p.local) ps)) h)
      where
        none : (t : Bool) (k : ℕ) → (if t then 1 else 0) + k ≡ 0 → k ≡ 0
        none true k e = omega (arith, e)
        none false k e = omega (arith, e)

long : (bs : List Block) (p : ℕ) (b : Block) → slice_get bs p ≡ Some b → length b.lines ≤ longest bs
long [] p b found = absurd cc
long (x ∷ bs) zero b found = let same : x ≡ b = cc found in let le : length b.lines ≤ length x.lines = subst (λ (y : Block). length b.lines ≤ length y.lines) (sym same) (omega arith) in omega (arith, le)
long (x ∷ bs) (suc p) b found = let le : length b.lines ≤ longest bs = long bs p b found in omega (arith, le)

module _ (f : Function) (ss : List Slot) (n : ℕ) (sound : Sound f) (right : AreRight f ss) (above : (z : ℕ) → n ≤ z → holds (locals f) z ≡ false) where
  d : Distinct (numbers_in f.blocks)
  d = apart f sound.formed

  new_above : (z : ℕ) → n ≤ z → (plan f ss n).keeps z ≡ false
  new_above z le = by (not (is_there (placed 0 ss z))) (holds (locals f) z) (above z le)
    where
      by : (a b : Bool) → b ≡ false → (a && b) ≡ false
      by true b h = h
      by false b h = refl

  news_are : (p : ℕ) → AreNew (plan f ss n).keeps (new_phis (end_at f ss n) (edges f p) (first_at f ss n p) ss)
  news_are p = news_new (plan f ss n).keeps (end_at f ss n) (edges f p) n (first_at f ss n p) ss new_above (λ m is. first_above (edges f) (length ss) n p m is)

  -- ---- a block that is reached

  module _ (b : ℕ) (block : Block) (found : slice_get f.blocks b ≡ Some block) (r : reached f b ≡ true) where
    place_here : place f.blocks block.number ≡ b
    place_here = place_is f.blocks d b block found

    some : 0 < length f.blocks
    some = by f.blocks b found
      where
        by : (bs : List Block) (i : ℕ) → slice_get bs i ≡ Some block → 0 < length bs
        by [] i e = absurd cc
        by (x ∷ xs) i e = omega arith

    values_end : (end_at f ss n b).values ≡ behind_lines (placed 0 ss) (at_start (placed 0 ss) (first_at f ss n b)) block.lines
    values_end = ap (λ (o : Option Block). (end_with (placed 0 ss) (first_at f ss n b) o).values) found

    plan_ends : (plan f ss n).ends block.number ≡ (end_at f ss n b).values
    plan_ends = ap (λ (p : ℕ). plan_values f ss n (reached f p) p) place_here ∙ ap (λ (t : Bool). plan_values f ss n t b) r

    start_settled : (o : Option ℕ) → first_at f ss n b ≡ o → (x : ℕ) → is_there (placed 0 ss x) ≡ true
        → ValueOk f ss n sound right b block found (path_to f b some r) 0 (value_at_start o (placed 0 ss x))
    start_settled None is x s = tt
    start_settled (Some m) is x s = inl (above (m + rank_of (placed 0 ss x)) (let le : n ≤ m = first_above (edges f) (length ss) n b m is in omega (arith, le)))

    lines_are : LinesRight (plan f ss n) (at_start (placed 0 ss) (first_at f ss n b)) block.lines
    lines_are =
        lines_right f ss n sound right b block found (path_to f b some r) (at_start (placed 0 ss) (first_at f ss n b)) 0 block.lines (λ j. ap (slice_get block.lines) (omega arith))
        (start_settled (first_at f ss n b) refl)

    formed_items : All (ItemFormed f) (block_items b block)
    formed_items = in_block (ItemFormed f) f b block found sound.formed.items

    -- ---- an edge

    abbrev Taken : ℕ → Block → ℕ → Type 0
    Taken m y x =
        (v : ℕ) × ((plan f ss n).starts y.number x ≡ Local v) × (is_phi v ((plan f ss n).news y.number ++ y.phis) ≡ true)
        × (phi_operand v block.number ((plan f ss n).news y.number ++ y.phis) ≡ Some ((plan f ss n).ends block.number x))

    module _ (m : ℕ) (y z : Block) (number : y.number ≡ m) (at_z : slice_get f.blocks (place f.blocks m) ≡ Some z) (z_number : z.number ≡ m) (leads : 1 ≤ times m (successors block.end)) where
      edge : Among b (edges f (place f.blocks m))
      edge =
          let many : times b (edges f (place f.blocks m)) ≡ times m (successors block.end) = edges_from f (place f.blocks m) z at_z b ∙ ap (out_to z.number) found ∙ ap (λ (k : ℕ). times k (successors block.end)) z_number in
          among_times b (edges f (place f.blocks m)) (omega (arith, many, leads))

      no_entry : place f.blocks m ≡ 0 → ⊥
      no_entry = all_among (λ (k : ℕ). place f.blocks k ≡ 0 → ⊥) m (successors block.end) (in_end (Keeps f EntryBranch) b block (in_block (Keeps f EntryBranch) f b block found (sound.rules EntryBranch))) leads

      abbrev first_number : ℕ
      first_number = free (edges f) (length ss) n (place f.blocks m)

      first_is : first_at f ss n (place f.blocks m) ≡ Some first_number
      first_is = ap (λ (t : Bool). if t then Some first_number else None) (takes_there (place f.blocks m) b (edges f (place f.blocks m)) edge no_entry)

      same_place : place f.blocks y.number ≡ place f.blocks m
      same_place = ap (place f.blocks) number

      news_is : (plan f ss n).news y.number ≡ phis_from (end_at f ss n) (edges f (place f.blocks m)) first_number ss
      news_is =
          ap (λ (p : ℕ). new_phis (end_at f ss n) (edges f p) (first_at f ss n p) ss) same_place
          ∙ ap (λ (o : Option ℕ). new_phis (end_at f ss n) (edges f (place f.blocks m)) o ss) first_is

      taken : (x : ℕ) → is_there (placed 0 ss x) ≡ true → Taken m y x
      taken x s = by (stands 0 ss x s)
        where
          by : Stands 0 ss x (placed 0 ss x) → Taken m y x
          by st = (
            first_number + st.index,
            ap (λ (p : ℕ). value_at_start (first_at f ss n p) (placed 0 ss x)) same_place ∙ ap (λ (o : Option ℕ). value_at_start o (placed 0 ss x)) first_is
                ∙ ap (λ (k : ℕ). Local (first_number + k)) (let e : rank_of (placed 0 ss x) ≡ 0 + st.index = st.rank in omega (arith, e)),
            subst (λ (ps : List Phi). is_phi (first_number + st.index) (ps ++ y.phis) ≡ true) (sym news_is)
                (phi_there (end_at f ss n) (edges f (place f.blocks m)) first_number st.index ss st.slot y.phis st.found),
            ap (λ (ps : List Phi). phi_operand (first_number + st.index) block.number (ps ++ y.phis)) news_is
                ∙ phi_takes (end_at f ss n) (edges f (place f.blocks m)) first_number st.index block.number ss st.slot y.phis st.found
                ∙ ap (λ (i : ℕ). edge_operand block.number (entries_of (end_at f ss n) i (edges f (place f.blocks m)))) st.local
                ∙ ap (λ (i : ℕ). edge_operand i (entries_of (end_at f ss n) x (edges f (place f.blocks m)))) (sym (end_number f ss n d b block found))
                ∙ entry_found (end_at f ss n) x b (edges f (place f.blocks m)) edge (λ p among same. one_end f ss n d b (place f.blocks m) p block found among same)
                ∙ ap (λ (c : Current). Some (c x)) (sym plan_ends),
          )

    targets_are : (m : ℕ) (y : Block) → IsTarget block.end m → find_block (within f).blocks m ≡ Some y → (x : ℕ) → is_there (placed 0 ss x) ≡ true → Taken m y x
    targets_are m y leads find x s = by (was_there (one_of (reached f (0 + place f.blocks m))) (slice_get f.blocks (place f.blocks m)) y at_y)
      where
        at_y : option_map (one_of (reached f (0 + place f.blocks m))) (slice_get f.blocks (place f.blocks m)) ≡ Some y
        at_y = sym (only_at (reached f) 0 (place f.blocks m) f.blocks) ∙ ap (slice_get (within f).blocks) (sym (only_place (reached f) 0 m f.blocks)) ∙ sym (find_is (within f).blocks m) ∙ find

        by : (z : Block) × (slice_get f.blocks (place f.blocks m) ≡ Some z) × (one_of (reached f (0 + place f.blocks m)) z ≡ y) → Taken m y x
        by (z, at_z, is) =
            let number : y.number ≡ m = number_found (within f).blocks m y find in
            taken m y z number at_z (sym (one_number (reached f (0 + place f.blocks m)) z) ∙ ap (λ (w : Block). w.number) is ∙ number) (is_target block.end m leads) x s

    block_right : BlockRight (plan f ss n) (within f) block
    block_right = record {
      news = news_are (place f.blocks block.number);
      phis = kept_phis f ss n sound right b block.phis (λ x s. used_in_phis (regs (placed 0 ss) x) x block (used_in_block (regs (placed 0 ss) x) x b f.blocks block found (slot_accessed f ss n sound right x s))) (in_phis (ItemFormed f) b block formed_items);
      free = λ x s.
          let m : Made f (record { local = x; reg = regs (placed 0 ss) x }) = made_slot f ss n sound right x s in
          phi_among x block.phis (no_phi f sound.formed x b m.block_place m.line_place block m.block m.line found (made_gives f ss n sound right x s));
      lines = subst (λ (p : ℕ). LinesRight (plan f ss n) (at_start (placed 0 ss) (first_at f ss n p)) block.lines) (sym place_here) lines_are;
      ends_are = λ x.
          ap (λ (p : ℕ). behind_all (plan f ss n) (at_start (placed 0 ss) (first_at f ss n p)) block.lines x) place_here
          ∙ ap (λ (c : Current). c x) (behind_same f ss n (at_start (placed 0 ss) (first_at f ss n b)) block.lines ∙ sym values_end ∙ sym plan_ends);
      end = kept_end f ss n sound right block.end (λ x s. used_in_end (regs (placed 0 ss) x) x block (used_in_block (regs (placed 0 ss) x) x b f.blocks block found (slot_accessed f ss n sound right x s))) (in_end (ItemFormed f) b block formed_items).operands;
      targets = targets_are;
      short = long f.blocks b block found;
    }

  bare_right : (b : ℕ) (block : Block) → slice_get f.blocks b ≡ Some block → reached f b ≡ false → BlockRight (plan f ss n) (within f) (bare block)
  bare_right b block found r = record {
    news = news_are (place f.blocks block.number);
    phis = tt;
    free = λ x s. refl;
    lines = tt;
    ends_are = λ x. ap (λ (c : Current). c x) (sym (ap (λ (t : Bool). plan_values f ss n t (place f.blocks block.number)) (ap (reached f) (place_is f.blocks d b block found) ∙ r)));
    end = tt;
    targets = λ m y leads find x s. absurd leads;
    short = omega arith;
  }

  blocks_right : (s : ℕ) (bs : List Block) → ((i : ℕ) → slice_get f.blocks (s + i) ≡ slice_get bs i) → BlocksRight (plan f ss n) (within f) (only (reached f) s bs)
  blocks_right s [] same = tt
  blocks_right s (b ∷ bs) same = (by (reached f s) refl, blocks_right (suc s) bs (λ i. ap (slice_get f.blocks) (omega arith) ∙ same (suc i)))
    where
      at_s : slice_get f.blocks s ≡ Some b
      at_s = ap (slice_get f.blocks) (omega arith) ∙ same 0

      by : (t : Bool) → reached f s ≡ t → BlockRight (plan f ss n) (within f) (one_of t b)
      by true r = block_right s b at_s r
      by false r = bare_right s b at_s r

  params_free : (ps : List Param) → ((x : ℕ) → is_there (placed 0 ss x) ≡ true → tally x (map (λ p. p.local) ps) ≡ 0) → ParamsFree (λ x. is_there (placed 0 ss x)) ps
  params_free [] none = tt
  params_free (p ∷ ps) none = (by (is_there (placed 0 ss p.local)) refl, params_free ps (λ x s. rest (nat_eq x p.local) (tally x (map (λ p. p.local) ps)) (none x s)))
    where
      rest : (t : Bool) (k : ℕ) → (if t then 1 else 0) + k ≡ 0 → k ≡ 0
      rest true k e = omega (arith, e)
      rest false k e = omega (arith, e)

      by : (t : Bool) → is_there (placed 0 ss p.local) ≡ t → t ≡ false
      by true s =
          let zero_times : tally p.local (p.local ∷ map (λ p. p.local) ps) ≡ 0 = none p.local s in
          let once : 1 ≤ (if nat_eq p.local p.local then 1 else 0) = tally_same p.local p.local refl in
          absurd (omega (arith, zero_times, once))
      by false s = refl

  plan_right : PlanRight (plan f ss n) (within f)
  plan_right = record {
    blocks = blocks_right 0 f.blocks (λ i. ap (slice_get f.blocks) (omega arith));
    hidden = λ x s. ap (λ (t : Bool). not t && holds (locals f) x) s;
    params = params_free f.params (λ x s.
        let m : Made f (record { local = x; reg = regs (placed 0 ss) x }) = made_slot f ss n sound right x s in
        no_parameter f sound.formed x m.block_place m.line_place m.block m.line (made_gives f ss n sound right x s));
  }

  -- ---- the promoted function and the plan's

  lines_same : (c : Current) (ls : List Line) → without_slots (placed 0 ss) c ls ≡ lines_promoted (plan f ss n) c ls
  lines_same c [] = refl
  lines_same c (l ∷ ls) =
      sym (put_is (placed 0 ss) c l.local l.instr (without_slots (placed 0 ss) (behind_line (placed 0 ss) l c) ls))
      ∙ ap (λ (rest : List Line). put (λ x. reg_of (placed 0 ss x)) (use_of (placed 0 ss) l.local l.instr) c l rest) (lines_same (behind_line (placed 0 ss) l c) ls)

  planned_at : (p : ℕ) (bs : List Block) → slice_get (blocks_promoted (plan f ss n) bs) p ≡ option_map (block_promoted (plan f ss n)) (slice_get bs p)
  planned_at p [] = refl
  planned_at zero (b ∷ bs) = refl
  planned_at (suc p) (b ∷ bs) = planned_at p bs

  planned_place : (m : ℕ) (bs : List Block) → place (blocks_promoted (plan f ss n) bs) m ≡ place bs m
  planned_place m [] = refl
  planned_place m (b ∷ bs) = ap (λ (k : ℕ). if nat_eq b.number m then zero else suc k) (planned_place m bs)

  abbrev planned : Function
  planned = promoted (plan f ss n) (within f)

  planned_is : (p : ℕ) → reached f p ≡ true → slice_get planned.blocks p ≡ option_map (block_promoted (plan f ss n)) (slice_get f.blocks p)
  planned_is p r =
      planned_at p (within f).blocks ∙ ap (option_map (block_promoted (plan f ss n))) (only_at (reached f) 0 p f.blocks ∙ ap (λ (q : ℕ). option_map (one_of (reached f q)) (slice_get f.blocks p)) (omega arith) ∙ ap (λ (t : Bool). option_map (one_of t) (slice_get f.blocks p)) r ∙ all_same (slice_get f.blocks p))

  block_same : (p : ℕ) (b : Block) → slice_get f.blocks p ≡ Some b → block_with (placed 0 ss) ss (end_at f ss n) (edges f p) (first_at f ss n p) b ≡ block_promoted (plan f ss n) b
  block_same p b found =
      ap (λ (ls : List Line). record b { phis = new_phis (end_at f ss n) (edges f p) (first_at f ss n p) ss ++ b.phis; lines = ls }) (lines_same (at_start (placed 0 ss) (first_at f ss n p)) b.lines)
      ∙ ap (λ (q : ℕ). record b { phis = new_phis (end_at f ss n) (edges f q) (first_at f ss n q) ss ++ b.phis; lines = lines_promoted (plan f ss n) (at_start (placed 0 ss) (first_at f ss n q)) b.lines }) (sym (place_is f.blocks d p b found))

  same_blocks : (p : ℕ) → reached f p ≡ true → slice_get (promoted_with f ss n).blocks p ≡ slice_get planned.blocks p
  same_blocks p r =
      block_at f ss n p ∙ by (slice_get f.blocks p) refl ∙ sym (planned_is p r)
    where
      by : (o : Option Block) → slice_get f.blocks p ≡ o → option_map (block_with (placed 0 ss) ss (end_at f ss n) (edges f p) (first_at f ss n p)) o ≡ option_map (block_promoted (plan f ss n)) o
      by None found = refl
      by (Some b) found = ap (λ (x : Block). Some x) (block_same p b found)

  planned_next : (p m : ℕ) (y z : Block) → reached f p ≡ true → slice_get planned.blocks p ≡ Some y → 1 ≤ times m (successors y.end) → find_block planned.blocks m ≡ Some z → reached f (place planned.blocks m) ≡ true
  planned_next p m y z r at_p leads find =
      subst (λ (q : ℕ). reached f q ≡ true) (sym same) (by (was_there (block_promoted (plan f ss n)) (slice_get f.blocks p) y (sym (planned_is p r) ∙ at_p)) (was_there (one_of (reached f (0 + place f.blocks m))) (slice_get f.blocks (place f.blocks m)) w.0 w.1))
    where
      same : place planned.blocks m ≡ place f.blocks m
      same = planned_place m (within f).blocks ∙ only_place (reached f) 0 m f.blocks

      at_m : option_map (block_promoted (plan f ss n)) (slice_get (within f).blocks (place f.blocks m)) ≡ Some z
      at_m = sym (planned_at (place f.blocks m) (within f).blocks) ∙ ap (slice_get planned.blocks) (sym same) ∙ sym (find_is planned.blocks m) ∙ find

      w : (v : Block) × (option_map (one_of (reached f (0 + place f.blocks m))) (slice_get f.blocks (place f.blocks m)) ≡ Some v)
      w = half (was_there (block_promoted (plan f ss n)) (slice_get (within f).blocks (place f.blocks m)) z at_m)
        where
          half : (v : Block) × (slice_get (within f).blocks (place f.blocks m) ≡ Some v) × (block_promoted (plan f ss n) v ≡ z) → (v : Block) × (option_map (one_of (reached f (0 + place f.blocks m))) (slice_get f.blocks (place f.blocks m)) ≡ Some v)
          half (v, at_v, is) = (v, sym (only_at (reached f) 0 (place f.blocks m) f.blocks) ∙ at_v)

      by : (b : Block) × (slice_get f.blocks p ≡ Some b) × (block_promoted (plan f ss n) b ≡ y) → (v : Block) × (slice_get f.blocks (place f.blocks m) ≡ Some v) × (one_of (reached f (0 + place f.blocks m)) v ≡ w.0) → reached f (place f.blocks m) ≡ true
      by (b, at_b, is) (v, at_v, was) =
          target_reached f p m b v at_b r (subst (λ (e : Terminator). 1 ≤ times m (successors e)) (ap (λ (x : Block). x.end) (sym is)) leads) (find_is f.blocks m ∙ at_v)

  agree_promoted : Agree (promoted_with f ss n) planned (reached f)
  agree_promoted = record {
    params = refl;
    same = same_blocks;
    places = λ m. place_stays f ss n m ∙ sym (planned_place m (within f).blocks ∙ only_place (reached f) 0 m f.blocks);
    entry = entry_reached f;
    next = planned_next;
  }

  agree_within : Agree (within f) f (reached f)
  agree_within = record {
    params = refl;
    same = λ p r. only_at (reached f) 0 p f.blocks ∙ ap (λ (q : ℕ). option_map (one_of (reached f q)) (slice_get f.blocks p)) (omega arith) ∙ ap (λ (t : Bool). option_map (one_of t) (slice_get f.blocks p)) r ∙ all_same (slice_get f.blocks p);
    places = λ m. only_place (reached f) 0 m f.blocks;
    entry = entry_reached f;
    next = λ p m y z r at_p leads find. target_reached f p m y z at_p r leads find;
  }

  better : (p : Program) → IsFormed p → BetterThan p (longest f.blocks + 1) (promoted_with f ss n) f
  better p formed = by f.blocks refl
    where
      by : (bs : List Block) → f.blocks ≡ bs → BetterThan p (longest f.blocks + 1) (promoted_with f ss n) f
      by [] e =
          let same : promoted_with f ss n ≡ f =
          ap (λ (l : List Block). record f { blocks = l }) (ap (blocks_with (placed 0 ss) ss (end_at f ss n) (edges f) (first_at f ss n) 0) e ∙ sym e) in
          subst (λ (g : Function). BetterThan p (longest f.blocks + 1) g f) (sym same) (wider p 1 (longest f.blocks + 1) (omega arith) f f (same_better p formed f))
      by (x ∷ xs) e =
          let first : BetterThan p 1 (promoted_with f ss n) planned =
          agreeing_better (promoted_with f ss n) planned (reached f) agree_promoted p formed (block_promoted (plan f ss n) (one_of (reached f 0) x)) (blocks_promoted (plan f ss n) (only (reached f) 1 xs))
          (ap (λ (bs : List Block). blocks_promoted (plan f ss n) (only (reached f) 0 bs)) e) in
          let second : BetterThan p (longest f.blocks + 1) planned (within f) = promoted_is_better p formed (within f) (plan f ss n) plan_right in
          let third : BetterThan p 1 (within f) f = agreeing_better (within f) f (reached f) agree_within p formed x xs e in
          let last : BetterThan p ((longest f.blocks + 1) * 1) planned f = in_a_row p formed (longest f.blocks + 1) 1 (omega arith) planned (within f) f second third in
          let all : BetterThan p (1 * ((longest f.blocks + 1) * 1)) (promoted_with f ss n) f = in_a_row p formed 1 ((longest f.blocks + 1) * 1) (omega arith) (promoted_with f ss n) planned f first last in
          subst (λ (k : ℕ). BetterThan p k (promoted_with f ss n) f) (omega arith) all

pub above_all : (f : Function) (z : ℕ) → next_number f ≤ z → holds (locals f) z ≡ false
above_all f z le = by (holds (locals f) z) refl
  where
    by : (t : Bool) → holds (locals f) z ≡ t → t ≡ false
    by true h = let lt : z < room (locals f ++ numbers f) = has_room (locals f ++ numbers f) z (holds_front z (locals f) (numbers f) h) in absurd (omega (arith, lt, le))
    by false h = refl

pub is_better : PromotedIsBetter
is_better f sound p formed = better f (promoted_slots f) (next_number f) sound (are_right f) (above_all f) p formed
