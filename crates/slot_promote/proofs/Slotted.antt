-- The slots of a table, where they stand, and what is known of them in a formed function.
use Rattle.std.proofs.Common.{◌≡◌, ℕ, zero, suc, ◌+◌, ◌*◌, ◌/◌, ◌≤◌, ◌<◌, nat_eq, Bool, true, false, ◌||◌, List, [], ◌∷◌, ◌++◌, length, Option, Some, None, ◌⊎◌, inl, inr, refl, sym, ◌∙◌, ap, subst, arith, if◌then◌else◌, lit<}
use Rattle.std.specs.Prelude.{slice_get, nat_le, flat_map}
use Rattle.std.specs.List.{cons_option}
use Rattle.std.proofs.lemmas.Bool.{eqb-true, eq-eqb}
use Rattle.ir_tree.specs.Flow.{definitions, holds, locals, parameters, phi_locals, results}
use Rattle.ir_tree.specs.Formed.{AreStored, Formed, IsReg, IsStored, numbers}
use Rattle.ir_tree.specs.Forms.{Form, int, pointer, array, structure}
use Rattle.ir_tree.specs.Layout.{size as size_of}
use Rattle.ir_tree.specs.declared.block.Block.{Block}
use Rattle.ir_tree.specs.declared.function.Function.{Function}
use Rattle.ir_tree.specs.declared.instr.Instr.{Instr}
use Rattle.ir_tree.specs.declared.instr.Instr.TheVariants as kind
use Rattle.ir_tree.specs.declared.instr.Line.{Line}
use Rattle.ir_tree.specs.declared.operand.Reg.{Reg}
use Rattle.ir_tree.specs.declared.operand.Reg.TheVariants.{Int, Ptr}
use Rattle.ir_meaning.specs.Bytes.{reg_size}
use Rattle.ir_meaning.specs.Rules.{IsStorable}
use Rattle.ir_edit.proofs.Tally.{tally, tally_both, tally_same}
use Rattle.promotable_slots.specs.Slots.{is_accessed_as, limited, line_slots, promotable, promoted_slots, scalar, slot_at, slot_made, slots}
use Rattle.promotable_slots.specs.Uses.{uses}
use Rattle.slot_promote.specs.Values.{is_there, placed, rank_of, reg_of}
use Rattle.slot_promote.specs.declared.slots.SlotRank.{SlotRank}
use Rattle.promotable_slots.specs.declared.slots.Slot.{Slot}
use Rattle.promotable_slots.specs.declared.uses.Use.{Use}
use Rattle.slot_promote.proofs.Before.{apart, count_in, counted_once, one_block, only_block}

-- ---- the table

pub record Stands (k : ℕ) (ss : List Slot) (x : ℕ) (o : Option SlotRank) : Type 0 where
  pub index : ℕ
  pub slot : Slot
  pub found : slice_get ss index ≡ Some slot
  pub local : slot.local ≡ x
  pub rank : rank_of o ≡ k + index
  pub reg : reg_of o ≡ slot.reg

pub stands : (k : ℕ) (ss : List Slot) (x : ℕ) → is_there (placed k ss x) ≡ true → Stands k ss x (placed k ss x)
stands k [] x h = absurd cc
stands k (s ∷ ss) x h = by (nat_eq s.local x) refl h (stands (suc k) ss x)
  where
    by : (t : Bool) → nat_eq s.local x ≡ t → is_there (if t then Some (record { rank = k; reg = s.reg }) else placed (suc k) ss x) ≡ true
        → (is_there (placed (suc k) ss x) ≡ true → Stands (suc k) ss x (placed (suc k) ss x))
        → Stands k (s ∷ ss) x (if t then Some (record { rank = k; reg = s.reg }) else placed (suc k) ss x)
    by true is h more = record { index = 0; slot = s; found = refl; local = eqb-true s.local x is; rank = omega arith; reg = refl }
    by false is h more =
        let r : Stands (suc k) ss x (placed (suc k) ss x) = more h in
        let rank : rank_of (placed (suc k) ss x) ≡ suc k + r.index = r.rank in
        record { index = suc r.index; slot = r.slot; found = r.found; local = r.local; rank = omega (arith, rank); reg = r.reg }

-- ---- the slots of a function

-- an `alloca` of the function makes the slot, for a scalar of its type
pub record Made (f : Function) (s : Slot) : Type 0 where
  pub block_place : ℕ
  pub line_place : ℕ
  pub block : Block
  pub line : Line
  pub shape : Form
  pub align : ℕ
  pub in_function : slice_get f.blocks block_place ≡ Some block
  pub in_block : slice_get block.lines line_place ≡ Some line
  pub local : line.local ≡ Some s.local
  pub instr : line.instr ≡ kind.Alloca shape align
  pub scalar_is : scalar shape ≡ Some s.reg

pub record IsRight (f : Function) (s : Slot) : Type 0 where
  pub made : Made f s
  pub accessed : is_accessed_as s.reg s.local (uses f.blocks) ≡ true

abbrev pub AreRight : Function → List Slot → Type 0
AreRight f ss = (i : ℕ) (s : Slot) → slice_get ss i ≡ Some s → IsRight f s

abbrev InLine : Line → Slot → Type 0
InLine l s = (l.local ≡ Some s.local) × (shape : Form) × (align : ℕ) × (l.instr ≡ kind.Alloca shape align) × (scalar shape ≡ Some s.reg)

made_at : (x i : ℕ) (o : Option Reg) (s : Slot) → slice_get (slot_at x o) i ≡ Some s → (x ≡ s.local) × (o ≡ Some s.reg)
made_at x i None s found = absurd cc
made_at x zero (Some reg) s found =
    let same : record { local = x; reg = reg } ≡ s = cc found in
    (ap (λ (t : Slot). t.local) same, ap (λ (t : Slot). Some t.reg) same)
made_at x (suc i) (Some reg) s found = absurd cc

made_by : (local : Option ℕ) (instr : Instr) (i : ℕ) (s : Slot) → slice_get (slot_made local instr) i ≡ Some s → InLine (record { local = local; instr = instr }) s
made_by None instr i s found = absurd cc
made_by (Some x) (kind.Alloca shape align) i s found =
    let is : (x ≡ s.local) × (scalar shape ≡ Some s.reg) = made_at x i (scalar shape) s found in
    (ap (λ (y : ℕ). Some y) is.0, shape, align, refl, is.1)
made_by (Some x) (kind.Binary op flags width left right) i s found = absurd cc
made_by (Some x) (kind.Icmp predicate reg left right) i s found = absurd cc
made_by (Some x) (kind.Cast op from value to) i s found = absurd cc
made_by (Some x) (kind.Select condition if_true if_false) i s found = absurd cc
made_by (Some x) (kind.Freeze reg value) i s found = absurd cc
made_by (Some x) (kind.Load reg address align) i s found = absurd cc
made_by (Some x) (kind.Store reg value address align) i s found = absurd cc
made_by (Some x) (kind.Address inbounds shape base indices) i s found = absurd cc
made_by (Some x) (kind.Call result callee arguments) i s found = absurd cc
made_by (Some x) (kind.Phi reg incoming) i s found = absurd cc

-- an element of two lists is one of either
in_either : {X : Type 0} (xs ys : List X) (i : ℕ) (x : X) → slice_get (xs ++ ys) i ≡ Some x → ((j : ℕ) × (slice_get xs j ≡ Some x)) ⊎ ((j : ℕ) × (slice_get ys j ≡ Some x))
in_either {X} [] ys i x found = inr (i, found)
in_either {X} (z ∷ xs) ys zero x found = inl (0, found)
in_either {X} (z ∷ xs) ys (suc i) x found = by (in_either xs ys i x found)
  where
    by : ((j : ℕ) × (slice_get xs j ≡ Some x)) ⊎ ((j : ℕ) × (slice_get ys j ≡ Some x)) → ((j : ℕ) × (slice_get (z ∷ xs) j ≡ Some x)) ⊎ ((j : ℕ) × (slice_get ys j ≡ Some x))
    by (inl (j, at)) = inl (suc j, at)
    by (inr (j, at)) = inr (j, at)

abbrev AtLine : List Line → Slot → Type 0
AtLine ls s = (k : ℕ) × (l : Line) × (slice_get ls k ≡ Some l) × InLine l s

slot_at_line : (ls : List Line) (i : ℕ) (s : Slot) → slice_get (line_slots ls) i ≡ Some s → AtLine ls s
slot_at_line [] i s found = absurd cc
slot_at_line (l ∷ ls) i s found = by (in_either (slot_made l.local l.instr) (line_slots ls) i s found) (slot_at_line ls)
  where
    later : AtLine ls s → AtLine (l ∷ ls) s
    later (k, x, at, is) = (suc k, x, at, is)

    by : ((j : ℕ) × (slice_get (slot_made l.local l.instr) j ≡ Some s)) ⊎ ((j : ℕ) × (slice_get (line_slots ls) j ≡ Some s))
        → ((i : ℕ) (s : Slot) → slice_get (line_slots ls) i ≡ Some s → AtLine ls s) → AtLine (l ∷ ls) s
    by (inl (j, at)) more = (0, l, refl, made_by l.local l.instr j s at)
    by (inr (j, at)) more = later (more j s at)

abbrev AtBlock : List Block → Slot → Type 0
AtBlock bs s = (b : ℕ) × (block : Block) × (slice_get bs b ≡ Some block) × AtLine block.lines s

slot_at_block : (bs : List Block) (i : ℕ) (s : Slot) → slice_get (slots bs) i ≡ Some s → AtBlock bs s
slot_at_block [] i s found = absurd cc
slot_at_block (b ∷ bs) i s found = by (in_either (line_slots b.lines) (slots bs) i s found) (slot_at_block bs)
  where
    later : AtBlock bs s → AtBlock (b ∷ bs) s
    later (k, x, at, is) = (suc k, x, at, is)

    by : ((j : ℕ) × (slice_get (line_slots b.lines) j ≡ Some s)) ⊎ ((j : ℕ) × (slice_get (slots bs) j ≡ Some s))
        → ((i : ℕ) (s : Slot) → slice_get (slots bs) i ≡ Some s → AtBlock bs s) → AtBlock (b ∷ bs) s
    by (inl (j, at)) more = (0, b, refl, slot_at_line b.lines j s at)
    by (inr (j, at)) more = later (more j s at)

abbrev Kept : List Use → List Slot → Slot → Type 0
Kept us ss s = ((j : ℕ) × (slice_get ss j ≡ Some s)) × (is_accessed_as s.reg s.local us ≡ true)

kept : (us : List Use) (ss : List Slot) (i : ℕ) (s : Slot) → slice_get (promotable us ss) i ≡ Some s → Kept us ss s
kept us [] i s found = absurd cc
kept us (x ∷ ss) i s found = by (is_accessed_as x.reg x.local us) refl i found (kept us ss)
  where
    later : Kept us ss s → Kept us (x ∷ ss) s
    later ((j, at), is) = ((suc j, at), is)

    by : (t : Bool) → is_accessed_as x.reg x.local us ≡ t → (i : ℕ) → slice_get (if t then x ∷ promotable us ss else promotable us ss) i ≡ Some s
        → ((i : ℕ) (s : Slot) → slice_get (promotable us ss) i ≡ Some s → Kept us ss s) → Kept us (x ∷ ss) s
    by true is zero found more = let same : x ≡ s = cc found in ((0, found), subst (λ (y : Slot). is_accessed_as y.reg y.local us ≡ true) same is)
    by true is (suc i) found more = later (more i s found)
    by false is i found more = later (more i s found)

within : (blocks : ℕ) (ss : List Slot) (i : ℕ) (s : Slot) → slice_get (limited blocks ss) i ≡ Some s → slice_get ss i ≡ Some s
within blocks ss i s found = by (nat_le (length ss * blocks) 4000000) found
  where
    by : (t : Bool) → slice_get (if t then ss else []) i ≡ Some s → slice_get ss i ≡ Some s
    by true h = h
    by false h = absurd cc

pub are_right : (f : Function) → AreRight f (promoted_slots f)
are_right f i s found = by (kept (uses f.blocks) (slots f.blocks) i s (within (length f.blocks) (promotable (uses f.blocks) (slots f.blocks)) i s found))
  where
    made : AtBlock f.blocks s → Made f s
    made (b, block, at_b, (k, l, at_k, (local, shape, align, instr, is))) =
        record { block_place = b; line_place = k; block = block; line = l; shape = shape; align = align; in_function = at_b; in_block = at_k; local = local; instr = instr; scalar_is = is }

    by : Kept (uses f.blocks) (slots f.blocks) s → IsRight f s
    by ((j, at), is) = record { made = made (slot_at_block f.blocks j s at); accessed = is }

-- ---- what defines a local

pub tally_holds : (x : ℕ) (xs : List ℕ) → 1 ≤ tally x xs → holds xs x ≡ true
tally_holds x [] h = absurd (omega (arith, h))
tally_holds x (y ∷ ys) h = by (nat_eq x y) h (tally_holds x ys)
  where
    by : (t : Bool) → 1 ≤ (if t then 1 else 0) + tally x ys → (1 ≤ tally x ys → holds ys x ≡ true) → (t || holds ys x) ≡ true
    by true h more = refl
    by false h more = more (omega (arith, h))

one_result : (y k : ℕ) (ls : List Line) (l : Line) → slice_get ls k ≡ Some l → l.local ≡ Some y → 1 ≤ tally y (results ls)
one_result y k [] l found is = absurd cc
one_result y zero (x ∷ ls) l found is =
    let same : x ≡ l = cc found in
    let named : x.local ≡ Some y = ap (λ (z : Line). z.local) same ∙ is in
    subst (λ (o : Option ℕ). 1 ≤ tally y (cons_option o (results ls))) (sym named) (let one : 1 ≤ (if nat_eq y y then 1 else 0) = tally_same y y refl in omega (arith, one))
one_result y (suc k) (x ∷ ls) l found is = by x.local (one_result y k ls l found is)
  where
    by : (o : Option ℕ) → 1 ≤ tally y (results ls) → 1 ≤ tally y (cons_option o (results ls))
    by None h = h
    by (Some z) h = omega (arith, h)

two_results : (y j k : ℕ) (ls : List Line) (l m : Line) → j < k → slice_get ls j ≡ Some l → slice_get ls k ≡ Some m → l.local ≡ Some y → m.local ≡ Some y → 2 ≤ tally y (results ls)
two_results y j k [] l m lt at_j at_k a b = absurd cc
two_results y zero zero (x ∷ ls) l m lt at_j at_k a b = absurd (omega (arith, lt))
two_results y zero (suc k) (x ∷ ls) l m lt at_j at_k a b =
    let same : x ≡ l = cc at_j in
    let named : x.local ≡ Some y = ap (λ (z : Line). z.local) same ∙ a in
    let more : 1 ≤ tally y (results ls) = one_result y k ls m at_k b in
    subst (λ (o : Option ℕ). 2 ≤ tally y (cons_option o (results ls))) (sym named) (let one : 1 ≤ (if nat_eq y y then 1 else 0) = tally_same y y refl in omega (arith, one, more))
two_results y (suc j) zero (x ∷ ls) l m lt at_j at_k a b = absurd (omega (arith, lt))
two_results y (suc j) (suc k) (x ∷ ls) l m lt at_j at_k a b = by x.local (two_results y j k ls l m (omega (arith, lt)) at_j at_k a b)
  where
    by : (o : Option ℕ) → 2 ≤ tally y (results ls) → 2 ≤ tally y (cons_option o (results ls))
    by None h = h
    by (Some z) h = omega (arith, h)

-- a line of a block gives a local its value
pub record Gives (f : Function) (y b k : ℕ) (block : Block) (l : Line) : Type 0 where
  pub in_function : slice_get f.blocks b ≡ Some block
  pub in_block : slice_get block.lines k ≡ Some l
  pub local : l.local ≡ Some y

module _ (f : Function) (formed : Formed f) where
  definitions_count : (y : ℕ) (block : Block) → tally y (definitions block) ≡ tally y (phi_locals block) + tally y (results block.lines)
  definitions_count y block = tally_both y (phi_locals block) (results block.lines)

  pub given_here : (y b k : ℕ) (block : Block) (l : Line) → Gives f y b k block l → 1 ≤ count_in y (slice_get f.blocks b)
  given_here y b k block l g =
      subst (λ (o : Option Block). 1 ≤ count_in y o) (sym g.in_function)
      (let some : 1 ≤ tally y (results block.lines) = one_result y k block.lines l g.in_block g.local in let all : tally y (definitions block) ≡ tally y (phi_locals block) + tally y (results block.lines) = definitions_count y block in omega (arith, some, all))

  -- no more than once in a block
  pub at_most : (y b : ℕ) (block : Block) → slice_get f.blocks b ≡ Some block → tally y (phi_locals block) + tally y (results block.lines) ≤ 1
  at_most y b block found =
      let all : tally y (definitions block) ≡ tally y (phi_locals block) + tally y (results block.lines) = definitions_count y block in
      let less : tally y (definitions block) ≤ tally y (flat_map definitions f.blocks) = subst (λ (o : Option Block). count_in y o ≤ tally y (flat_map definitions f.blocks)) found (one_block y f.blocks b) in
      let once : tally y (parameters f) + (tally y (flat_map definitions f.blocks) + tally y (numbers f)) ≤ 1 = counted_once f formed y in
      omega (arith, all, less, once)

  pub no_parameter : (y b k : ℕ) (block : Block) (l : Line) → Gives f y b k block l → tally y (parameters f) ≡ 0
  no_parameter y b k block l g =
      let some : 1 ≤ count_in y (slice_get f.blocks b) = given_here y b k block l g in
      let less : count_in y (slice_get f.blocks b) ≤ tally y (flat_map definitions f.blocks) = one_block y f.blocks b in
      let once : tally y (parameters f) + (tally y (flat_map definitions f.blocks) + tally y (numbers f)) ≤ 1 = counted_once f formed y in
      omega (arith, some, less, once)

  same_place : (y b c j k : ℕ) (block other : Block) (l m : Line) → Gives f y b j block l → Gives f y c k other m → b ≡ c
  same_place y b c j k block other l m g h = by (nat_eq b c) refl
    where
      by : (t : Bool) → nat_eq b c ≡ t → b ≡ c
      by true is = eqb-true b c is
      by false is = absurd (only_block f formed y b c (given_here y b j block l g) (given_here y c k other m h) (apart b c (λ s. let t : true ≡ false = sym (eq-eqb b c s) ∙ is in cc t)))

  same_block : (y b j k : ℕ) (block : Block) (l m : Line) → Gives f y b j block l → Gives f y b k block m → l ≡ m
  same_block y b j k block l m g h = by (nat_eq j k) refl
    where
      never : (j < k) ⊎ (k < j) → ⊥
      never (inl lt) = let two : 2 ≤ tally y (results block.lines) = two_results y j k block.lines l m lt g.in_block h.in_block g.local h.local in let most : tally y (phi_locals block) + tally y (results block.lines) ≤ 1 = at_most y b block g.in_function in omega (arith, two, most)
      never (inr lt) = let two : 2 ≤ tally y (results block.lines) = two_results y k j block.lines m l lt h.in_block g.in_block h.local g.local in let most : tally y (phi_locals block) + tally y (results block.lines) ≤ 1 = at_most y b block g.in_function in omega (arith, two, most)

      by : (t : Bool) → nat_eq j k ≡ t → l ≡ m
      by true is =
          let some : Some l ≡ Some m = sym g.in_block ∙ ap (slice_get block.lines) (eqb-true j k is) ∙ h.in_block in
          cc some
      by false is = absurd (never (apart j k (λ s. let t : true ≡ false = sym (eq-eqb j k s) ∙ is in cc t)))

  pub local_of : (y b k : ℕ) (block : Block) (l : Line) → Gives f y b k block l → holds (locals f) y ≡ true
  local_of y b k block l g =
      let some : 1 ≤ count_in y (slice_get f.blocks b) = given_here y b k block l g in
      let less : count_in y (slice_get f.blocks b) ≤ tally y (flat_map definitions f.blocks) = one_block y f.blocks b in
      let all : tally y (locals f) ≡ tally y (parameters f) + tally y (flat_map definitions f.blocks) = tally_both y (parameters f) (flat_map definitions f.blocks) in
      tally_holds y (locals f) (omega (arith, some, less, all))

  -- one line gives a local its value
  pub one_line : (y b c j k : ℕ) (block other : Block) (l m : Line) → Gives f y b j block l → Gives f y c k other m → l ≡ m
  one_line y b c j k block other l m g h =
      let place : b ≡ c = same_place y b c j k block other l m g h in
      let some : Some block ≡ Some other = sym g.in_function ∙ ap (slice_get f.blocks) place ∙ h.in_function in
      let same : other ≡ block = sym (cc some) in
      same_block y b j k block l m g (record { in_function = g.in_function; in_block = subst (λ (x : Block). slice_get x.lines k ≡ Some m) same h.in_block; local = h.local })

  -- what a line gives its value is no phi
  pub no_phi : (y b c k : ℕ) (block other : Block) (l : Line) → slice_get f.blocks b ≡ Some block → Gives f y c k other l → tally y (phi_locals block) ≡ 0
  no_phi y b c k block other l found g = by (tally y (phi_locals block)) refl
    where
      by : (m : ℕ) → tally y (phi_locals block) ≡ m → m ≡ 0
      by zero is = refl
      by (suc m) is = absurd (at (nat_eq b c) refl)
        where
          all : tally y (definitions block) ≡ tally y (phi_locals block) + tally y (results block.lines)
          all = definitions_count y block

          here : 1 ≤ count_in y (slice_get f.blocks b)
          here = subst (λ (o : Option Block). 1 ≤ count_in y o) (sym found) (let e : tally y (definitions block) ≡ tally y (phi_locals block) + tally y (results block.lines) = all in omega (arith, e, is))

          at : (t : Bool) → nat_eq b c ≡ t → ⊥
          at true same =
              let both : Some block ≡ Some other = sym found ∙ ap (slice_get f.blocks) (eqb-true b c same) ∙ g.in_function in
              let equal : other ≡ block = sym (cc both) in
              let some : 1 ≤ tally y (results block.lines) = one_result y k block.lines l (subst (λ (x : Block). slice_get x.lines k ≡ Some l) equal g.in_block) g.local in
              let most : tally y (phi_locals block) + tally y (results block.lines) ≤ 1 = at_most y b block found in
              omega (arith, some, most, is)
          at false differ = only_block f formed y b c here (given_here y c k other l g) (apart b c (λ s. let t : true ≡ false = sym (eq-eqb b c s) ∙ differ in cc t))

-- ---- shapes of scalars

storable_width : (w : ℕ) → IsStored w → (0 < w / 8) × (w / 8 * 8 ≡ w)
storable_width w (inl e) = subst (λ (n : ℕ). (0 < n / 8) × (n / 8 * 8 ≡ n)) (sym e) (lit< tt, refl)
storable_width w (inr (inl e)) = subst (λ (n : ℕ). (0 < n / 8) × (n / 8 * 8 ≡ n)) (sym e) (lit< tt, refl)
storable_width w (inr (inr (inl e))) = subst (λ (n : ℕ). (0 < n / 8) × (n / 8 * 8 ≡ n)) (sym e) (lit< tt, refl)
storable_width w (inr (inr (inr e))) = subst (λ (n : ℕ). (0 < n / 8) × (n / 8 * 8 ≡ n)) (sym e) (lit< tt, refl)

pub scalar_storable : (shape : Form) (reg : Reg) → AreStored shape → scalar shape ≡ Some reg → IsStorable reg
scalar_storable (int w) reg h is = let same : Int w ≡ reg = cc is in subst IsStorable same (storable_width w h)
scalar_storable pointer reg h is = let same : Ptr ≡ reg = cc is in subst IsStorable same tt
scalar_storable (array count of) reg h is = absurd cc
scalar_storable (structure packed parts) reg h is = absurd cc

pub scalar_size : (shape : Form) (reg : Reg) → scalar shape ≡ Some reg → size_of shape ≡ reg_size reg
scalar_size (int w) reg is = let same : Int w ≡ reg = cc is in ap reg_size same
scalar_size pointer reg is = let same : Ptr ≡ reg = cc is in ap reg_size same
scalar_size (array count of) reg is = absurd cc
scalar_size (structure packed parts) reg is = absurd cc

stored_width : (w : ℕ) → IsStored w → (1 ≤ w) × (w ≤ 64)
stored_width w (inl e) = (omega (arith, e), omega (arith, e))
stored_width w (inr (inl e)) = (omega (arith, e), omega (arith, e))
stored_width w (inr (inr (inl e))) = (omega (arith, e), omega (arith, e))
stored_width w (inr (inr (inr e))) = (omega (arith, e), omega (arith, e))

pub scalar_reg : (shape : Form) (reg : Reg) → AreStored shape → scalar shape ≡ Some reg → IsReg reg
scalar_reg (int w) reg h is = let same : Int w ≡ reg = cc is in subst IsReg same (stored_width w h)
scalar_reg pointer reg h is = let same : Ptr ≡ reg = cc is in subst IsReg same tt
scalar_reg (array count of) reg h is = absurd cc
scalar_reg (structure packed parts) reg h is = absurd cc
