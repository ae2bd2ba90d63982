-- A shape that is laid out in 2^31 bytes has room, and so has each shape within.
use Rattle.std.proofs.Common.{◌≡◌, ℕ, zero, suc, ◌+◌, ◌-◌, ◌*◌, ◌/◌, ◌≤◌, ◌^◌, nat_eq, nat_lt, nat_le, Bool, true, false, cond, List, refl, sym, subst, arith, mul_comm, le-div_iff_mul-le}
use Rattle.ir_parse_operands.specs.Extents.{wider, bytes, rounded, multiples, extent, extent_of, members_extent, no_bytes, placed, grown, padded, align_by, room_for, share, shared, between, behind, left_for, left, whole, Fits, IsRoom}
use Rattle.ir_parse_parts.specs.Shapes as written
use Rattle.ir_parse_parts.specs.Shapes.{WrittenParts}
use Rattle.ir_parse_operands.specs.declared.extents.Align.{Align}
use Rattle.ir_parse_operands.specs.declared.extents.Align.TheVariants.{One, Two, Four, Eight}
use Rattle.ir_parse_operands.specs.declared.extents.Extent.{Extent}
use Rattle.ir_parse_operands.specs.declared.extents.Room.{Room}
use Rattle.ir_parse_operands.specs.ShapeForms.{memory_shape}
use Rattle.ir_parse_operands.proofs.ExtentLaws.{grown_fits, elements_fit, most_for, left_room, shared_room}
use Rattle.ir_print.specs.Types.{shape}
use Rattle.ir_tree.specs.Formed.{AreStored, AllStored, nesting, deepest}
use Rattle.ir_tree.specs.Forms.{Form, Forms, int, pointer, array, structure, no_parts, part}
use Rattle.ir_tree.specs.Layout.{size, IsLaidOut, AreLaidOut}
use Rattle.ir_round_trip.specs.PartsPrinted.{written_shape, written_parts}
use Rattle.ir_round_trip.specs.PartsReadable.{CountsReadable, AllCountsReadable, ShapeReadable}
use Rattle.ir_round_trip.specs.Reads.{Parses}
use Rattle.ir_round_trip.proofs.PartsShapes.{HasRoom, PartsHaveRoom, shape_read}
use Rattle.ir_round_trip.proofs.PartsShapes as shapes
use Rattle.ir_round_trip.proofs.Sizes.{IsMultiple, is_multiple, multiplied, same_size}

-- ---- room

-- there is room for so many bytes at an alignment
abbrev Reaches : Room → Align → ℕ → Type 0
Reaches room a z = z + bytes a 1 ≤ bytes a (room_for room a)

-- less bytes have room too
fewer : (room : Room) (a : Align) (y z : ℕ) → y ≤ z → Reaches room a z → Reaches room a y
fewer room a y z le h = omega (arith, le, h)

-- what has room at an alignment has it at a lesser one
abbrev IsNested : Room → Type 0
IsNested room = (a b : Align) → wider a b ≡ b → (z : ℕ) → Reaches room b z → Reaches room a z

nothing_in_none : (a : Align) (z : ℕ) → z + bytes a 1 ≤ bytes a 0 → ⊥
nothing_in_none One z h = omega (arith, h)
nothing_in_none Two z h = omega (arith, h)
nothing_in_none Four z h = omega (arith, h)
nothing_in_none Eight z h = omega (arith, h)

-- the same of the most bytes that have room
most_enough : (room : Room) → ((a b : Align) → wider a b ≡ b → (q : ℕ) → room_for room b ≡ suc q → Reaches room a (bytes b q)) → IsNested room
most_enough room h a b w z d = by_room (room_for room b) refl
  where
    reached : (b : Align) (q : ℕ) → z + bytes b 1 ≤ bytes b (suc q) → z ≤ bytes b q
    reached One q d = omega (arith, d)
    reached Two q d = omega (arith, d)
    reached Four q d = omega (arith, d)
    reached Eight q d = omega (arith, d)

    by_room : (r : ℕ) → room_for room b ≡ r → Reaches room a z
    by_room zero e = absurd (nothing_in_none b z (subst (λ (n : ℕ). z + bytes b 1 ≤ bytes b n) e d))
    by_room (suc q) e = fewer room a z (bytes b q) (reached b q (subst (λ (n : ℕ). z + bytes b 1 ≤ bytes b n) e d)) (h a b w q e)

-- a multiple of an alignment is one of a lesser alignment
lesser : (a b : Align) → wider a b ≡ b → (q : ℕ) → (k : ℕ) × (bytes b q ≡ bytes a k)
lesser One b w q = (bytes b q, refl)
lesser Two Two w q = (q, refl)
lesser Two Four w q = (2 * q, omega arith)
lesser Two Eight w q = (4 * q, omega arith)
lesser Four Four w q = (q, refl)
lesser Four Eight w q = (2 * q, omega arith)
lesser Eight Eight w q = (q, refl)
lesser Two One w q = absurd cc
lesser Four One w q = absurd cc
lesser Four Two w q = absurd cc
lesser Eight One w q = absurd cc
lesser Eight Two w q = absurd cc
lesser Eight Four w q = absurd cc

-- the most bytes that have room
at_most : (b : Align) (q : ℕ) → bytes b q + bytes b 1 ≤ bytes b (suc q)
at_most One q = omega arith
at_most Two q = omega arith
at_most Four q = omega arith
at_most Eight q = omega arith

whole_most : (a : Align) (z : ℕ) → z ≤ 2147483648 → Reaches whole a z
whole_most One z h = omega (arith, h)
whole_most Two z h = omega (arith, h)
whole_most Four z h = omega (arith, h)
whole_most Eight z h = omega (arith, h)

nested_whole : IsNested whole
nested_whole a b w z h = whole_most a z (most b h)
  where
    most : (b : Align) → Reaches whole b z → z ≤ 2147483648
    most One h = omega (arith, h)
    most Two h = omega (arith, h)
    most Four h = omega (arith, h)
    most Eight h = omega (arith, h)

-- ---- tests

is_zero : (n : ℕ) → nat_eq n 0 ≡ true → n ≡ 0
is_zero n e = grind arith

not_zero : (n : ℕ) → nat_eq n 0 ≡ false → 1 ≤ n
not_zero n e = grind arith

-- so many multiples below
count_least : (a : Align) (q r : ℕ) → bytes a q + bytes a 1 ≤ bytes a r → q + 1 ≤ r
count_least One q r h = omega (arith, h)
count_least Two q r h = omega (arith, h)
count_least Four q r h = omega (arith, h)
count_least Eight q r h = omega (arith, h)

count_enough : (a : Align) (q r : ℕ) → q ≤ r → bytes a q + bytes a 1 ≤ bytes a (r + 1)
count_enough One q r h = omega (arith, h)
count_enough Two q r h = omega (arith, h)
count_enough Four q r h = omega (arith, h)
count_enough Eight q r h = omega (arith, h)

-- ---- elements

share_is : (n : ℕ) (room : Room) (a : Align) → room_for (shared n room) a ≡ share n (room_for room a) a
share_is n room One = refl
share_is n room Two = refl
share_is n room Four = refl
share_is n room Eight = refl

any_most : (a : Align) (z : ℕ) → z ≤ 2147483648 → z + bytes a 1 ≤ bytes a (multiples a 2147483648)
any_most One z h = omega (arith, h)
any_most Two z h = omega (arith, h)
any_most Four z h = omega (arith, h)
any_most Eight z h = omega (arith, h)

share_enough : (a : Align) (n r q : ℕ) → bytes a q ≤ 2147483648 → n * bytes a q + bytes a 1 ≤ bytes a r → bytes a q + bytes a 1 ≤ bytes a (share n r a)
share_enough a n r q small h = by_room (nat_eq r 0) refl
  where
    quotient : nat_eq n 0 ≡ false → n * q + 1 ≤ r → q ≤ (r - 1) / n
    quotient e le = (le-div_iff_mul-le {k = n} {x = q} {y = r - 1} (not_zero n e)).1 (omega (arith, le, mul_comm n q))

    by_count : (b : Bool) → nat_eq n 0 ≡ b → bytes a q + bytes a 1 ≤ bytes a (cond b (multiples a 2147483648) ((r - 1) / n + 1))
    by_count true e = any_most a (bytes a q) small
    by_count false e = count_enough a q ((r - 1) / n) (quotient e (count_least a (n * q) r (subst (λ (z : ℕ). z + bytes a 1 ≤ bytes a r) (multiplied a n q) h)))

    by_room : (b : Bool) → nat_eq r 0 ≡ b → bytes a q + bytes a 1 ≤ bytes a (cond b 0 (cond (nat_eq n 0) (multiples a 2147483648) ((r - 1) / n + 1)))
    by_room true e = absurd (nothing_in_none a (n * bytes a q) (subst (λ (k : ℕ). n * bytes a q + bytes a 1 ≤ bytes a k) (is_zero r e) h))
    by_room false e = by_count (nat_eq n 0) refl

elements_room : (n : ℕ) (room : Room) (a : Align) (q : ℕ) → bytes a q ≤ 2147483648 → Reaches room a (n * bytes a q) → Reaches (shared n room) a (bytes a q)
elements_room n room a q small h = subst (λ (r : ℕ). bytes a q + bytes a 1 ≤ bytes a r) (sym (share_is n room a)) (share_enough a n (room_for room a) q small h)

-- room within 2^31 bytes, which at an alignment is no less than at a wider one
record Good (room : Room) : Type 0 where
  pub bounded : IsRoom room
  pub nested : IsNested room

one_less : (b : Align) (q : ℕ) → bytes b (suc q) ≤ 2147483648 + bytes b 1 → bytes b q ≤ 2147483648
one_less One q h = omega (arith, h)
one_less Two q h = omega (arith, h)
one_less Four q h = omega (arith, h)
one_less Eight q h = omega (arith, h)

-- the most bytes that have room, which are so many times the alignment
reached : (room : Room) (b : Align) (q : ℕ) → room_for room b ≡ suc q → Reaches room b (bytes b q)
reached room b q e = subst (λ (r : ℕ). bytes b q + bytes b 1 ≤ bytes b r) (sym e) (at_most b q)

within : (room : Room) → IsRoom room → (b : Align) (q : ℕ) → room_for room b ≡ suc q → bytes b q ≤ 2147483648
within room h b q e = one_less b q (subst (λ (r : ℕ). bytes b r ≤ 2147483648 + bytes b 1) e (most_for room h b))

good_shared : (n : ℕ) (room : Room) → Good room → Good (shared n room)
good_shared n room g = record {
  bounded = shared_room n room g.bounded;
  nested = most_enough (shared n room) (λ a b w q e.
      let k = lesser a b w q in
      let all : Reaches room b (n * bytes b q) = elements_fit n room (extent (bytes b q) b) (reached (shared n room) b q e) in
      let some : Reaches room a (n * bytes a k.0) = subst (λ (z : ℕ). Reaches room a (n * z)) k.1 (g.nested a b w (n * bytes b q) all) in
      let small : bytes a k.0 ≤ 2147483648 = subst (λ (z : ℕ). z ≤ 2147483648) k.1 (within (shared n room) (shared_room n room g.bounded) b q e) in
      subst (λ (z : ℕ). Reaches (shared n room) a z) (sym k.1) (elements_room n room a k.0 small some));
}

-- ---- members

left_is : (packed : Bool) (room : Room) (s : Extent) (a : Align) → room_for (left packed room s) a ≡ left_for packed room s a
left_is packed room s One = refl
left_is packed room s Two = refl
left_is packed room s Four = refl
left_is packed room s Eight = refl

below_end : (m : Align) (r x : ℕ) → x + bytes m 1 ≤ bytes m r → x ≤ bytes m (r - 1)
below_end One r x h = omega (arith, h)
below_end Two r x h = omega (arith, h)
below_end Four r x h = omega (arith, h)
below_end Eight r x h = omega (arith, h)

between_enough : (a : Align) (q place end : ℕ) → place + bytes a q ≤ end → bytes a q + bytes a 1 ≤ bytes a (between a place end)
between_enough a q place end h = by_test (nat_le place end) refl
  where
    more : (a : Align) → place + bytes a q ≤ end → bytes a q + bytes a 1 ≤ bytes a (multiples a (end - place))
    more One h = omega (arith, h)
    more Two h = omega (arith, h)
    more Four h = omega (arith, h)
    more Eight h = omega (arith, h)

    reversed : nat_le place end ≡ false → place ≤ end → ⊥
    reversed e le = grind arith

    by_test : (b : Bool) → nat_le place end ≡ b → bytes a q + bytes a 1 ≤ bytes a (cond b (multiples a (end - place)) 0)
    by_test true e = more a h
    by_test false e = absurd (reversed e (omega (arith, h)))

behind_enough : (a m : Align) (r place q : ℕ) → (place + bytes a q) + bytes m 1 ≤ bytes m r → bytes a q + bytes a 1 ≤ bytes a (behind r m place a)
behind_enough a m r place q h = by_room (nat_eq r 0) refl
  where
    by_room : (b : Bool) → nat_eq r 0 ≡ b → bytes a q + bytes a 1 ≤ bytes a (cond b 0 (between a place (bytes m (r - 1))))
    by_room true e = absurd (nothing_in_none m (place + bytes a q) (subst (λ (k : ℕ). (place + bytes a q) + bytes m 1 ≤ bytes m k) (is_zero r e) h))
    by_room false e = between_enough a q place (bytes m (r - 1)) (below_end m r (place + bytes a q) h)

-- a member that has room behind others has it in what is left
member_room : (packed : Bool) (room : Room) (s : Extent) (a : Align) (q : ℕ) → Fits room (grown packed s (extent (bytes a q) a)) → Reaches (left packed room s) a (bytes a q)
member_room packed room s a q h =
    subst (λ (r : ℕ). bytes a q + bytes a 1 ≤ bytes a r) (sym (left_is packed room s a))
    (behind_enough a (wider s.align (placed packed a)) (room_for room (wider s.align (placed packed a))) (rounded (placed packed a) s.size) q h)

upward : (a : Align) (n : ℕ) → n ≤ rounded a n
upward One n = omega arith
upward Two n = omega arith
upward Four n = omega arith
upward Eight n = omega arith

-- what has room with another member has it without
before_member : (packed : Bool) (room : Room) (s e : Extent) → IsNested room → Fits room (grown packed s e) → Fits room s
before_member packed room s e n h =
    n s.align (wider s.align (placed packed e.align)) (widest s.align (placed packed e.align)) s.size
    (fewer room (wider s.align (placed packed e.align)) s.size (rounded (placed packed e.align) s.size + e.size) (omega (arith, upward (placed packed e.align) s.size)) h)
  where
    widest : (a b : Align) → wider a (wider a b) ≡ wider a b
    widest One b = refl
    widest Two One = refl
    widest Two Two = refl
    widest Two Four = refl
    widest Two Eight = refl
    widest Four One = refl
    widest Four Two = refl
    widest Four Four = refl
    widest Four Eight = refl
    widest Eight b = refl

-- so do the first of some members
before_members : (packed : Bool) (room : Room) (s : Extent) (ws : WrittenParts) → IsNested room → Fits room (members_extent packed s ws) → Fits room s
before_members packed room s written.no_parts n h = h
before_members packed room s (written.part w ws) n h = before_member packed room s (extent_of w) n (before_members packed room (grown packed s (extent_of w)) ws n h)

-- places for lesser alignments come no later
earlier : (packed : Bool) (m a b : Align) (n : ℕ) → wider a b ≡ b → (wider (wider m (placed packed a)) (wider m (placed packed b)) ≡ wider m (placed packed b)) × (rounded (placed packed a) n ≤ rounded (placed packed b) n)
earlier true m a b n w = (twice m, omega arith)
  where
    twice : (m : Align) → wider (wider m One) (wider m One) ≡ wider m One
    twice One = refl
    twice Two = refl
    twice Four = refl
    twice Eight = refl
earlier false m a b n w = (lifted m a b w, sooner a b w)
  where
    lifted : (m a b : Align) → wider a b ≡ b → wider (wider m a) (wider m b) ≡ wider m b
    lifted One a b w = w
    lifted Two One One w = refl
    lifted Two One Two w = refl
    lifted Two One Four w = refl
    lifted Two One Eight w = refl
    lifted Two Two One w = absurd cc
    lifted Two Two Two w = refl
    lifted Two Two Four w = refl
    lifted Two Two Eight w = refl
    lifted Two Four One w = absurd cc
    lifted Two Four Two w = absurd cc
    lifted Two Four Four w = refl
    lifted Two Four Eight w = refl
    lifted Two Eight One w = absurd cc
    lifted Two Eight Two w = absurd cc
    lifted Two Eight Four w = absurd cc
    lifted Two Eight Eight w = refl
    lifted Four One One w = refl
    lifted Four One Two w = refl
    lifted Four One Four w = refl
    lifted Four One Eight w = refl
    lifted Four Two One w = refl
    lifted Four Two Two w = refl
    lifted Four Two Four w = refl
    lifted Four Two Eight w = refl
    lifted Four Four One w = refl
    lifted Four Four Two w = refl
    lifted Four Four Four w = refl
    lifted Four Four Eight w = refl
    lifted Four Eight One w = absurd cc
    lifted Four Eight Two w = absurd cc
    lifted Four Eight Four w = absurd cc
    lifted Four Eight Eight w = refl
    lifted Eight a b w = refl

    sooner : (a b : Align) → wider a b ≡ b → rounded a n ≤ rounded b n
    sooner One One w = omega arith
    sooner One Two w = omega arith
    sooner One Four w = omega arith
    sooner One Eight w = omega arith
    sooner Two Two w = omega arith
    sooner Two Four w = omega arith
    sooner Two Eight w = omega arith
    sooner Four Four w = omega arith
    sooner Four Eight w = omega arith
    sooner Eight Eight w = omega arith
    sooner Two One w = absurd cc
    sooner Four One w = absurd cc
    sooner Four Two w = absurd cc
    sooner Eight One w = absurd cc
    sooner Eight Two w = absurd cc
    sooner Eight Four w = absurd cc

good_left : (packed : Bool) (room : Room) (s : Extent) → Good room → Fits room s → Good (left packed room s)
good_left packed room s g f = record {
  bounded = left_room packed room s g.bounded f;
  nested = most_enough (left packed room s) (λ a b w q e.
      let k = lesser a b w q in
      let wide : Align = wider s.align (placed packed b) in
      let near : Align = wider s.align (placed packed a) in
      let order = earlier packed s.align a b s.size w in
      let all : Reaches room wide (rounded (placed packed b) s.size + bytes b q) = grown_fits packed room s (extent (bytes b q) b) (reached (left packed room s) b q e) in
      let some : Reaches room near (rounded (placed packed b) s.size + bytes b q) = g.nested near wide order.0 (rounded (placed packed b) s.size + bytes b q) all in
      let here : Reaches room near (rounded (placed packed a) s.size + bytes a k.0) = fewer room near (rounded (placed packed a) s.size + bytes a k.0) (rounded (placed packed b) s.size + bytes b q) (omega (arith, order.1, k.1)) some in
      subst (λ (z : ℕ). Reaches (left packed room s) a z) (sym k.1) (member_room packed room s a k.0 here));
}

-- ---- shapes

inner : (depth n : ℕ) → n + 1 ≤ depth → (d : ℕ) × (depth ≡ suc d) × (n ≤ d)
inner zero n h = absurd (omega (arith, h))
inner (suc d) n h = (d, refl, omega (arith, h))

scalar_room : (room : Room) (a : Align) → Fits room (extent (bytes a 1) a) → nat_lt 1 (room_for room a) ≡ true
scalar_room room a h = less (room_for room a) (two a h)
  where
    two : (a : Align) → bytes a 1 + bytes a 1 ≤ bytes a (room_for room a) → 2 ≤ room_for room a
    two One h = omega (arith, h)
    two Two h = omega (arith, h)
    two Four h = omega (arith, h)
    two Eight h = omega (arith, h)

    less : (r : ℕ) → 2 ≤ r → nat_lt 1 r ≡ true
    less r h = grind arith

size_most : (f : Form) → AreStored f → IsLaidOut f → (extent_of (written_shape f)).size ≤ 2147483648
size_most f s h = omega (arith, same_size f s, laid f h)
  where
    laid : (f : Form) → IsLaidOut f → size f ≤ 2 ^ 31
    laid (int w) h = omega (arith, h.1)
    laid pointer h = omega arith
    laid (array n of) h = h.0
    laid (structure packed parts) h = h.0

-- a member's extent as so many times its alignment
as_multiple : (P : Extent → Type 0) (e : Extent) (m : IsMultiple e) → P e → P (extent (bytes e.align m.times) e.align)
as_multiple P e m p = subst (λ (z : ℕ). P (extent z e.align)) m.whole p

elements_have : (n : ℕ) (room : Room) (e : Extent) → IsMultiple e → e.size ≤ 2147483648 → Fits room (extent (n * e.size) e.align) → Fits (shared n room) e
elements_have n room e m small h =
    subst (λ (z : ℕ). Reaches (shared n room) e.align z) (sym m.whole)
    (elements_room n room e.align m.times (subst (λ (z : ℕ). z ≤ 2147483648) m.whole small) (subst (λ (z : ℕ). Reaches room e.align (n * z)) m.whole h))

member_has : (packed : Bool) (room : Room) (s e : Extent) → IsMultiple e → Fits room (grown packed s e) → Fits (left packed room s) e
member_has packed room s e m h =
    subst (λ (z : ℕ). Reaches (left packed room s) e.align z) (sym m.whole)
    (member_room packed room s e.align m.times (as_multiple (λ x. Fits room (grown packed s x)) e m h))

unpadded : (room : Room) (s : Extent) → Fits room (padded s) → Fits room s
unpadded room s h = fewer room s.align s.size (rounded s.align s.size) (upward s.align s.size) h

mutual
  has_room : (f : Form) (depth : ℕ) (room : Room) → AreStored f → nesting f ≤ depth → IsLaidOut f → CountsReadable f → Good room → Fits room (extent_of (written_shape f)) → HasRoom f depth room
  has_room (int w) depth room s n l c g h = (s, scalar_room room (align_by w) h)
  has_room pointer depth room s n l c g h = scalar_room room Eight h
  has_room (array count of) depth room s n l c g h =
      let d = inner depth (nesting of) n in
      (d.0, d.1, c.0, has_room of d.0 (shared count room) s d.2 l.1 c.1 (good_shared count room g) (elements_have count room (extent_of (written_shape of)) (is_multiple of) (size_most of s l.1) h))
  has_room (structure packed parts) depth room s n l c g h =
      let d = inner depth (deepest parts) n in
      (d.0, d.1, parts_have packed parts d.0 room no_bytes s d.2 l.1 c g (unpadded room (members_extent packed no_bytes (written_parts parts)) h))

  parts_have : (packed : Bool) (fs : Forms) (depth : ℕ) (room : Room) (s : Extent) → AllStored fs → deepest fs ≤ depth → AreLaidOut fs → AllCountsReadable fs → Good room → Fits room (members_extent packed s (written_parts fs)) → PartsHaveRoom packed fs depth room s
  parts_have packed no_parts depth room s a n l c g h = tt
  parts_have packed (part f fs) depth room s a n l c g h =
      let e : Extent = extent_of (written_shape f) in
      let both : Fits room (grown packed s e) = before_members packed room (grown packed s e) (written_parts fs) g.nested h in
      let without : Fits room s = before_member packed room s e g.nested both in (
        has_room f depth (left packed room s) a.0 (omega (arith, n)) l.0 c.0 (good_left packed room s g without) (member_has packed room s e (is_multiple f) both),
        parts_have packed fs depth room (grown packed s e) a.1 (omega (arith, n)) l.1 c.1 g h,
      )

good_whole : Good whole
good_whole = record { bounded = record { some = omega arith; one = omega arith; two = omega arith; four = omega arith; eight = omega arith }; nested = nested_whole }

-- a formed shape is read
pub memory_shape_read : (blank : List ℕ) (f : Form) → ShapeReadable f → Parses memory_shape (shapes.IsShape f) (shape blank f)
unfolding memory_shape
memory_shape_read blank f r =
    shape_read blank f 32 whole (has_room f 32 whole r.shape.stored r.shape.nested r.shape.sized r.counts good_whole (whole_most (extent_of (written_shape f)).align (extent_of (written_shape f)).size (size_most f r.shape.stored r.shape.sized)))
