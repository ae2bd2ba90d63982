-- What is read in some room has room.
use Rattle.std.proofs.Common.{◌≡◌, ℕ, ◌+◌, ◌-◌, ◌*◌, ◌/◌, ◌≤◌, ◌<◌, nat_eq, Bool, true, false, cond, List, [], ◌∷◌, ◌++◌, refl, sym, ap, ◌∙◌, subst, arith}
use Rattle.std.specs.Prelude.{nat_le}
use Rattle.std.proofs.lemmas.Nat.{mul-le}
use Rattle.std.proofs.Math.Nat.{mul-div-le, div-le_self}
use Rattle.ir_parse_operands.specs.declared.extents.Align.{Align}
use Rattle.ir_parse_operands.specs.declared.extents.Align.TheVariants.{One, Two, Four, Eight}
use Rattle.ir_parse_operands.specs.declared.extents.Extent.{Extent}
use Rattle.ir_parse_operands.specs.declared.extents.Room.{Room}
use Rattle.ir_parse_operands.specs.Extents.{wider, bytes, rounded, multiples, extent, extent_of, members_extent, placed, grown, room_for, share, shared, between, behind, left_for, left, Fits, IsRoom}
use Rattle.ir_parse_parts.specs.Shapes.{Written, parts_of}

less : (n m : ℕ) → nat_le n m ≡ true → n ≤ m
less n m h = grind arith

not_less : (n m : ℕ) → nat_le n m ≡ false → m < n
not_less n m h = grind arith

not_zero : (n : ℕ) → nat_eq n 0 ≡ false → 1 ≤ n
not_zero n h = grind arith

-- ---- members

multiples_reach : (a : Align) (z n : ℕ) → z + bytes a 1 ≤ bytes a (multiples a n) → z ≤ n
multiples_reach One z n h = omega (arith, h)
multiples_reach Two z n h = omega (arith, h)
multiples_reach Four z n h = omega (arith, h)
multiples_reach Eight z n h = omega (arith, h)

none_reach : (a : Align) (z : ℕ) → z + bytes a 1 ≤ bytes a 0 → ⊥
none_reach One z h = omega (arith, h)
none_reach Two z h = omega (arith, h)
none_reach Four z h = omega (arith, h)
none_reach Eight z h = omega (arith, h)

between_reach : (a : Align) (place end z : ℕ) → z + bytes a 1 ≤ bytes a (between a place end) → place + z ≤ end
between_reach a place end z h = by_test (nat_le place end) refl h
  where
    by_test : (b : Bool) → nat_le place end ≡ b → z + bytes a 1 ≤ bytes a (cond b (multiples a (end - place)) 0) → place + z ≤ end
    by_test true e d = omega (arith, less place end e, multiples_reach a z (end - place) d)
    by_test false e d = absurd (none_reach a z d)

one_more : (m : Align) (r x : ℕ) → 1 ≤ r → x ≤ bytes m (r - 1) → x + bytes m 1 ≤ bytes m r
one_more One r x h d = omega (arith, h, d)
one_more Two r x h d = omega (arith, h, d)
one_more Four r x h d = omega (arith, h, d)
one_more Eight r x h d = omega (arith, h, d)

behind_reach : (a m : Align) (r place z : ℕ) → z + bytes a 1 ≤ bytes a (behind r m place a) → (place + z) + bytes m 1 ≤ bytes m r
behind_reach a m r place z h = by_test (nat_eq r 0) refl h
  where
    by_test : (b : Bool) → nat_eq r 0 ≡ b → z + bytes a 1 ≤ bytes a (cond b 0 (between a place (bytes m (r - 1)))) → (place + z) + bytes m 1 ≤ bytes m r
    by_test true e d = absurd (none_reach a z d)
    by_test false e d = one_more m r (place + z) (not_zero r e) (between_reach a place (bytes m (r - 1)) z d)

left_is : (packed : Bool) (room : Room) (s : Extent) (a : Align) → room_for (left packed room s) a ≡ left_for packed room s a
left_is packed room s One = refl
left_is packed room s Two = refl
left_is packed room s Four = refl
left_is packed room s Eight = refl

pub grown_fits : (packed : Bool) (room : Room) (s e : Extent) → Fits (left packed room s) e → Fits room (grown packed s e)
grown_fits packed room s e h =
    behind_reach e.align (wider s.align (placed packed e.align)) (room_for room (wider s.align (placed packed e.align))) (rounded (placed packed e.align) s.size) e.size (subst (λ (n : ℕ). e.size + bytes e.align 1 ≤ bytes e.align n) (left_is packed room s e.align) h)

-- ---- elements

share_is : (n : ℕ) (room : Room) (a : Align) → room_for (shared n room) a ≡ share n (room_for room a) a
share_is n room One = refl
share_is n room Two = refl
share_is n room Four = refl
share_is n room Eight = refl

quotient_reach : (a : Align) (z q : ℕ) → z + bytes a 1 ≤ bytes a (q + 1) → z ≤ bytes a q
quotient_reach One z q h = omega (arith, h)
quotient_reach Two z q h = omega (arith, h)
quotient_reach Four z q h = omega (arith, h)
quotient_reach Eight z q h = omega (arith, h)

scaled : (a : Align) (n z q r : ℕ) → z ≤ bytes a q → n * q ≤ r → n * z ≤ bytes a r
scaled One n z q r h d = omega (arith, mul-le n z n q (omega arith) h, d)
scaled Two n z q r h d = omega (arith, mul-le n z n (2 * q) (omega arith) h, d)
scaled Four n z q r h d = omega (arith, mul-le n z n (4 * q) (omega arith) h, d)
scaled Eight n z q r h d = omega (arith, mul-le n z n (8 * q) (omega arith) h, d)

share_reach : (a : Align) (n r z : ℕ) → z + bytes a 1 ≤ bytes a (share n r a) → n * z + bytes a 1 ≤ bytes a r
share_reach a n r z h = by_room (nat_eq r 0) refl h
  where
    zero_is : (k : ℕ) → nat_eq k 0 ≡ true → k ≡ 0
    zero_is k e = grind arith

    by_count : (b : Bool) → nat_eq n 0 ≡ b → 1 ≤ r → z + bytes a 1 ≤ bytes a (cond b (multiples a 2147483648) ((r - 1) / n + 1)) → n * z + bytes a 1 ≤ bytes a r
    by_count true e i d = one_more a r (n * z) i (subst (λ (k : ℕ). k * z ≤ bytes a (r - 1)) (sym (zero_is n e)) (omega arith))
    by_count false e i d = one_more a r (n * z) i (scaled a n z ((r - 1) / n) (r - 1) (quotient_reach a z ((r - 1) / n) d) (mul-div-le (r - 1) n))

    by_room : (b : Bool) → nat_eq r 0 ≡ b → z + bytes a 1 ≤ bytes a (cond b 0 (cond (nat_eq n 0) (multiples a 2147483648) ((r - 1) / n + 1))) → n * z + bytes a 1 ≤ bytes a r
    by_room true e d = absurd (none_reach a z d)
    by_room false e d = by_count (nat_eq n 0) refl (not_zero r e) d

pub elements_fit : (n : ℕ) (room : Room) (e : Extent) → Fits (shared n room) e → Fits room (extent (n * e.size) e.align)
elements_fit n room e h = share_reach e.align n (room_for room e.align) e.size (subst (λ (k : ℕ). e.size + bytes e.align 1 ≤ bytes e.align k) (share_is n room e.align) h)

-- ---- room stays within 2^31 bytes

pub most_for : (room : Room) → IsRoom room → (a : Align) → bytes a (room_for room a) ≤ 2147483648 + bytes a 1
most_for room h One = omega (arith, h.one)
most_for room h Two = omega (arith, h.two)
most_for room h Four = omega (arith, h.four)
most_for room h Eight = omega (arith, h.eight)

pub fits_most : (room : Room) (e : Extent) → IsRoom room → Fits room e → e.size ≤ 2147483648
fits_most room e h d = omega (arith, most_for room h e.align, d)

multiples_most : (a : Align) (n : ℕ) → n ≤ 2147483648 → bytes a (multiples a n) ≤ 2147483648 + bytes a 1
multiples_most One n h = omega (arith, h)
multiples_most Two n h = omega (arith, h)
multiples_most Four n h = omega (arith, h)
multiples_most Eight n h = omega (arith, h)

end_most : (m : Align) (r : ℕ) → bytes m r ≤ 2147483648 + bytes m 1 → bytes m (r - 1) ≤ 2147483648
end_most One r h = omega (arith, h)
end_most Two r h = omega (arith, h)
end_most Four r h = omega (arith, h)
end_most Eight r h = omega (arith, h)

none_most : (a : Align) → bytes a 0 ≤ 2147483648 + bytes a 1
none_most One = omega arith
none_most Two = omega arith
none_most Four = omega arith
none_most Eight = omega arith

behind_most : (a m : Align) (r place : ℕ) → bytes m r ≤ 2147483648 + bytes m 1 → bytes a (behind r m place a) ≤ 2147483648 + bytes a 1
behind_most a m r place h = by_room (nat_eq r 0)
  where
    by_place : (b : Bool) → bytes a (cond b (multiples a (bytes m (r - 1) - place)) 0) ≤ 2147483648 + bytes a 1
    by_place true = multiples_most a (bytes m (r - 1) - place) (omega (arith, end_most m r h))
    by_place false = none_most a

    by_room : (b : Bool) → bytes a (cond b 0 (between a place (bytes m (r - 1)))) ≤ 2147483648 + bytes a 1
    by_room true = none_most a
    by_room false = by_place (nat_le place (bytes m (r - 1)))

left_most : (packed : Bool) (room : Room) (s : Extent) → IsRoom room → (a : Align) → bytes a (left_for packed room s a) ≤ 2147483648 + bytes a 1
left_most packed room s h a = behind_most a (wider s.align (placed packed a)) (room_for room (wider s.align (placed packed a))) (rounded (placed packed a) s.size) (most_for room h (wider s.align (placed packed a)))

-- behind members that have room there is some
some_behind : (m : Align) (r n : ℕ) → n + bytes m 1 ≤ bytes m r → 1 ≤ behind r m n One
some_behind m r n h = by_room (nat_eq r 0) refl
  where
    positive : (m : Align) → n + bytes m 1 ≤ bytes m 0 → ⊥
    positive m d = none_reach m n d

    reached : (m : Align) → n + bytes m 1 ≤ bytes m r → n ≤ bytes m (r - 1)
    reached One d = omega (arith, d)
    reached Two d = omega (arith, d)
    reached Four d = omega (arith, d)
    reached Eight d = omega (arith, d)

    zero_is : (k : ℕ) → nat_eq k 0 ≡ true → k ≡ 0
    zero_is k e = grind arith

    by_place : (b : Bool) → nat_le n (bytes m (r - 1)) ≡ b → 1 ≤ cond b (multiples One (bytes m (r - 1) - n)) 0
    by_place true e = omega arith
    by_place false e = absurd (omega (arith, not_less n (bytes m (r - 1)) e, reached m h))

    by_room : (b : Bool) → nat_eq r 0 ≡ b → 1 ≤ cond b 0 (between One n (bytes m (r - 1)))
    by_room true e = absurd (positive m (subst (λ (k : ℕ). n + bytes m 1 ≤ bytes m k) (zero_is r e) h))
    by_room false e = by_place (nat_le n (bytes m (r - 1))) refl

widest_one : (a : Align) → wider a One ≡ a
widest_one One = refl
widest_one Two = refl
widest_one Four = refl
widest_one Eight = refl

placed_one : (packed : Bool) → placed packed One ≡ One
placed_one true = refl
placed_one false = refl

pub left_room : (packed : Bool) (room : Room) (s : Extent) → IsRoom room → Fits room s → IsRoom (left packed room s)
left_room packed room s h d = record {
  some = some packed;
  one = omega (arith, left_most packed room s h One);
  two = omega (arith, left_most packed room s h Two);
  four = omega (arith, left_most packed room s h Four);
  eight = omega (arith, left_most packed room s h Eight);
}
  where
    some : (packed : Bool) → 1 ≤ left_for packed room s One
    some packed = rw (placed_one packed, widest_one s.align) (some_behind s.align (room_for room s.align) s.size d)

share_most : (a : Align) (n r : ℕ) → bytes a r ≤ 2147483648 + bytes a 1 → bytes a (share n r a) ≤ 2147483648 + bytes a 1
share_most a n r h = by_room (nat_eq r 0) refl
  where
    fewer : (a : Align) (q r : ℕ) → 1 ≤ r → q ≤ r - 1 → bytes a r ≤ 2147483648 + bytes a 1 → bytes a (q + 1) ≤ 2147483648 + bytes a 1
    fewer One q r i j d = omega (arith, i, j, d)
    fewer Two q r i j d = omega (arith, i, j, d)
    fewer Four q r i j d = omega (arith, i, j, d)
    fewer Eight q r i j d = omega (arith, i, j, d)

    by_count : (b : Bool) → 1 ≤ r → bytes a (cond b (multiples a 2147483648) ((r - 1) / n + 1)) ≤ 2147483648 + bytes a 1
    by_count true i = multiples_most a 2147483648 (omega arith)
    by_count false i = fewer a ((r - 1) / n) r i (div-le_self (r - 1) n) h

    by_room : (b : Bool) → nat_eq r 0 ≡ b → bytes a (cond b 0 (cond (nat_eq n 0) (multiples a 2147483648) ((r - 1) / n + 1))) ≤ 2147483648 + bytes a 1
    by_room true e = none_most a
    by_room false e = by_count (nat_eq n 0) (not_zero r e)

some_shared : (n r : ℕ) → 1 ≤ r → 1 ≤ share n r One
some_shared n r h = by_room (nat_eq r 0) refl
  where
    zero_is : (k : ℕ) → nat_eq k 0 ≡ true → k ≡ 0
    zero_is k e = grind arith

    by_count : (b : Bool) → 1 ≤ cond b (multiples One 2147483648) ((r - 1) / n + 1)
    by_count true = omega arith
    by_count false = omega arith

    by_room : (b : Bool) → nat_eq r 0 ≡ b → 1 ≤ cond b 0 (cond (nat_eq n 0) (multiples One 2147483648) ((r - 1) / n + 1))
    by_room true e = absurd (omega (arith, zero_is r e, h))
    by_room false e = by_count (nat_eq n 0)

pub shared_room : (n : ℕ) (room : Room) → IsRoom room → IsRoom (shared n room)
shared_room n room h = record {
  some = some_shared n room.one h.some;
  one = omega (arith, share_most One n room.one (most_for room h One));
  two = omega (arith, share_most Two n room.two (most_for room h Two));
  four = omega (arith, share_most Four n room.four (most_for room h Four));
  eight = omega (arith, share_most Eight n room.eight (most_for room h Eight));
}

pub one_member_more : (packed : Bool) (s : Extent) (shapes : List Written) (w : Written) → members_extent packed s (parts_of (shapes ++ w ∷ [])) ≡ grown packed (members_extent packed s (parts_of shapes)) (extent_of w)
one_member_more packed s [] w = refl
one_member_more packed s (v ∷ more) w = one_member_more packed (grown packed s (extent_of v)) more w

abbrev room_with : ℕ → ℕ → ℕ → ℕ → Room
room_with one two four eight = record { one = one; two = two; four = four; eight = eight }

-- the same room for each alignment
pub same_room : (one two four eight one' two' four' eight' : ℕ) → one ≡ one' → two ≡ two' → four ≡ four' → eight ≡ eight' → room_with one two four eight ≡ room_with one' two' four' eight'
same_room one two four eight one' two' four' eight' e f g h =
    ap (λ (n : ℕ). room_with n two four eight) e
    ∙ ap (λ (n : ℕ). room_with one' n four eight) f
    ∙ ap (λ (n : ℕ). room_with one' two' n eight) g
    ∙ ap (λ (n : ℕ). room_with one' two' four' n) h
