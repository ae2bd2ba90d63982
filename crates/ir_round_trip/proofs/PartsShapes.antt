-- Printed shapes are read in the room that they have (LangRef, "Structure Type", "Array Type").
use Rattle.std.proofs.Common.{◌≡◌, ℕ, zero, suc, ◌<◌, ◌^◌, Bool, inl, true, false, cond, ◌&&◌, nat_eq, nat_lt, Some, None, Result, Ok, List, [], ◌∷◌, ◌++◌, decimal, drop, refl, sym, ap, subst, ◌∙◌}
use Rattle.ir_lex.specs.TokenKinds.{number, kind_of, mark_kind}
use Rattle.ir_lex.specs.Pieces.{Piece}
use Rattle.ir_lex.specs.Rows.{begins}
use Rattle.ir_lex.specs.Tok.{Tok}
use Rattle.ir_lex.specs.declared.token_kind.TokenKind.TheVariants as kinds
use Rattle.ir_lex.specs.declared.token.TokenForm.TheVariants as forms
use Rattle.ir_print.specs.Tokens.{tight, space, mark, width, natural, word}
use Rattle.ir_print.specs.Types as printed
use Rattle.ir_parse_parts.specs.Classes.{refusal, one_of}
use Rattle.ir_parse_parts.specs.Decimals as read_decimal
use Rattle.ir_parse_operands.specs.Extents.{align_by, extent_of, grown, left as left_room, no_bytes, room_for, shared, whole}
use Rattle.ir_parse_parts.specs.Literals.{literal}
use Rattle.ir_parse_parts.specs.Operands as operands
use Rattle.ir_parse_parts.specs.Operands.{SCALAR}
use Rattle.ir_parse_operands.specs.ShapeForms as read
use Rattle.ir_parse_operands.specs.ShapeForms.{NUMBER, OPEN_BRACKET, OPEN_BRACE, OPEN_ANGLE, anywhere, angle_refusal, array_of, brace_behind_angle, count, count_of, counted, elements, has_room, is_leaf, is_pointer, leaf, line_of, memory_shape, more_members, packed_behind, packed_of, scalar_align, scalar_typed, shape_over, structure_of}
use Rattle.ir_parse_parts.specs.Shapes as written
use Rattle.ir_parse_parts.specs.Shapes.{Written, parts_of}
use Rattle.ir_parse_operands.specs.declared.extents.Align.{Align}
use Rattle.ir_parse_operands.specs.declared.extents.Align.TheVariants.{Eight}
use Rattle.ir_parse_operands.specs.declared.extents.Extent.{Extent}
use Rattle.ir_parse_operands.specs.declared.extents.Room.{Room}
use Rattle.ir_parse_parts.specs.declared.shape.Typed.{Typed}
use Rattle.ir_tree.specs.Formed.{IsStored}
use Rattle.ir_tree.specs.Forms.{Form, Forms, int, pointer, array, structure, no_parts, part}
use Rattle.ir_parse_parts.specs.Alphabet.{contains}
use Rattle.ir_parse_parts.specs.Chained.{Chain}
use Rattle.ir_parse_parts.specs.declared.fault.TokenFault.{TokenFault}
use Rattle.ir_round_trip.specs.PartsPrinted.{written_shape, written_parts}
use Rattle.ir_round_trip.specs.Reads.{Parses, Any}
use Rattle.ir_round_trip.proofs.Composed.{then, next, last, nothing, left, right, chain_ends, chain_goes_on}
use Rattle.ir_round_trip.proofs.Numerals.{decimal_nonempty, no_minus, unsigned_again}
use Rattle.ir_round_trip.proofs.Tokens.{IsToken, class_of, single, piece_read, by_class, by_classes, by_value}
use Rattle.ir_round_trip.proofs.Types.{stored_class, stored_width, pointer_class, width_again, width_text, pointer_text}
use Rattle.ir_round_trip.proofs.Words.{comma_read, times_read, close_bracket_read, close_brace_read, close_angle_read}

-- ---- scalars

-- a scalar of this class that has room
leaf_means : (room : Room) (t : Tok) (k : Result Typed TokenFault) → contains SCALAR (number t.kind) ≡ true → has_room room t ≡ true → cond (contains SCALAR (number t.kind) && has_room room t) (Ok (scalar_typed t)) k ≡ Ok (scalar_typed t)
leaf_means room t k e h = by_test (contains SCALAR (number t.kind)) (has_room room t) e h
  where
    by_test : (a b : Bool) → a ≡ true → b ≡ true → cond (a && b) (Ok (scalar_typed t)) k ≡ Ok (scalar_typed t)
    by_test true true e h = refl
    by_test true false e h = absurd cc
    by_test false b e h = absurd cc

by_pointer : {A : Type 0} (b c : Bool) (x y : A) → b ≡ c → cond b x y ≡ cond c x y
by_pointer b c x y e = ap (λ (d : Bool). cond d x y) e

no_pointer : (w : ℕ) → IsStored w → (t : Tok) → IsToken forms.Word (width_text w) t → is_pointer t ≡ false
no_pointer w s t i = ap (λ (n : ℕ). nat_eq n (number kinds.Ptr)) (ap number i.kind ∙ stored_class w s)

a_pointer : (t : Tok) → IsToken forms.Word pointer_text t → is_pointer t ≡ true
a_pointer t i = ap (λ (n : ℕ). nat_eq n (number kinds.Ptr)) (ap number i.kind ∙ pointer_class)

int_leaf : (room : Room) (blank : List ℕ) (w : ℕ) → IsStored w → nat_lt 1 (room_for room (align_by w)) ≡ true → Parses (leaf room) (λ t. t.shape ≡ written.int w) (width blank w)
unfolding is_leaf
int_leaf room blank w s h = single blank forms.Word _ _ (λ t i.
    let e : operands.width t ≡ w = width_again w (stored_width w s) t i in
    let a : scalar_align t ≡ align_by w = by_pointer (is_pointer t) false Eight (align_by (operands.width t)) (no_pointer w s t i) ∙ ap align_by e in (
      scalar_typed t,
      leaf_means room t _ (ap (contains SCALAR) (ap number i.kind ∙ stored_class w s)) (ap (λ (x : Align). nat_lt 1 (room_for room x)) a ∙ h),
      by_pointer (is_pointer t) false written.pointer (written.int (operands.width t)) (no_pointer w s t i) ∙ ap written.int e,
    ))

pointer_leaf : (room : Room) (blank : List ℕ) → nat_lt 1 (room_for room Eight) ≡ true → Parses (leaf room) (λ t. t.shape ≡ written.pointer) (word blank pointer_text)
unfolding is_leaf
pointer_leaf room blank h = single blank forms.Word _ _ (λ t i.
    let a : scalar_align t ≡ Eight = by_pointer (is_pointer t) true Eight (align_by (operands.width t)) (a_pointer t i) in (
      scalar_typed t,
      leaf_means room t _ (ap (contains SCALAR) (ap number i.kind ∙ pointer_class)) (ap (λ (x : Align). nat_lt 1 (room_for room x)) a ∙ h),
      by_pointer (is_pointer t) true written.pointer (written.int (operands.width t)) (a_pointer t i),
    ))

-- a scalar may stand at any depth
at_depth : {P : Typed → Type 0} {ps : List Piece} (depth : ℕ) (room : Room) → Parses (leaf room) P ps → Parses (read.shape depth room) P ps
unfolding shape_over
at_depth zero room r = r
at_depth (suc depth) room r = right _ (right _ (right _ r))

-- i8 of a constant address
pub bytes_read : Parses memory_shape (λ t. t.shape ≡ written.int 8) (width tight 8)
unfolding memory_shape
bytes_read = at_depth 32 whole (int_leaf whole tight 8 (inl refl) refl)

-- ---- counts

counted_again : (n : ℕ) → n < 2 ^ 64 → counted 64 (decimal n) ≡ Some n
unfolding counted
counted_again n lt = by_minus (begins 45 (decimal n)) (no_minus n)
  where
    by_minus : (b : Bool) → b ≡ false → cond b (cond (nat_eq (read_decimal.decimal (drop 1 (decimal n))) 0) (Some 0) None) (literal 64 (decimal n)) ≡ Some n
    by_minus true e = absurd cc
    by_minus false e = unsigned_again 64 n lt lt

number_in : (text : List ℕ) → contains NUMBER (class_of forms.Number text) ≡ true
unfolding kind_of
number_in text = refl

pub count_read : (blank : List ℕ) (n : ℕ) → n < 2 ^ 64 → Parses count (λ m. m ≡ n) (natural blank n)
count_read blank n lt = piece_read blank forms.Number (decimal n) (decimal_nonempty n) (by_value refusal NUMBER (count_of 64) forms.Number (decimal n) (number_in (decimal n)) (λ t i. (n, ap (counted 64) i.text ∙ counted_again n lt, refl)))

-- ---- marks

open_bracket_line : (blank : List ℕ) → Parses (one_of OPEN_BRACKET line_of) Any (mark blank 91)
unfolding kind_of mark_kind
open_bracket_line blank = single blank forms.Other 91 [] (by_classes refusal OPEN_BRACKET line_of forms.Other (91 ∷ []) refl (λ t i. tt))

open_brace_line : (blank : List ℕ) → Parses (one_of OPEN_BRACE line_of) Any (mark blank 123)
unfolding kind_of mark_kind
open_brace_line blank = single blank forms.Other 123 [] (by_classes refusal OPEN_BRACE line_of forms.Other (123 ∷ []) refl (λ t i. tt))

open_angle_line : (blank : List ℕ) → Parses (one_of OPEN_ANGLE line_of) Any (mark blank 60)
unfolding kind_of mark_kind
open_angle_line blank = single blank forms.Other 60 [] (by_classes refusal OPEN_ANGLE line_of forms.Other (60 ∷ []) refl (λ t i. tt))

brace_read : Parses brace_behind_angle Any (mark tight 123)
unfolding kind_of mark_kind
brace_read = single tight forms.Other 123 [] (by_class angle_refusal kinds.OpenBrace forms.Other (123 ∷ []) refl)

-- ---- shapes

-- a shape has so much depth and room, and so has each shape within
abbrev mutual
  pub HasRoom : Form → ℕ → Room → Type 0
  HasRoom (int w) depth room = IsStored w × (nat_lt 1 (room_for room (align_by w)) ≡ true)
  HasRoom pointer depth room = nat_lt 1 (room_for room Eight) ≡ true
  HasRoom (array n of) depth room = (inner : ℕ) × (depth ≡ suc inner) × (n < 2 ^ 64) × HasRoom of inner (shared n room)
  HasRoom (structure packed parts) depth room = (inner : ℕ) × (depth ≡ suc inner) × PartsHaveRoom packed parts inner room no_bytes

  -- members behind others of this extent
  pub PartsHaveRoom : Bool → Forms → ℕ → Room → Extent → Type 0
  PartsHaveRoom packed no_parts depth room s = Unit {0}
  PartsHaveRoom packed (part f fs) depth room s = HasRoom f depth (left_room packed room s) × PartsHaveRoom packed fs depth room (grown packed s (extent_of (written_shape f)))

abbrev pub IsShape : Form → Typed → Type 0
IsShape f t = t.shape ≡ written_shape f

abbrev AreParts : Forms → List Written → Type 0
AreParts fs ws = parts_of ws ≡ written_parts fs

mutual
  unfolding shape_over array_of elements structure_of packed_of packed_behind more_members read.members read.further

  pub shape_read : (blank : List ℕ) (f : Form) (depth : ℕ) (room : Room) → HasRoom f depth room → Parses (read.shape depth room) (IsShape f) (printed.shape blank f)
  shape_read blank (int w) depth room h = at_depth depth room (int_leaf room blank w h.0 h.1)
  shape_read blank pointer depth room h = at_depth depth room (pointer_leaf room blank h)
  shape_read blank (array n of) depth room h =
      subst (λ (d : ℕ). Parses (read.shape d room) (IsShape (array n of)) (printed.shape blank (array n of))) (sym h.1) (left _ (then (open_bracket_line blank) (λ line u.
      next _ (count_read tight n h.2) (then (times_read space) (λ a v. then (shape_read space of h.0 (shared n room) h.3) (λ e p. last (close_bracket_read tight) (λ b w. nothing (ap (written.array n) p))))))))
  shape_read blank (structure false parts) depth room h =
      subst (λ (d : ℕ). Parses (read.shape d room) (IsShape (structure false parts)) (printed.shape blank (structure false parts))) (sym h.1) (right _ (left _ (then (open_brace_line blank) (λ line u.
      last (members_read false parts h.0 room h.2) (λ ws p. nothing (ap (written.structure false) p))))))
  shape_read blank (structure true parts) depth room h =
      subst (λ (d : ℕ). Parses (read.shape d room) (IsShape (structure true parts)) (printed.shape blank (structure true parts))) (sym h.1) (right _ (right _ (left _ (then (open_angle_line blank) (λ line u.
      then brace_read (λ a v. then (members_read true parts h.0 room h.2) (λ ws p. last (close_angle_read tight) (λ b w. nothing (ap (written.structure true) p)))))))))

  pub members_read : (packed : Bool) (fs : Forms) (depth : ℕ) (room : Room) → PartsHaveRoom packed fs depth room no_bytes → Parses (read.members packed (λ s. read.shape depth (left_room packed room s))) (AreParts fs) (printed.members fs)
  members_read packed no_parts depth room h = left _ (last (close_brace_read tight) (λ a u. nothing refl))
  members_read packed (part f fs) depth room h =
      right _ (then (shape_read space f depth (left_room packed room no_bytes) h.0) (λ first p.
      subst (λ (w : Written). Parses (more_members packed (λ s. read.shape depth (left_room packed room s)) w) (AreParts (part f fs)) (printed.further_members fs ++ mark space 125)) (sym p)
      (then (further_read packed fs depth room (grown packed no_bytes (extent_of (written_shape f))) h.1) (λ more q. last (close_brace_read space) (λ a u. nothing (ap (written.part (written_shape f)) q))))))

  pub further_read : (packed : Bool) (fs : Forms) (depth : ℕ) (room : Room) (s : Extent) → PartsHaveRoom packed fs depth room s → Parses (Chain anywhere (read.further packed (λ s. read.shape depth (left_room packed room s))) s) (AreParts fs) (printed.further_members fs)
  further_read packed no_parts depth room s h = chain_ends anywhere (read.further packed (λ s. read.shape depth (left_room packed room s))) s refl refl
  further_read packed (part f fs) depth room s h =
      chain_goes_on anywhere (read.further packed (λ s. read.shape depth (left_room packed room s))) s (grown packed s (extent_of (written_shape f))) {P = λ w. w ≡ written_shape f}
      (then comma_read (λ a u. last (shape_read space f depth (left_room packed room s) h.0) (λ p e. nothing (e, ap (λ w. grown packed s (extent_of w)) e))))
      (further_read packed fs depth room (grown packed s (extent_of (written_shape f))) h.1)
      (λ w more p q. ap (λ x. written.part x (parts_of more)) p ∙ ap (written.part (written_shape f)) q)
