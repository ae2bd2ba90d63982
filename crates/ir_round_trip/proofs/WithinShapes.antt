-- Shapes that the grammar spells: the counts of arrays are below 2^64.
use Rattle.std.proofs.Common.{◌≡◌, ℕ, zero, suc, ◌-◌, ◌%◌, ◌<◌, ◌≤◌, ◌^◌, nat_eq, nat_le, nat_lt, cond, ◌&&◌, Bool, true, false, List, [], ◌∷◌, drop, Option, Some, None, option_map, Ok, refl, subst, arith, pow_mono}
use Rattle.std.specs.List.{AllByRecursion as Each}
use Rattle.std.proofs.lemmas.Bool.{ltb-true}
use Rattle.std.proofs.lemmas.Nat.{pow_pos}
use Rattle.ir_lex.specs.TokenKinds.{number}
use Rattle.ir_lex.specs.Rows.{begins}
use Rattle.ir_lex.specs.Tok.{Tok}
use Rattle.ir_parse_parts.specs.Classes.{tokens}
use Rattle.ir_parse_parts.specs.Decimals.{decimal}
use Rattle.ir_parse_operands.specs.Extents.{left, shared, grown, no_bytes, extent_of, whole}
use Rattle.ir_parse_parts.specs.Literals.{literal, negated, unsigned}
use Rattle.ir_parse_parts.specs.Operands.{LOCAL, SCALAR, memory_refusal, named, width}
use Rattle.ir_parse_operands.specs.ShapeForms as shapes
use Rattle.ir_parse_operands.specs.ShapeForms.{array_of, count, counted, elements, further, has_room, is_leaf, leaf, members, memory_shape, more_members, packed_behind, packed_of, scalar_typed, shape, shape_over, structure_of, type_name, typed}
use Rattle.ir_parse_parts.specs.Shapes as written
use Rattle.ir_parse_parts.specs.Shapes.{Written, parts_of}
use Rattle.ir_parse_operands.specs.declared.extents.Extent.{Extent}
use Rattle.ir_parse_operands.specs.declared.extents.Room.{Room}
use Rattle.ir_parse_parts.specs.declared.shape.Typed.{Typed}
use Rattle.ir_parse_parts.specs.Alphabet.{contains}
use Rattle.ir_parse_parts.specs.Forms.{Form}
use Rattle.ir_parse_parts.specs.Rules.{is_valued, in_range}
use Rattle.ir_round_trip.specs.Spelled.{AllCounted, Counted, IsCount}
use Rattle.ir_round_trip.proofs.Means.{Means, chain_means, either_means, follow, nothing, skip, token_means, valued_means}
use Rattle.ir_parse.proofs.Means.{accepted, valued}

-- ---- counts

wider : (w : ℕ) → w ≤ 64 → (n : ℕ) → n < 2 ^ w → IsCount n
wider w le n lt = let more : 2 ^ w ≤ 2 ^ 64 = pow_mono {i = w} {j = 64} le in omega (arith, lt, more)

literal_fits : (w : ℕ) (text : List ℕ) (bits : ℕ) → literal w text ≡ Some bits → bits < 2 ^ w
unfolding literal
literal_fits w text bits e = by (begins 45 text) e
  where
    rem_below : (x m : ℕ) → 0 < m → x % m < m
    rem_below x m h = omega arith

    minus : (n : ℕ) (b : Bool) → cond b (Some ((2 ^ w - n) % 2 ^ w)) None ≡ Some bits → bits < 2 ^ w
    minus n true e = let same : (2 ^ w - n) % 2 ^ w ≡ bits = cc in subst (λ k. k < 2 ^ w) same (rem_below (2 ^ w - n) (2 ^ w) (pow_pos w))
    minus n false e = absurd cc

    plain : (n : ℕ) (b : Bool) → nat_lt n (2 ^ w) ≡ b → cond b (Some n) None ≡ Some bits → bits < 2 ^ w
    plain n true g e = let same : n ≡ bits = cc (e) in subst (λ k. k < 2 ^ w) same (ltb-true n (2 ^ w) g)
    plain n false g e = absurd (let no : None ≡ Some bits = e in cc)

    by : (b : Bool) → cond b (negated w (decimal (drop 1 text))) (unsigned w (decimal text)) ≡ Some bits → bits < 2 ^ w
    by true e = minus (decimal (drop 1 text)) (nat_le (decimal (drop 1 text)) (2 ^ (w - 1))) e
    by false e = plain (decimal text) (nat_lt (decimal text) (2 ^ w)) refl e

pub counted_fits : (w : ℕ) → w ≤ 64 → (text : List ℕ) (n : ℕ) → counted w text ≡ Some n → IsCount n
unfolding counted
counted_fits w le text n e = by (begins 45 text) e
  where
    zero_fits : (b : Bool) → cond b (Some 0) None ≡ Some n → IsCount n
    zero_fits true e = let same : 0 ≡ n = cc in subst IsCount same (omega arith)
    zero_fits false e = absurd cc

    by : (b : Bool) → cond b (cond (nat_eq (decimal (drop 1 text)) 0) (Some 0) None) (literal w text) ≡ Some n → IsCount n
    by true e = zero_fits (nat_eq (decimal (drop 1 text)) 0) e
    by false e = wider w le n (literal_fits w text n e)

count_spelled : Means count IsCount
count_spelled = valued_means _ _ (λ t n s e. counted_fits 64 (omega arith) t.text n e)

-- ---- shapes

abbrev pub TypedCounted : Typed → Type 0
TypedCounted t = Counted t.shape

name_counted : (t : Tok) (a : Typed) → type_name t ≡ Some a → TypedCounted a
name_counted t a e = by (named t) e
  where
    by : (o : Option Tok) → option_map (λ name. typed (written.named name) t.line) o ≡ Some a → TypedCounted a
    by None e = absurd cc
    by (Some name) e = let same : typed (written.named name) t.line ≡ a = cc in subst TypedCounted same tt

scalar_counted : (t : Tok) → TypedCounted (scalar_typed t)
scalar_counted t = by (shapes.is_pointer t)
  where
    by : (b : Bool) → Counted (cond b written.pointer (written.int (width t)))
    by true = tt
    by false = tt

leaf_counted : (room : Room) → Means (leaf room) TypedCounted
unfolding is_leaf is_valued
leaf_counted room = token_means (λ t a s h. by t a (contains SCALAR (number t.kind) && has_room room t) h)
  where
    by : (t : Tok) (a : Typed) (b : Bool) → cond b (Ok (scalar_typed t)) (is_valued tokens memory_refusal LOCAL type_name t) ≡ Ok a → TypedCounted a
    by t a true e = let same : scalar_typed t ≡ a = cc in subst TypedCounted same (scalar_counted t)
    by t a false e = let yes = accepted (contains LOCAL (number t.kind)) (in_range (type_name t)) (memory_refusal (number t.kind)) a e in name_counted t a (valued (type_name t) a yes.1)

parts_counted : (ss : List Written) → Each Counted ss → AllCounted (parts_of ss)
parts_counted [] h = tt
parts_counted (s ∷ ss) h = (h.0, parts_counted ss h.1)

array_counted : (of : ℕ → Form Tok Typed) → ((n : ℕ) → Means (of n) TypedCounted) → Means (array_of of) TypedCounted
unfolding array_of elements
array_counted of h = skip _ (λ line. follow count_spelled (λ n c. skip _ (λ _. follow (h n) (λ e g. skip _ (λ _. nothing (c, g))))))

members_counted : (packed : Bool) (part : Extent → Form Tok Typed) → ((s : Extent) → Means (part s) TypedCounted) → Means (members packed part) (Each Counted)
unfolding members more_members further
members_counted packed part h =
    either_means (skip _ (λ _. nothing tt))
    (follow (h no_bytes) (λ first g.
    follow (chain_means {P = Counted} (grown packed no_bytes (extent_of first.shape)) (λ s. skip _ (λ _. follow (h s) (λ p k. nothing k)))) (λ more gs. skip _ (λ _. nothing (g, gs)))))

structure_counted : (part : Extent → Form Tok Typed) → ((s : Extent) → Means (part s) TypedCounted) → Means (structure_of part) TypedCounted
unfolding structure_of
structure_counted part h = skip _ (λ line. follow (members_counted false part h) (λ parts g. nothing (parts_counted parts g)))

packed_counted : (part : Extent → Form Tok Typed) → ((s : Extent) → Means (part s) TypedCounted) → Means (packed_of part) TypedCounted
unfolding packed_of packed_behind
packed_counted part h = skip _ (λ line. skip _ (λ _. follow (members_counted true part h) (λ parts g. skip _ (λ _. nothing (parts_counted parts g)))))

over_counted : (of : ℕ → Form Tok Typed) (part : Bool → Extent → Form Tok Typed) (innermost : Form Tok Typed)
    → ((n : ℕ) → Means (of n) TypedCounted) → ((packed : Bool) (s : Extent) → Means (part packed s) TypedCounted) → Means innermost TypedCounted → Means (shape_over of part innermost) TypedCounted
unfolding shape_over
over_counted of part innermost h g k = either_means (array_counted of h) (either_means (structure_counted (part false) (g false)) (either_means (packed_counted (part true) (g true)) k))

depth_counted : (depth : ℕ) (room : Room) → Means (shape depth room) TypedCounted
depth_counted zero room = leaf_counted room
depth_counted (suc depth) room =
    over_counted (λ n. shape depth (shared n room)) (λ packed s. shape depth (left packed room s)) (leaf room) (λ n. depth_counted depth (shared n room)) (λ packed s. depth_counted depth (left packed room s)) (leaf_counted room)

pub shape_counted : Means memory_shape TypedCounted
unfolding memory_shape
shape_counted = depth_counted 32 whole
