-- Shapes that the grammar spells have integers of 8, 16, 32 or 64 bits.
use Rattle.std.proofs.Common.{◌≡◌, ℕ, zero, suc, nat_eq, ◌&&◌, Bool, true, false, cond, List, [], ◌∷◌, Some, Ok, refl, subst, if◌then◌else◌}
use Rattle.std.specs.List.{AllByRecursion as Each}
use Rattle.std.proofs.lemmas.Bool.{and_parts}
use Rattle.ir_lex.specs.TokenKinds.{number}
use Rattle.ir_lex.specs.Tok.{Tok}
use Rattle.ir_lex.specs.declared.token_kind.TokenKind.TheVariants as kinds
use Rattle.ir_parse_parts.specs.Alphabet.{contains}
use Rattle.ir_parse_parts.specs.Forms.{Form}
use Rattle.ir_parse_parts.specs.Rules.{in_range, is_valued}
use Rattle.ir_parse_parts.specs.Classes.{tokens}
use Rattle.ir_parse_operands.specs.Extents.{extent_of, grown, left, no_bytes, shared, whole}
use Rattle.ir_parse_parts.specs.Operands.{LOCAL, SCALAR, memory_refusal, named, width}
use Rattle.ir_parse_operands.specs.ShapeForms.{array_of, elements, further, has_room, is_leaf, leaf, members, memory_shape, more_members, packed_behind, packed_of, scalar_typed, shape, shape_over, structure_of, type_name, typed}
use Rattle.ir_parse_parts.specs.Shapes as written
use Rattle.ir_parse_parts.specs.Shapes.{Written, int, pointer, parts_of}
use Rattle.ir_parse_operands.specs.declared.extents.Extent.{Extent}
use Rattle.ir_parse_operands.specs.declared.extents.Room.{Room}
use Rattle.ir_parse_parts.specs.declared.shape.Typed.{Typed}
use Rattle.ir_tree.specs.Formed.{IsScalar}
use Rattle.ir_tree.specs.declared.operand.Reg.TheVariants.{Int, Ptr}
use Rattle.ir_parse.specs.Written.{ShapeWritten, PartsWritten}
use Rattle.ir_parse.specs.Sized.{IsSized}
use Rattle.ir_parse.proofs.Means.{Means, accepted, valued, chain_means, either_means, nothing, skip, follow, token_means}
use Rattle.ir_parse.proofs.Operands.{mapped, scalar_is}

abbrev pub TypedWritten : Typed → Type 0
TypedWritten t = ShapeWritten t.shape

-- ---- scalars and names

abbrev of_name : Tok → Tok → Typed
of_name t name = typed (written.named name) t.line

name_written : (t : Tok) (a : Typed) → type_name t ≡ Some a → TypedWritten a
name_written t a e = let m = mapped (of_name t) (named t) a e in subst TypedWritten m.2 tt

scalar_shape : (t : Tok) → IsSized t → contains SCALAR (number t.kind) ≡ true → TypedWritten (scalar_typed t)
scalar_shape t s c = by (nat_eq (number t.kind) (number kinds.Ptr)) (scalar_is t s c)
  where
    by : (b : Bool) → IsScalar (if b then Ptr else Int (width t)) → ShapeWritten (if b then pointer else int (width t))
    by true h = tt
    by false h = h

leaf_written : (room : Room) → Means (leaf room) TypedWritten
unfolding is_leaf is_valued
leaf_written room = token_means (λ t a s h. by t a s (contains SCALAR (number t.kind) && has_room room t) refl h)
  where
    by : (t : Tok) (a : Typed) → IsSized t → (b : Bool) → contains SCALAR (number t.kind) && has_room room t ≡ b
        → cond b (Ok (scalar_typed t)) (is_valued tokens memory_refusal LOCAL type_name t) ≡ Ok a → TypedWritten a
    by t a s true c e =
        let same : scalar_typed t ≡ a = cc (e) in
        subst TypedWritten same (scalar_shape t s (and_parts (contains SCALAR (number t.kind)) (has_room room t) c).0)
    by t a s false c e =
        let yes = accepted (contains LOCAL (number t.kind)) (in_range (type_name t)) (memory_refusal (number t.kind)) a e in name_written t a (valued (type_name t) a yes.1)

-- ---- arrays and structures

parts_written : (ss : List Written) → Each ShapeWritten ss → PartsWritten (parts_of ss)
parts_written [] h = tt
parts_written (s ∷ ss) h = (h.0, parts_written ss h.1)

array_written : (of : ℕ → Form Tok Typed) → ((n : ℕ) → Means (of n) TypedWritten) → Means (array_of of) TypedWritten
unfolding array_of elements
array_written of h = skip _ (λ line. skip _ (λ n. skip _ (λ _. follow (h n) (λ e g. skip _ (λ _. nothing g)))))

members_written : (packed : Bool) (part : Extent → Form Tok Typed) → ((s : Extent) → Means (part s) TypedWritten) → Means (members packed part) (Each ShapeWritten)
unfolding members more_members further
members_written packed part h =
    either_means (skip _ (λ _. nothing tt))
    (follow (h no_bytes) (λ first g.
    follow (chain_means {P = ShapeWritten} (grown packed no_bytes (extent_of first.shape)) (λ s. skip _ (λ _. follow (h s) (λ p k. nothing k)))) (λ more gs.
    skip _ (λ _. nothing (g, gs)))))

structure_written : (part : Extent → Form Tok Typed) → ((s : Extent) → Means (part s) TypedWritten) → Means (structure_of part) TypedWritten
unfolding structure_of
structure_written part h = skip _ (λ line. follow (members_written false part h) (λ parts g. nothing (parts_written parts g)))

packed_written : (part : Extent → Form Tok Typed) → ((s : Extent) → Means (part s) TypedWritten) → Means (packed_of part) TypedWritten
unfolding packed_of packed_behind
packed_written part h = skip _ (λ line. skip _ (λ _. follow (members_written true part h) (λ parts g. skip _ (λ _. nothing (parts_written parts g)))))

over_written : (of : ℕ → Form Tok Typed) (part : Bool → Extent → Form Tok Typed) (innermost : Form Tok Typed)
    → ((n : ℕ) → Means (of n) TypedWritten) → ((packed : Bool) (s : Extent) → Means (part packed s) TypedWritten) → Means innermost TypedWritten → Means (shape_over of part innermost) TypedWritten
unfolding shape_over
over_written of part innermost h g k = either_means (array_written of h) (either_means (structure_written (part false) (g false)) (either_means (packed_written (part true) (g true)) k))

-- ---- all shapes

depth_written : (depth : ℕ) (room : Room) → Means (shape depth room) TypedWritten
depth_written zero room = leaf_written room
depth_written (suc depth) room =
    over_written (λ n. shape depth (shared n room)) (λ packed s. shape depth (left packed room s)) (leaf room) (λ n. depth_written depth (shared n room)) (λ packed s. depth_written depth (left packed room s)) (leaf_written room)

pub shape_written : Means memory_shape TypedWritten
unfolding memory_shape
shape_written = depth_written 32 whole
