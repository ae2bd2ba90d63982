-- The first fault of the readers of shapes is of a kind that its token allows.
use Rattle.ir_parse.proofs.Told.{Tells, TellsBehind, Takes, behind_one, brace_behind_told, seq_behind, first_true, seq, nothing, alt, barred, single, value_allowed, valued, takes_token, takes_first, chain, the_told, one_told, refusal_refuses, AllowedBy, never_among, memory_refusal_refuses}
use Rattle.std.specs.Prelude.{ℕ, zero, suc, Bool, true, false}
use Rattle.ir_lex.specs.declared.token_kind.TokenKind.TheVariants as kinds
use Rattle.ir_lex.specs.Tok.{Tok}
use Rattle.ir_parse_parts.specs.Alphabet.{among}
use Rattle.ir_parse_parts.specs.Readers.{Reader}
use Rattle.ir_parse_parts.specs.Rules.{is_valued}
use Rattle.ir_parse_parts.specs.Ahead.{BRACKETS}
use Rattle.ir_parse_parts.specs.Classes.{tokens, refusal}
use Rattle.ir_parse_operands.specs.declared.extents.Extent.{Extent}
use Rattle.ir_parse_operands.specs.declared.extents.Room.{Room}
use Rattle.ir_parse_parts.specs.declared.shape.Typed.{Typed}
use Rattle.ir_parse_operands.specs.Extents.{extent_of, grown, left, no_bytes, shared, whole}
use Rattle.ir_parse_operands.specs.ShapeForms.{line_of, leaf_means, NUMBER, count_of, OPEN_BRACKET, OPEN_BRACE, OPEN_ANGLE, anywhere, is_leaf, too_large, has_room, scalar_typed, type_name}
use Rattle.ir_parse_parts.specs.Shapes.{Written}
use Rattle.ir_parse_operands.specs.ShapeFormsAt.{CLOSE_BRACE, leaf_at, innermost_at, count_at, elements_at, array_at, further_at, begins, more_members_at, members_at, structure_at, packed_behind_at, packed_at, shape_over_at, shape_at, memory_shape_at}
use Rattle.std.proofs.Common.{Ok, Err, cond, ◌&&◌, ◌≡◌, refl}
use Rattle.ir_parse_parts.specs.declared.fault.TokenFault.TheVariants.{Limit as limit}
use Rattle.ir_parse_parts.specs.Operands.{SCALAR, LOCAL, memory_refusal}

leaf_means_allowed : (room : Room) (t : Tok) → AllowedBy t (leaf_means room t)
unfolding leaf_means is_leaf
leaf_means_allowed room t = by_size (too_large room t) refl
  where
    by_scalar : (b : Bool) → AllowedBy t (cond b (Ok (scalar_typed t)) (is_valued tokens memory_refusal LOCAL type_name t))
    by_scalar true = tt
    by_scalar false = value_allowed memory_refusal memory_refusal_refuses LOCAL refl type_name t

    by_size : (b : Bool) → too_large room t ≡ b → AllowedBy t (cond b (Err limit) (cond (among tokens SCALAR t && has_room room t) (Ok (scalar_typed t)) (is_valued tokens memory_refusal LOCAL type_name t)))
    by_size true e = never_among SCALAR refl t (first_true _ _ e)
    by_size false e = by_scalar (among tokens SCALAR t && has_room room t)

pub leaf_told : (room : Room) → Tells (leaf_at room)
leaf_told room = single (leaf_means room) (leaf_means_allowed room)

pub innermost_told : (room : Room) → Tells (innermost_at room)
unfolding innermost_at
innermost_told room = barred BRACKETS refl (leaf_told room)

pub count_told : Tells count_at
count_told = valued refusal refusal_refuses NUMBER refl (count_of 64)

pub elements_told : (of : ℕ → Reader Tok Typed) → ((a0 : ℕ) → Tells (of a0)) → (line : ℕ) → Tells (elements_at of line)
unfolding elements_at
elements_told of of_told line =
    seq count_told (λ n. seq (the_told kinds.Times) (λ _. seq (of_told n) (λ e. seq (the_told kinds.CloseBracket) (λ _. nothing _))))

pub array_told : (of : ℕ → Reader Tok Typed) → ((a0 : ℕ) → Tells (of a0)) → Tells (array_at of)
unfolding array_at
array_told of of_told = seq (one_told OPEN_BRACKET line_of) (λ line. elements_told of of_told line)

pub further_told : (packed : Bool) → (part : Extent → Reader Tok Typed) → ((a0 : Extent) → Tells (part a0)) → (s : Extent) → Tells (further_at packed part s)
unfolding further_at
further_told packed part part_told s = seq (the_told kinds.Comma) (λ _. seq (part_told s) (λ p. nothing _))

further_takes : (packed : Bool) (part : Extent → Reader Tok Typed) → ((a : Extent) → Tells (part a)) → (s : Extent) → Takes (further_at packed part s)
unfolding further_at
further_takes packed part part_told s = takes_first (takes_token _) (λ _. seq (part_told s) (λ p. nothing _))

pub more_members_told : (packed : Bool) → (part : Extent → Reader Tok Typed) → ((a : Extent) → Tells (part a)) → (first : Written) → Tells (more_members_at packed part first)
unfolding more_members_at
more_members_told packed part part_told first =
    seq (chain anywhere begins (λ s. further_told packed part part_told s) (λ s. further_takes packed part part_told s) (grown packed no_bytes (extent_of first))) (λ more. seq (the_told kinds.CloseBrace) (λ _. nothing _))

pub members_told : (packed : Bool) → (part : Extent → Reader Tok Typed) → ((a0 : Extent) → Tells (part a0)) → Tells (members_at packed part)
unfolding members_at
members_told packed part part_told =
    alt (among tokens CLOSE_BRACE) (seq (the_told kinds.CloseBrace) (λ _. nothing _)) (seq (part_told no_bytes) (λ first. more_members_told packed part part_told first.shape))

pub structure_told : (part : Extent → Reader Tok Typed) → ((a0 : Extent) → Tells (part a0)) → Tells (structure_at part)
unfolding structure_at
structure_told part part_told = seq (one_told OPEN_BRACE line_of) (λ line. seq (members_told false part part_told) (λ parts. nothing _))

pub packed_behind_told : (part : Extent → Reader Tok Typed) → ((a0 : Extent) → Tells (part a0)) → (line : ℕ) → TellsBehind OPEN_ANGLE (packed_behind_at part line)
unfolding packed_behind_at
packed_behind_told part part_told line =
    seq_behind OPEN_ANGLE brace_behind_told (λ _. seq (members_told true part part_told) (λ parts. seq (the_told kinds.CloseAngle) (λ _. nothing _)))

pub packed_told : (part : Extent → Reader Tok Typed) → ((a0 : Extent) → Tells (part a0)) → Tells (packed_at part)
unfolding packed_at
packed_told part part_told = behind_one OPEN_ANGLE line_of (λ line. packed_behind_told part part_told line)

pub shape_over_told : (of : ℕ → Reader Tok Typed) → ((a0 : ℕ) → Tells (of a0)) → (part : Bool → Extent → Reader Tok Typed) → ((a0 : Bool) → (a1 : Extent) → Tells (part a0 a1)) → (innermost : Reader Tok Typed) → Tells innermost → Tells (shape_over_at of part innermost)
unfolding shape_over_at
shape_over_told of of_told part part_told innermost innermost_told =
    alt (among tokens OPEN_BRACKET) (array_told of of_told) (alt (among tokens OPEN_BRACE) (structure_told (part false) (part_told false)) (alt (among tokens OPEN_ANGLE) (packed_told (part true) (part_told true)) innermost_told))

pub shape_told : (x0 : ℕ) → (room : Room) → Tells (shape_at x0 room)
shape_told zero room = innermost_told room
shape_told (suc depth) room =
    shape_over_told (λ n. shape_at depth (shared n room)) (λ n. (shape_told depth (shared n room))) (λ packed s. shape_at depth (left packed room s)) (λ packed s. (shape_told depth (left packed room s))) (leaf_at room) (leaf_told room)

pub memory_shape_told : Tells memory_shape_at
unfolding memory_shape_at
memory_shape_told = shape_told 32 whole
