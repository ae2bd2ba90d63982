-- A scalar that memory holds has the type of a register.
use Rattle.std.proofs.Common.{◌≡◌, ℕ, zero, suc, ◌<◌, ◌≤◌, Bool, true, false, cond, ◌&&◌, Option, Some, None, option_map, max, min, List, [], ◌∷◌, Result, Ok, Err, sym, subst, inl, inr, arith}
use Rattle.std.specs.Prelude.{IfSome}
use Rattle.ir_lex.specs.TokenKinds.{number}
use Rattle.ir_lex.specs.Tok.{Tok}
use Rattle.ir_parse_parts.specs.Alphabet.{among}
use Rattle.ir_parse_parts.specs.declared.fault.TokenFault.{TokenFault}
use Rattle.ir_parse_parts.specs.Forms as form
use Rattle.ir_parse_parts.specs.Rules.{in_range, is_valued}
use Rattle.ir_parse_parts.specs.Classes.{tokens}
use Rattle.ir_parse_operands.specs.declared.extents.Extent.{Extent}
use Rattle.ir_parse_operands.specs.declared.extents.Room.{Room}
use Rattle.ir_parse_parts.specs.declared.shape.Typed.{Typed}
use Rattle.ir_parse_operands.specs.Extents.{shared, left, whole}
use Rattle.ir_parse_parts.specs.Literals.{IsWidth}
use Rattle.ir_parse_parts.specs.Operands as operands
use Rattle.ir_parse_parts.specs.Operands.{IsReg, LOCAL, SCALAR, memory_refusal, width}
use Rattle.ir_parse_operands.specs.ShapeForms.{typed, is_pointer, scalar_typed, has_room, is_leaf, leaf, elements, array_of, structure_of, packed_behind, packed_of, shape_over, shape, memory_shape}
use Rattle.ir_parse_operands.specs.ShapeFormsAt.{memory_shape_at}
use Rattle.ir_parse_parts.specs.Shapes.{int, pointer, named}
use Rattle.ir_parse_operands.proofs.ShapeRules.{memory_shape_rule}
use Rattle.ir_parse_globals.specs.Initialisers.{scalar_of}

abbrev Registered : Typed → Type 0
Registered x = IfSome (scalar_of x.shape) IsReg

positive : (n : ℕ) → 0 < min 64 (max 1 n)
positive n = omega arith

narrow : (n : ℕ) → min 64 (max 1 n) ≤ 64
narrow n = omega arith

has_width : (t : Tok) → IsWidth (width t)
has_width t = record { positive = positive _; narrow = narrow _ }

scalar_is : (t : Tok) → Registered (scalar_typed t)
scalar_is t = by_pointer (is_pointer t)
  where
    by_pointer : (b : Bool) → Registered (typed (cond b pointer (int (width t))) t.line)
    by_pointer true = tt
    by_pointer false = has_width t

abbrev read : Typed → Result Typed TokenFault
read x = Ok x

ok_is : (x y : Typed) → read x ≡ read y → x ≡ y
ok_is x y e = cc

leaf_means : (room : Room) (t : Tok) (x : Typed) → is_leaf room t ≡ Ok x → Registered x
unfolding is_leaf is_valued
leaf_means room t x e = by_scalar (among tokens SCALAR t) (has_room room t) (among tokens LOCAL t) (operands.named t) e
  where
    by_scalar : (b c d : Bool) (o : Option Tok) → cond (b && c) (Ok (scalar_typed t)) (cond d (in_range (option_map (λ (name : Tok). typed (named name) t.line) o)) (Err (memory_refusal (number t.kind)))) ≡ Ok x → Registered x
    by_scalar true true d o h = subst (λ (y : Typed). Registered y) (ok_is (scalar_typed t) x h) (scalar_is t)
    by_scalar true false true (Some name) h = subst (λ (y : Typed). Registered y) (ok_is (typed (named name) t.line) x h) tt
    by_scalar true false true None h = absurd cc
    by_scalar true false false o h = absurd cc
    by_scalar false c true (Some name) h = subst (λ (y : Typed). Registered y) (ok_is (typed (named name) t.line) x h) tt
    by_scalar false c true None h = absurd cc
    by_scalar false c false o h = absurd cc

leaf_is : (room : Room) (ts : List Tok) (x : Typed) → leaf room ts x → Registered x
leaf_is room [] x s = absurd s
leaf_is room (t ∷ []) x s = leaf_means room t x s
leaf_is room (t ∷ u ∷ ts) x s = absurd s

array_is : (of : ℕ → form.Form Tok Typed) (ts : List Tok) (x : Typed) → array_of of ts x → Registered x
unfolding array_of elements form.◌>>=◌
array_is of ts x (f, b, line, e, s, (f', b', n, e', s', (f'', b'', u, e'', s'', (g, c, y, d, r, (g', c', v, d', r', (z, i)))))) = subst (λ (w : Typed). Registered w) (sym i) tt

structure_is : (part : Extent → form.Form Tok Typed) (ts : List Tok) (x : Typed) → structure_of part ts x → Registered x
unfolding structure_of form.◌>>=◌
structure_is part ts x (f, b, line, e, s, (f', b', ps, e', m, (z, i))) = subst (λ (w : Typed). Registered w) (sym i) tt

packed_is : (part : Extent → form.Form Tok Typed) (ts : List Tok) (x : Typed) → packed_of part ts x → Registered x
unfolding packed_of packed_behind form.◌>>=◌
packed_is part ts x (f, b, line, e, s, (f', b', u, e', c, (f'', b'', ps, e'', m, (g, h, v, d, a, (z, i))))) = subst (λ (w : Typed). Registered w) (sym i) tt

over_is : (of : ℕ → form.Form Tok Typed) (part : Bool → Extent → form.Form Tok Typed) (room : Room) (ts : List Tok) (x : Typed) → shape_over of part (leaf room) ts x → Registered x
unfolding shape_over form.either
over_is of part room ts x (inl s) = array_is of ts x s
over_is of part room ts x (inr (inl s)) = structure_is (part false) ts x s
over_is of part room ts x (inr (inr (inl s))) = packed_is (part true) ts x s
over_is of part room ts x (inr (inr (inr s))) = leaf_is room ts x s

shape_is : (depth : ℕ) (room : Room) (ts : List Tok) (x : Typed) → shape depth room ts x → Registered x
shape_is zero room ts x s = leaf_is room ts x s
shape_is (suc depth) room ts x s = over_is (λ n. shape depth (shared n room)) (λ packed s. shape depth (left packed room s)) room ts x s

memory_shape_is : (ts : List Tok) (x : Typed) → memory_shape ts x → Registered x
unfolding memory_shape
memory_shape_is ts x s = shape_is 32 whole ts x s

pub scalar_is_register : (ts rest : List Tok) (x : Typed) → memory_shape_at ts ≡ Ok (x, rest) → IfSome (scalar_of x.shape) IsReg
scalar_is_register ts rest x e = let s = memory_shape_rule.law.sound ts rest x e in memory_shape_is s.0 x s.2
