-- The counts of a module's type names are below 2^64, where its items are so.
use Rattle.std.proofs.Common.{◌≡◌, Bool, true, false, cond, is_some, Option, Some, None, Result, Ok, Err, List, [], ◌∷◌, ◌++◌, subst}
use Rattle.std.specs.List.{AllByRecursion as Each}
use Rattle.ir_lex.specs.Tok.{Tok}
use Rattle.ir_parse_names.specs.Keys.{key_of}
use Rattle.ir_parse_names.specs.Locals.{twice}
use Rattle.ir_parse_names.specs.Marks.{Mark, type_name, type_use, shape, many, global, symbol, address, uses, all_uses, uses_if, level_uses, all, operand_marks, both, instr_marks, end_marks, block_marks, head_marks, part_marks, init_marks, item_marks, marks_of}
use Rattle.ir_parse_names.specs.TypeNames.{all_typed, first_types, typed_by, type_names, use_in}
use Rattle.ir_parse_names.specs.Types.{Types, entry_of, shape_if, with_type}
use Rattle.ir_parse_names.specs.declared.fault.Fault.{Fault}
use Rattle.ir_parse_parts.specs.Shapes as shapes
use Rattle.ir_parse_parts.specs.Shapes.{Written, WrittenParts}
use Rattle.ir_parse_parts.specs.declared.address.Level.{Level}
use Rattle.ir_parse_parts.specs.declared.raw.Block.{Block}
use Rattle.ir_parse_parts.specs.declared.raw.Init.{Init}
use Rattle.ir_parse_parts.specs.declared.raw.InitHead.{InitHead}
use Rattle.ir_parse_parts.specs.declared.raw.InitHead.TheVariants as rh
use Rattle.ir_parse_parts.specs.declared.raw.InitPart.{InitPart}
use Rattle.ir_parse_parts.specs.declared.raw.InitPart.TheVariants as rp
use Rattle.ir_parse_parts.specs.declared.raw.Instr.{Instr}
use Rattle.ir_parse_parts.specs.declared.raw.Instr.TheVariants as ri
use Rattle.ir_parse_parts.specs.declared.raw.Item.{Item}
use Rattle.ir_parse_parts.specs.declared.raw.Item.TheVariants as item
use Rattle.ir_parse_parts.specs.declared.raw.Operand.{Operand}
use Rattle.ir_parse_parts.specs.declared.raw.Operand.TheVariants as ro
use Rattle.ir_parse_parts.specs.declared.raw.Terminator.{Terminator}
use Rattle.ir_parse_parts.specs.declared.raw.Terminator.TheVariants as re
use Rattle.ir_parse_parts.specs.declared.shape.Typed.{Typed}
use Rattle.ir_round_trip.specs.Spelled.{ItemSpelled, TypeCounted}
use Rattle.ir_round_trip.proofs.Means.{joined}
use Rattle.ir_round_trip.proofs.Counts.{TypesCounted}
use Rattle.ir_round_trip.proofs.Stages.{one, took}

abbrev MarkCounted : Mark → Type 0
MarkCounted (type_name name typed) = TypeCounted (shape_if typed)
MarkCounted m = Unit {0}

abbrev Fine : List Mark → Type 0
Fine ms = Each MarkCounted ms

together : (xs ys : List Mark) → Fine xs → Fine ys → Fine (xs ++ ys)
together xs ys h k = joined MarkCounted xs ys h k

each_fine : {A : Type 0} (f : A → List Mark) → ((x : A) → Fine (f x)) → (xs : List A) → Fine (all f xs)
each_fine f h [] = tt
each_fine f h (x ∷ xs) = together (f x) (all f xs) (h x) (each_fine f h xs)

-- ---- marks that define no type name

mutual
  uses_fine : (s : Written) → Fine (uses s)
  uses_fine (shapes.int w) = tt
  uses_fine shapes.pointer = tt
  uses_fine (shapes.array count of) = uses_fine of
  uses_fine (shapes.structure packed parts) = all_uses_fine parts
  uses_fine (shapes.named name) = (tt, tt)

  all_uses_fine : (ps : WrittenParts) → Fine (all_uses ps)
  all_uses_fine shapes.no_parts = tt
  all_uses_fine (shapes.part s more) = together (uses s) (all_uses more) (uses_fine s) (all_uses_fine more)

levels_fine : (ls : List Level) → Fine (level_uses ls)
levels_fine [] = tt
levels_fine (l ∷ ls) = together (level_uses ls) (uses l.typed.shape) (levels_fine ls) (uses_fine l.typed.shape)

operand_fine : (o : Operand) → Fine (operand_marks o)
operand_fine (ro.Global name) = (tt, tt)
operand_fine (ro.Address steps) = (tt, levels_fine steps.levels)
operand_fine (ro.Local name) = tt
operand_fine (ro.Number width bits) = tt
operand_fine ro.Null = tt
operand_fine (ro.Poison reg) = tt

two_fine : (left right : Operand) → Fine (both left right)
two_fine left right = together (operand_marks left) (operand_marks right) (operand_fine left) (operand_fine right)

instr_fine : (i : Instr) → Fine (instr_marks i)
instr_fine (ri.Binary op flags width left right) = two_fine left right
instr_fine (ri.Icmp predicate reg left right) = two_fine left right
instr_fine (ri.Cast op from value to) = operand_fine value
instr_fine (ri.Select condition if_true if_false) = together (operand_marks condition) (both if_true.operand if_false.operand) (operand_fine condition) (two_fine if_true.operand if_false.operand)
instr_fine (ri.Freeze reg value) = operand_fine value
instr_fine (ri.Phi reg incoming) = each_fine (λ i. operand_marks i.value) (λ i. operand_fine i.value) incoming
instr_fine (ri.Alloca typed count align) = (tt, uses_fine typed.shape)
instr_fine (ri.Load reg from align) = operand_fine from
instr_fine (ri.Store reg value to align) = two_fine value to
instr_fine (ri.Address inbounds typed base indices) = (
  tt,
  together (uses typed.shape) (operand_marks base ++ all (λ a. operand_marks a.operand) indices) (uses_fine typed.shape)
      (together (operand_marks base) (all (λ a. operand_marks a.operand) indices) (operand_fine base) (each_fine (λ a. operand_marks a.operand) (λ a. operand_fine a.operand) indices)),
)
instr_fine (ri.Call result callee arguments) =
    together (operand_marks callee) (all (λ a. operand_marks a.operand) arguments) (operand_fine callee) (each_fine (λ a. operand_marks a.operand) (λ a. operand_fine a.operand) arguments)

end_fine : (e : Terminator) → Fine (end_marks e)
end_fine (re.Return None) = tt
end_fine (re.Return (Some a)) = operand_fine a.operand
end_fine (re.Jump target) = tt
end_fine (re.Branch condition if_true if_false) = operand_fine condition
end_fine (re.Switch width value default cases) = operand_fine value
end_fine re.Unreachable = tt

block_fine : (b : Block) → Fine (block_marks b)
block_fine b = together (all (λ l. instr_marks l.instr) b.lines) (end_marks b.end) (each_fine (λ l. instr_marks l.instr) (λ l. instr_fine l.instr) b.lines) (end_fine b.end)

head_fine : (h : InitHead) → Fine (head_marks h)
head_fine (rh.Plain operand) = operand_fine operand
head_fine rh.Zeros = tt
head_fine (rh.Bytes string) = tt
head_fine (rh.Number t) = tt
head_fine rh.Array = tt
head_fine (rh.Struct packed) = tt

part_fine : (p : InitPart) → Fine (part_marks p)
part_fine (rp.Typed typed head) = (tt, together (uses typed.shape) (head_marks head) (uses_fine typed.shape) (head_fine head))
part_fine rp.End = tt

init_fine : (i : Option Init) → Fine (init_marks i)
init_fine None = tt
init_fine (Some i) = together (head_marks i.root) (all part_marks i.parts) (head_fine i.root) (each_fine part_marks part_fine i.parts)

uses_if_fine : (t : Option Typed) → Fine (uses_if t)
uses_if_fine None = tt
uses_if_fine (Some typed) = uses_fine typed.shape

item_fine : (i : Item) → ItemSpelled i → Fine (item_marks i)
item_fine (item.Type name typed) h = (h, uses_if_fine typed)
item_fine (item.Variable v) h = (tt, (tt, together (uses v.typed.shape) (init_marks v.init) (uses_fine v.typed.shape) (init_fine v.init)))
item_fine (item.Declaration head) h = (tt, tt)
item_fine (item.Definition head blocks) h = (tt, each_fine block_marks block_fine blocks)
item_fine (item.Datalayout string) h = tt
item_fine (item.Triple string) h = tt
item_fine (item.Attributes group noinline optnone) h = tt

marks_fine : (is : List Item) → Each ItemSpelled is → Fine (marks_of is)
marks_fine [] h = tt
marks_fine (i ∷ is) h = together (item_marks i) (marks_of is) (item_fine i h.0) (marks_fine is h.1)

-- ---- type names

abbrev Right : Result Types Fault → Type 0
Right r = (ts : Types) → r ≡ Ok ts → TypesCounted ts

defined_right : (types : Types) (name : Tok) (s : Option Written) → TypesCounted types → TypeCounted s → Right (with_type types name s)
defined_right types name s h c ts e = by (is_some (entry_of types (key_of name))) e
  where
    by : (b : Bool) → cond b (Err (twice name.line)) (Ok (types ++ (key_of name, s) ∷ [])) ≡ Ok ts → TypesCounted ts
    by true e = absurd cc
    by false e = subst TypesCounted (one e) (joined (λ d. TypeCounted d.1) types ((key_of name, s) ∷ []) h (c, tt))

mark_right : (all types : Types) (m : Mark) → TypesCounted types → MarkCounted m → Right (typed_by all types m)
mark_right all types (type_name name typed) h c ts e = defined_right types name (shape_if typed) h c ts e
mark_right all types (type_use name) h c ts e = let u = took (use_in all name) (λ _. Ok types) ts e in subst TypesCounted (one u.2) h
mark_right all types (shape typed) h c ts e = subst TypesCounted (one e) h
mark_right all types (many typed count) h c ts e = subst TypesCounted (one e) h
mark_right all types (global name) h c ts e = subst TypesCounted (one e) h
mark_right all types (symbol name) h c ts e = subst TypesCounted (one e) h
mark_right all types (address steps) h c ts e = subst TypesCounted (one e) h

all_right : (all types : Types) (ms : List Mark) → TypesCounted types → Fine ms → Right (all_typed all types ms)
all_right all types [] h f ts e = subst TypesCounted (one e) h
all_right all types (m ∷ ms) h f ts e =
    let us = took (typed_by all types m) (λ us. all_typed all us ms) ts e in all_right all us.0 ms (mark_right all types m h f.0 us.0 us.1) f.1 ts us.2

pub types_counted : (is : List Item) (types : Types) → Each ItemSpelled is → type_names (marks_of is) ≡ Ok types → TypesCounted types
unfolding type_names
types_counted is types h e = all_right (first_types [] (marks_of is)) [] (marks_of is) tt (marks_fine is h) types e
