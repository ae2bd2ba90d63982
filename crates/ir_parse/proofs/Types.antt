-- The types of a module whose items are written.
use Rattle.std.proofs.Common.{◌≡◌, Bool, true, false, List, [], ◌∷◌, ◌++◌, Option, Some, None, Result, Ok, Err, refl, subst, if◌then◌else◌}
use Rattle.std.specs.List.{AllByRecursion as Each}
use Rattle.std.specs.Prelude.{is_some}
use Rattle.std.proofs.lemmas.List.Elements.{All-from_recursion, recursion_from_All}
use Rattle.ir_lex.specs.Tok.{Tok}
use Rattle.ir_parse_names.specs.declared.fault.Fault.{Fault}
use Rattle.ir_parse_names.specs.Keys.{key_of}
use Rattle.ir_parse_names.specs.Locals.{twice}
use Rattle.ir_parse_names.specs.Marks.{Mark, all, block_marks, both, end_marks, head_marks, init_marks, instr_marks, item_marks, level_uses, marks_of, operand_marks, part_marks, type_name, type_use, typed_marks, uses, all_uses, uses_if, variable_marks}
use Rattle.ir_parse_names.specs.Resolving.{◌>>=◌}
use Rattle.ir_parse_names.specs.TypeNames.{all_typed, first_types, type_names, typed_by, use_in}
use Rattle.ir_parse_names.specs.Types.{Types, entry_of, shape_if, with_type}
use Rattle.ir_parse_parts.specs.Shapes as written
use Rattle.ir_parse_parts.specs.Shapes.{Written, WrittenParts}
use Rattle.ir_parse_parts.specs.declared.address.Level.{Level}
use Rattle.ir_parse_parts.specs.declared.raw.Block.{Block}
use Rattle.ir_parse_parts.specs.declared.raw.Init.{Init}
use Rattle.ir_parse_parts.specs.declared.raw.InitHead.{InitHead}
use Rattle.ir_parse_parts.specs.declared.raw.InitHead.TheVariants as heads
use Rattle.ir_parse_parts.specs.declared.raw.InitPart.{InitPart}
use Rattle.ir_parse_parts.specs.declared.raw.InitPart.TheVariants as parts
use Rattle.ir_parse_parts.specs.declared.raw.Instr.{Instr}
use Rattle.ir_parse_parts.specs.declared.raw.Instr.TheVariants as kind
use Rattle.ir_parse_parts.specs.declared.raw.Item.{Item}
use Rattle.ir_parse_parts.specs.declared.raw.Item.TheVariants as item
use Rattle.ir_parse_parts.specs.declared.raw.Operand.{Operand}
use Rattle.ir_parse_parts.specs.declared.raw.Operand.TheVariants as operands
use Rattle.ir_parse_parts.specs.declared.raw.Terminator.{Terminator}
use Rattle.ir_parse_parts.specs.declared.raw.Terminator.TheVariants as end
use Rattle.ir_parse_parts.specs.declared.raw.Variable.{Variable}
use Rattle.ir_parse_parts.specs.declared.shape.Typed.{Typed}
use Rattle.ir_parse.specs.Written.{TypeWritten}
use Rattle.ir_parse.specs.Items.{ItemWritten}
use Rattle.ir_parse.specs.Spelled.{TypesAreWritten}
use Rattle.ir_parse.proofs.Means.{joined, pushed}

-- ---- marks

-- a type name is given a shape that is written
abbrev MarkWritten : Mark → Type 0
MarkWritten (type_name name typed) = TypeWritten (shape_if typed)
MarkWritten _ = Unit {0}

abbrev Marked : List Mark → Type 0
Marked ms = Each MarkWritten ms

append : (ms ns : List Mark) → Marked ms → Marked ns → Marked (ms ++ ns)
append ms ns h k = joined MarkWritten ms ns h k

all_marked : {A : Type 0} (f : A → List Mark) → ((x : A) → Marked (f x)) → (xs : List A) → Marked (all f xs)
all_marked f h [] = tt
all_marked f h (x ∷ xs) = append (f x) (all f xs) (h x) (all_marked f h xs)

mutual
  uses_marked : (s : Written) → Marked (uses s)
  uses_marked (written.int w) = tt
  uses_marked written.pointer = tt
  uses_marked (written.array count of) = uses_marked of
  uses_marked (written.structure packed ps) = all_uses_marked ps
  uses_marked (written.named name) = (tt, tt)

  all_uses_marked : (ps : WrittenParts) → Marked (all_uses ps)
  all_uses_marked written.no_parts = tt
  all_uses_marked (written.part s more) = append (uses s) (all_uses more) (uses_marked s) (all_uses_marked more)

uses_if_marked : (typed : Option Typed) → Marked (uses_if typed)
uses_if_marked None = tt
uses_if_marked (Some typed) = uses_marked typed.shape

level_marked : (ls : List Level) → Marked (level_uses ls)
level_marked [] = tt
level_marked (l ∷ ls) = append (level_uses ls) (uses l.typed.shape) (level_marked ls) (uses_marked l.typed.shape)

typed_marked : (typed : Typed) → Marked (typed_marks typed)
typed_marked typed = (tt, uses_marked typed.shape)

operand_marked : (o : Operand) → Marked (operand_marks o)
operand_marked (operands.Global name) = (tt, tt)
operand_marked (operands.Address steps) = (tt, level_marked steps.levels)
operand_marked o = tt

both_marked : (left right : Operand) → Marked (both left right)
both_marked left right = append (operand_marks left) (operand_marks right) (operand_marked left) (operand_marked right)

instr_marked : (i : Instr) → Marked (instr_marks i)
instr_marked (kind.Binary op flags width left right) = both_marked left right
instr_marked (kind.Icmp predicate reg left right) = both_marked left right
instr_marked (kind.Cast op from value to) = operand_marked value
instr_marked (kind.Select condition if_true if_false) = append (operand_marks condition) (both if_true.operand if_false.operand) (operand_marked condition) (both_marked if_true.operand if_false.operand)
instr_marked (kind.Freeze reg value) = operand_marked value
instr_marked (kind.Phi reg incoming) = all_marked (λ i. operand_marks i.value) (λ i. operand_marked i.value) incoming
instr_marked (kind.Alloca typed count align) = (tt, uses_marked typed.shape)
instr_marked (kind.Load reg from align) = operand_marked from
instr_marked (kind.Store reg value to align) = both_marked value to
instr_marked (kind.Address inbounds typed base indices) =
    append (typed_marks typed) (operand_marks base ++ all (λ a. operand_marks a.operand) indices) (typed_marked typed)
    (append (operand_marks base) (all (λ a. operand_marks a.operand) indices) (operand_marked base) (all_marked (λ a. operand_marks a.operand) (λ a. operand_marked a.operand) indices))
instr_marked (kind.Call result callee arguments) =
    append (operand_marks callee) (all (λ a. operand_marks a.operand) arguments) (operand_marked callee) (all_marked (λ a. operand_marks a.operand) (λ a. operand_marked a.operand) arguments)

end_marked : (t : Terminator) → Marked (end_marks t)
end_marked (end.Return None) = tt
end_marked (end.Return (Some a)) = operand_marked a.operand
end_marked (end.Jump target) = tt
end_marked (end.Branch condition if_true if_false) = operand_marked condition
end_marked (end.Switch width value default cases) = operand_marked value
end_marked end.Unreachable = tt

block_marked : (b : Block) → Marked (block_marks b)
block_marked b = append (all (λ l. instr_marks l.instr) b.lines) (end_marks b.end) (all_marked (λ l. instr_marks l.instr) (λ l. instr_marked l.instr) b.lines) (end_marked b.end)

head_marked : (h : InitHead) → Marked (head_marks h)
head_marked (heads.Plain o) = operand_marked o
head_marked h = tt

part_marked : (p : InitPart) → Marked (part_marks p)
part_marked (parts.Typed typed head) = append (typed_marks typed) (head_marks head) (typed_marked typed) (head_marked head)
part_marked parts.End = tt

init_marked : (i : Option Init) → Marked (init_marks i)
init_marked None = tt
init_marked (Some i) = append (head_marks i.root) (all part_marks i.parts) (head_marked i.root) (all_marked part_marks part_marked i.parts)

variable_marked : (v : Variable) → Marked (variable_marks v)
variable_marked v = (tt, append (typed_marks v.typed) (init_marks v.init) (typed_marked v.typed) (init_marked v.init))

item_marked : (i : Item) → ItemWritten i → Marked (item_marks i)
item_marked (item.Type name typed) h = (h, uses_if_marked typed)
item_marked (item.Variable v) h = variable_marked v
item_marked (item.Declaration head) h = (tt, tt)
item_marked (item.Definition head blocks) h = (tt, all_marked block_marks block_marked blocks)
item_marked i h = tt

items_marked : (is : List Item) → Each ItemWritten is → Marked (marks_of is)
items_marked [] h = tt
items_marked (i ∷ is) h = append (item_marks i) (marks_of is) (item_marked i h.0) (items_marked is h.1)

-- ---- types

abbrev Entries : Types → Type 0
Entries types = Each (λ d. TypeWritten d.1) types

-- what came before a result
abbrev Behind : {A B E : Type 0} → Result A E → (A → Result B E) → B → Type 0
Behind {A} r f y = (x : A) × (r ≡ Ok x) × (f x ≡ Ok y)

behind : {A B E : Type 0} (r : Result A E) (f : A → Result B E) (y : B) → (r >>= f) ≡ Ok y → Behind r f y
behind (Ok x) f y e = (x, refl, e)
behind (Err d) f y e = absurd cc

same_entries : (types r : Types) (q : Result Types Fault) → q ≡ Ok types → q ≡ Ok r → Entries types → Entries r
same_entries types r q a e h = let same : types ≡ r = cc in subst Entries same h

with_type_written : (types : Types) (name : Tok) (s : Option Written) (r : Types) → Entries types → TypeWritten s → with_type types name s ≡ Ok r → Entries r
with_type_written types name s r h k e = by (is_some (entry_of types (key_of name))) e
  where
    by : (b : Bool) → (if b then Err (twice name.line) else Ok (types ++ (key_of name, s) ∷ [])) ≡ Ok r → Entries r
    by true e = absurd cc
    by false e = same_entries (types ++ (key_of name, s) ∷ []) r (Ok (types ++ (key_of name, s) ∷ [])) refl e (pushed (λ d. TypeWritten d.1) types (key_of name, s) h k)

typed_by_written : (every types : Types) (m : Mark) (r : Types) → Entries types → MarkWritten m → typed_by every types m ≡ Ok r → Entries r
typed_by_written every types (type_name name typed) r h k e = with_type_written types name (shape_if typed) r h k e
typed_by_written every types (type_use name) r h k e = let b = behind (use_in every name) (λ _. Ok types) r e in same_entries types r (Ok types) refl b.2 h
typed_by_written every types m r h k e = same_entries types r (Ok types) refl e h

all_typed_written : (every types : Types) (ms : List Mark) (r : Types) → Entries types → Marked ms → all_typed every types ms ≡ Ok r → Entries r
all_typed_written every types [] r h k e = same_entries types r (Ok types) refl e h
all_typed_written every types (m ∷ ms) r h k e =
    let b = behind (typed_by every types m) (λ ts. all_typed every ts ms) r e in
    all_typed_written every b.0 ms r (typed_by_written every types m b.0 h k.0 b.1) k.1 b.2

pub types_are : TypesAreWritten
unfolding type_names
types_are is types h e =
    All-from_recursion (λ d. TypeWritten d.1) types (all_typed_written (first_types [] (marks_of is)) [] (marks_of is) types tt (items_marked is (recursion_from_All ItemWritten is h)) e)
