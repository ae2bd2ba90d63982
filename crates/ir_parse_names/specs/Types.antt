-- Type names, and shapes with their type names expanded (LangRef, "Structure Type" and "Opaque Structure Types").
use Rattle.std.specs.Prelude.{ℕ, zero, suc, ◌+◌, ◌^◌, Bool, ◌&&◌, nat_le, if◌then◌else◌, List, [], ◌∷◌, ◌++◌, length, is_some, Option, None, Some, Result, Ok, Err}
use Rattle.ir_lex.specs.Tok.{Tok}
use Rattle.ir_parse_parts.specs.declared.shape.Typed.{Typed}
use Rattle.ir_parse_parts.specs.Shapes.{Written, int, pointer, array, structure, named, list_of}
use Rattle.ir_tree.specs.Forms as tree
use Rattle.ir_tree.specs.Forms.{Form}
use Rattle.ir_tree.specs.Layout.{size}
use Rattle.ir_parse_names.specs.declared.fault.Fault.{Fault}
use Rattle.ir_parse_names.specs.declared.fault.NameFault.TheVariants.{Limit}
use Rattle.ir_parse_names.specs.Keys.{Key, key_of, same_key}
use Rattle.ir_parse_names.specs.Locals.{unknown, twice}
use Rattle.ir_parse_names.specs.Resolving.{◌>>=◌, each}

-- the type names in the order of the text, each with its shape; an opaque one has none
abbrev pub Types : Type 0
Types = List (Key × Option Written)

abbrev pub limit : ℕ → Fault
limit line = record { line = line; kind = Limit }

abbrev pub or_unknown : {A : Type 0} → ℕ → Option A → Result A Fault
or_unknown line None = Err (unknown line)
or_unknown line (Some x) = Ok x

-- what the first definition of a type name says
abbrev pub entry_of : Types → Key → Option (Option Written)
entry_of [] key = None
entry_of (d ∷ ds) key = if same_key key d.0 then Some d.1 else entry_of ds key

abbrev pub entry_in : Types → Tok → Result (Option Written) Fault
entry_in types name = or_unknown name.line (entry_of types (key_of name))

abbrev pub shape_in : Types → Tok → Result Written Fault
shape_in types name = entry_in types name >>= λ entry. or_unknown name.line entry

-- what the definition at this place says, where it says something
abbrev pub shape_at : Types → ℕ → Option Written
shape_at [] n = None
shape_at (d ∷ ds) zero = d.1
shape_at (d ∷ ds) (suc n) = shape_at ds n

-- the shape that a chain of at most so many names leads to
abbrev pub head_from : ℕ → Types → Written → Result Written Fault
head_from n types (int w) = Ok (int w)
head_from n types pointer = Ok pointer
head_from n types (array count of) = Ok (array count of)
head_from n types (structure packed parts) = Ok (structure packed parts)
head_from zero types (named name) = Err (unknown name.line)
head_from (suc n) types (named name) = shape_in types name >>= λ s. head_from n types s

-- the same from what a name on this line stands for
abbrev pub chased : ℕ → Types → ℕ → Option Written → Result Written Fault
chased n types line entry = or_unknown line entry >>= λ s. head_from n types s

-- a chain without a circle is no longer than the list of names
unfoldable pub head_of : Types → Written → Result Written Fault
head_of types s = head_from (length types + 1) types s

abbrev pub is_width : ℕ → Bool
is_width w = nat_le 8 w && nat_le w 64

abbrev pub scalar : ℕ → ℕ → Result Form Fault
scalar line w = if is_width w then Ok (tree.int w) else Err (limit line)

abbrev pub within : ℕ → Form → Result Form Fault
within line f = if nat_le (size f) (2 ^ 31) then Ok f else Err (limit line)

abbrev pub structure_of : ℕ → Bool → Result (List Form) Fault → Result Form Fault
structure_of line packed parts = parts >>= λ fs. within line (tree.structure packed (tree.forms_of fs))

-- a shape whose head is no name, whose parts expand so
abbrev pub opened : (Written → Result Form Fault) → ℕ → Written → Result Form Fault
opened inner line (int w) = scalar line w
opened inner line pointer = Ok tree.pointer
opened inner line (array count of) = inner of >>= λ f. within line (tree.array count f)
opened inner line (structure packed parts) = structure_of line packed (each inner (list_of parts))
opened inner line (named name) = Err (unknown name.line)

-- one that may have no parts
abbrev pub without_parts : ℕ → Written → Result Form Fault
without_parts line (int w) = scalar line w
without_parts line pointer = Ok tree.pointer
without_parts line (array count of) = Err (limit line)
without_parts line (structure packed parts) = Err (limit line)
without_parts line (named name) = Err (unknown name.line)

-- the shape as its names expand, with at most so many levels of arrays and structures; each shape within has at most 2 ^ 31
-- bytes. A limit is passed on this line
abbrev pub expand : ℕ → Types → ℕ → Written → Result Form Fault
expand zero types line s = head_of types s >>= λ h. without_parts line h
expand (suc n) types line s = head_of types s >>= λ h. opened (expand n types line) line h

-- a shape as it is written somewhere, expanded within the limits
unfoldable pub expanded : Types → Typed → Result Form Fault
expanded types typed = expand 32 types typed.line typed.shape

-- the same where an array is made of it, which is a level of its own
unfoldable pub array_of : Types → Typed → ℕ → Result Form Fault
array_of types typed count = expand 31 types typed.line typed.shape >>= λ f. within typed.line (tree.array count f)

-- ---- the type names of a module

abbrev pub with_type : Types → Tok → Option Written → Result Types Fault
with_type types name shape =
    if is_some (entry_of types (key_of name)) then Err (twice name.line) else Ok (types ++ (key_of name, shape) ∷ [])

abbrev pub shape_if : Option Typed → Option Written
shape_if None = None
shape_if (Some typed) = Some typed.shape
