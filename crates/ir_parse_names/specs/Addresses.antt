-- Constant addresses folded to a symbol and an offset in bytes modulo 2 ^ 64 (LangRef, "getelementptr Instruction").
use Rattle.std.specs.Prelude.{ℕ, zero, suc, ◌+◌, ◌*◌, ◌-◌, ◌%◌, ◌^◌, Bool, ◌&&◌, ◌||◌, nat_eq, nat_le, nat_lt, if◌then◌else◌, List, [], ◌∷◌, length, Result, Ok, Err}
use Rattle.ir_parse_parts.specs.declared.address.Index.{Index}
use Rattle.ir_parse_parts.specs.declared.address.Level.{Level}
use Rattle.ir_tree.specs.Forms.{Form, int, pointer, array, structure, Forms, no_parts, part, list_of}
use Rattle.ir_tree.specs.Layout.{size, place}
use Rattle.ir_parse_names.specs.declared.fault.Fault.{Fault}
use Rattle.ir_parse_names.specs.declared.fault.NameFault.TheVariants as kinds
use Rattle.ir_parse_names.specs.Resolving.{◌>>=◌}
use Rattle.ir_parse_names.specs.Types.{Types, expanded}

abbrev pub bad_index : ℕ → Fault
bad_index line = record { line = line; kind = kinds.Index }

-- the bits of a number of a width, extended to 64 bits by its sign
abbrev pub extended : ℕ → ℕ → ℕ
extended width bits =
    if nat_eq width 0 || nat_le 64 width then bits
    else (if nat_lt bits (2 ^ (width - 1)) then bits else (bits + (2 ^ 64 - 2 ^ width)) % 2 ^ 64)

-- a number of elements of a shape, in bytes
abbrev pub scaled : Index → Form → ℕ
scaled i f = (extended i.width i.bits * size f) % 2 ^ 64

abbrev pub plus : ℕ → Result ℕ Fault → Result ℕ Fault
plus n r = r >>= λ m. Ok ((n + m) % 2 ^ 64)

-- the part of a struct at an index
abbrev pub part_at : Forms → ℕ → Form
part_at no_parts n = pointer
part_at (part f fs) zero = f
part_at (part f fs) (suc n) = part_at fs n

-- a struct is indexed by an `i32` that counts one of its parts
abbrev pub picks : Index → Forms → Bool
picks i parts = nat_eq i.width 32 && nat_lt i.bits (length (list_of parts))

-- the offset of what the indices lead to within a shape
abbrev pub offset_in : Form → List Index → Result ℕ Fault
offset_in f [] = Ok 0
offset_in (int w) (i ∷ is) = Err (bad_index i.line)
offset_in pointer (i ∷ is) = Err (bad_index i.line)
offset_in (array n of) (i ∷ is) = plus (scaled i of) (offset_in of is)
offset_in (structure packed parts) (i ∷ is) =
    if picks i parts then plus (place packed 0 parts i.bits) (offset_in (part_at parts i.bits) is) else Err (bad_index i.line)

-- the first index counts whole shapes
abbrev pub offset_of : Form → List Index → Result ℕ Fault
offset_of f [] = Ok 0
offset_of f (i ∷ is) = plus (scaled i f) (offset_in f is)

unfoldable pub level_offset : Types → Level → Result ℕ Fault
level_offset types l = expanded types l.typed >>= λ f. offset_of f l.indices

-- the offset of all levels together, behind an offset
abbrev pub offset_behind : ℕ → Types → List Level → Result ℕ Fault
offset_behind n types [] = Ok n
offset_behind n types (l ∷ ls) = level_offset types l >>= λ m. offset_behind ((n + m) % 2 ^ 64) types ls
