-- The bytes that a global variable begins with (LangRef, "Global Variables", "Complex Constants"). Padding is zero.
use Rattle.std.specs.Prelude.{ℕ, ◌+◌, ◌-◌, Bool, List, [], ◌++◌, map, replicate}
use Rattle.ir_tree.specs.Forms.{Form, int, pointer, array, structure}
use Rattle.ir_tree.specs.Initials.{Initial, plain, zeros, bytes, elements, members, Initials, no_initials, initial}
use Rattle.ir_tree.specs.Layout.{begins, size}
use Rattle.ir_tree.specs.declared.operand.Reg.TheVariants.{Int, Ptr}
use Rattle.ir_meaning.specs.Bytes.{stored_bytes}
use Rattle.ir_meaning.specs.declared.value.Byte.{Byte}
use Rattle.ir_meaning.specs.declared.value.Byte.TheVariants.{Plain}
use Rattle.ir_meaning.specs.declared.value.Value.{Value}
use Rattle.ir_tree.specs.declared.operand.Operand.{Operand}

abbrev pub zero_bytes : ℕ → List Byte
zero_bytes n = replicate n (Plain 0)

-- a scalar, by its shape; no array or structure is an operand
abbrev pub scalar_bytes : Form → Value → List Byte
scalar_bytes (int w) v = stored_bytes (Int w) v
scalar_bytes pointer v = stored_bytes Ptr v
scalar_bytes (array n of) v = []
scalar_bytes (structure packed parts) v = []

-- the bytes of an initialiser of this shape, where operands have these values
abbrev mutual
  pub initial_bytes : (Operand → Value) → Form → Initial → List Byte
  initial_bytes value f (plain operand) = scalar_bytes f (value operand)
  initial_bytes value f zeros = zero_bytes (size f)
  initial_bytes value f (bytes text) = map Plain text
  initial_bytes value f (elements parts) = element_bytes value parts
  initial_bytes value f (members packed parts) = member_bytes value packed 0 (size f) parts

  -- one element behind another
  pub element_bytes : (Operand → Value) → Initials → List Byte
  element_bytes value no_initials = []
  element_bytes value (initial f v vs) = initial_bytes value f v ++ element_bytes value vs

  -- the members from an offset on, to the end of a structure of this size, with padding before them and behind them
  pub member_bytes : (Operand → Value) → Bool → ℕ → ℕ → Initials → List Byte
  member_bytes value packed offset whole no_initials = zero_bytes (whole - offset)
  member_bytes value packed offset whole (initial f v vs) =
      zero_bytes (begins packed offset f - offset)
      ++ (initial_bytes value f v ++ member_bytes value packed (begins packed offset f + size f) whole vs)
