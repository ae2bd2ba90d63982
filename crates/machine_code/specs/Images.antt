-- The flat form of an initialiser as it is laid out, part by part, with the aggregates that are open, innermost first (LangRef,
-- "Data Layout", "Complex Constants").
use Rattle.std.specs.Prelude.{◌≡◌, ℕ, ◌+◌, ◌-◌, ◌≤◌, ◌^◌, List, [], ◌∷◌, ◌++◌, length, map}
use Rattle.ir_tree.specs.Forms.{Form}
use Rattle.ir_tree.specs.Layout.{IsLaidOut, begins, size}
use Rattle.ir_tree.specs.declared.init_node.InitHead.{InitHead}
use Rattle.ir_tree.specs.declared.init_node.InitHead.TheVariants as heads
use Rattle.ir_tree.specs.declared.init_node.InitPart.{InitPart}
use Rattle.ir_tree.specs.declared.init_node.InitPart.TheVariants.{End, Typed}
use Rattle.ir_tree.specs.declared.operand.Operand.{Operand}
use Rattle.ir_tree.specs.declared.operand.Symbol.{Symbol}
use Rattle.ir_meaning.specs.declared.value.Byte.{Byte}
use Rattle.ir_meaning.specs.declared.value.Byte.TheVariants.{Plain}
use Rattle.ir_meaning.specs.declared.value.Value.{Value}
use Rattle.ir_machine.specs.Bytes.{bytes_len, bytes_meant}
use Rattle.ir_meaning.specs.Constants.{scalar_bytes, zero_bytes}
use Rattle.machine_code.specs.declared.image.Image.{Image}
use Rattle.machine_code.specs.declared.open.Open.{Open}
use Rattle.machine_code.specs.declared.open.Open.TheVariants.{Elements, Members}

-- ---- one aggregate

-- the padding before the next part, of this shape
abbrev pub padding : Open → Form → ℕ
padding Elements f = 0
padding (Members packed offset whole) f = begins packed offset f - offset

-- the aggregate behind that part
abbrev pub past : Open → Form → Open
past Elements f = Elements
past (Members packed offset whole) f = Members packed (begins packed offset f + size f) whole

-- the padding behind the last part
abbrev pub left_of : Open → ℕ
left_of Elements = 0
left_of (Members packed offset whole) = whole - offset

-- a part of this shape ends in the first 2 ^ 31 bytes
abbrev pub Admits : Open → Form → Type 0
Admits Elements f = Unit {0}
Admits (Members packed offset whole) f = begins packed offset f + size f ≤ 2 ^ 31

-- ---- parts

-- what is open behind the beginning of a value
abbrev pub opened_by : Form → InitHead → List Open → List Open
opened_by f (heads.Plain o) opens = opens
opened_by f heads.Zeros opens = opens
opened_by f (heads.Bytes text) opens = opens
opened_by f heads.Array opens = Elements ∷ opens
opened_by f (heads.Struct packed) opens = Members packed 0 (size f) ∷ opens

-- the bytes of a value that has no parts
abbrev pub head_bytes : (Operand → Value) → Form → InitHead → List Byte
head_bytes value f (heads.Plain o) = scalar_bytes f (value o)
head_bytes value f heads.Zeros = zero_bytes (size f)
head_bytes value f (heads.Bytes text) = map Plain text
head_bytes value f heads.Array = []
head_bytes value f (heads.Struct packed) = []

abbrev pub open_behind : List Open → InitPart → List Open
open_behind [] p = []
open_behind (o ∷ opens) (Typed f head) = opened_by f head (past o f ∷ opens)
open_behind (o ∷ opens) End = opens

-- a part with the padding before it; at the end of an aggregate the padding behind its last part
abbrev pub part_bytes : (Operand → Value) → List Open → InitPart → List Byte
part_bytes value [] p = []
part_bytes value (o ∷ opens) (Typed f head) = zero_bytes (padding o f) ++ head_bytes value f head
part_bytes value (o ∷ opens) End = zero_bytes (left_of o)

abbrev pub parts_bytes : (Operand → Value) → List Open → List InitPart → List Byte
parts_bytes value opens [] = []
parts_bytes value opens (p ∷ ps) = part_bytes value opens p ++ parts_bytes value (open_behind opens p) ps

-- the shape of a part is laid out, and there is place for it
abbrev pub Takes : List Open → InitPart → Type 0
Takes [] p = Unit {0}
Takes (o ∷ opens) (Typed f head) = IsLaidOut f × Admits o f
Takes (o ∷ opens) End = Unit {0}

abbrev pub TakesAll : List Open → List InitPart → Type 0
TakesAll opens [] = Unit {0}
TakesAll opens (p ∷ ps) = Takes opens p × TakesAll (open_behind opens p) ps

-- ---- images

-- the image begins with these bytes, and zeros are behind them
pub record IsWritten (names : List Symbol) (image : Image) (written : List Byte) : Type 0 where
  pub place : image.place ≡ length written
  pub within : length written ≤ bytes_len image.bytes
  pub bytes : bytes_meant names image.bytes ≡ written ++ zero_bytes (bytes_len image.bytes - length written)

-- these bytes, by what symbols are, were written behind those that were there
pub record Wrote (old : Image) (bytes : List Symbol → List Byte) (new : Image) : Type 0 where
  pub long : bytes_len new.bytes ≡ bytes_len old.bytes
  pub writes : (names : List Symbol) (written : List Byte) → IsWritten names old written → IsWritten names new (written ++ bytes names)
