-- The bytes that a value is stored as, and the value that bytes are read as (LangRef, "load" and "store
-- Instruction"). Numbers are little endian. Null is eight zero bytes, another pointer eight ordered fragments.
use Rattle.std.specs.Prelude.{ℕ, zero, suc, ◌+◌, ◌*◌, ◌/◌, ◌%◌, Bool, true, false, ◌&&◌, ◌==◌, if◌then◌else◌, List, [], ◌∷◌, replicate, Option, Some, None}
use Rattle.ir_tree.specs.declared.operand.Reg.{Reg}
use Rattle.ir_tree.specs.declared.operand.Reg.TheVariants.{Int, Ptr}
use Rattle.ir_meaning.specs.Operate.{Answer, Is, Unwritten, bits_of}
use Rattle.ir_meaning.specs.Symbols.{base_eq}
use Rattle.ir_meaning.specs.declared.value.Base.{Base}
use Rattle.ir_meaning.specs.declared.value.Base.TheVariants.{Cell, Code, Nowhere}
use Rattle.ir_meaning.specs.declared.value.Byte.{Byte}
use Rattle.ir_meaning.specs.declared.value.Byte.TheVariants.{Fragment, Plain, Spoilt, Unset}
use Rattle.ir_meaning.specs.declared.value.Value.{Value}
use Rattle.ir_meaning.specs.declared.value.Value.TheVariants.{Number, Pointer, Poison}

-- the bytes of a scalar
abbrev pub reg_size : Reg → ℕ
reg_size (Int width) = width / 8
reg_size Ptr = 8

abbrev pub number_bytes : ℕ → ℕ → List Byte
number_bytes zero n = []
number_bytes (suc k) n = Plain (n % 256) ∷ number_bytes k (n / 256)

abbrev pub fragments : ℕ → ℕ → Base → ℕ → List Byte
fragments zero i x o = []
fragments (suc k) i x o = Fragment i x o ∷ fragments k (suc i) x o

abbrev pub pointer_bytes : ℕ → Base → ℕ → List Byte
pointer_bytes k Nowhere zero = number_bytes k 0
pointer_bytes k Nowhere (suc o) = fragments k 0 Nowhere (suc o)
pointer_bytes k (Code s) o = fragments k 0 (Code s) o
pointer_bytes k (Cell l) o = fragments k 0 (Cell l) o

abbrev pub bits_stored : ℕ → Option ℕ → List Byte
bits_stored k (Some n) = number_bytes k n
bits_stored k None = replicate k Spoilt

abbrev pub pointer_stored : Value → List Byte
pointer_stored (Pointer x o) = pointer_bytes 8 x o
pointer_stored _ = replicate 8 Spoilt

-- the bytes that a value of this type is stored as
abbrev pub stored_bytes : Reg → Value → List Byte
stored_bytes (Int w) v = bits_stored (w / 8) (bits_of w v)
stored_bytes Ptr v = pointer_stored v

abbrev pub has_unset : List Byte → Bool
has_unset [] = false
has_unset (Unset ∷ bs) = true
has_unset (_ ∷ bs) = has_unset bs

abbrev pub has_spoilt : List Byte → Bool
has_spoilt [] = false
has_spoilt (Spoilt ∷ bs) = true
has_spoilt (_ ∷ bs) = has_spoilt bs

abbrev pub raised : ℕ → Option ℕ → Option ℕ
raised n None = None
raised n (Some m) = Some (n + 256 * m)

-- the number that the bytes are, the lowest first
abbrev pub read_number : List Byte → Option ℕ
read_number [] = Some 0
read_number (Plain n ∷ bs) = raised n (read_number bs)
read_number (_ ∷ bs) = None

abbrev pub are_fragments : ℕ → Base → ℕ → List Byte → Bool
are_fragments i x o [] = true
are_fragments i x o (Fragment j y q ∷ bs) = (i == j) && base_eq x y && (o == q) && are_fragments (suc i) x o bs
are_fragments i x o (_ ∷ bs) = false

abbrev pub are_zero : List Byte → Bool
are_zero [] = true
are_zero (Plain n ∷ bs) = (n == 0) && are_zero bs
are_zero (_ ∷ bs) = false

-- the pointer whose ordered fragments these are, or null where all are zero
abbrev pub read_pointer : List Byte → Value
read_pointer [] = Poison
read_pointer (Fragment j x o ∷ bs) = if (0 == j) && are_fragments 1 x o bs then Pointer x o else Poison
read_pointer (Plain n ∷ bs) = if (n == 0) && are_zero bs then Pointer Nowhere 0 else Poison
read_pointer (_ ∷ bs) = Poison

abbrev pub or_poison : Option ℕ → Value
or_poison None = Poison
or_poison (Some n) = Number n

abbrev pub read_as : Reg → List Byte → Value
read_as (Int w) bytes = or_poison (read_number bytes)
read_as Ptr bytes = read_pointer bytes

-- what a load of these bytes gives: the first case that fits
abbrev pub read : Reg → List Byte → Answer
read reg bytes = if has_unset bytes then Unwritten else (if has_spoilt bytes then Is Poison else Is (read_as reg bytes))
