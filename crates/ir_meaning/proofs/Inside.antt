-- What variables begin with points at variables alone, and each of them lives.
use Rattle.std.proofs.Common.{◌≡◌, ℕ, zero, suc, ◌<◌, Bool, List, [], ◌∷◌, ◌++◌, ◌+◌, ◌-◌, ◌/◌, length, map, replicate, Option, Some, None, refl, arith}
use Rattle.ir_tree.specs.Forms.{Form, int, pointer, array, structure}
use Rattle.ir_tree.specs.Initials.{Initial, plain, zeros, bytes, elements, members, Initials, no_initials, initial}
use Rattle.ir_tree.specs.Layout.{begins, size}
use Rattle.ir_tree.specs.declared.module.GlobalValue.{GlobalValue}
use Rattle.ir_tree.specs.declared.operand.Operand.{Operand}
use Rattle.ir_tree.specs.declared.operand.Operand.TheVariants.{Local, Null, Number as Constant, Poison as PoisonOf, Symbol as Named}
use Rattle.ir_tree.specs.declared.operand.Reg.{Reg}
use Rattle.ir_tree.specs.declared.operand.Reg.TheVariants.{Int, Ptr}
use Rattle.ir_tree.specs.declared.operand.Symbol.{Symbol}
use Rattle.ir_meaning.specs.Bytes.{bits_stored, fragments, number_bytes, pointer_bytes, stored_bytes}
use Rattle.ir_meaning.specs.Frame.{AFunction, AHost, AVariable, SymbolKind, Missing, named, value_of}
use Rattle.ir_meaning.specs.Memory.{Lives, Memory}
use Rattle.ir_meaning.specs.Operate.{bits_of}
use Rattle.ir_meaning.specs.declared.value.Base.{Base}
use Rattle.ir_meaning.specs.declared.value.Base.TheVariants.{Cell, Code, Nowhere}
use Rattle.ir_meaning.specs.declared.value.Byte.{Byte}
use Rattle.ir_meaning.specs.declared.value.Byte.TheVariants.{Plain, Spoilt}
use Rattle.ir_meaning.specs.declared.value.Value.{Value}
use Rattle.ir_meaning.specs.declared.value.Value.TheVariants.{Number, Pointer, Poison}
use Rattle.ir_meaning.specs.Formed.{ByteIsInside, BytesAreInside, IsInside, MemoryIsInside, OpensInside}
use Rattle.ir_meaning.specs.Constants.{element_bytes, initial_bytes, member_bytes, scalar_bytes, zero_bytes}
use Rattle.ir_meaning.specs.Programs.{Body, Definition, Storage, block_of, defined, opening_from, program_of, signature_of, storage_in}
use Rattle.ir_meaning.proofs.Numbered.{programs_formed}

-- ---- bytes

both_inside : (n : ℕ) (bs cs : List Byte) → BytesAreInside n bs → BytesAreInside n cs → BytesAreInside n (bs ++ cs)
both_inside n [] cs first rest = rest
both_inside n (b ∷ bs) cs first rest = (first.0, both_inside n bs cs first.1 rest)

all_inside : (n k : ℕ) (b : Byte) → ByteIsInside n b → BytesAreInside n (replicate k b)
all_inside n zero b h = tt
all_inside n (suc k) b h = (h, all_inside n k b h)

zeros_inside : (n k : ℕ) → BytesAreInside n (zero_bytes k)
zeros_inside n k = all_inside n k (Plain 0) tt

text_inside : (n : ℕ) (text : List ℕ) → BytesAreInside n (map Plain text)
text_inside n [] = tt
text_inside n (c ∷ text) = (tt, text_inside n text)

numbers_inside : (n k m : ℕ) → BytesAreInside n (number_bytes k m)
numbers_inside n zero m = tt
numbers_inside n (suc k) m = (tt, numbers_inside n k (m / 256))

fragments_inside : (n k i : ℕ) (x : Base) (o : ℕ) → IsInside n x → BytesAreInside n (fragments k i x o)
fragments_inside n zero i x o h = tt
fragments_inside n (suc k) i x o h = (h, fragments_inside n k (suc i) x o h)

pointer_inside : (n k : ℕ) (x : Base) (o : ℕ) → IsInside n x → BytesAreInside n (pointer_bytes k x o)
pointer_inside n k Nowhere zero h = numbers_inside n k 0
pointer_inside n k Nowhere (suc o) h = fragments_inside n k 0 Nowhere (suc o) tt
pointer_inside n k (Code s) o h = fragments_inside n k 0 (Code s) o tt
pointer_inside n k (Cell l) o h = fragments_inside n k 0 (Cell l) o h

bits_inside : (n k : ℕ) (bits : Option ℕ) → BytesAreInside n (bits_stored k bits)
bits_inside n k None = all_inside n k Spoilt tt
bits_inside n k (Some m) = numbers_inside n k m

-- ---- values

abbrev ValueIsInside : ℕ → Value → Type 0
ValueIsInside n (Number bits) = Unit {0}
ValueIsInside n (Pointer x o) = IsInside n x
ValueIsInside n Poison = Unit {0}

stored_inside : (n : ℕ) (reg : Reg) (v : Value) → ValueIsInside n v → BytesAreInside n (stored_bytes reg v)
stored_inside n (Int w) v h = bits_inside n (w / 8) (bits_of w v)
stored_inside n Ptr (Number bits) h = all_inside n 8 Spoilt tt
stored_inside n Ptr (Pointer x o) h = pointer_inside n 8 x o h
stored_inside n Ptr Poison h = all_inside n 8 Spoilt tt

scalar_inside : (n : ℕ) (f : Form) (v : Value) → ValueIsInside n v → BytesAreInside n (scalar_bytes f v)
scalar_inside n (int w) v h = stored_inside n (Int w) v h
scalar_inside n pointer v h = stored_inside n Ptr v h
scalar_inside n (array k of) v h = tt
scalar_inside n (structure packed parts) v h = tt

abbrev AllInside : ℕ → (Operand → Value) → Type 0
AllInside n value = (o : Operand) → ValueIsInside n (value o)

mutual
  initial_inside : (n : ℕ) (value : Operand → Value) → AllInside n value → (f : Form) (v : Initial) → BytesAreInside n (initial_bytes value f v)
  initial_inside n value h f (plain o) = scalar_inside n f (value o) (h o)
  initial_inside n value h f zeros = zeros_inside n (size f)
  initial_inside n value h f (bytes text) = text_inside n text
  initial_inside n value h f (elements parts) = elements_inside n value h parts
  initial_inside n value h f (members packed parts) = members_inside n value h packed 0 (size f) parts

  elements_inside : (n : ℕ) (value : Operand → Value) → AllInside n value → (parts : Initials) → BytesAreInside n (element_bytes value parts)
  elements_inside n value h no_initials = tt
  elements_inside n value h (initial f v vs) = both_inside n (initial_bytes value f v) (element_bytes value vs) (initial_inside n value h f v) (elements_inside n value h vs)

  members_inside : (n : ℕ) (value : Operand → Value) → AllInside n value → (packed : Bool) (offset whole : ℕ) (parts : Initials) → BytesAreInside n (member_bytes value packed offset whole parts)
  members_inside n value h packed offset whole no_initials = zeros_inside n (whole - offset)
  members_inside n value h packed offset whole (initial f v vs) =
      both_inside n (zero_bytes (begins packed offset f - offset)) (initial_bytes value f v ++ member_bytes value packed (begins packed offset f + size f) whole vs)
      (zeros_inside n (begins packed offset f - offset))
      (both_inside n (initial_bytes value f v) (member_bytes value packed (begins packed offset f + size f) whole vs)
      (initial_inside n value h f v) (members_inside n value h packed (begins packed offset f + size f) whole vs))

-- ---- memory

storage_inside : (n : ℕ) (value : Operand → Value) → AllInside n value → (d : Option Definition) (rest : Memory) → MemoryIsInside n rest → MemoryIsInside n (storage_in value d rest)
storage_inside n value h None rest inside = inside
storage_inside n value h (Some (Body f)) rest inside = inside
storage_inside n value h (Some (Storage k v init)) rest inside = (initial_inside n value h v.shape init, inside)

opening_inside : (n : ℕ) (value : Operand → Value) → AllInside n value → (gs : List GlobalValue) → MemoryIsInside n (opening_from value gs)
opening_inside n value h [] = tt
opening_inside n value h (g ∷ gs) = storage_inside n value h (defined 0 g) (opening_from value gs) (opening_inside n value h gs)

kind_inside : (n : ℕ) (kind : SymbolKind) (s : Symbol) (offset : ℕ) → ((number : ℕ) → kind ≡ AVariable number → number < n) → ValueIsInside n (named kind s offset)
kind_inside n (AFunction params result) s offset h = tt
kind_inside n (AVariable number) s offset h = h number refl
kind_inside n (AHost host) s offset h = tt
kind_inside n Missing s offset h = tt

operands_inside : (gs : List GlobalValue) → AllInside (length (program_of gs).opening) (value_of (signature_of gs) [])
operands_inside gs (Local x) = tt
operands_inside gs (Constant w bits) = tt
operands_inside gs Null = tt
operands_inside gs (PoisonOf reg) = tt
operands_inside gs (Named s offset) = kind_inside (length (program_of gs).opening) ((signature_of gs).kind s) s offset (programs_formed gs s)

-- ---- lives

storage_lives : (value : Operand → Value) (d : Option Definition) (rest : Memory) → ((l : ℕ) → l < length rest → Lives rest l) →
    (l : ℕ) → l < length (storage_in value d rest) → Lives (storage_in value d rest) l
storage_lives value None rest h l lt = h l lt
storage_lives value (Some (Body f)) rest h l lt = h l lt
storage_lives value (Some (Storage k v init)) rest h zero lt = (block_of value v init, refl, refl)
storage_lives value (Some (Storage k v init)) rest h (suc l) lt = h l (omega arith)

opening_lives : (value : Operand → Value) (gs : List GlobalValue) (l : ℕ) → l < length (opening_from value gs) →
    Lives (opening_from value gs) l
opening_lives value [] l lt = absurd (omega arith)
opening_lives value (g ∷ gs) l lt = storage_lives value (defined 0 g) (opening_from value gs) (opening_lives value gs) l lt

pub programs_inside : (gs : List GlobalValue) → OpensInside (program_of gs)
programs_inside gs = record {
  inside = opening_inside (length (program_of gs).opening) (value_of (signature_of gs) []) (operands_inside gs) gs;
  alive = opening_lives (value_of (signature_of gs) []) gs;
}
