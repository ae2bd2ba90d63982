-- How the memory of a better program stands for that of the program: a one to one pairing of its blocks with the
-- program's (Leroy and Blazy's memory injections), under which poison and unwritten bytes may become anything.
use Rattle.std.specs.Prelude.{◌≡◌, ◌≢◌, ℕ, ◌<◌, ◌≤◌, false, IsTrue, List, [], ◌∷◌, length, slice_get, Option, Some, None}
use Rattle.ir_meaning.specs.Memory.{Lives, Memory, MemoryBlock}
use Rattle.ir_meaning.specs.declared.value.Base.{Base}
use Rattle.ir_meaning.specs.declared.value.Base.TheVariants.{Cell, Code, Nowhere}
use Rattle.ir_meaning.specs.declared.value.Byte.{Byte}
use Rattle.ir_meaning.specs.declared.value.Byte.TheVariants.{Fragment, Plain, Spoilt, Unset}
use Rattle.ir_meaning.specs.declared.value.Value.{Value}
use Rattle.ir_meaning.specs.declared.value.Value.TheVariants.{Number, Pointer, Poison}

-- the block of the program for which each block of the better program stands
abbrev pub Pairing : Type 0
Pairing = ℕ → ℕ

-- the bases are the same under the pairing of the first n blocks
abbrev pub SameBase : Pairing → ℕ → Base → Base → Type 0
SameBase w n Nowhere Nowhere = Unit {0}
SameBase w n (Code s) (Code t) = s ≡ t
SameBase w n (Cell l) (Cell r) = (l < n) × (w l ≡ r)
SameBase w n _ _ = ⊥

-- the first value may stand for the second
abbrev pub Agrees : Pairing → ℕ → Value → Value → Type 0
Agrees w n v Poison = Unit {0}
Agrees w n (Number a) (Number b) = a ≡ b
Agrees w n (Pointer x i) (Pointer y j) = SameBase w n x y × (i ≡ j)
Agrees w n _ _ = ⊥

-- answers agree: both are none, or their values agree
abbrev pub AnswersAgree : Pairing → ℕ → Option Value → Option Value → Type 0
AnswersAgree w n None None = Unit {0}
AnswersAgree w n (Some v) (Some v') = Agrees w n v v'
AnswersAgree w n _ _ = ⊥

abbrev pub AllAgree : Pairing → ℕ → List Value → List Value → Type 0
AllAgree w n [] [] = Unit {0}
AllAgree w n (v ∷ vs) (v' ∷ vs') = Agrees w n v v' × AllAgree w n vs vs'
AllAgree w n _ _ = ⊥

abbrev pub IsSet' : Byte → Type 0
IsSet' Unset = ⊥
IsSet' _ = Unit {0}

-- the first byte may stand for the second
abbrev pub SameByte : Pairing → ℕ → Byte → Byte → Type 0
SameByte w n b Unset = Unit {0}
SameByte w n b Spoilt = IsSet' b
SameByte w n (Plain a) (Plain b) = a ≡ b
SameByte w n (Fragment i x o) (Fragment j y q) = (i ≡ j) × SameBase w n x y × (o ≡ q)
SameByte w n _ _ = ⊥

abbrev pub SameBytes : Pairing → ℕ → List Byte → List Byte → Type 0
SameBytes w n [] [] = Unit {0}
SameBytes w n (b ∷ bs) (b' ∷ bs') = SameByte w n b b' × SameBytes w n bs bs'
SameBytes w n _ _ = ⊥

-- equal marks but for life
pub record SameMarks (b b' : MemoryBlock) : Type 0 where
  pub size : b.size ≡ b'.size
  pub align : b.align ≡ b'.align
  pub writable : b.writable ≡ b'.writable

-- the first block stands for the second: it may still live when the second is dead
pub record SameBlock (w : Pairing) (n : ℕ) (b b' : MemoryBlock) : Type 0 where
  pub marks : SameMarks b b'
  pub live : IsTrue b'.live → IsTrue b.live
  pub bytes : SameBytes w n b.bytes b'.bytes

-- two memories and how the first stands for the second
pub record Point : Type 0 where
  pub pairing : Pairing
  pub left : Memory
  pub right : Memory

-- each of the g variables stands for itself, and lives
pub record Fixes (g : ℕ) (p : Point) : Type 0 where
  pub variables : g ≤ length p.left
  pub stay : (l : ℕ) → l < g → p.pairing l ≡ l
  pub alive : (l : ℕ) → l < g → Lives p.right l

-- each block of the first stands for one block of the second
pub record Related (p : Point) : Type 0 where
  pub blocks : (l : ℕ) (b : MemoryBlock) → slice_get p.left l ≡ Some b → (b' : MemoryBlock) ×
      (slice_get p.right (p.pairing l) ≡ Some b') × SameBlock p.pairing (length p.left) b b'
  pub one_to_one : (l m : ℕ) → l < length p.left → m < length p.left → p.pairing l ≡ p.pairing m → l ≡ m

-- block r of the program has no counterpart
abbrev pub IsUnpaired : Point → ℕ → Type 0
IsUnpaired p r = (l : ℕ) → l < length p.left → p.pairing l ≢ r

-- what happened from p to q kept both memories, and the g variables alive
pub record Kept (g : ℕ) (p q : Point) : Type 0 where
  pub related : Related q
  pub grown : length p.left ≤ length q.left
  pub extends : (l : ℕ) → l < length p.left → q.pairing l ≡ p.pairing l
  pub marks : (l : ℕ) (b : MemoryBlock) → slice_get p.left l ≡ Some b → (b' : MemoryBlock) × (slice_get q.left l ≡ Some b') × SameMarks b b'
  -- a dead block of the program stays dead
  pub ended : (r : ℕ) (b : MemoryBlock) → slice_get p.right r ≡ Some b → b.live ≡ false → (b' : MemoryBlock) ×
      (slice_get q.right r ≡ Some b') × (b'.live ≡ false)
  -- a variable that lives goes on living
  pub alive : (l : ℕ) → l < g → Lives p.right l → Lives q.right l
  pub private : (r : ℕ) (b : MemoryBlock) → slice_get p.right r ≡ Some b → IsUnpaired p r → (slice_get q.right r ≡ Some b) × IsUnpaired q r

abbrev pub ValuesAgree : Point → Option Value → Option Value → Type 0
ValuesAgree q v v' = AnswersAgree q.pairing (length q.left) v v'

abbrev pub ArgumentsAgree : Point → List Value → List Value → Type 0
ArgumentsAgree q vs vs' = AllAgree q.pairing (length q.left) vs vs'
