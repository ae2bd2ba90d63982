-- What a variable begins with, under other names and as far as it reaches.
use Rattle.std.proofs.Common.{◌≡◌, ℕ, zero, suc, ◌+◌, ◌-◌, ◌/◌, Bool, true, List, [], ◌∷◌, ◌++◌, map, replicate, Option, Some, None, refl, sym, ap, ap₂, ◌∙◌}
use Rattle.ir_tree.specs.Forms.{Form, int, pointer, array, structure}
use Rattle.ir_tree.specs.Initials.{Initial, plain, zeros, bytes, elements, members, Initials, no_initials, initial}
use Rattle.ir_tree.specs.Layout.{begins, size}
use Rattle.ir_tree.specs.declared.operand.Operand.{Operand}
use Rattle.ir_tree.specs.declared.operand.Reg.TheVariants.{Int, Ptr}
use Rattle.ir_tree.specs.declared.operand.Symbol.{Symbol}
use Rattle.ir_meaning.specs.Bytes.{bits_stored, fragments, number_bytes, pointer_bytes, pointer_stored}
use Rattle.ir_meaning.specs.Operate.{bits_of}
use Rattle.ir_meaning.specs.Refine.{Naming}
use Rattle.ir_meaning.specs.declared.value.Base.{Base}
use Rattle.ir_meaning.specs.declared.value.Base.TheVariants.{Cell, Code, Nowhere}
use Rattle.ir_meaning.specs.declared.value.Byte.{Byte}
use Rattle.ir_meaning.specs.declared.value.Byte.TheVariants.{Plain, Spoilt}
use Rattle.ir_meaning.specs.declared.value.Value.{Value}
use Rattle.ir_meaning.specs.declared.value.Value.TheVariants.{Number, Pointer, Poison}
use Rattle.ir_meaning.specs.Rename.{ByteReaches, BytesReach, IsThere, OperandNames, byte_under, bytes_under, operand_under}
use Rattle.ir_meaning.proofs.Names.Moved.{stored_under, value_under}
use Rattle.ir_meaning.specs.Constants.{element_bytes, initial_bytes, member_bytes, scalar_bytes, zero_bytes}
use Rattle.merge_meaning.specs.Globals.{InitialNames, InitialsName, initial_under, initials_under}

-- ---- under other names

joined_under : (u : Naming) (bs cs : List Byte) → bytes_under u (bs ++ cs) ≡ bytes_under u bs ++ bytes_under u cs
joined_under u [] cs = refl
joined_under u (b ∷ bs) cs = ap (λ (l : List Byte). byte_under u b ∷ l) (joined_under u bs cs)

zeros_under : (u : Naming) (n : ℕ) → bytes_under u (zero_bytes n) ≡ zero_bytes n
zeros_under u zero = refl
zeros_under u (suc n) = ap (λ (l : List Byte). Plain 0 ∷ l) (zeros_under u n)

text_under : (u : Naming) (text : List ℕ) → bytes_under u (map Plain text) ≡ map Plain text
text_under u [] = refl
text_under u (c ∷ text) = ap (λ (l : List Byte). Plain c ∷ l) (text_under u text)

scalar_under : (u : Naming) (f : Form) (v : Value) → scalar_bytes f (value_under u v) ≡ bytes_under u (scalar_bytes f v)
scalar_under u (int w) v = stored_under u (Int w) v
scalar_under u pointer v = stored_under u Ptr v
scalar_under u (array n of) v = refl
scalar_under u (structure packed parts) v = refl

-- what operands that name live symbols are here, they are there under the other names
abbrev pub Moves : Naming → Naming → (Symbol → Bool) → (Operand → Value) → (Operand → Value) → Type 0
Moves names u live value value' = (o : Operand) → OperandNames live o → value' (operand_under names o) ≡ value_under u (value o)

joins : (u : Naming) (bs cs bs' cs' : List Byte) → bs' ≡ bytes_under u bs → cs' ≡ bytes_under u cs → bs' ++ cs' ≡ bytes_under u (bs ++ cs)
joins u bs cs bs' cs' b c = ap₂ (λ (x : List Byte). λ (y : List Byte). x ++ y) b c ∙ sym (joined_under u bs cs)

mutual
  pub initial_moves : (names u : Naming) (live : Symbol → Bool) (value value' : Operand → Value) → Moves names u live value value' → (f : Form) (v : Initial)
      → InitialNames live v → initial_bytes value' f (initial_under names v) ≡ bytes_under u (initial_bytes value f v)
  initial_moves names u live value value' h f (plain o) k = ap (scalar_bytes f) (h o k) ∙ scalar_under u f (value o)
  initial_moves names u live value value' h f zeros k = sym (zeros_under u (size f))
  initial_moves names u live value value' h f (bytes text) k = sym (text_under u text)
  initial_moves names u live value value' h f (elements parts) k = elements_move names u live value value' h parts k
  initial_moves names u live value value' h f (members packed parts) k = members_move names u live value value' h packed 0 (size f) parts k

  elements_move : (names u : Naming) (live : Symbol → Bool) (value value' : Operand → Value) → Moves names u live value value' → (vs : Initials)
      → InitialsName live vs → element_bytes value' (initials_under names vs) ≡ bytes_under u (element_bytes value vs)
  elements_move names u live value value' h no_initials k = refl
  elements_move names u live value value' h (initial f v vs) k =
      joins u (initial_bytes value f v) (element_bytes value vs) (initial_bytes value' f (initial_under names v)) (element_bytes value' (initials_under names vs))
      (initial_moves names u live value value' h f v k.0) (elements_move names u live value value' h vs k.1)

  members_move : (names u : Naming) (live : Symbol → Bool) (value value' : Operand → Value) → Moves names u live value value' → (packed : Bool) (offset whole : ℕ)
      (vs : Initials) → InitialsName live vs
      → member_bytes value' packed offset whole (initials_under names vs) ≡ bytes_under u (member_bytes value packed offset whole vs)
  members_move names u live value value' h packed offset whole no_initials k = sym (zeros_under u (whole - offset))
  members_move names u live value value' h packed offset whole (initial f v vs) k =
      joins u (zero_bytes (begins packed offset f - offset)) (initial_bytes value f v ++ member_bytes value packed (begins packed offset f + size f) whole vs)
      (zero_bytes (begins packed offset f - offset))
      (initial_bytes value' f (initial_under names v) ++ member_bytes value' packed (begins packed offset f + size f) whole (initials_under names vs))
      (sym (zeros_under u (begins packed offset f - offset)))
      (joins u (initial_bytes value f v) (member_bytes value packed (begins packed offset f + size f) whole vs)
      (initial_bytes value' f (initial_under names v)) (member_bytes value' packed (begins packed offset f + size f) whole (initials_under names vs))
      (initial_moves names u live value value' h f v k.0) (members_move names u live value value' h packed (begins packed offset f + size f) whole vs k.1))

-- ---- as far as it reaches

abbrev BaseReaches : Naming → (Symbol → Bool) → Base → Type 0
BaseReaches t live Nowhere = Unit {0}
BaseReaches t live (Code s) = live s ≡ true
BaseReaches t live (Cell r) = IsThere t r

abbrev pub ValueReaches : Naming → (Symbol → Bool) → Value → Type 0
ValueReaches t live (Number n) = Unit {0}
ValueReaches t live (Pointer Nowhere o) = Unit {0}
ValueReaches t live (Pointer (Code s) o) = live s ≡ true
ValueReaches t live (Pointer (Cell r) o) = IsThere t r
ValueReaches t live Poison = Unit {0}

module _ (t : Naming) (live : Symbol → Bool) where
  both_reach : (bs cs : List Byte) → BytesReach t live bs → BytesReach t live cs → BytesReach t live (bs ++ cs)
  both_reach [] cs first rest = rest
  both_reach (b ∷ bs) cs first rest = (first.0, both_reach bs cs first.1 rest)

  all_reach : (k : ℕ) (b : Byte) → ByteReaches t live b → BytesReach t live (replicate k b)
  all_reach zero b h = tt
  all_reach (suc k) b h = (h, all_reach k b h)

  text_reaches : (text : List ℕ) → BytesReach t live (map Plain text)
  text_reaches [] = tt
  text_reaches (c ∷ text) = (tt, text_reaches text)

  numbers_reach : (k m : ℕ) → BytesReach t live (number_bytes k m)
  numbers_reach zero m = tt
  numbers_reach (suc k) m = (tt, numbers_reach k (m / 256))

  fragments_reach : (k i : ℕ) (x : Base) (o : ℕ) → BaseReaches t live x → BytesReach t live (fragments k i x o)
  fragments_reach zero i x o h = tt
  fragments_reach (suc k) i Nowhere o h = (tt, fragments_reach k (suc i) Nowhere o h)
  fragments_reach (suc k) i (Code s) o h = (h, fragments_reach k (suc i) (Code s) o h)
  fragments_reach (suc k) i (Cell r) o h = (h, fragments_reach k (suc i) (Cell r) o h)

  pointer_reaches : (k : ℕ) (x : Base) (o : ℕ) → BaseReaches t live x → BytesReach t live (pointer_bytes k x o)
  pointer_reaches k Nowhere zero h = numbers_reach k 0
  pointer_reaches k Nowhere (suc o) h = fragments_reach k 0 Nowhere (suc o) tt
  pointer_reaches k (Code s) o h = fragments_reach k 0 (Code s) o h
  pointer_reaches k (Cell r) o h = fragments_reach k 0 (Cell r) o h

  bits_reach : (k : ℕ) (bits : Option ℕ) → BytesReach t live (bits_stored k bits)
  bits_reach k None = all_reach k Spoilt tt
  bits_reach k (Some m) = numbers_reach k m

  stored_reaches : (v : Value) → ValueReaches t live v → BytesReach t live (pointer_stored v)
  stored_reaches (Number n) h = all_reach 8 Spoilt tt
  stored_reaches Poison h = all_reach 8 Spoilt tt
  stored_reaches (Pointer Nowhere o) h = pointer_reaches 8 Nowhere o tt
  stored_reaches (Pointer (Code s) o) h = pointer_reaches 8 (Code s) o h
  stored_reaches (Pointer (Cell r) o) h = pointer_reaches 8 (Cell r) o h

  scalar_reaches : (f : Form) (v : Value) → ValueReaches t live v → BytesReach t live (scalar_bytes f v)
  scalar_reaches (int w) v h = bits_reach (w / 8) (bits_of w v)
  scalar_reaches pointer v h = stored_reaches v h
  scalar_reaches (array n of) v h = tt
  scalar_reaches (structure packed parts) v h = tt

-- what operands that name live symbols are reaches what is live
abbrev pub Reach : Naming → (Symbol → Bool) → (Operand → Value) → Type 0
Reach t live value = (o : Operand) → OperandNames live o → ValueReaches t live (value o)

mutual
  pub initial_reaches : (t : Naming) (live : Symbol → Bool) (value : Operand → Value) → Reach t live value → (f : Form) (v : Initial)
      → InitialNames live v → BytesReach t live (initial_bytes value f v)
  initial_reaches t live value h f (plain o) k = scalar_reaches t live f (value o) (h o k)
  initial_reaches t live value h f zeros k = all_reach t live (size f) (Plain 0) tt
  initial_reaches t live value h f (bytes text) k = text_reaches t live text
  initial_reaches t live value h f (elements parts) k = elements_reach t live value h parts k
  initial_reaches t live value h f (members packed parts) k = members_reach t live value h packed 0 (size f) parts k

  elements_reach : (t : Naming) (live : Symbol → Bool) (value : Operand → Value) → Reach t live value → (vs : Initials)
      → InitialsName live vs → BytesReach t live (element_bytes value vs)
  elements_reach t live value h no_initials k = tt
  elements_reach t live value h (initial f v vs) k =
      both_reach t live (initial_bytes value f v) (element_bytes value vs) (initial_reaches t live value h f v k.0) (elements_reach t live value h vs k.1)

  members_reach : (t : Naming) (live : Symbol → Bool) (value : Operand → Value) → Reach t live value → (packed : Bool) (offset whole : ℕ) (vs : Initials)
      → InitialsName live vs → BytesReach t live (member_bytes value packed offset whole vs)
  members_reach t live value h packed offset whole no_initials k = all_reach t live (whole - offset) (Plain 0) tt
  members_reach t live value h packed offset whole (initial f v vs) k =
      both_reach t live (zero_bytes (begins packed offset f - offset))
      (initial_bytes value f v ++ member_bytes value packed (begins packed offset f + size f) whole vs)
      (all_reach t live (begins packed offset f - offset) (Plain 0) tt)
      (both_reach t live (initial_bytes value f v) (member_bytes value packed (begins packed offset f + size f) whole vs)
      (initial_reaches t live value h f v k.0) (members_reach t live value h packed (begins packed offset f + size f) whole vs k.1))
