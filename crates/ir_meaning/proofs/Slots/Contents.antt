-- A slot of the program, and the value that stands for what it holds.
use Rattle.std.proofs.Common.{◌≡◌, ℕ, zero, suc, ◌+◌, ◌/◌, ◌<◌, ◌≤◌, Bool, true, false, if◌then◌else◌, List, ◌++◌, length, take, replicate, Option, Some, None, slice_get, inl, inr, refl, sym, ap, ◌∙◌, subst, arith, append-nil}
use Rattle.std.proofs.lemmas.List.{length-replicate, take_all, drop_all}
use Rattle.std.proofs.lemmas.Option.{slice_get_within}
use Rattle.std.specs.Prelude.{slice_set}
use Rattle.ir_tree.specs.declared.operand.Reg.{Reg}
use Rattle.ir_tree.specs.declared.operand.Reg.TheVariants.{Int, Ptr}
use Rattle.ir_meaning.specs.Access.{access_cause, load, reaches, load_from, overwritten}
use Rattle.ir_meaning.specs.Bytes.{reg_size, number_bytes, bits_stored, stored_bytes, read}
use Rattle.ir_meaning.specs.Memory.{MemoryBlock}
use Rattle.ir_meaning.specs.Operate.{Answer, Is, Never, Unwritten, bits_of}
use Rattle.ir_meaning.specs.Relate.{Pairing, Point, Kept, IsUnpaired, Agrees}
use Rattle.ir_tree.specs.declared.cause.Cause.{Cause}
use Rattle.ir_meaning.specs.declared.value.Base.TheVariants.{Nowhere, Code, Cell}
use Rattle.ir_meaning.specs.declared.value.Byte.{Byte}
use Rattle.ir_meaning.specs.declared.value.Byte.TheVariants.{Unset, Spoilt}
use Rattle.ir_meaning.specs.declared.value.Value.{Value}
use Rattle.ir_meaning.specs.declared.value.Value.TheVariants.{Number, Pointer, Poison}
use Rattle.ir_meaning.specs.Rules.{StandsForRead, IsStorable}
use Rattle.ir_meaning.proofs.Alike.Effects.{value_later}
use Rattle.ir_meaning.proofs.Alike.Keeping.{get_set_other}
use Rattle.ir_meaning.proofs.Alike.Values.{AnswerAgrees}

-- ---- bytes

pub number_length : (k n : ℕ) → length (number_bytes k n) ≡ k
number_length zero n = refl
number_length (suc k) n = ap (λ (i : ℕ). suc i) (number_length k (n / 256))

pub stored_length : (reg : Reg) (v : Value) → length (stored_bytes reg v) ≡ reg_size reg
stored_length (Int w) v = by (bits_of w v)
  where
    by : (o : Option ℕ) → length (bits_stored (w / 8) o) ≡ w / 8
    by None = length-replicate (w / 8) Spoilt
    by (Some n) = number_length (w / 8) n
stored_length Ptr Poison = refl
stored_length Ptr (Number n) = refl
stored_length Ptr (Pointer Nowhere zero) = refl
stored_length Ptr (Pointer Nowhere (suc o)) = refl
stored_length Ptr (Pointer (Code s) o) = refl
stored_length Ptr (Pointer (Cell l) o) = refl

-- all bytes are new
pub all_new : (bytes new : List Byte) → length bytes ≡ length new → overwritten bytes 0 new ≡ new
all_new bytes new e = ap (λ (l : List Byte). new ++ l) (drop_all (0 + length new) bytes (omega arith)) ∙ append-nil new

pub unset_read : (reg : Reg) (k : ℕ) → 0 < k → read reg (replicate k Unset) ≡ Unwritten
unset_read reg zero lt = absurd (omega arith)
unset_read reg (suc k) lt = refl

pub storable_some : (reg : Reg) → IsStorable reg → 0 < reg_size reg
storable_some (Int w) s = s.0
storable_some Ptr s = omega arith

pub stands_agrees : (w : Pairing) (n : ℕ) (v u : Value) (x : Answer) → Agrees w n v u → StandsForRead u x → AnswerAgrees w n (Is v) x
stands_agrees w n v u (Is r) a (inl e) = subst (λ (y : Value). Agrees w n v y) (sym e) tt
stands_agrees w n v u (Is r) a (inr e) = subst (λ (y : Value). Agrees w n v y) e a
stands_agrees w n v u (Never why) a s = tt
stands_agrees w n v u Unwritten a s = tt

-- ---- a slot of the program, for which the value stands

abbrev pub SlotIs : Point → Point → Value → Reg → Value → Type 0
SlotIs entry p v reg Poison = Unit {0}
SlotIs entry p v reg (Pointer (Cell r) zero) = (x : MemoryBlock) × (slice_get p.right r ≡ Some x) × IsUnpaired p r ×
    (length entry.right ≤ r) × (length x.bytes ≡ reg_size reg) × AnswerAgrees p.pairing (length p.left) (Is v) (read reg x.bytes)
SlotIs entry p v reg _ = ⊥

pub read_later : {g : ℕ} (p q : Point) → Kept g p q → (v : Value) (x : Answer) → AnswerAgrees p.pairing (length p.left) (Is v) x →
    AnswerAgrees q.pairing (length q.left) (Is v) x
read_later p q k v (Is u) a = value_later p q k v u a
read_later p q k v (Never why) a = tt
read_later p q k v Unwritten a = tt

pub slot_later : {g : ℕ} (entry p q : Point) → Kept g p q → (v : Value) (reg : Reg) (u : Value) → SlotIs entry p v reg u → SlotIs entry q v reg u
slot_later entry p q k v reg Poison s = tt
slot_later entry p q k v reg (Pointer (Cell r) zero) s =
    let y = k.private r s.0 s.1 s.2 in
    (s.0, y.0, y.1, s.3, s.4, read_later p q k v (read reg s.0.bytes) s.5)
slot_later entry p q k v reg (Pointer (Cell r) (suc o)) s = absurd s
slot_later entry p q k v reg (Pointer Nowhere o) s = absurd s
slot_later entry p q k v reg (Pointer (Code t) o) s = absurd s
slot_later entry p q k v reg (Number n) s = absurd s

-- another block of the program changed
pub slot_beside : (entry p : Point) (r0 : ℕ) (x0 : MemoryBlock) (v : Value) (reg : Reg) (u : Value) → (u ≡ Pointer (Cell r0) 0 → ⊥) →
    SlotIs entry p v reg u → SlotIs entry (record { pairing = p.pairing; left = p.left; right = slice_set p.right r0 x0 }) v reg u
slot_beside entry p r0 x0 v reg Poison ne s = tt
slot_beside entry p r0 x0 v reg (Pointer (Cell r) zero) ne s =
    (s.0, get_set_other p.right r0 r x0 (λ e. ne (ap (λ (i : ℕ). Pointer (Cell i) 0) e)) ∙ s.1, s.2, s.3, s.4, s.5)
slot_beside entry p r0 x0 v reg (Pointer (Cell r) (suc o)) ne s = absurd s
slot_beside entry p r0 x0 v reg (Pointer Nowhere o) ne s = absurd s
slot_beside entry p r0 x0 v reg (Pointer (Code t) o) ne s = absurd s
slot_beside entry p r0 x0 v reg (Number n) ne s = absurd s

pub slot_within : (entry p : Point) (v : Value) (reg : Reg) (u : Value) (r : ℕ) → SlotIs entry p v reg u → u ≡ Pointer (Cell r) 0 →
    r < length p.right
slot_within entry p v reg u r s e =
    let y = subst (λ (i : Value). SlotIs entry p v reg i) e s in
    slice_get_within p.right r y.0 y.1

-- what a load of the slot gives
pub slot_load : (entry p : Point) (v : Value) (reg : Reg) (align : ℕ) (u : Value) → SlotIs entry p v reg u →
    AnswerAgrees p.pairing (length p.left) (Is v) (load p.right reg u align)
slot_load entry p v reg align Poison s = tt
slot_load entry p v reg align (Pointer (Cell r) zero) s =
    subst (λ (o : Option MemoryBlock). AnswerAgrees p.pairing (length p.left) (Is v) (load_from o reg 0 align)) (sym s.1)
    (by (reaches s.0 0 (reg_size reg) align) (access_cause s.0 0 (reg_size reg)))
  where
    by : (b : Bool) (why : Cause) → AnswerAgrees p.pairing (length p.left) (Is v) (if b then read reg (take (reg_size reg) s.0.bytes) else
        Never why)
    by false why = tt
    by true why = subst (λ (l : List Byte). AnswerAgrees p.pairing (length p.left) (Is v) (read reg l))
        (sym (take_all (reg_size reg) s.0.bytes (omega (arith, s.4)))) s.5
slot_load entry p v reg align (Pointer (Cell r) (suc o)) s = absurd s
slot_load entry p v reg align (Pointer Nowhere o) s = absurd s
slot_load entry p v reg align (Pointer (Code t) o) s = absurd s
slot_load entry p v reg align (Number n) s = absurd s
