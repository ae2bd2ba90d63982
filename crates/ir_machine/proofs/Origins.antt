-- Pointers that bytes and blocks hold.
use Rattle.std.proofs.Common.{◌≡◌, ◌≢◌, ℕ, zero, suc, Bool, true, false, if◌then◌else◌, ◌⊎◌, inl, inr, List, [], ◌∷◌, ◌++◌, ◌<◌, Option, Some, None, IsSome, option_to_list, nat_eq, slice_get, set, length, refl, sym, ap, ◌∙◌, eqb-true}
use Rattle.std.specs.HashMap as hash
use Rattle.std.specs.Map.{lookup}
use Rattle.std.proofs.lemmas.Option.{slice_get_within}
use Rattle.ir_machine.specs.Bytes.{is_zero, null, pointer_at, pointer_in, pointer_or_null}
use Rattle.ir_machine.specs.Marks.{are_parts, marks_number}
use Rattle.ir_machine.specs.Memories.{GainsNone, InBlocks, InMemory, IsLoaded, block_at, numbers_of}
use Rattle.ir_machine.specs.Origins.{Holds, HoldsNoMore, HoldsNone, IsHeld}
use Rattle.ir_machine.specs.declared.block.Block.{Block}
use Rattle.ir_machine.specs.declared.bytes.Bytes.{Bytes}
use Rattle.ir_machine.specs.declared.mark.ByteMark.{ByteMark}
use Rattle.ir_machine.specs.declared.memory.Memory.{Memory}
use Rattle.ir_machine.specs.declared.outcome.Outcome.{Outcome}
use Rattle.ir_machine.specs.declared.outcome.Outcome.TheVariants.{Uninit, Undefined, Value as OfValue}
use Rattle.ir_machine.specs.declared.scalar.Pointer.{Pointer}
use Rattle.ir_machine.specs.declared.scalar.Scalar.{Scalar}
use Rattle.ir_machine.specs.declared.scalar.Scalar.TheVariants as scalar
use Rattle.ir_machine.proofs.Growing.{get_either}
use Rattle.ir_machine.proofs.Ending.{still}
use Rattle.ir_machine.proofs.Holding.{get_set_other, get_set_same, same_or_not}

-- no entries, so no pointer
pub none_in : (es : List (ℕ × Pointer)) → es ≡ [] → (p : Pointer) (place : ℕ) → lookup (nat_eq place) es ≡ Some p → ⊥
none_in es e p place h = cc (h, ap (λ (fs : List (ℕ × Pointer)). lookup (nat_eq place) fs) e)

pub apart : (a b : ℕ) → b ≢ a → nat_eq a b ≡ false
apart a b h = by (nat_eq a b) refl where
  by : (v : Bool) → nat_eq a b ≡ v → nat_eq a b ≡ false
  by false e = e
  by true e = absurd (h (sym (eqb-true a b e)))

-- what is found behind an entry that was put in, was found before, or is the entry's
pub put_holds : (old new : List (ℕ × Pointer)) (place : ℕ) (value : Pointer) → lookup (nat_eq place) new ≡ Some value →
    ((r : ℕ) → nat_eq place r ≡ false → lookup (nat_eq r) new ≡ lookup (nat_eq r) old) → (p : Pointer) (r : ℕ) → lookup (nat_eq r) new ≡ Some p →
    ((s : ℕ) × (lookup (nat_eq s) old ≡ Some p)) ⊎ (scalar.Pointer value ≡ scalar.Pointer p)
put_holds old new place value here others p r h = by (same_or_not r place) where
  by : (r ≡ place) ⊎ (r ≢ place) → ((s : ℕ) × (lookup (nat_eq s) old ≡ Some p)) ⊎ (scalar.Pointer value ≡ scalar.Pointer p)
  by (inl e) =
      let both : Some value ≡ Some p = sym here ∙ ap (λ (s : ℕ). lookup (nat_eq s) new) (sym e) ∙ h in
      let one : value ≡ p = cc both in
      inr (ap (λ (q : Pointer). scalar.Pointer q) one)
  by (inr ne) = inl (r, sym (others r (apart place r ne)) ∙ h)

pub unchanged_holds : (old new : List (ℕ × Pointer)) (value : Scalar) → new ≡ old → (p : Pointer) → ((r : ℕ) × (lookup (nat_eq r) new ≡ Some p)) →
    ((s : ℕ) × (lookup (nat_eq s) old ≡ Some p)) ⊎ (value ≡ scalar.Pointer p)
unchanged_holds old new value e p (r, h) = inl (r, sym (ap (λ (es : List (ℕ × Pointer)). lookup (nat_eq r) es) e) ∙ h)

-- bytes with the same pointers
pub same_holds : (b b' : Bytes) (value : Scalar) → b'.pointers ≡ b.pointers → HoldsNoMore b value b'
same_holds b b' value e p (r, h) = inl (r, sym (ap (λ (m : _). hash.get nat_eq m r) e) ∙ h)

-- a pointer that is found, or null
or_null : (b : Bytes) (place : ℕ) (o : Option Pointer) → hash.get nat_eq b.pointers place ≡ o → (pointer_or_null o ≡ null) ⊎ Holds b (pointer_or_null o)
or_null b place None e = inl refl
or_null b place (Some p) e = inr (place, e)

pub held_in : (b : Bytes) (place : ℕ) (ms : List ByteMark) → IsHeld b (OfValue (pointer_in (pointer_at b place) ms))
held_in b place ms = by (are_parts 0 ms) where
  other : (o : Bool) → IsHeld b (OfValue (if o then scalar.Pointer null else scalar.Poison))
  other true = inl refl
  other false = tt

  by : (v : Bool) → IsHeld b (OfValue (if v then scalar.Pointer (pointer_at b place) else (if is_zero (marks_number ms) then scalar.Pointer null else scalar.Poison)))
  by true = or_null b place (hash.get nat_eq b.pointers place) refl
  by false = other (is_zero (marks_number ms))

-- ---- memory

-- one block of these is changed
pub gains_by : (bs : List Block) (p : ℕ) (b c : Block) (value : Scalar) → slice_get bs p ≡ Some b → HoldsNoMore b.bytes value c.bytes →
    (r : Pointer) → InBlocks (set bs p c) r → InBlocks bs r ⊎ (value ≡ scalar.Pointer r)
gains_by bs p b c value there h r (q, (d, (at, holds))) = by (same_or_not q p) where
  from : Holds c.bytes r → InBlocks bs r ⊎ (value ≡ scalar.Pointer r)
  from k = up (h r k) where
    up : Holds b.bytes r ⊎ (value ≡ scalar.Pointer r) → InBlocks bs r ⊎ (value ≡ scalar.Pointer r)
    up (inl old) = inl (p, (b, (there, old)))
    up (inr new) = inr new

  by : (q ≡ p) ⊎ (q ≢ p) → InBlocks bs r ⊎ (value ≡ scalar.Pointer r)
  by (inl e) =
      let both : Some d ≡ Some c = sym at ∙ ap (λ (n : ℕ). slice_get (set bs p c) n) e ∙ get_set_same bs p c (slice_get_within bs p b there) in
      let one : d ≡ c = cc both in
      from (holds.0, ap (λ (k : Block). hash.get nat_eq k.bytes.pointers holds.0) (sym one) ∙ holds.1)
  by (inr ne) = inl (q, (d, (sym (get_set_other bs p q c ne) ∙ at, holds)))

-- nothing is gained by one more block that holds nothing
pub grown_gains : (bs bs' : List Block) (b : Block) → bs' ≡ bs ++ b ∷ [] → HoldsNone b.bytes → (p : Pointer) → InBlocks bs' p → InBlocks bs p
grown_gains bs bs' b items none p (q, (d, (at, holds))) = by (get_either bs b q d (sym (ap (λ (xs : List Block). slice_get xs q) items) ∙ at)) where
  by : ((q < length bs) × (slice_get bs q ≡ Some d)) ⊎ ((q ≡ length bs) × (d ≡ b)) → InBlocks bs p
  by (inl (l, e)) = (q, (d, (e, holds)))
  by (inr (l, e)) = absurd (none p (holds.0, ap (λ (k : Block). hash.get nat_eq k.bytes.pointers holds.0) (sym e) ∙ holds.1))

pub same_gains : (bs bs' : List Block) → bs' ≡ bs → (p : Pointer) → InBlocks bs' p → InBlocks bs p
same_gains bs bs' items p (q, (d, (at, holds))) = (q, (d, (sym (ap (λ (xs : List Block). slice_get xs q) items) ∙ at, holds)))

pub popped_gains : (m m' : Memory) (r : Option Block) → IsSome r → m.blocks.items ≡ m'.blocks.items ++ option_to_list r → GainsNone m m'
popped_gains m m' (Some b) some items p (q, (d, (at, holds))) = (q, (d, (still m b m' items q d at, holds)))
popped_gains m m' None some items p h = absurd (cc some)

-- what is loaded from a live block
pub loaded_from : (m : Memory) (q : ℕ) (b : Block) (o : Outcome) → block_at m q ≡ Some b → IsHeld b.bytes o → IsLoaded m o
loaded_from m q b (OfValue (scalar.Number n)) at h = tt
loaded_from m q b (OfValue (scalar.Pointer p)) at h = by h where
  by : (p ≡ null) ⊎ Holds b.bytes p → (p ≡ null) ⊎ InMemory m p
  by (inl e) = inl e
  by (inr k) = inr (q, (b, (at, k)))
loaded_from m q b (OfValue scalar.Poison) at h = tt
loaded_from m q b (Undefined cause) at h = tt
loaded_from m q b Uninit at h = tt

-- a block that is changed keeps its number
pub numbers_set : (bs : List Block) (p : ℕ) (b c : Block) → slice_get bs p ≡ Some b → c.number ≡ b.number → numbers_of (set bs p c) ≡ numbers_of bs
numbers_set [] p b c at e = refl
numbers_set (d ∷ bs) zero b c at e =
    let one : d ≡ b = cc at in
    ap (λ (n : ℕ). n ∷ numbers_of bs) (e ∙ ap (λ (x : Block). x.number) (sym one))
numbers_set (d ∷ bs) (suc p) b c at e = ap (λ (ns : List ℕ). d.number ∷ ns) (numbers_set bs p b c at e)
