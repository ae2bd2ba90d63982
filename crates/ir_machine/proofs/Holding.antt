-- Memory that stands for blocks by number still does when one of its blocks is changed.
use Rattle.std.proofs.Common.{◌≡◌, ◌≢◌, ℕ, zero, suc, ◌<◌, Bool, true, false, not, ◌&&◌, nat_lt, nat_le, ◌+◌, ◌⊎◌, inl, inr, nat_eq, if◌then◌else◌, List, [], ◌∷◌, Option, Some, None, Result, Ok, Err, OnErr, slice_get, set, length, refl, sym, ap, subst, ◌∙◌, eqb-true, arith}
use borrow.Author.Tests.{ltb-true}
use Rattle.std.proofs.lemmas.Bool.{eqb-false, ltb-false}
use Rattle.std.proofs.Math.ListN.{length-set}
use Rattle.std.proofs.lemmas.Option.{slice_get_within}
use Rattle.ir_tree.specs.declared.operand.Reg.{Reg}
use Rattle.ir_tree.specs.declared.operand.Symbol.{Symbol}
use Rattle.ir_meaning.specs.Access.{access_cause, overwritten, reaches, refusal_in, store, store_in}
use Rattle.ir_meaning.specs.Bytes.{reg_size, stored_bytes}
use Rattle.ir_meaning.specs.Memory.{Memory as MeantMemory, MemoryBlock, size_or_zero}
use Rattle.ir_tree.specs.declared.cause.Cause.TheVariants.{BadPointer, Misaligned, OutOfBounds, StoreToConstant}
use Rattle.ir_meaning.specs.declared.value.Base.TheVariants.{Cell}
use Rattle.ir_meaning.specs.declared.value.Value.{Value as MeantValue}
use Rattle.ir_meaning.specs.declared.value.Value.TheVariants as value
use Rattle.ir_machine.specs.Blocks.{IsStored, block_meant}
use Rattle.ir_machine.specs.Memories.{IsHandle, IsMemoryStored, KeepsHandles, Replaced, Stands, block_at}
use Rattle.ir_machine.specs.declared.block.Block.{Block}
use Rattle.ir_machine.specs.declared.block.Stored.{Stored}
use Rattle.ir_machine.specs.declared.block.Stored.TheVariants.{Done, Undefined}
use Rattle.ir_machine.specs.declared.memory.Memory.{Memory}
use Rattle.ir_machine.specs.declared.scalar.Handle.{Handle}

-- ---- lists with one item changed

pub get_set_same : {X : Type 0} (xs : List X) (k : ℕ) (v : X) → k < length xs → slice_get (set xs k v) k ≡ Some v
get_set_same [] k v h = absurd (omega (arith, h))
get_set_same (x ∷ xs) zero v h = refl
get_set_same (x ∷ xs) (suc k) v h = get_set_same xs k v (omega (arith, h))

pub get_set_other : {X : Type 0} (xs : List X) (k j : ℕ) (v : X) → j ≢ k → slice_get (set xs k v) j ≡ slice_get xs j
get_set_other [] k j v h = refl
get_set_other (x ∷ xs) zero zero v h = absurd (h refl)
get_set_other (x ∷ xs) zero (suc j) v h = refl
get_set_other (x ∷ xs) (suc k) zero v h = refl
get_set_other (x ∷ xs) (suc k) (suc j) v h = get_set_other xs k j v (λ (e : j ≡ k). h (ap (λ (n : ℕ). suc n) e))

pub set_same : {X : Type 0} (xs : List X) (k : ℕ) (v : X) → slice_get xs k ≡ Some v → set xs k v ≡ xs
set_same [] k v h = refl
set_same (x ∷ xs) zero v h = let same : x ≡ v = cc h in ap (λ (y : _). y ∷ xs) (sym same)
set_same (x ∷ xs) (suc k) v h = ap (λ (ys : List _). x ∷ ys) (set_same xs k v h)

pub same_or_not : (a b : ℕ) → (a ≡ b) ⊎ (a ≢ b)
same_or_not a b = by (nat_eq a b) refl where
  by : (v : Bool) → nat_eq a b ≡ v → (a ≡ b) ⊎ (a ≢ b)
  by true e = inl (eqb-true a b e)
  by false e = inr (eqb-false a b e)

-- ---- one block changed

-- where a block of m' was
before : (names : List Symbol) (m : Memory) (p : ℕ) (b c : Block) (m' : Memory) → Replaced m p b c m' → (q : ℕ) (d : Block) → block_at m' q ≡ Some d →
    ((q ≡ p) × (d ≡ c)) ⊎ ((q ≢ p) × (block_at m q ≡ Some d))
before names m p b c m' x q d h = by (same_or_not q p) where
  by : (q ≡ p) ⊎ (q ≢ p) → ((q ≡ p) × (d ≡ c)) ⊎ ((q ≢ p) × (block_at m q ≡ Some d))
  by (inl e) =
      let here : slice_get (set m.blocks.items p c) q ≡ Some c =
      ap (λ (n : ℕ). slice_get (set m.blocks.items p c) n) e ∙ get_set_same m.blocks.items p c (slice_get_within m.blocks.items p b x.there) in
      let both : Some d ≡ Some c = sym h ∙ ap (λ (bs : List Block). slice_get bs q) x.items ∙ here in
      inl (e, cc both)
  by (inr ne) = inr (ne, sym (get_set_other m.blocks.items p q c ne) ∙ sym (ap (λ (bs : List Block). slice_get bs q) x.items) ∙ h)

-- where a block of m is
after : (names : List Symbol) (m : Memory) (p : ℕ) (b c : Block) (m' : Memory) → Replaced m p b c m' → (q : ℕ) (d : Block) → block_at m q ≡ Some d →
    (e : Block) × ((block_at m' q ≡ Some e) × (e.number ≡ d.number))
after names m p b c m' x q d h = by (same_or_not q p) where
  by : (q ≡ p) ⊎ (q ≢ p) → (e : Block) × ((block_at m' q ≡ Some e) × (e.number ≡ d.number))
  by (inl e) =
      let same : Some b ≡ Some d = sym x.there ∙ ap (λ (n : ℕ). block_at m n) (sym e) ∙ h in
      let one : b ≡ d = cc same in (
        c,
        (
          ap (λ (bs : List Block). slice_get bs q) x.items ∙ ap (λ (n : ℕ). slice_get (set m.blocks.items p c) n) e
              ∙ get_set_same m.blocks.items p c (slice_get_within m.blocks.items p b x.there),
          x.number ∙ ap (λ (k : Block). k.number) one,
        ),
      )
  by (inr ne) = (d, (ap (λ (bs : List Block). slice_get bs q) x.items ∙ get_set_other m.blocks.items p q c ne ∙ h, refl))

-- the number of a block of m' is that of the one before it
numbered : (names : List Symbol) (m : Memory) (p : ℕ) (b c : Block) (m' : Memory) → Replaced m p b c m' → (q : ℕ) (d : Block) → block_at m' q ≡ Some d →
    (e : Block) × ((block_at m q ≡ Some e) × (d.number ≡ e.number))
numbered names m p b c m' x q d h = by (before names m p b c m' x q d h) where
  by : ((q ≡ p) × (d ≡ c)) ⊎ ((q ≢ p) × (block_at m q ≡ Some d)) → (e : Block) × ((block_at m q ≡ Some e) × (d.number ≡ e.number))
  by (inl (e, f)) = (b, (ap (λ (n : ℕ). block_at m n) e ∙ x.there, ap (λ (k : Block). k.number) f ∙ x.number))
  by (inr (ne, f)) = (d, (f, refl))

-- two positions hold two numbers
two_numbers : (names : List Symbol) (m : Memory) (memory : MeantMemory) → Stands names m memory → (p q : ℕ) (b d : Block) → p ≢ q →
    block_at m p ≡ Some b → block_at m q ≡ Some d → d.number ≢ b.number
two_numbers names m memory s p q b d ne h g = λ (e : d.number ≡ b.number). by (order p q ne) e where
  order : (i j : ℕ) → i ≢ j → (i < j) ⊎ (j < i)
  order i j n = cases (nat_lt i j) refl where
    cases : (v : Bool) → nat_lt i j ≡ v → (i < j) ⊎ (j < i)
    cases true f = inl (ltb-true i j f)
    cases false f = inr (omega (arith, ltb-false i j f, n))

  by : (p < q) ⊎ (q < p) → d.number ≡ b.number → ⊥
  by (inl l) e = omega (arith, e, s.rising p q b d l h g)
  by (inr l) e = omega (arith, e, s.rising q p d b l g h)

pub changed_stands : (names : List Symbol) (m : Memory) (memory : MeantMemory) (p : ℕ) (b c : Block) (m' : Memory) → Stands names m memory →
    Replaced m p b c m' → Stands names m' (set memory b.number (block_meant names c))
changed_stands names m memory p b c m' s x = record {
  made = x.made ∙ s.made ∙ sym (length-set memory b.number (block_meant names c));
  held = λ q d h. held q d (before names m p b c m' x q d h);
  rising = λ q r d e l h g. rising q r d e l (numbered names m p b c m' x q d h) (numbered names m p b c m' x r e g);
} where
  held : (q : ℕ) (d : Block) → ((q ≡ p) × (d ≡ c)) ⊎ ((q ≢ p) × (block_at m q ≡ Some d)) →
      slice_get (set memory b.number (block_meant names c)) d.number ≡ Some (block_meant names d)
  held q d (inl (e, f)) =
      ap (λ (k : Block). slice_get (set memory b.number (block_meant names c)) k.number) f
      ∙ ap (λ (n : ℕ). slice_get (set memory b.number (block_meant names c)) n) x.number
      ∙ get_set_same memory b.number (block_meant names c) (slice_get_within memory b.number (block_meant names b) (s.held p b x.there))
      ∙ ap (λ (k : Block). Some (block_meant names k)) (sym f)
  held q d (inr (ne, f)) =
      get_set_other memory b.number d.number (block_meant names c)
      (two_numbers names m memory s p q b d (λ (e : p ≡ q). ne (sym e)) x.there f)
      ∙ s.held q d f

  rising : (q r : ℕ) (d e : Block) → q < r → (d' : Block) × ((block_at m q ≡ Some d') × (d.number ≡ d'.number)) →
      (e' : Block) × ((block_at m r ≡ Some e') × (e.number ≡ e'.number)) → d.number < e.number
  rising q r d e l (d', (h, i)) (e', (g, j)) = omega (arith, s.rising q r d' e' l h g, i, j)

pub changed_keeps : (names : List Symbol) (m : Memory) (memory : MeantMemory) (p : ℕ) (b c : Block) (m' : Memory) → Stands names m memory →
    Replaced m p b c m' → (block_meant names c).size ≡ (block_meant names b).size → KeepsHandles m memory m' (set memory b.number (block_meant names c))
changed_keeps names m memory p b c m' s x as_large h k = record {
  older = omega (arith, k.older, length-set memory b.number (block_meant names c));
  size = size (same_or_not h.number b.number);
  found = λ d e live. forward (same_or_not h.number b.number) d e live;
} where
  new : MeantMemory
  new = set memory b.number (block_meant names c)

  size : (h.number ≡ b.number) ⊎ (h.number ≢ b.number) → size_or_zero (slice_get (set memory b.number (block_meant names c)) h.number) ≡ h.size
  size (inl e) =
      ap (λ (n : ℕ). size_or_zero (slice_get (set memory b.number (block_meant names c)) n)) e
      ∙ ap size_or_zero (get_set_same memory b.number (block_meant names c) (slice_get_within memory b.number (block_meant names b) (s.held p b x.there)))
      ∙ as_large
      ∙ sym (ap size_or_zero (s.held p b x.there))
      ∙ ap (λ (n : ℕ). size_or_zero (slice_get memory n)) (sym e)
      ∙ k.size
  size (inr ne) = ap size_or_zero (get_set_other memory b.number h.number (block_meant names c) ne) ∙ k.size

  moved : ((d' : Block) × ((block_at m h.position ≡ Some d') × (d'.number ≡ h.number))) → (d' : Block) × ((block_at m' h.position ≡ Some d') × (d'.number ≡ h.number))
  moved (d', (g, i)) = let f = after names m p b c m' x h.position d' g in (f.0, (f.1.0, f.1.1 ∙ i))

  forward : (h.number ≡ b.number) ⊎ (h.number ≢ b.number) → (d : MemoryBlock) → slice_get (set memory b.number (block_meant names c)) h.number ≡ Some d → d.live ≡ true →
      (d' : Block) × ((block_at m' h.position ≡ Some d') × (d'.number ≡ h.number))
  forward (inl e) d g live = moved (k.found (block_meant names b) (ap (λ (n : ℕ). slice_get memory n) e ∙ s.held p b x.there) refl)
  forward (inr ne) d g live = moved (k.found d (sym (get_set_other memory b.number h.number (block_meant names c) ne) ∙ g) live)

-- ---- a block that no longer lives

-- a handle that isn't found is of a dead block
pub dead_handle : (m : Memory) (memory : MeantMemory) (h : Handle) → IsHandle m memory h →
    ((b : Block) → block_at m h.position ≡ Some b → b.number ≢ h.number) → (d : MemoryBlock) → slice_get memory h.number ≡ Some d → d.live ≡ false
dead_handle m memory h k none d e = by d.live refl where
  by : (v : Bool) → d.live ≡ v → d.live ≡ false
  by false f = f
  by true f = let found = k.found d e f in absurd (none found.0 found.1.0 found.1.1)

pub dead_store : (memory : MeantMemory) (k : ℕ) (d : MemoryBlock) (reg : Reg) (v : MeantValue) (o a : ℕ) → d.live ≡ false → store_in memory k (Some d) reg v o a ≡ None
dead_store memory k d reg v o a e = grind (arith, e)

pub dead_cause : (d : MemoryBlock) (o s : ℕ) → d.live ≡ false → refusal_in (Some d) o s ≡ BadPointer
dead_cause d o s e =
    ap (λ (v : Bool). if v && not d.writable then StoreToConstant else access_cause d o s) e
    ∙ ap (λ (v : Bool). if v then (if nat_le (o + s) d.size then Misaligned else OutOfBounds) else BadPointer) e

-- ---- stores

pub store_done : (memory : MeantMemory) (k : ℕ) (b c : MemoryBlock) (reg : Reg) (v : MeantValue) (o a : ℕ) → slice_get memory k ≡ Some b →
    (b.writable && reaches b o (reg_size reg) a) ≡ true → c ≡ record b { bytes = overwritten b.bytes o (stored_bytes reg v) } →
    store memory reg v (value.Pointer (Cell k) o) a ≡ Some (set memory k c)
store_done memory k b c reg v o a e f g =
    ap (λ (x : Option MemoryBlock). store_in memory k x reg v o a) e
    ∙ ap (λ (x : Bool). if x then Some (set memory k (record b { bytes = overwritten b.bytes o (stored_bytes reg v) })) else None) f
    ∙ ap (λ (x : MemoryBlock). Some (set memory k x)) (sym g)

pub store_none : (memory : MeantMemory) (k : ℕ) (b : MemoryBlock) (reg : Reg) (v : MeantValue) (o a : ℕ) → slice_get memory k ≡ Some b →
    (b.writable && reaches b o (reg_size reg) a) ≡ false → store memory reg v (value.Pointer (Cell k) o) a ≡ None
store_none memory k b reg v o a e f =
    ap (λ (x : Option MemoryBlock). store_in memory k x reg v o a) e
    ∙ ap (λ (x : Bool). if x then Some (set memory k (record b { bytes = overwritten b.bytes o (stored_bytes reg v) })) else None) f

-- a block that means what it meant changes nothing
pub unchanged : (names : List Symbol) (m : Memory) (memory : MeantMemory) (p : ℕ) (b c : Block) (m' : Memory) → Stands names m memory → Replaced m p b c m' →
    block_meant names c ≡ block_meant names b → Stands names m' memory × KeepsHandles m memory m' memory
unchanged names m memory p b c m' s x e =
    let same : set memory b.number (block_meant names c) ≡ memory = set_same memory b.number (block_meant names c) (s.held p b x.there ∙ ap (λ (d : MemoryBlock). Some d) (sym e)) in
    subst (λ (n : MeantMemory). Stands names m' n × KeepsHandles m memory m' n) same
    (changed_stands names m memory p b c m' s x, changed_keeps names m memory p b c m' s x (ap (λ (d : MemoryBlock). d.size) e))

pub memory_stored : (names : List Symbol) (m : Memory) (memory : MeantMemory) (p k : ℕ) (b c : Block) (m' : Memory) (reg : Reg) (v : MeantValue) (o a : ℕ) (done : Stored) →
    Stands names m memory → b.number ≡ k → Replaced m p b c m' → IsStored (block_meant names b) reg v o a (block_meant names c) done →
    IsMemoryStored names m memory reg v (value.Pointer (Cell k) o) a m' done
memory_stored names m memory p k b c m' reg v o a Done s n x (f, g) =
    let here : slice_get memory k ≡ Some (block_meant names b) = ap (λ (j : ℕ). slice_get memory j) (sym n) ∙ s.held p b x.there in (
      set memory b.number (block_meant names c),
      store_done memory k (block_meant names b) (block_meant names c) reg v o a here f g ∙ ap (λ (j : ℕ). Some (set memory j (block_meant names c))) (sym n),
      changed_stands names m memory p b c m' s x,
      changed_keeps names m memory p b c m' s x (ap (λ (d : MemoryBlock). d.size) g),
    )
memory_stored names m memory p k b c m' reg v o a (Undefined cause) s n x (f, g, h) =
    let here : slice_get memory k ≡ Some (block_meant names b) = ap (λ (j : ℕ). slice_get memory j) (sym n) ∙ s.held p b x.there in
    let kept : Stands names m' memory × KeepsHandles m memory m' memory = unchanged names m memory p b c m' s x h in (
      store_none memory k (block_meant names b) reg v o a here f,
      g ∙ sym (ap (λ (y : Option MemoryBlock). refusal_in y o (reg_size reg)) here),
      kept.0,
      kept.1,
    )

pub on_err : {T E P : Type 0} (r : Result T E) → P → OnErr r P
on_err (Ok x) p = tt
on_err (Err e) p = p
