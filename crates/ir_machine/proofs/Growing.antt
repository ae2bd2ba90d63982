-- Memory with one more block.
use Rattle.std.proofs.Common.{◌≡◌, ℕ, zero, suc, ◌+◌, ◌<◌, ◌⊎◌, inl, inr, true, List, [], ◌∷◌, ◌++◌, Some, slice_get, length, replicate, refl, sym, ap, ◌∙◌, arith}
use Rattle.std.proofs.lemmas.List.{length-append}
use Rattle.std.proofs.lemmas.Option.{slice_get_within}
use Rattle.ir_tree.specs.declared.operand.Symbol.{Symbol}
use Rattle.ir_meaning.specs.Memory.{Memory as MeantMemory, MemoryBlock, fresh, size_or_zero}
use Rattle.ir_meaning.specs.declared.value.Byte.{Byte}
use Rattle.ir_meaning.specs.declared.value.Byte.TheVariants.{Unset}
use Rattle.ir_machine.specs.Blocks.{block_meant}
use Rattle.ir_machine.specs.Bytes.{bytes_len, bytes_meant}
use Rattle.ir_machine.specs.Memories.{IsReserved, KeepsHandles, Stands, block_at}
use Rattle.ir_machine.specs.declared.block.Block.{Block}
use Rattle.ir_machine.specs.declared.memory.Memory.{Memory}
use Rattle.ir_machine.specs.declared.scalar.Handle.{Handle}

pub get_last : {X : Type 0} (xs : List X) (y : X) → slice_get (xs ++ y ∷ []) (length xs) ≡ Some y
get_last [] y = refl
get_last (x ∷ xs) y = get_last xs y

pub get_front : {X : Type 0} (xs : List X) (y : X) (k : ℕ) → k < length xs → slice_get (xs ++ y ∷ []) k ≡ slice_get xs k
get_front [] y k h = absurd (omega (arith, h))
get_front (x ∷ xs) y zero h = refl
get_front (x ∷ xs) y (suc k) h = get_front xs y k (omega (arith, h))

-- an item of the longer list
pub get_either : {X : Type 0} (xs : List X) (y : X) (k : ℕ) (z : X) → slice_get (xs ++ y ∷ []) k ≡ Some z →
    ((k < length xs) × (slice_get xs k ≡ Some z)) ⊎ ((k ≡ length xs) × (z ≡ y))
get_either [] y zero z h = inr (refl, cc h)
get_either [] y (suc k) z h = absurd (cc h)
get_either (x ∷ xs) y zero z h = inl (omega arith, h)
get_either (x ∷ xs) y (suc k) z h = by (get_either xs y k z h) where
  by : ((k < length xs) × (slice_get xs k ≡ Some z)) ⊎ ((k ≡ length xs) × (z ≡ y)) →
      ((suc k < length (x ∷ xs)) × (slice_get (x ∷ xs) (suc k) ≡ Some z)) ⊎ ((suc k ≡ length (x ∷ xs)) × (z ≡ y))
  by (inl (l, e)) = inl (omega (arith, l), e)
  by (inr (l, e)) = inr (ap (λ (n : ℕ). suc n) l, e)

-- the new block means a fresh one
pub fresh_meant : (names : List Symbol) (b : Block) (size align : ℕ) → b.align ≡ align → b.writable ≡ true → bytes_len b.bytes ≡ size →
    bytes_meant names b.bytes ≡ replicate size Unset → block_meant names b ≡ fresh size align
fresh_meant names b size align e f g h =
    ap (λ (n : ℕ). record { size = n; align = b.align; bytes = bytes_meant names b.bytes; live = true; writable = b.writable }) g
    ∙ ap (λ (n : ℕ). record { size = size; align = n; bytes = bytes_meant names b.bytes; live = true; writable = b.writable }) e
    ∙ ap (λ (bs : List Byte). record { size = size; align = align; bytes = bs; live = true; writable = b.writable }) h
    ∙ ap (λ (v : _). record { size = size; align = align; bytes = replicate size Unset; live = true; writable = v }) f

pub grown : (names : List Symbol) (m : Memory) (memory : MeantMemory) (b : Block) (size align : ℕ) (m' : Memory) (h : Handle) → Stands names m memory →
    m'.blocks.items ≡ m.blocks.items ++ b ∷ [] → m'.made ≡ m.made + 1 → b.number ≡ m.made → block_meant names b ≡ fresh size align →
    h.number ≡ m.made → h.position ≡ length m.blocks.items → h.size ≡ size →
    IsReserved names m memory size align m' h
grown names m memory b size align m' h s items made number new hn hp hs = (
  hn ∙ s.made,
  record {
    made = omega (arith, made, s.made, length-append memory (fresh size align ∷ []));
    held = λ q d e. held q d (get_either m.blocks.items b q d (sym (ap (λ (bs : List Block). slice_get bs q) items) ∙ e));
    rising = λ q r d e l f g. rising q r d e l
        (get_either m.blocks.items b q d (sym (ap (λ (bs : List Block). slice_get bs q) items) ∙ f))
        (get_either m.blocks.items b r e (sym (ap (λ (bs : List Block). slice_get bs r) items) ∙ g));
  },
  record {
    older = omega (arith, hn, s.made, length-append memory (fresh size align ∷ []));
    size = ap (λ (k : ℕ). size_or_zero (slice_get (memory ++ fresh size align ∷ []) k)) (hn ∙ s.made)
        ∙ ap size_or_zero (get_last memory (fresh size align)) ∙ sym hs;
    found = λ d e live. (b, (there, number ∙ sym hn));
  },
  keeps,
)
  where
    there : block_at m' h.position ≡ Some b
    there = ap (λ (bs : List Block). slice_get bs h.position) items ∙ ap (λ (k : ℕ). slice_get (m.blocks.items ++ b ∷ []) k) hp ∙ get_last m.blocks.items b

    held : (q : ℕ) (d : Block) → ((q < length m.blocks.items) × (slice_get m.blocks.items q ≡ Some d)) ⊎ ((q ≡ length m.blocks.items) × (d ≡ b)) →
        slice_get (memory ++ fresh size align ∷ []) d.number ≡ Some (block_meant names d)
    held q d (inl (l, e)) =
        get_front memory (fresh size align) d.number (slice_get_within memory d.number (block_meant names d) (s.held q d e)) ∙ s.held q d e
    held q d (inr (l, e)) =
        ap (λ (k : Block). slice_get (memory ++ fresh size align ∷ []) k.number) e
        ∙ ap (λ (k : ℕ). slice_get (memory ++ fresh size align ∷ []) k) (number ∙ s.made)
        ∙ get_last memory (fresh size align)
        ∙ ap (λ (x : MemoryBlock). Some x) (sym new)
        ∙ ap (λ (k : Block). Some (block_meant names k)) (sym e)

    rising : (q r : ℕ) (d e : Block) → q < r →
        ((q < length m.blocks.items) × (slice_get m.blocks.items q ≡ Some d)) ⊎ ((q ≡ length m.blocks.items) × (d ≡ b)) →
        ((r < length m.blocks.items) × (slice_get m.blocks.items r ≡ Some e)) ⊎ ((r ≡ length m.blocks.items) × (e ≡ b)) → d.number < e.number
    rising q r d e l (inl (i, f)) (inl (j, g)) = s.rising q r d e l f g
    rising q r d e l (inl (i, f)) (inr (j, g)) =
        let low : d.number < length memory = slice_get_within memory d.number (block_meant names d) (s.held q d f) in
        let high : e.number ≡ b.number = ap (λ (k : Block). k.number) g in
        omega (arith, low, high, number, s.made)
    rising q r d e l (inr (i, f)) (inl (j, g)) = absurd (omega (arith, l, i, j))
    rising q r d e l (inr (i, f)) (inr (j, g)) = absurd (omega (arith, l, i, j))

    keeps : KeepsHandles m memory m' (memory ++ fresh size align ∷ [])
    keeps k x = record {
      older = omega (arith, x.older, length-append memory (fresh size align ∷ []));
      size = ap size_or_zero (get_front memory (fresh size align) k.number x.older) ∙ x.size;
      found = λ d e live. moved (x.found d (sym (get_front memory (fresh size align) k.number x.older) ∙ e) live);
    } where
      moved : ((c : Block) × ((block_at m k.position ≡ Some c) × (c.number ≡ k.number))) → (c : Block) × ((block_at m' k.position ≡ Some c) × (c.number ≡ k.number))
      moved (c, (f, g)) = (
        c,
        (
          ap (λ (bs : List Block). slice_get bs k.position) items
              ∙ get_front m.blocks.items b k.position (slice_get_within m.blocks.items k.position c f) ∙ f,
          g,
        ),
      )
