-- Memory in which the block that was made last no longer lives.
use Rattle.std.proofs.Common.{◌≡◌, ◌≢◌, ℕ, ◌+◌, ◌-◌, ◌<◌, ◌⊎◌, inl, inr, true, false, List, [], ◌∷◌, ◌++◌, Option, Some, None, IsSome, option_to_list, slice_get, set, length, sym, ap, subst, ◌∙◌, arith}
use Rattle.std.proofs.Math.ListN.{length-set}
use Rattle.std.proofs.lemmas.List.{length-append}
use Rattle.std.proofs.lemmas.Option.{slice_get_within}
use Rattle.ir_tree.specs.declared.operand.Symbol.{Symbol}
use Rattle.ir_meaning.specs.Memory.{Memory as MeantMemory, MemoryBlock, dead, end_life, size_or_zero}
use Rattle.ir_machine.specs.Blocks.{block_meant}
use Rattle.ir_machine.specs.Memories.{IsEnded, KeepsHandles, Stands, block_at}
use Rattle.ir_machine.specs.declared.block.Block.{Block}
use Rattle.ir_machine.specs.declared.memory.Memory.{Memory}
use Rattle.ir_machine.proofs.Growing.{get_either, get_front, get_last}
use Rattle.ir_machine.proofs.Holding.{get_set_other, get_set_same, same_or_not}

pub last_at : (m : Memory) (b : Block) (m' : Memory) → m.blocks.items ≡ m'.blocks.items ++ b ∷ [] → block_at m (length m'.blocks.items) ≡ Some b
last_at m b m' items = ap (λ (bs : List Block). slice_get bs (length m'.blocks.items)) items ∙ get_last m'.blocks.items b

-- a block of m' is where it was
pub still : (m : Memory) (b : Block) (m' : Memory) → m.blocks.items ≡ m'.blocks.items ++ b ∷ [] → (q : ℕ) (d : Block) → block_at m' q ≡ Some d → block_at m q ≡ Some d
still m b m' items q d e =
    ap (λ (bs : List Block). slice_get bs q) items ∙ get_front m'.blocks.items b q (slice_get_within m'.blocks.items q d e) ∙ e

stands : (names : List Symbol) (m : Memory) (memory : MeantMemory) (b : Block) (m' : Memory) → Stands names m memory →
    m.blocks.items ≡ m'.blocks.items ++ b ∷ [] → m'.made ≡ m.made → Stands names m' (set memory b.number (dead (block_meant names b)))
stands names m memory b m' s items made = record {
  made = made ∙ s.made ∙ sym (length-set memory b.number (dead (block_meant names b)));
  held = λ q d e.
      let before : d.number < b.number = s.rising q (length m'.blocks.items) d b (slice_get_within m'.blocks.items q d e) (still m b m' items q d e) (last_at m b m' items) in
      get_set_other memory b.number d.number (dead (block_meant names b)) (λ (x : d.number ≡ b.number). omega (arith, x, before)) ∙ s.held q d (still m b m' items q d e);
  rising = λ q r d e l f g. s.rising q r d e l (still m b m' items q d f) (still m b m' items r e g);
}

keeps : (names : List Symbol) (m : Memory) (memory : MeantMemory) (b : Block) (m' : Memory) → Stands names m memory →
    m.blocks.items ≡ m'.blocks.items ++ b ∷ [] → KeepsHandles m memory m' (set memory b.number (dead (block_meant names b)))
keeps names m memory b m' s items h k = record {
  older = omega (arith, k.older, length-set memory b.number (dead (block_meant names b)));
  size = size (same_or_not h.number b.number);
  found = λ d e live. found (same_or_not h.number b.number) d e live;
} where
  here : slice_get memory b.number ≡ Some (block_meant names b)
  here = s.held (length m'.blocks.items) b (last_at m b m' items)

  changed : slice_get (set memory b.number (dead (block_meant names b))) b.number ≡ Some (dead (block_meant names b))
  changed = get_set_same memory b.number (dead (block_meant names b)) (slice_get_within memory b.number (block_meant names b) here)

  size : (h.number ≡ b.number) ⊎ (h.number ≢ b.number) → size_or_zero (slice_get (set memory b.number (dead (block_meant names b))) h.number) ≡ h.size
  size (inl e) =
      ap (λ (n : ℕ). size_or_zero (slice_get (set memory b.number (dead (block_meant names b))) n)) e ∙ ap size_or_zero changed
      ∙ sym (ap size_or_zero here) ∙ ap (λ (n : ℕ). size_or_zero (slice_get memory n)) (sym e) ∙ k.size
  size (inr ne) = ap size_or_zero (get_set_other memory b.number h.number (dead (block_meant names b)) ne) ∙ k.size

  moved : h.number ≢ b.number → ((c : Block) × ((block_at m h.position ≡ Some c) × (c.number ≡ h.number))) → (c : Block) × ((block_at m' h.position ≡ Some c) × (c.number ≡ h.number))
  moved ne (c, (f, g)) = by (get_either m'.blocks.items b h.position c (sym (ap (λ (bs : List Block). slice_get bs h.position) items) ∙ f)) where
    by : ((h.position < length m'.blocks.items) × (slice_get m'.blocks.items h.position ≡ Some c)) ⊎ ((h.position ≡ length m'.blocks.items) × (c ≡ b)) →
        (c' : Block) × ((block_at m' h.position ≡ Some c') × (c'.number ≡ h.number))
    by (inl (l, e)) = (c, (e, g))
    by (inr (l, e)) = absurd (ne (sym g ∙ ap (λ (x : Block). x.number) e))

  found : (h.number ≡ b.number) ⊎ (h.number ≢ b.number) → (d : MemoryBlock) → slice_get (set memory b.number (dead (block_meant names b))) h.number ≡ Some d → d.live ≡ true →
      (c : Block) × ((block_at m' h.position ≡ Some c) × (c.number ≡ h.number))
  found (inl e) d f live =
      let both : Some d ≡ Some (dead (block_meant names b)) = sym f ∙ ap (λ (n : ℕ). slice_get (set memory b.number (dead (block_meant names b))) n) e ∙ changed in
      let one : d ≡ dead (block_meant names b) = cc both in
      let gone : d.live ≡ false = ap (λ (x : MemoryBlock). x.live) one in
      absurd (cc (gone, live))
  found (inr ne) d f live = moved ne (k.found d (sym (get_set_other memory b.number h.number (dead (block_meant names b)) ne) ∙ f) live)

pub ended : (names : List Symbol) (m : Memory) (memory : MeantMemory) (b : Block) (m' : Memory) → Stands names m memory →
    m.blocks.items ≡ m'.blocks.items ++ b ∷ [] → m'.made ≡ m.made →
    (c : Block) × ((block_at m (length m.blocks.items - 1) ≡ Some c) × IsEnded names m memory c m')
ended names m memory b m' s items made =
    let here : slice_get memory b.number ≡ Some (block_meant names b) = s.held (length m'.blocks.items) b (last_at m b m' items) in
    let new : end_life memory b.number (slice_get memory b.number) ≡ set memory b.number (dead (block_meant names b)) = ap (λ (x : Option MemoryBlock). end_life memory b.number x) here in
    let count : length m.blocks.items - 1 ≡ length m'.blocks.items = last_place (length m.blocks.items) (length m'.blocks.items) (ap length items ∙ length-append m'.blocks.items (b ∷ [])) in (
      b,
      (
        ap (λ (n : ℕ). block_at m n) count ∙ last_at m b m' items,
        subst (λ (x : MeantMemory). Stands names m' x × KeepsHandles m memory m' x) (sym new)
            (stands names m memory b m' s items made, keeps names m memory b m' s items),
      ),
    )
  where
    last_place : (n k : ℕ) → n ≡ k + 1 → n - 1 ≡ k
    last_place n k e = omega (arith, e)

-- the block that was made last is the one that a pop takes
pub last_popped : (m : Memory) (m' : Memory) (r : Option Block) → IsSome r → m.blocks.items ≡ m'.blocks.items ++ option_to_list r →
    (b : Block) → block_at m (length m.blocks.items - 1) ≡ Some b → m.blocks.items ≡ m'.blocks.items ++ b ∷ []
last_popped m m' None some items b at = absurd (cc some)
last_popped m m' (Some d) some items b at =
    let count : length m.blocks.items - 1 ≡ length m'.blocks.items = omega (arith, ap length items, length-append m'.blocks.items (d ∷ [])) in
    let both : Some b ≡ Some d = sym at ∙ ap (λ (n : ℕ). block_at m n) count ∙ last_at m d m' items in
    let one : d ≡ b = cc both in
    items ∙ ap (λ (x : Block). m'.blocks.items ++ x ∷ []) one

-- by what a pop of the list gave
pub ended_by : (names : List Symbol) (m : Memory) (memory : MeantMemory) (m' : Memory) (r : Option Block) → Stands names m memory → IsSome r →
    m.blocks.items ≡ m'.blocks.items ++ option_to_list r → m'.made ≡ m.made →
    (c : Block) × ((block_at m (length m.blocks.items - 1) ≡ Some c) × IsEnded names m memory c m')
ended_by names m memory m' (Some b) s some items made = ended names m memory b m' s items made
ended_by names m memory m' None s some items made = absurd (cc some)
