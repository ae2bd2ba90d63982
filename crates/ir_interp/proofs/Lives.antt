-- Slots that end one after another, the newest first.
use Rattle.std.proofs.Common.{◌≡◌, ℕ, zero, suc, ◌+◌, ◌-◌, ◌<◌, ◌≤◌, List, [], ◌∷◌, ◌++◌, length, Some, refl, sym, ap, subst, ◌∙◌, slice_get, arith}
use Rattle.std.proofs.lemmas.List.{length-append}
use Rattle.ir_tree.specs.declared.operand.Symbol.{Symbol}
use Rattle.ir_meaning.specs.Memory.{Memory as MeantMemory, end_life, kill}
use Rattle.ir_machine.specs.Memories.{GainsNone, IsEnded, KeepsHandles, Stands, block_at, numbers_of}
use Rattle.ir_machine.specs.declared.block.Block.{Block}
use Rattle.ir_machine.specs.declared.memory.Memory.{Memory}
use Rattle.ir_interp.specs.Locals.{IsMemory}
use Rattle.ir_interp.proofs.SourcesKept.{keep_memory}
use Rattle.ir_interp.specs.Slots.{AreLast}

-- so many slots have ended, and those that are left end next
pub record Ends (names : List Symbol) (m : Memory) (meaning : MeantMemory) (slots front : List ℕ) (m' : Memory) (count : ℕ) : Type 0 where
  pub left : List ℕ
  pub now : MeantMemory
  pub long : length left + count ≡ length slots
  pub same : kill slots meaning ≡ kill left now
  pub holds : IsMemory names m' now
  pub keeps : KeepsHandles m meaning m' now
  pub last : AreLast (numbers_of m'.blocks.items) left front

numbers_append : (bs : List Block) (b : Block) → numbers_of (bs ++ b ∷ []) ≡ numbers_of bs ++ b.number ∷ []
numbers_append [] b = refl
numbers_append (d ∷ bs) b = ap (λ (ns : List ℕ). d.number ∷ ns) (numbers_append bs b)

-- lists with one item behind are equal where the lists and the items are
same_last : (xs ys : List ℕ) (x y : ℕ) → xs ++ x ∷ [] ≡ ys ++ y ∷ [] → (xs ≡ ys) × (x ≡ y)
same_last [] [] x y e = (refl, cc e)
same_last [] (b ∷ []) x y e = absurd (cc e)
same_last [] (b ∷ c ∷ ys) x y e = absurd (cc e)
same_last (a ∷ []) [] x y e = absurd (cc e)
same_last (a ∷ c ∷ xs) [] x y e = absurd (cc e)
same_last (a ∷ xs) (b ∷ ys) x y e =
    let head : a ≡ b = cc e in
    let tail : xs ++ x ∷ [] ≡ ys ++ y ∷ [] = cc e in
    let rest = same_last xs ys x y tail in
    (ap (λ (n : ℕ). n ∷ xs) head ∙ ap (λ (ns : List ℕ). b ∷ ns) rest.0, rest.1)

pub begin_ends : (names : List Symbol) (m : Memory) (meaning : MeantMemory) (slots front : List ℕ) → IsMemory names m meaning → AreLast (numbers_of m.blocks.items) slots front →
    Ends names m meaning slots front m 0
begin_ends names m meaning slots front s h = record {
  left = slots;
  now = meaning;
  long = omega arith;
  same = refl;
  holds = s;
  keeps = λ k x. x;
  last = h;
}

pub one_ends : (names : List Symbol) (m : Memory) (meaning : MeantMemory) (slots front : List ℕ) (m' m'' : Memory) (count : ℕ) → Ends names m meaning slots front m' count → count < length slots →
    ((memory : MeantMemory) → Stands names m' memory → (b : Block) × ((block_at m' (length m'.blocks.items - 1) ≡ Some b) × IsEnded names m' memory b m'')) →
    ((b : Block) → block_at m' (length m'.blocks.items - 1) ≡ Some b → m'.blocks.items ≡ m''.blocks.items ++ b ∷ []) → GainsNone m' m'' →
    Ends names m meaning slots front m'' (count + 1)
one_ends names m meaning slots front m' m'' count e l ended popped gains = by e.left e.long e.same e.last where
  by : (left : List ℕ) → length left + count ≡ length slots → kill slots meaning ≡ kill left e.now → AreLast (numbers_of m'.blocks.items) left front →
      Ends names m meaning slots front m'' (count + 1)
  by [] long same last = absurd (omega (arith, long, l))
  by (k ∷ ks) long same (rest, (numbers, more)) =
      let got = ended e.now e.holds.stands in
      let b = got.0 in
      let items = popped b got.1.0 in
      let both = same_last (numbers_of m''.blocks.items) rest b.number k (sym (numbers_append m''.blocks.items b) ∙ sym (ap numbers_of items) ∙ numbers) in
      let after = end_life e.now b.number (slice_get e.now b.number) in
      record {
        left = ks;
        now = after;
        long = omega (arith, long);
        same = same ∙ ap (λ (n : ℕ). kill ks (end_life e.now n (slice_get e.now n))) (sym both.1);
        holds = keep_memory names m' e.now m'' after e.holds got.1.1.0 got.1.1.1 gains;
        keeps = λ h x. got.1.1.1 h (e.keeps h x);
        last = subst (λ (ns : List ℕ). AreLast ns ks front) (sym both.0) more;
      }

-- all have ended
pub all_ended : (names : List Symbol) (m : Memory) (meaning : MeantMemory) (slots front : List ℕ) (m' : Memory) (count : ℕ) → Ends names m meaning slots front m' count → length slots ≤ count →
    IsMemory names m' (kill slots meaning) × KeepsHandles m meaning m' (kill slots meaning) × (numbers_of m'.blocks.items ≡ front)
all_ended names m meaning slots front m' count e l = by e.left e.long e.same e.last where
  by : (left : List ℕ) → length left + count ≡ length slots → kill slots meaning ≡ kill left e.now → AreLast (numbers_of m'.blocks.items) left front →
      IsMemory names m' (kill slots meaning) × KeepsHandles m meaning m' (kill slots meaning) × (numbers_of m'.blocks.items ≡ front)
  by [] long same last = (
    subst (λ (x : MeantMemory). IsMemory names m' x) (sym same) e.holds,
    subst (λ (x : MeantMemory). KeepsHandles m meaning m' x) (sym same) e.keeps,
    last,
  )
  by (k ∷ ks) long same last = absurd (omega (arith, long, l))

there_at : (bs : List Block) (k : ℕ) → k < length bs → (b : Block) × (slice_get bs k ≡ Some b)
there_at [] k h = absurd (omega (arith, h))
there_at (b ∷ bs) zero h = (b, refl)
there_at (b ∷ bs) (suc k) h = there_at bs k (omega (arith, h))

-- a pop takes one block
pub one_fewer : (m m' : Memory) → 0 < length m.blocks.items →
    ((b : Block) → block_at m (length m.blocks.items - 1) ≡ Some b → m.blocks.items ≡ m'.blocks.items ++ b ∷ []) → length m.blocks.items ≡ length m'.blocks.items + 1
one_fewer m m' h popped =
    let here = there_at m.blocks.items (length m.blocks.items - 1) (omega (arith, h)) in
    let items : m.blocks.items ≡ m'.blocks.items ++ here.0 ∷ [] = popped here.0 here.1 in
    omega (arith, ap length items, length-append {A = Block})
