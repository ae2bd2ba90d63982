-- What dead code elimination keeps: the least set of locals that stores, calls, terminators and kept definitions read.
use Rattle.std.specs.Prelude.{◌≡◌, ℕ, Bool, true, List, [], ◌∷◌}
use Rattle.ir_tree.specs.declared.block.Block.{Block}
use Rattle.ir_tree.specs.declared.function.Function.{Function}
use Rattle.ir_meaning.specs.Needed.{EndReads, LinesClosed, PhisKept, needed}

-- the block's stores, calls and terminator read only locals of the set, and so does each phi and each instruction that
-- gives a local of the set its value
abbrev pub IsBlockClosed : (ℕ → Bool) → Block → Type 0
IsBlockClosed keeps b = PhisKept keeps b.phis × (LinesClosed keeps b.lines × EndReads keeps b.end)

abbrev pub AreBlocksClosed : (ℕ → Bool) → List Block → Type 0
AreBlocksClosed keeps [] = Unit {0}
AreBlocksClosed keeps (b ∷ bs) = IsBlockClosed keeps b × AreBlocksClosed keeps bs

-- of the sets that are closed in the function, the least
pub record IsLeastClosed (keeps : ℕ → Bool) (f : Function) : Type 0 where
  pub closed : AreBlocksClosed keeps f.blocks
  pub least : (others : ℕ → Bool) → AreBlocksClosed others f.blocks → (x : ℕ) → keeps x ≡ true → others x ≡ true

-- g is f with its stores, its calls and what gives a local of the least closed set its value, and no other phi or instruction
abbrev pub IsNeededOf : Function → Function → Type 0
IsNeededOf f g = (keeps : ℕ → Bool) × IsLeastClosed keeps f × (g ≡ needed keeps f)
