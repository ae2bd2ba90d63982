-- Phi entries against the edges into a block.
use Rattle.std.specs.Prelude.{◌≡◌, ℕ, List, slice_get, count_by, nat_eq, Some}
use Rattle.ir_tree.specs.Rules.{place}
use Rattle.ir_tree.specs.declared.block.Block.{Block}
use Rattle.ir_tree.specs.declared.instr.Incoming.{Incoming}

-- each number stands in both lists as often
abbrev pub SameCounts : List ℕ → List ℕ → Type 0
SameCounts xs ys = (p : ℕ) → count_by (λ q. nat_eq q p) xs ≡ count_by (λ q. nat_eq q p) ys

-- entries for one block are equal
abbrev pub Agree : List Incoming → Type 0
Agree es = (i j : ℕ) (e d : Incoming) → slice_get es i ≡ Some e → slice_get es j ≡ Some d → e.from ≡ d.from → e.value ≡ d.value

-- the block of the number is another than the entry
abbrev pub NoEntry : List Block → ℕ → Type 0
NoEntry bs n = place bs n ≡ 0 → ⊥
