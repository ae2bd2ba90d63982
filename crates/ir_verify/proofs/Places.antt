-- The places of blocks, found under their numbers.
use Rattle.std.proofs.Common.{◌≡◌, ℕ, zero, suc, ◌+◌, Bool, true, false, List, [], ◌∷◌, length, refl, ap, arith}
use Rattle.std.specs.Prelude.{nat_eq, if◌then◌else◌, Option, Some, None}
use Rattle.std.proofs.lemmas.Option.{same_Some}
use Rattle.ir_tree.specs.declared.block.Block.{Block}
use Rattle.ir_tree.specs.Rules.{place}
use Rattle.ir_verify.specs.Definitions.{numbered}
use Rattle.ir_verify.specs.Tables.{found}

pub place_some : (bs : List Block) (k n p : ℕ) → found (numbered k bs) n ≡ Some p → p ≡ k + place bs n
place_some [] k n p e = absurd (cc e)
place_some (b ∷ bs) k n p e = step (nat_eq b.number n) e (place_some bs (suc k) n p)
  where
    step : (t : Bool) → (if t then Some k else found (numbered (suc k) bs) n) ≡ Some p → (found (numbered (suc k) bs) n ≡ Some p → p ≡ suc k + place bs n) → p ≡ k + (if t then zero else suc (place bs n))
    step true d again = let same = same_Some k p d in omega arith
    step false d again = let same = again d in omega arith

pub place_none : (bs : List Block) (k n : ℕ) → found (numbered k bs) n ≡ None → place bs n ≡ length bs
place_none [] k n e = refl
place_none (b ∷ bs) k n e = step (nat_eq b.number n) e (place_none bs (suc k) n)
  where
    step : (t : Bool) → (if t then Some k else found (numbered (suc k) bs) n) ≡ None → (found (numbered (suc k) bs) n ≡ None → place bs n ≡ length bs) → (if t then zero else suc (place bs n)) ≡ suc (length bs)
    step true d again = absurd (cc d)
    step false d again = ap suc (again d)
