-- The least closed set meets the condition under which dead code may go, and there is one such set.
use Rattle.std.proofs.Common.{◌≡◌, ℕ, ◌+◌, ◌≤◌, Bool, true, false, List, [], ◌∷◌, refl, sym, ◌∙◌, ap, subst, arith}
use Rattle.ir_tree.specs.declared.block.Block.{Block}
use Rattle.ir_tree.specs.declared.function.Function.{Function}
use Rattle.ir_meaning.specs.Near.{BetterThan}
use Rattle.ir_meaning.specs.Needed.{BlocksClosed, needed}
use Rattle.ir_meaning.proofs.Unneeded.Dropped.{needed_is_better}
use Rattle.dead_code.specs.Laws.{NeededIsBetter, NeededIsOne, longest}
use Rattle.dead_code.specs.Least.{AreBlocksClosed, IsLeastClosed}

blocks_closed : (keeps : ℕ → Bool) (k : ℕ) (bs : List Block) → longest bs ≤ k → AreBlocksClosed keeps bs → BlocksClosed keeps k bs
blocks_closed keeps k [] le h = tt
blocks_closed keeps k (b ∷ bs) le h =
    (record { phis = h.0.0; lines = h.0.1.0; end = h.0.1.1; short = omega (arith, le) }, blocks_closed keeps k bs (omega (arith, le)) h.1)

pub is_better : NeededIsBetter
is_better f g (keeps, least, is) p formed =
    subst (λ (h : Function). BetterThan p (longest f.blocks + 1) h f) (sym is)
    (needed_is_better p formed keeps (longest f.blocks) f (blocks_closed keeps (longest f.blocks) f.blocks (omega arith) least.closed))

same_test : (b c : Bool) → (b ≡ true → c ≡ true) → (c ≡ true → b ≡ true) → b ≡ c
same_test true c h g = sym (h refl)
same_test false true h g = g refl
same_test false false h g = refl

one_set : (keeps others : ℕ → Bool) (f : Function) → IsLeastClosed keeps f → IsLeastClosed others f → keeps ≡ others
one_set keeps others f a b = λ i. λ x. same_test (keeps x) (others x) (a.least others b.closed x) (b.least keeps a.closed x) i

pub is_one : NeededIsOne
is_one f g h (keeps, a, g_is) (others, b, h_is) = g_is ∙ ap (λ (s : ℕ → Bool). needed s f) (one_set keeps others f a b) ∙ sym h_is
