-- A function without a decided terminator stays.
use Rattle.std.proofs.Common.{◌≡◌, ℕ, Bool, true, not, List, [], ◌∷◌, ◌++◌, Option, Some, None, map, refl, sym, ◌∙◌, ap, arith, if◌then◌else◌}
use Rattle.std.specs.Prelude.{is_some}
use Rattle.std.proofs.lemmas.Bool.{and_parts, le-leb}
use Rattle.ir_tree.specs.Flow.{repeated, successors}
use Rattle.ir_tree.specs.declared.block.Block.{Block}
use Rattle.ir_tree.specs.declared.function.Function.{Function}
use Rattle.ir_tree.specs.declared.instr.Incoming.{Incoming}
use Rattle.ir_tree.specs.declared.instr.Phi.{Phi}
use Rattle.ir_meaning.specs.Counted.{sources, times}
use Rattle.branch_simplify.specs.Decided.{all_but_one, decided, jump_or}
use Rattle.branch_simplify.specs.Simplified.{entries_left, lost_into, phi_left, simplified, simplified_block}
use Rattle.branch_simplify.specs.Staying.{ends_stay}

entries_same : (es : List Incoming) → entries_left (λ n. 0) es ≡ es
entries_same [] = refl
entries_same (e ∷ es) =
    ap (λ (b : Bool). if b then e ∷ entries_left (λ n. 0) es else entries_left (λ n. 0) es) (le-leb 0 (times e.from (sources es)) (omega arith)) ∙ ap (λ (l : List Incoming). e ∷ l) (entries_same es)

phis_same : (ps : List Phi) → map (phi_left (λ n. 0)) ps ≡ ps
phis_same [] = refl
phis_same (p ∷ ps) = λ i. record p { incoming = entries_same p.incoming i } ∷ phis_same ps i

undecided : (o : Option ℕ) → not (is_some o) ≡ true → o ≡ None
undecided None h = refl
undecided (Some n) h = absurd cc

none_lost : (bs : List Block) (m : ℕ) → ends_stay bs ≡ true → lost_into m bs ≡ []
none_lost [] m h = refl
none_lost (b ∷ bs) m h = by (and_parts (not (is_some (decided b.end))) (ends_stay bs) h) (none_lost bs m)
  where
    by : (not (is_some (decided b.end)) ≡ true) × (ends_stay bs ≡ true) → (ends_stay bs ≡ true → lost_into m bs ≡ []) → lost_into m (b ∷ bs) ≡ []
    by (stays, rest) more = λ i. repeated b.number m (all_but_one (undecided (decided b.end) stays i) (successors b.end)) ++ more rest i

block_same : (b : Block) → not (is_some (decided b.end)) ≡ true → simplified_block (λ m. []) b ≡ b
block_same b h = λ i. record b { phis = phis_same b.phis i; end = jump_or (undecided (decided b.end) h i) b.end }

blocks_same : (bs : List Block) → ends_stay bs ≡ true → map (simplified_block (λ m. [])) bs ≡ bs
blocks_same [] h = refl
blocks_same (b ∷ bs) h = by (and_parts (not (is_some (decided b.end))) (ends_stay bs) h) (blocks_same bs)
  where
    by : (not (is_some (decided b.end)) ≡ true) × (ends_stay bs ≡ true) → (ends_stay bs ≡ true → map (simplified_block (λ m. [])) bs ≡ bs) → map (simplified_block (λ m. [])) (b ∷ bs) ≡ b ∷ bs
    by (stays, rest) more = λ i. block_same b stays i ∷ more rest i

pub none_decided : (f : Function) → ends_stay f.blocks ≡ true → f ≡ simplified f
none_decided f h =
    sym (ap (λ (bs : List Block). record f { blocks = bs }) (ap (λ (lost : ℕ → List ℕ). map (simplified_block lost) f.blocks) (λ i. λ m. none_lost f.blocks m h i) ∙ blocks_same f.blocks h))
