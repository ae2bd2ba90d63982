-- In a sound function a phi has as many entries of a block as edges lead from it.
use Rattle.std.proofs.Common.{◌≡◌, ℕ, zero, suc, ◌+◌, nat_eq, Bool, true, false, List, [], ◌∷◌, ◌++◌, Some, map, refl, sym, ◌∙◌, ap, subst, arith}
use Rattle.std.specs.Prelude.{All, count_by, slice_get}
use Rattle.std.proofs.lemmas.Bool.{eqb-true, eqb-false, eq-eqb, ne_eqb}
use Rattle.std.proofs.lemmas.List.Elements.{All-cons, All-head, All-nil, All-tail}
use Rattle.std.proofs.lemmas.List.Recursion.{is_count_by}
use Rattle.ir_tree.specs.Flow.{edges, locals, successors}
use Rattle.ir_tree.specs.Formed.{Distinct, Formed, numbers}
use Rattle.ir_tree.specs.Items.{Item, phi_item, end_item, block_items, items_from, lines_from}
use Rattle.ir_tree.specs.Rules.{Keeps, OnEdges, Sound, place}
use Rattle.ir_tree.specs.declared.block.Block.{Block}
use Rattle.ir_tree.specs.declared.function.Function.{Function}
use Rattle.ir_tree.specs.declared.instr.Incoming.{Incoming}
use Rattle.ir_tree.specs.declared.instr.Phi.{Phi}
use Rattle.ir_tree.specs.declared.rule.Rule.TheVariants.{PhiEdges}
use Rattle.ir_meaning.specs.Counted.{sources, times}
use Rattle.ir_meaning.specs.EdgeCounts.{EntriesAreEdges}
use Rattle.ir_meaning.proofs.Counting.{edges_from, number_is, numbers_in, one_more, out_to, place_is, times_is}
use Rattle.ir_meaning.proofs.Everywhere.{all_back, all_front}

-- the entries of a block, counted
pub sources_count : (n : ℕ) (es : List Incoming) → times n (sources es) ≡ count_by (λ e. nat_eq e.from n) es
sources_count n es = is_count_by (λ es. times n (sources es)) (λ e. nat_eq e.from n) refl (λ x xs. one_more (nat_eq x.from n) (times n (sources xs))) es

pub distinct_back : (xs ys : List ℕ) → Distinct (xs ++ ys) → Distinct ys
distinct_back [] ys d = d
distinct_back (x ∷ xs) ys d = distinct_back xs ys (λ i j y e g. let h : suc i ≡ suc j = d (suc i) (suc j) y e g in omega (arith, h))

-- each block of a formed function has its own number
pub apart : (f : Function) → Formed f → Distinct (numbers_in f.blocks)
apart f h = distinct_back (locals f) (numbers f) h.once

module _ (f : Function) (d : Distinct (numbers_in f.blocks)) where
  -- an entry is of the block at a place exactly where it names that block
  named : (i : ℕ) (from : Block) → slice_get f.blocks i ≡ Some from → (n : ℕ) → nat_eq (place f.blocks n) i ≡ nat_eq n from.number
  named i from found n = by (nat_eq (place f.blocks n) i) refl
    where
      by : (b : Bool) → nat_eq (place f.blocks n) i ≡ b → b ≡ nat_eq n from.number
      by true e = sym (eq-eqb n from.number (sym (number_is f.blocks n i from (eqb-true (place f.blocks n) i e) found)))
      by false e = sym (ne_eqb n from.number (λ s. eqb-false (place f.blocks n) i e (ap (place f.blocks) s ∙ place_is f.blocks d i from found)))

  -- the entries of a phi are counted by the places or by the numbers of their blocks
  pub by_number : (i : ℕ) (from : Block) → slice_get f.blocks i ≡ Some from → (es : List Incoming) → count_by (λ e. nat_eq (place f.blocks e.from) i) es ≡ times from.number (sources es)
  by_number i from found es = (λ j. count_by (λ e. named i from found e.from j) es) ∙ sym (sources_count from.number es)

  -- as many entries of a block as it has edges to the phi's
  pub entries_of : (b : ℕ) (block : Block) → slice_get f.blocks b ≡ Some block → (i : ℕ) (from : Block) → slice_get f.blocks i ≡ Some from
      → (es : List Incoming) → OnEdges f b es → times from.number (sources es) ≡ times block.number (successors from.end)
  entries_of b block at_b i from at_i es h =
      sym (by_number i from at_i es) ∙ h.each i ∙ sym (times_is i (edges f b)) ∙ edges_from f b block at_b i ∙ ap (out_to block.number) at_i

-- ---- the phis of a block at a place

phis_of : (P : Item → Type 0) (b s : ℕ) (bs : List Block) (block : Block) → slice_get bs b ≡ Some block → All P (items_from s bs) → All P (map (phi_item (s + b)) block.phis)
phis_of P b s [] block found h = absurd cc
phis_of P zero s (x ∷ bs) block found h =
    let same : x ≡ block = cc found in
    let front : All P (block_items s x) = all_front P (block_items s x) (items_from (suc s) bs) h in
    let phis : All P (map (phi_item s) x.phis) = all_front P (map (phi_item s) x.phis) (lines_from s 0 x.lines ++ end_item s x.end ∷ []) front in
    subst (λ (n : ℕ). All P (map (phi_item n) block.phis)) (omega arith) (subst (λ (y : Block). All P (map (phi_item s) y.phis)) same phis)
phis_of P (suc b) s (x ∷ bs) block found h =
    let rest : All P (items_from (suc s) bs) = all_back P (block_items s x) (items_from (suc s) bs) h in
    subst (λ (n : ℕ). All P (map (phi_item n) block.phis)) (omega arith) (phis_of P b (suc s) bs block found rest)

pub phis_on_edges : (f : Function) → Sound f → (b : ℕ) (block : Block) → slice_get f.blocks b ≡ Some block → All (Keeps f PhiEdges) (map (phi_item b) block.phis)
phis_on_edges f h b block found = subst (λ (n : ℕ). All (Keeps f PhiEdges) (map (phi_item n) block.phis)) (omega arith) (phis_of (Keeps f PhiEdges) b 0 f.blocks block found (h.rules PhiEdges))

pub entries_counted : EntriesAreEdges
entries_counted f sound b i block from at_b at_i = by block.phis (phis_on_edges f sound b block at_b)
  where
    by : (ps : List Phi) → All (Keeps f PhiEdges) (map (phi_item b) ps) → All (λ p. times from.number (sources p.incoming) ≡ times block.number (successors from.end)) ps
    by [] h = All-nil (λ p. times from.number (sources p.incoming) ≡ times block.number (successors from.end))
    by (p ∷ ps) h =
        let edges : OnEdges f b p.incoming = All-head (Keeps f PhiEdges) (phi_item b p) (map (phi_item b) ps) h in
        All-cons (λ p. times from.number (sources p.incoming) ≡ times block.number (successors from.end)) p ps
        (entries_of f (apart f sound.formed) b block at_b i from at_i p.incoming edges) (by ps (All-tail (Keeps f PhiEdges) (phi_item b p) (map (phi_item b) ps) h))
