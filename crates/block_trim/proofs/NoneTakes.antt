-- A function none of whose blocks takes another one stays.
use Rattle.std.proofs.Common.{◌≡◌, ℕ, zero, suc, nat_eq, Bool, true, false, not, List, [], ◌∷◌, length, Some, None, refl, sym, ◌∙◌, ap, if◌then◌else◌}
use Rattle.std.specs.Prelude.{◌&&◌, is_some, slice_get}
use Rattle.std.proofs.lemmas.Bool.{and_from, and_parts, eq-eqb, ne_eqb}
use Rattle.ir_tree.specs.Flow.{leading}
use Rattle.ir_tree.specs.declared.block.Block.{Block}
use Rattle.ir_tree.specs.declared.block.Terminator.{Terminator}
use Rattle.ir_tree.specs.declared.function.Function.{Function}
use Rattle.block_trim.specs.Merged.{CanJoin, IsMergeOf, IsOneOf, behind_entry}
use Rattle.block_trim.specs.Unjoined.{all_stay, takes}
use Rattle.block_trim.specs.Working.{has_one_edge, may_go, target_if}
use Rattle.block_trim.proofs.Left.{may}

-- each of these blocks stays
each_stays : (goes : ℕ → Bool) (bs : List Block) (b : Block) → all_stay goes bs ≡ true → IsOneOf bs b → takes goes b ≡ false
each_stays goes [] b h (i, at) = absurd cc
each_stays goes (x ∷ bs) b h (i, at) = by i (and_parts (not (takes goes x)) (all_stay goes bs) h) at (λ rest k later. each_stays goes bs b rest (k, later))
  where
    no : (t : Bool) → not t ≡ true → t ≡ false
    no true e = absurd cc
    no false e = refl

    by : (i : ℕ) → (not (takes goes x) ≡ true) × (all_stay goes bs ≡ true) → slice_get (x ∷ bs) i ≡ Some b → (all_stay goes bs ≡ true → (k : ℕ) → slice_get bs k ≡ Some b → takes goes b ≡ false) → takes goes b ≡ false
    by zero (stays, rest) at more = let same : x ≡ b = cc at in ap (takes goes) (sym same) ∙ no (takes goes x) stays
    by (suc i) (stays, rest) at more = more rest i at

module _ (f : Function) (goes : ℕ → Bool) (are : (n : ℕ) → goes n ≡ may_go (has_one_edge f.blocks) (behind_entry f.blocks) n) where
  -- a block that can take another one takes it
  taken : (a y : Block) → CanJoin f a y → takes goes a ≡ true
  taken a y can =
      ap (λ (t : Terminator). is_some (target_if (λ n. not (nat_eq n a.number) && goes n) t)) can.jumps
      ∙ ap (λ (b : Bool). is_some (if b then Some y.number else None))
      (and_from (not (nat_eq y.number a.number)) (goes y.number) (ap not (ne_eqb y.number a.number can.other))
      (are y.number ∙ may (has_one_edge f.blocks) (behind_entry f.blocks) y can.second can.no_phis (eq-eqb (length (leading y.number 0 f.blocks)) 1 can.only)))

  pub none_takes : all_stay goes f.blocks ≡ true → IsMergeOf f f
  none_takes h = (0, refl, λ a y can. absurd (cc (sym (taken a y can) ∙ each_stays goes f.blocks a h can.first)))
