-- In the promoted function each local and block has its own number.
use Rattle.std.proofs.Common.{◌≡◌, ℕ, zero, suc, ◌+◌, ◌≤◌, ◌<◌, nat_eq, Bool, true, false, List, [], ◌∷◌, ◌++◌, length, map, Some, None, refl, ap, subst, arith, if◌then◌else◌}
use Rattle.std.specs.Prelude.{flat_map}
use Rattle.std.proofs.lemmas.Bool.{eqb-true}
use Rattle.ir_tree.specs.Flow.{definitions, edges, holds, locals, parameters, phi_locals, results}
use Rattle.ir_tree.specs.Formed.{Distinct, Formed, numbers}
use Rattle.ir_tree.specs.declared.block.Block.{Block}
use Rattle.ir_tree.specs.declared.function.Function.{Function}
use Rattle.ir_tree.specs.declared.instr.Phi.{Phi}
use Rattle.ir_edit.proofs.Tally.{distinct_by, tally, tally_both, tally_once}
use Rattle.slot_promote.specs.Promoted.{End, end_at, first_at, free, new_phis, next_number, phis_from, promoted_with, takes}
use Rattle.slot_promote.specs.Values.{at_start, placed}
use Rattle.promotable_slots.specs.declared.slots.Slot.{Slot}
use Rattle.slot_promote.proofs.Edges.{has_room}
use Rattle.slot_promote.proofs.Lines.{phis_tally, results_less}
use Rattle.slot_promote.proofs.Shapes.{numbers_stay, promoted_at, promoted_from}
use Rattle.slot_promote.proofs.Slotted.{tally_holds}

-- ---- the numbers of new phis

record Range (z : ℕ) (count low high : ℕ) : Type 0 where
  most : count ≤ 1
  inside : 1 ≤ count → (low ≤ z) × (z < high)

empty : (z low high : ℕ) → Range z 0 low high
empty z low high = record { most = omega arith; inside = λ h. absurd (omega (arith, h)) }

-- of two ranges, one behind the other
joined : (z a b low middle high : ℕ) → low ≤ middle → middle ≤ high → Range z a low middle → Range z b middle high → Range z (a + b) low high
joined z a b low middle high first second r s = by a b r s
  where
    by : (a b : ℕ) → Range z a low middle → Range z b middle high → Range z (a + b) low high
    by zero b r s = record {
      most = let m : b ≤ 1 = s.most in omega (arith, m);
      inside = λ h. let i : (middle ≤ z) × (z < high) = s.inside (omega (arith, h)) in (omega (arith, i.0, first), i.1);
    }
    by (suc a) zero r s = record {
      most = let m : suc a ≤ 1 = r.most in omega (arith, m);
      inside = λ h. let i : (low ≤ z) × (z < middle) = r.inside (omega arith) in (i.0, omega (arith, i.1, second));
    }
    by (suc a) (suc b) r s =
        let i : (low ≤ z) × (z < middle) = r.inside (omega arith) in
        let j : (middle ≤ z) × (z < high) = s.inside (omega arith) in
        absurd (omega (arith, i.1, j.0))

same_range : (z a b low high : ℕ) → a ≡ b → Range z a low high → Range z b low high
same_range z a b low high e r = subst (λ (k : ℕ). Range z k low high) e r

phis_range : (z : ℕ) (ends : ℕ → End) (from : List ℕ) (k : ℕ) (ss : List Slot) → Range z (tally z (map (λ p. p.local) (phis_from ends from k ss))) k (k + length ss)
phis_range z ends from k [] = empty z k (k + 0)
phis_range z ends from k (s ∷ ss) =
    joined z (if nat_eq z k then 1 else 0) (tally z (map (λ p. p.local) (phis_from ends from (suc k) ss))) k (suc k) (k + suc (length ss)) (omega arith) (omega arith) (one (nat_eq z k) refl)
    (subst (λ (h : ℕ). Range z (tally z (map (λ p. p.local) (phis_from ends from (suc k) ss))) (suc k) h) (omega arith) (phis_range z ends from (suc k) ss))
  where
    one : (t : Bool) → nat_eq z k ≡ t → Range z (if t then 1 else 0) k (suc k)
    one true e = let same : z ≡ k = eqb-true z k e in record { most = omega arith; inside = λ h. (omega (arith, same), omega (arith, same)) }
    one false e = empty z k (suc k)

module _ (f : Function) (ss : List Slot) (n : ℕ) where
  next_grows : (p : ℕ) → free (edges f) (length ss) n p ≤ free (edges f) (length ss) n (suc p)
  next_grows p = by (takes p (edges f p))
    where
      by : (t : Bool) → free (edges f) (length ss) n p ≤ (if t then free (edges f) (length ss) n p + length ss else free (edges f) (length ss) n p)
      by true = omega arith
      by false = omega arith

  abbrev pub news : ℕ → List Phi
  news p = new_phis (end_at f ss n) (edges f p) (first_at f ss n p) ss

  news_range : (z p : ℕ) → Range z (tally z (map (λ x. x.local) (news p))) (free (edges f) (length ss) n p) (free (edges f) (length ss) n (suc p))
  news_range z p = by (takes p (edges f p))
    where
      by : (t : Bool) → Range z (tally z (map (λ x. x.local) (new_phis (end_at f ss n) (edges f p) (if t then Some (free (edges f) (length ss) n p) else None) ss))) (free (edges f) (length ss) n p) (if t then free (edges f) (length ss) n p + length ss else free (edges f) (length ss) n p)
      by true = phis_range z (end_at f ss n) (edges f p) (free (edges f) (length ss) n p) ss
      by false = empty z (free (edges f) (length ss) n p) (free (edges f) (length ss) n p)

  -- how often new phis of these blocks have the number
  abbrev all_news : ℕ → ℕ → List Block → ℕ
  all_news z s [] = 0
  all_news z s (b ∷ bs) = tally z (map (λ x. x.local) (news s)) + all_news z (suc s) bs

  abbrev upto : ℕ → List Block → ℕ
  upto s [] = s
  upto s (b ∷ bs) = upto (suc s) bs

  upto_grows : (s : ℕ) (bs : List Block) → free (edges f) (length ss) n s ≤ free (edges f) (length ss) n (upto s bs)
  upto_grows s [] = omega arith
  upto_grows s (b ∷ bs) = let a : free (edges f) (length ss) n s ≤ free (edges f) (length ss) n (suc s) = next_grows s in let b : free (edges f) (length ss) n (suc s) ≤ free (edges f) (length ss) n (upto (suc s) bs) = upto_grows (suc s) bs in omega (arith, a, b)

  all_range : (z s : ℕ) (bs : List Block) → Range z (all_news z s bs) (free (edges f) (length ss) n s) (free (edges f) (length ss) n (upto s bs))
  all_range z s [] = empty z (free (edges f) (length ss) n s) (free (edges f) (length ss) n s)
  all_range z s (b ∷ bs) =
      joined z (tally z (map (λ x. x.local) (news s))) (all_news z (suc s) bs) (free (edges f) (length ss) n s) (free (edges f) (length ss) n (suc s)) (free (edges f) (length ss) n (upto (suc s) bs))
      (next_grows s) (upto_grows (suc s) bs) (news_range z s) (all_range z (suc s) bs)

  blocks_less : (z s : ℕ) (bs : List Block) → tally z (flat_map definitions (promoted_from f ss n s bs)) ≤ all_news z s bs + tally z (flat_map definitions bs)
  blocks_less z s [] = omega arith
  blocks_less z s (b ∷ bs) =
      let parts : tally z (definitions (promoted_at f ss n s b) ++ flat_map definitions (promoted_from f ss n (suc s) bs)) ≡ tally z (definitions (promoted_at f ss n s b)) + tally z (flat_map definitions (promoted_from f ss n (suc s) bs)) =
      tally_both z (definitions (promoted_at f ss n s b)) (flat_map definitions (promoted_from f ss n (suc s) bs)) in
      let olds : tally z (definitions b ++ flat_map definitions bs) ≡ tally z (definitions b) + tally z (flat_map definitions bs) = tally_both z (definitions b) (flat_map definitions bs) in
      let here : tally z (definitions (promoted_at f ss n s b)) ≡ tally z (phi_locals (promoted_at f ss n s b)) + tally z (results (promoted_at f ss n s b).lines) = tally_both z (phi_locals (promoted_at f ss n s b)) (results (promoted_at f ss n s b).lines) in
      let phis : tally z (phi_locals (promoted_at f ss n s b)) ≡ tally z (map (λ x. x.local) (news s)) + tally z (phi_locals b) = phis_tally z (news s) b.phis in
      let before : tally z (definitions b) ≡ tally z (phi_locals b) + tally z (results b.lines) = tally_both z (phi_locals b) (results b.lines) in
      let less : tally z (results (promoted_at f ss n s b).lines) ≤ tally z (results b.lines) = results_less (placed 0 ss) z (at_start (placed 0 ss) (first_at f ss n s)) b.lines in
      let more : tally z (flat_map definitions (promoted_from f ss n (suc s) bs)) ≤ all_news z (suc s) bs + tally z (flat_map definitions bs) = blocks_less z (suc s) bs in
      omega (arith, parts, olds, here, phis, before, less, more)

  pub once_stays : Formed f → next_number f ≤ n → Distinct (locals (promoted_with f ss n) ++ numbers (promoted_with f ss n))
  once_stays formed above = distinct_by (locals (promoted_with f ss n) ++ numbers (promoted_with f ss n)) once
    where
      once : (z : ℕ) → tally z (locals (promoted_with f ss n) ++ numbers (promoted_with f ss n)) ≤ 1
      once z =
          let new : tally z (locals (promoted_with f ss n) ++ numbers (promoted_with f ss n)) ≡ tally z (locals (promoted_with f ss n)) + tally z (numbers (promoted_with f ss n)) = tally_both z (locals (promoted_with f ss n)) (numbers (promoted_with f ss n)) in
          let same : tally z (numbers (promoted_with f ss n)) ≡ tally z (numbers f) = ap (tally z) (numbers_stay f ss n) in
          let parts : tally z (locals (promoted_with f ss n)) ≡ tally z (parameters f) + tally z (flat_map definitions (promoted_from f ss n 0 f.blocks)) = tally_both z (parameters f) (flat_map definitions (promoted_from f ss n 0 f.blocks)) in
          let less : tally z (flat_map definitions (promoted_from f ss n 0 f.blocks)) ≤ all_news z 0 f.blocks + tally z (flat_map definitions f.blocks) = blocks_less z 0 f.blocks in
          let olds : tally z (locals f ++ numbers f) ≡ tally z (locals f) + tally z (numbers f) = tally_both z (locals f) (numbers f) in
          let old_parts : tally z (locals f) ≡ tally z (parameters f) + tally z (flat_map definitions f.blocks) = tally_both z (parameters f) (flat_map definitions f.blocks) in
          let most : tally z (locals f ++ numbers f) ≤ 1 = tally_once z (locals f ++ numbers f) formed.once in
          let all : tally z (locals (promoted_with f ss n) ++ numbers (promoted_with f ss n)) ≤ all_news z 0 f.blocks + tally z (locals f ++ numbers f) = omega (arith, new, same, parts, less, olds, old_parts) in
          few (tally z (locals f ++ numbers f)) refl (all_news z 0 f.blocks) all most (all_range z 0 f.blocks)
        where
          few : (old : ℕ) → tally z (locals f ++ numbers f) ≡ old → (fresh : ℕ) → tally z (locals (promoted_with f ss n) ++ numbers (promoted_with f ss n)) ≤ fresh + old → old ≤ 1 → Range z fresh n (free (edges f) (length ss) n (upto 0 f.blocks))
              → tally z (locals (promoted_with f ss n) ++ numbers (promoted_with f ss n)) ≤ 1
          few old is zero all most r = omega (arith, all, most)
          few zero is (suc fresh) all most r = let m : suc fresh ≤ 1 = r.most in omega (arith, all, m)
          few (suc old) is (suc fresh) all most r =
              let i : (n ≤ z) × (z < free (edges f) (length ss) n (upto 0 f.blocks)) = r.inside (omega arith) in
              let held : holds (locals f ++ numbers f) z ≡ true = tally_holds z (locals f ++ numbers f) (omega (arith, is)) in
              let lt : z < next_number f = has_room (locals f ++ numbers f) z held in
              absurd (omega (arith, i.0, lt, above))
