-- Marks that are written one after another, and the numbers that they are.
use Rattle.std.proofs.Common.{◌≡◌, ℕ, suc, ◌+◌, ◌-◌, ◌*◌, ◌/◌, ◌%◌, ◌^◌, ◌<◌, ◌≤◌, List, [], ◌∷◌, ◌++◌, length, take, set, sym, ap, subst, ◌∙◌, append_assoc, add-one, arith}
use Rattle.std.proofs.lemmas.List.{take_more_set}
use Rattle.std.proofs.Math.ListN.{length-set}
use Rattle.std.proofs.lemmas.Nat.{pow-add}
use Rattle.std.proofs.Math.Pow.{pow_mono}
use Rattle.ir_machine.specs.Marks.{number_marks, part_marks}
use Rattle.ir_machine.specs.declared.mark.ByteMark.{ByteMark}
use Rattle.ir_machine.specs.declared.mark.ByteMark.TheVariants.{Part, Plain}

-- the next mark is written
pub written : (xs : List ByteMark) (i : ℕ) (m : ByteMark) (tail all : List ByteMark) → i < length xs → take i xs ++ (m ∷ tail) ≡ all →
    take (i + 1) (set xs i m) ++ tail ≡ all
written xs i m tail all h e =
    ap (λ (l : List ByteMark). l ++ tail) (take_more_set xs i m h) ∙ append_assoc (take i xs) (m ∷ []) tail ∙ e

pub number_next : (n k r : ℕ) → k ≡ suc n → number_marks k r ≡ Plain (r % 256) ∷ number_marks n (r / 256)
number_next n k r e = ap (λ (j : ℕ). number_marks j r) e

pub parts_next : (n k i : ℕ) → k ≡ suc n → part_marks k i ≡ Part i ∷ part_marks n (i + 1)
parts_next n k i e = ap (λ (j : ℕ). part_marks j i) e ∙ ap (λ (j : ℕ). Part i ∷ part_marks n j) (sym (add-one i))

pub number_written : (xs : List ByteMark) (i r : ℕ) (all : List ByteMark) → i < length xs → take i xs ++ number_marks (length xs - i) r ≡ all →
    take (i + 1) (set xs i (Plain (r % 256))) ++ number_marks (length (set xs i (Plain (r % 256))) - (i + 1)) (r / 256) ≡ all
number_written xs i r all h e =
    ap (λ (n : ℕ). take (i + 1) (set xs i (Plain (r % 256))) ++ number_marks (n - (i + 1)) (r / 256)) (length-set xs i (Plain (r % 256)))
    ∙ written xs i (Plain (r % 256)) (number_marks (length xs - (i + 1)) (r / 256)) all h
    (ap (λ (l : List ByteMark). take i xs ++ l) (sym (number_next (length xs - (i + 1)) (length xs - i) r (omega (arith, h)))) ∙ e)

pub parts_written : (xs : List ByteMark) (i : ℕ) (all : List ByteMark) → i < length xs → take i xs ++ part_marks (length xs - i) i ≡ all →
    take (i + 1) (set xs i (Part i)) ++ part_marks (length (set xs i (Part i)) - (i + 1)) (i + 1) ≡ all
parts_written xs i all h e =
    ap (λ (n : ℕ). take (i + 1) (set xs i (Part i)) ++ part_marks (n - (i + 1)) (i + 1)) (length-set xs i (Part i))
    ∙ written xs i (Part i) (part_marks (length xs - (i + 1)) (i + 1)) all h
    (ap (λ (l : List ByteMark). take i xs ++ l) (sym (parts_next (length xs - (i + 1)) (length xs - i) i (omega (arith, h)))) ∙ e)

-- a byte in front of a number
pub raised_below : (b h n : ℕ) → b < 256 → h < 2 ^ (8 * n) → b + 256 * h < 2 ^ (8 * (n + 1))
raised_below b h n small below =
    let e : 2 ^ (8 * (n + 1)) ≡ 2 ^ (8 * n) * 256 = ap (λ (k : ℕ). 2 ^ k) (omega arith) ∙ pow-add 2 (8 * n) 8 in
    subst (λ (x : ℕ). b + 256 * h < x) (sym e) (omega (arith, small, below))

pub eight_bytes : (n m : ℕ) → m ≤ 8 → n < 2 ^ (8 * m) → n < 2 ^ 64
eight_bytes n m few below = let most : 2 ^ (8 * m) ≤ 2 ^ 64 = pow_mono {j = 64} (omega (arith, few)) in omega (arith, below, most)
