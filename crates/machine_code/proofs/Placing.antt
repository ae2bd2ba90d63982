-- Positions of blocks, as one more is noted in front of those that are.
use Rattle.std.proofs.Common.{◌≡◌, ℕ, zero, suc, ◌+◌, ◌<◌, ◌≤◌, Bool, true, false, nat_eq, cond, if◌then◌else◌, List, [], ◌∷◌, drop, length, get_or, Option, Some, None, refl, sym, ap, ◌∙◌, arith}
use Rattle.std.proofs.Math.Seq.{drop-cons}
use Rattle.std.specs.Option.{unwrap_or}
use Rattle.ir_tree.specs.declared.block.Block.{Block}
use Rattle.ir_interp.specs.Code.{position}

-- where nothing is noted, each number is behind all blocks
pub none_placed : (blocks : List Block) (at : ℕ → Option ℕ) (k : ℕ) → ((n : ℕ) → at n ≡ None) → k ≡ length blocks → (n : ℕ) → unwrap_or (at n) (length blocks) ≡ k + position (drop k blocks) n
none_placed blocks at k h e n =
    ap (λ (o : Option ℕ). unwrap_or o (length blocks)) (h n) ∙ sym e ∙ plus k (position (drop k blocks) n) (ap (λ (bs : List Block). position bs n) (none blocks k (omega (arith, e)))) where
      none : (bs : List Block) (j : ℕ) → length bs ≤ j → drop j bs ≡ []
      none [] zero l = refl
      none [] (suc j) l = refl
      none (b ∷ bs) zero l = absurd (omega (arith, l))
      none (b ∷ bs) (suc j) l = none bs j (omega (arith, l))

      plus : (a b : ℕ) → b ≡ 0 → a ≡ a + b
      plus a b f = omega (arith, f)

-- one more, in front
pub one_placed : (blocks : List Block) (at later : ℕ → Option ℕ) (k : ℕ) (b : Block) (x : ℕ) → k < length blocks → b ≡ get_or blocks k b → x ≡ b.number →
    ((n : ℕ) → later n ≡ cond (nat_eq x n) (Some k) (at n)) → ((n : ℕ) → unwrap_or (at n) (length blocks) ≡ (k + 1) + position (drop (k + 1) blocks) n) →
    (n : ℕ) → unwrap_or (later n) (length blocks) ≡ k + position (drop k blocks) n
one_placed blocks at later k b x l e f more before n =
    ap (λ (o : Option ℕ). unwrap_or o (length blocks)) (more n ∙ ap (λ (y : ℕ). cond (nat_eq y n) (Some k) (at n)) f) ∙ by (nat_eq b.number n) ∙ sym (ap (λ (bs : List Block). k + position bs n) left) where
      left : drop k blocks ≡ b ∷ drop (suc k) blocks
      left = drop-cons blocks k b l ∙ ap (λ (c : Block). c ∷ drop (suc k) blocks) (sym e)

      one : suc k ≡ k + 1
      one = omega arith

      by : (v : Bool) → unwrap_or (cond v (Some k) (at n)) (length blocks) ≡ k + (if v then 0 else suc (position (drop (suc k) blocks) n))
      by true = omega arith
      by false =
          let rest = before n in
          let same : position (drop (k + 1) blocks) n ≡ position (drop (suc k) blocks) n = ap (λ (j : ℕ). position (drop j blocks) n) (sym one) in
          omega (arith, rest, same)

pub all_placed : (blocks : List Block) (at : ℕ → Option ℕ) (k count : ℕ) → k ≡ 0 → count ≡ length blocks → ((n : ℕ) → unwrap_or (at n) (length blocks) ≡ k + position (drop k blocks) n) →
    (n : ℕ) → unwrap_or (at n) count ≡ position blocks n
all_placed blocks at k count e f h n =
    ap (λ (d : ℕ). unwrap_or (at n) d) f ∙ h n ∙ ap (λ (j : ℕ). j + position (drop j blocks) n) e ∙ zero_plus (position (drop 0 blocks) n) ∙ ap (λ (bs : List Block). position bs n) (none blocks) where
      zero_plus : (a : ℕ) → 0 + a ≡ a
      zero_plus a = omega arith

      none : (bs : List Block) → drop 0 bs ≡ bs
      none [] = refl
      none (b ∷ bs) = refl
