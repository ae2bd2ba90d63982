-- Edges from the blocks that are left.
use Rattle.std.proofs.Common.{◌≡◌, ℕ, zero, suc, ◌+◌, nat_eq, Bool, true, false, List, [], ◌∷◌, ◌++◌, length, Option, Some, None, refl, sym, ◌∙◌, ap, arith, if◌then◌else◌, length-append}
use Rattle.std.specs.Prelude.{slice_get}
use Rattle.std.proofs.lemmas.Bool.{eq-eqb, eqb-true}
use Rattle.ir_tree.specs.Flow.{leading, repeated, successors}
use Rattle.ir_tree.specs.Formed.{Distinct}
use Rattle.ir_tree.specs.declared.block.Block.{Block}
use Rattle.ir_meaning.proofs.Counting.{distinct_rest, not_again, number_at, numbers_in}
use Rattle.block_trim.specs.Working.{IsNumber, blocks_of, with_block}
use Rattle.block_trim.specs.declared.joining.Content.{Content}

-- ---- counts

-- the count after these numbers
abbrev pub counted : ℕ → List ℕ → ℕ → ℕ
counted n [] k = k
counted n (t ∷ ts) k = counted n ts (if nat_eq t n then suc k else k)

pub counted_is : (n p : ℕ) (ts : List ℕ) (k : ℕ) → counted n ts k ≡ k + length (repeated p n ts)
counted_is n p [] k = omega arith
counted_is n p (t ∷ ts) k = by (nat_eq t n) (λ m. counted_is n p ts m)
  where
    by : (b : Bool) → ((m : ℕ) → counted n ts m ≡ m + length (repeated p n ts)) → counted n ts (if b then suc k else k) ≡ k + length (if b then p ∷ repeated p n ts else repeated p n ts)
    by true h = let e : counted n ts (suc k) ≡ suc k + length (repeated p n ts) = h (suc k) in omega (arith, e)
    by false h = h k

-- ---- sums over blocks

abbrev pub weigh : (ℕ → ℕ) → List Block → ℕ
weigh w [] = 0
weigh w (b ∷ bs) = w b.number + weigh w bs

weigh_alike : (w v : ℕ → ℕ) (bs : List Block) → ((i : ℕ) (b : Block) → slice_get bs i ≡ Some b → w b.number ≡ v b.number) → weigh w bs ≡ weigh v bs
weigh_alike w v [] h = refl
weigh_alike w v (b ∷ bs) h =
    let first : w b.number ≡ v b.number = h 0 b refl in
    let rest : weigh w bs ≡ weigh v bs = weigh_alike w v bs (λ i c e. h (suc i) c e) in
    omega (arith, first, rest)

-- of blocks with a number each, one weighs another
pub weigh_changed : (w v : ℕ → ℕ) (x : ℕ) → ((m : ℕ) → nat_eq x m ≡ false → w m ≡ v m) → (bs : List Block) → Distinct (numbers_in bs) → IsNumber bs x → weigh w bs + v x ≡ weigh v bs + w x
weigh_changed w v x h [] d (b, at, number) = absurd cc
weigh_changed w v x h (b ∷ bs) d is = by (nat_eq x b.number) refl is (weigh_changed w v x h bs (distinct_rest b.number (numbers_in bs) d))
  where
    further : nat_eq x b.number ≡ false → IsNumber (b ∷ bs) x → IsNumber bs x
    further e (c, (zero, at), number) = let same : b ≡ c = cc at in let clash : true ≡ false = sym (eq-eqb x b.number (sym number ∙ ap (λ (y : Block). y.number) (sym same))) ∙ e in absurd (cc clash)
    further e (c, (suc i, at), number) = (c, (i, at), number)

    by : (t : Bool) → nat_eq x b.number ≡ t → IsNumber (b ∷ bs) x → (IsNumber bs x → weigh w bs + v x ≡ weigh v bs + w x) → (w b.number + weigh w bs) + v x ≡ (v b.number + weigh v bs) + w x
    by true e is more =
        let same : x ≡ b.number = eqb-true x b.number e in
        let rest : weigh w bs ≡ weigh v bs = weigh_alike w v bs (λ i c at. h c.number (ap (λ (y : ℕ). nat_eq y c.number) same ∙ not_again b.number (numbers_in bs) d i c.number (number_at bs i c at))) in
        let one : w x ≡ w b.number = ap w same in
        let other : v x ≡ v b.number = ap v same in
        omega (arith, rest, one, other)
    by false e is more =
        let rest : weigh w bs + v x ≡ weigh v bs + w x = more (further e is) in
        let here : w b.number ≡ v b.number = h b.number e in
        omega (arith, rest, here)

-- ---- edges from what is left

abbrev pub out_of : ℕ → Option Content → ℕ
out_of n None = 0
out_of n (Some c) = counted n (successors c.end) 0

pub leading_left : (name : ℕ → ℕ) (contents : ℕ → Option Content) (n p : ℕ) (bs : List Block) → length (leading n p (blocks_of name contents bs)) ≡ weigh (λ m. out_of n (contents m)) bs
leading_left name contents n p [] = refl
leading_left name contents n p (b ∷ bs) = by (contents b.number) (λ q. leading_left name contents n q bs)
  where
    by : (o : Option Content) → ((q : ℕ) → length (leading n q (blocks_of name contents bs)) ≡ weigh (λ m. out_of n (contents m)) bs)
        → length (leading n p (with_block name b o (blocks_of name contents bs))) ≡ out_of n o + weigh (λ m. out_of n (contents m)) bs
    by None h = let e : length (leading n p (blocks_of name contents bs)) ≡ weigh (λ m. out_of n (contents m)) bs = h p in omega (arith, e)
    by (Some c) h =
        let rest : length (leading n (suc p) (blocks_of name contents bs)) ≡ weigh (λ m. out_of n (contents m)) bs = h (suc p) in
        let first : counted n (successors c.end) 0 ≡ 0 + length (repeated p n (successors c.end)) = counted_is n p (successors c.end) 0 in
        let both : length (repeated p n (successors c.end) ++ leading n (suc p) (blocks_of name contents bs)) ≡ length (repeated p n (successors c.end)) + length (leading n (suc p) (blocks_of name contents bs)) =
        length-append (repeated p n (successors c.end)) (leading n (suc p) (blocks_of name contents bs)) in
        omega (arith, rest, first, both)
