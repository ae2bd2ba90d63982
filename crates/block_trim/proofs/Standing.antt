-- Blocks that stand at a place of a set.
use Rattle.std.proofs.Common.{◌≡◌, ◌↔◌, ℕ, zero, suc, ◌+◌, nat_eq, ◌&&◌, ◌||◌, ◌⊎◌, inl, inr, Bool, true, false, List, [], ◌∷◌, ◌<◌, Some, length, get_or, drop, refl, sym, ◌∙◌, ap, subst, arith}
use Rattle.std.specs.Prelude.{IsTrue, slice_get}
use Rattle.std.proofs.lemmas.Bool.{and_from, and_parts, eqb-true, eq-eqb, or_cases, or_left, or_right}
use Rattle.std.proofs.lemmas.List.{drop_more}
use Rattle.ir_tree.specs.Flow.{Reachable}
use Rattle.ir_tree.specs.declared.block.Block.{Block}
use Rattle.ir_tree.specs.declared.function.Function.{Function}
use Rattle.block_trim.specs.Places.{stands}
use Rattle.block_trim.specs.Trimmed.{AreReached, IsReached}

abbrev StandsAt : (ℕ → Bool) → ℕ → List Block → ℕ → Type 0
StandsAt places s bs n = (i : ℕ) × (b : Block) × (slice_get bs i ≡ Some b) × (b.number ≡ n) × (places (s + i) ≡ true)

stands_at : (places : ℕ → Bool) (s : ℕ) (bs : List Block) (n : ℕ) → stands places s bs n ≡ true → StandsAt places s bs n
stands_at places s [] n h = absurd cc
stands_at places s (b ∷ bs) n h = by (or_cases (nat_eq b.number n && places s) (stands places (s + 1) bs n) h) (stands_at places (s + 1) bs n)
  where
    first : (nat_eq b.number n ≡ true) × (places s ≡ true) → StandsAt places s (b ∷ bs) n
    first (number, there) = (0, b, refl, eqb-true b.number n number, subst (λ (k : ℕ). places k ≡ true) (omega arith) there)

    further : StandsAt places (s + 1) bs n → StandsAt places s (b ∷ bs) n
    further (i, a, at, number, there) = (suc i, a, at, number, subst (λ (k : ℕ). places k ≡ true) (omega arith) there)

    by : ((nat_eq b.number n && places s) ≡ true) ⊎ (stands places (s + 1) bs n ≡ true) → (stands places (s + 1) bs n ≡ true → StandsAt places (s + 1) bs n) → StandsAt places s (b ∷ bs) n
    by (inl e) more = first (and_parts (nat_eq b.number n) (places s) e)
    by (inr e) more = further (more e)

stands_there : (places : ℕ → Bool) (s : ℕ) (bs : List Block) (n i : ℕ) (b : Block) → slice_get bs i ≡ Some b → b.number ≡ n → places (s + i) ≡ true → stands places s bs n ≡ true
stands_there places s [] n i b e number there = absurd cc
stands_there places s (x ∷ bs) n zero b e number there =
    let same : x ≡ b = cc e in
    or_left (nat_eq x.number n && places s) (stands places (s + 1) bs n)
    (and_from (nat_eq x.number n) (places s) (eq-eqb x.number n (ap (λ (y : Block). y.number) same ∙ number)) (subst (λ (k : ℕ). places k ≡ true) (omega arith) there))
stands_there places s (x ∷ bs) n (suc i) b e number there =
    or_right (nat_eq x.number n && places s) (stands places (s + 1) bs n) (stands_there places (s + 1) bs n i b e number (subst (λ (k : ℕ). places k ≡ true) (omega arith) there))

-- the numbers of the blocks at the places that paths reach
pub reached_by_places : (f : Function) (places reached : ℕ → Bool) → ((b : ℕ) → IsTrue (places b) ↔ Reachable f b) → ((n : ℕ) → reached n ≡ stands places 0 f.blocks n) → AreReached f reached
reached_by_places f places reached paths is n = (to, from)
  where
    located : StandsAt places 0 f.blocks n → IsReached f n
    located (i, b, found, number, there) = (i, b, found, number, (paths i).0 (subst (λ (k : ℕ). places k ≡ true) (omega arith) there))

    to : reached n ≡ true → IsReached f n
    to h = located (stands_at places 0 f.blocks n (sym (is n) ∙ h))

    from : IsReached f n → reached n ≡ true
    from (i, b, found, number, path) = is n ∙ stands_there places 0 f.blocks n i b found number (subst (λ (k : ℕ). places k ≡ true) (omega arith) ((paths i).1 path))

either_first : (a b c : Bool) → ((a || b) || c) ≡ (a || (b || c))
either_first true b c = refl
either_first false b c = refl

-- one more place is looked at
pub one_place : (places : ℕ → Bool) (bs : List Block) (i n : ℕ) (d : Block) → i < length bs → (old new all : Bool) → new ≡ (old || (nat_eq (get_or bs i d).number n && places i))
    → (old || stands places i (drop i bs) n) ≡ all → (new || stands places (i + 1) (drop (i + 1) bs) n) ≡ all
one_place places bs i n d lt old new all is before =
    ap (λ (b : Bool). b || stands places (i + 1) (drop (i + 1) bs) n) is
    ∙ either_first old (nat_eq (get_or bs i d).number n && places i) (stands places (i + 1) (drop (i + 1) bs) n)
    ∙ ap (λ (l : List Block). old || stands places i l n) (sym (drop_more bs i d lt)) ∙ before
