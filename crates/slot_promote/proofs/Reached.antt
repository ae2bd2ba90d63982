-- Whether a path leads from the entry to a block is decided: by the closure of the edges over more and more blocks (Warshall 1962).
use Rattle.std.proofs.Common.{◌≡◌, ℕ, zero, suc, ◌<◌, nat_eq, Bool, true, false, ◌&&◌, ◌||◌, ◌⊎◌, inl, inr, List, [], ◌∷◌, length, refl, sym, ◌∙◌, subst, arith}
use Rattle.std.proofs.lemmas.Bool.{and_from as and_both, eq-eqb, eqb-true, or_cases, or_left, or_right}
use Rattle.ir_tree.specs.Flow.{Among, Reachable, edges, holds}
use Rattle.ir_tree.specs.declared.function.Function.{Function}
use Rattle.ir_flow.proofs.Reaching.{edge-from}
use Rattle.slot_promote.proofs.Tests.{among_holds, and_left, and_right, holds_among}

-- a path leads from a to b whose blocks between are below k
abbrev leads : (ℕ → List ℕ) → ℕ → ℕ → ℕ → Bool
leads edges zero a b = nat_eq a b || holds (edges b) a
leads edges (suc k) a b = leads edges k a b || (leads edges k a k && leads edges k k b)

abbrev Through : (ℕ → List ℕ) → ℕ → ℕ → ℕ → Type 0
Through e k a b = (leads e k a b ≡ true) ⊎ ((leads e k a k ≡ true) × (leads e k k b ≡ true))

through : (e : ℕ → List ℕ) (k a b : ℕ) → leads e (suc k) a b ≡ true → Through e k a b
through e k a b h = by (or_cases (leads e k a b) (leads e k a k && leads e k k b) h)
  where
    by : (leads e k a b ≡ true) ⊎ ((leads e k a k && leads e k k b) ≡ true) → Through e k a b
    by (inl g) = inl g
    by (inr g) = inr (and_left (leads e k a k) (leads e k k b) g, and_right (leads e k a k) (leads e k k b) g)

over : (e : ℕ → List ℕ) (k a b : ℕ) → leads e k a k ≡ true → leads e k k b ≡ true → leads e (suc k) a b ≡ true
over e k a b h g = or_right (leads e k a b) (leads e k a k && leads e k k b) (and_both (leads e k a k) (leads e k k b) h g)

further : (e : ℕ → List ℕ) (k a b : ℕ) → leads e k a b ≡ true → leads e (suc k) a b ≡ true
further e k a b h = or_left (leads e k a b) (leads e k a k && leads e k k b) h

to_last : (e : ℕ → List ℕ) (k a : ℕ) → leads e (suc k) a k ≡ true → leads e k a k ≡ true
to_last e k a h = by (through e k a k h)
  where
    by : Through e k a k → leads e k a k ≡ true
    by (inl g) = g
    by (inr (g, l)) = g

from_last : (e : ℕ → List ℕ) (k b : ℕ) → leads e (suc k) k b ≡ true → leads e k k b ≡ true
from_last e k b h = by (through e k k b h)
  where
    by : Through e k k b → leads e k k b ≡ true
    by (inl g) = g
    by (inr (l, g)) = g

-- what holds below k of chains in two steps
abbrev Chains : (ℕ → List ℕ) → ℕ → Type 0
Chains e k = (a c b : ℕ) → c < k → leads e k a c ≡ true → leads e k c b ≡ true → leads e k a b ≡ true

chained_more : (e : ℕ → List ℕ) (k : ℕ) → Chains e k → Chains e (suc k)
chained_more e k chains a c b lt h g = at (nat_eq c k) refl
  where
    by : c < k → Through e k a c → Through e k c b → leads e (suc k) a b ≡ true
    by below (inl x) (inl y) = further e k a b (chains a c b below x y)
    by below (inl x) (inr (y, z)) = over e k a b (chains a c k below x y) z
    by below (inr (w, x)) (inl y) = over e k a b w (chains k c b below x y)
    by below (inr (w, x)) (inr (y, z)) = over e k a b w z

    lower : (c k : ℕ) → c < suc k → (c ≡ k → ⊥) → c < k
    lower c k lt other = omega (arith, lt, other)

    at : (t : Bool) → nat_eq c k ≡ t → leads e (suc k) a b ≡ true
    at true is =
        let same : c ≡ k = eqb-true c k is in
        over e k a b (to_last e k a (subst (λ (n : ℕ). leads e (suc k) a n ≡ true) same h)) (from_last e k b (subst (λ (n : ℕ). leads e (suc k) n b ≡ true) same g))
    at false is =
        let other : c ≡ k → ⊥ = λ s. let t : true ≡ false = sym (eq-eqb c k s) ∙ is in absurd (cc t) in
        by (lower c k lt other) (through e k a c h) (through e k c b g)

chained : (e : ℕ → List ℕ) (k : ℕ) → Chains e k
chained e zero = λ a c b lt h g. absurd (omega (arith, lt))
chained e (suc k) = chained_more e k (chained e k)

any : (e : ℕ → List ℕ) (k a b : ℕ) → leads e 0 a b ≡ true → leads e k a b ≡ true
any e zero a b h = h
any e (suc k) a b h = further e k a b (any e k a b h)

abbrev GoesOn : Function → ℕ → Type 0
GoesOn f k = (a b : ℕ) → Reachable f a → leads (edges f) k a b ≡ true → Reachable f b

one_edge : (f : Function) → GoesOn f 0
one_edge f a b (ps, path) h = by (or_cases (nat_eq a b) (holds (edges f b) a) h)
  where
    by : (nat_eq a b ≡ true) ⊎ (holds (edges f b) a ≡ true) → Reachable f b
    by (inl is) = subst (Reachable f) (eqb-true a b is) (ps, path)
    by (inr in_edges) = (a ∷ ps, (holds_among a (edges f b) in_edges, path))

goes_further : (f : Function) (k : ℕ) → GoesOn f k → GoesOn f (suc k)
goes_further f k goes a b r h = by (through (edges f) k a b h)
  where
    by : Through (edges f) k a b → Reachable f b
    by (inl g) = goes a b r g
    by (inr (x, y)) = goes k b (goes a k r x) y

goes_on : (f : Function) (k : ℕ) → GoesOn f k
goes_on f zero = one_edge f
goes_on f (suc k) = goes_further f k (goes_on f k)

-- the blocks of a function that are reached, by their places
pub reached : Function → ℕ → Bool
reached f b = leads (edges f) (length f.blocks) 0 b

pub entry_reached : (f : Function) → reached f 0 ≡ true
unfolding reached
entry_reached f = any (edges f) (length f.blocks) 0 0 (or_left (nat_eq 0 0) (holds (edges f 0) 0) (eq-eqb 0 0 refl))

pub next_reached : (f : Function) (a b : ℕ) → reached f a ≡ true → Among a (edges f b) → reached f b ≡ true
unfolding reached
next_reached f a b r edge =
    chained (edges f) (length f.blocks) 0 a b (edge-from f b a edge) r
    (any (edges f) (length f.blocks) a b (or_right (nat_eq a b) (holds (edges f b) a) (among_holds a (edges f b) edge)))

pub path_to : (f : Function) (b : ℕ) → 0 < length f.blocks → reached f b ≡ true → Reachable f b
unfolding reached
path_to f b some r = goes_on f (length f.blocks) 0 b ([], (refl, some)) r
