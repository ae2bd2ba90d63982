-- Blocks by number and by place, and the edges between them.
use Rattle.std.proofs.Common.{◌≡◌, ℕ, zero, suc, ◌+◌, nat_eq, ◌==◌, ◌⊎◌, inl, inr, Bool, true, false, List, [], ◌∷◌, ◌++◌, Option, Some, map, refl, sym, ◌∙◌, ap, subst, arith, if◌then◌else◌}
use Rattle.std.specs.Prelude.{slice_get}
use Rattle.std.proofs.lemmas.Bool.{eq-eqb, eqb-true}
use Rattle.ir_tree.specs.Flow.{Among, edges, leading, leading_to, locals, repeated, successors}
use Rattle.ir_tree.specs.Formed.{Distinct, numbers}
use Rattle.ir_tree.specs.Rules.{place}
use Rattle.ir_tree.specs.declared.block.Block.{Block}
use Rattle.ir_tree.specs.declared.block.Case.{Case}
use Rattle.ir_tree.specs.declared.block.Terminator.{Terminator}
use Rattle.ir_tree.specs.declared.block.Terminator.TheVariants.{Branch, Jump, Return, Switch, Unreachable}
use Rattle.ir_tree.specs.declared.function.Function.{Function}
use Rattle.ir_meaning.specs.Act.{find_block}
use Rattle.ir_meaning.specs.Facts.{InCases, IsTarget}
use Rattle.ir_facts.proofs.Substituting.{one_place}

-- a block that is found by its number stands at the number's place
pub found_there : (bs : List Block) (n : ℕ) (a : Block) → find_block bs n ≡ Some a → (slice_get bs (place bs n) ≡ Some a) × (a.number ≡ n)
found_there [] n a e = absurd (cc e)
found_there (b ∷ bs) n a e = by (b.number == n) refl e (λ e'. found_there bs n a e')
  where
    by : (t : Bool) → (b.number == n) ≡ t → (if t then Some b else find_block bs n) ≡ Some a → (find_block bs n ≡ Some a → (slice_get bs (place bs n) ≡ Some a) × (a.number ≡ n))
        → (slice_get (b ∷ bs) (if t then zero else suc (place bs n)) ≡ Some a) × (a.number ≡ n)
    by true q e' more = let is : b ≡ a = cc e' in (e', ap (λ (c : Block). c.number) (sym is) ∙ eqb-true b.number n q)
    by false q e' more = more e'

find_some : (bs : List Block) (p : ℕ) (b : Block) → slice_get bs p ≡ Some b → (a : Block) × (find_block bs b.number ≡ Some a)
find_some [] p b e = absurd (cc e)
find_some (d ∷ bs) zero b e =
    let is : d ≡ b = cc e in
    (d, ap (λ (t : Bool). if t then Some d else find_block bs b.number) (eq-eqb d.number b.number (ap (λ (c : Block). c.number) is)))
find_some (d ∷ bs) (suc p) b e = by (d.number == b.number) (find_some bs p b e)
  where
    by : (t : Bool) → (a : Block) × (find_block bs b.number ≡ Some a) → (a : Block) × ((if t then Some d else find_block bs b.number) ≡ Some a)
    by true more = (d, refl)
    by false more = more

module _ (f : Function) (once : Distinct (locals f ++ numbers f)) where
  -- a block is found by its number, at its place
  pub find_at : (p : ℕ) (b : Block) → slice_get f.blocks p ≡ Some b → (find_block f.blocks b.number ≡ Some b) × (place f.blocks b.number ≡ p)
  find_at p b e =
      let some = find_some f.blocks p b e in
      let there = found_there f.blocks b.number some.0 some.1 in
      let same = one_place f once (place f.blocks b.number) p some.0 b there.0 e there.1 in
      let is : some.0 ≡ b = cc (sym there.0, ap (slice_get f.blocks) same, e) in
      (some.1 ∙ ap (λ (c : Block). Some c) is, same)

-- ---- edges

in_cases : (cs : List Case) (n : ℕ) → InCases cs n → Among n (map (λ c. c.target) cs)
in_cases [] n h = absurd h
in_cases (c ∷ cs) n (inl e) = inl (sym e)
in_cases (c ∷ cs) n (inr h) = inr (in_cases cs n h)

pub target_among : (t : Terminator) (n : ℕ) → IsTarget t n → Among n (successors t)
target_among (Return value) n h = absurd h
target_among (Jump target) n h = inl (sym h)
target_among (Branch c yes' no') n (inl e) = inl (sym e)
target_among (Branch c yes' no') n (inr e) = inr (inl (sym e))
target_among (Switch w o default cases) n (inl e) = inl (sym e)
target_among (Switch w o default cases) n (inr h) = inr (in_cases cases n h)
target_among Unreachable n h = absurd h

among_left : (p : ℕ) (xs ys : List ℕ) → Among p xs → Among p (xs ++ ys)
among_left p [] ys h = absurd h
among_left p (x ∷ xs) ys (inl e) = inl e
among_left p (x ∷ xs) ys (inr h) = inr (among_left p xs ys h)

among_right : (p : ℕ) (xs ys : List ℕ) → Among p ys → Among p (xs ++ ys)
among_right p [] ys h = h
among_right p (x ∷ xs) ys h = inr (among_right p xs ys h)

repeated_has : (p n : ℕ) (ts : List ℕ) → Among n ts → Among p (repeated p n ts)
repeated_has p n [] h = absurd h
repeated_has p n (t ∷ ts) h = by (nat_eq t n) refl h (λ h'. repeated_has p n ts h')
  where
    by : (b : Bool) → nat_eq t n ≡ b → (n ≡ t) ⊎ Among n ts → (Among n ts → Among p (repeated p n ts)) → Among p (if b then p ∷ repeated p n ts else repeated p n ts)
    by true q h' more = inl refl
    by false q (inl e) more = absurd (let clash : false ≡ true = sym q ∙ eq-eqb t n (sym e) in cc clash)
    by false q (inr h') more = more h'

leading_has : (n k : ℕ) (bs : List Block) (p : ℕ) (a : Block) → slice_get bs p ≡ Some a → Among n (successors a.end) → Among (k + p) (leading n k bs)
leading_has n k [] p a e h = absurd (cc e)
leading_has n k (b ∷ bs) zero a e h =
    let is : b ≡ a = cc e in
    let at : k ≡ k + 0 = omega arith in
    among_left (k + 0) (repeated k n (successors b.end)) (leading n (suc k) bs)
    (subst (λ (j : ℕ). Among j (repeated k n (successors b.end))) at (repeated_has k n (successors b.end) (subst (λ (c : Block). Among n (successors c.end)) (sym is) h)))
leading_has n k (b ∷ bs) (suc p) a e h =
    let at : suc k + p ≡ k + suc p = omega arith in
    among_right (k + suc p) (repeated k n (successors b.end)) (leading n (suc k) bs) (subst (λ (j : ℕ). Among j (leading n (suc k) bs)) at (leading_has n (suc k) bs p a e h))

-- a block that leads to another is among its predecessors
pub edge_of : (f : Function) (p q : ℕ) (a b : Block) → slice_get f.blocks p ≡ Some a → slice_get f.blocks q ≡ Some b → IsTarget a.end b.number → Among p (edges f q)
edge_of f p q a b e d h =
    subst (λ (o : Option Block). Among p (leading_to f.blocks o)) (sym d)
    (subst (λ (j : ℕ). Among j (leading b.number 0 f.blocks)) (omega arith) (leading_has b.number 0 f.blocks p a e (target_among a.end b.number h)))
