-- Edges that are lost and those that stay, counted.
use Rattle.std.proofs.Common.{◌≡◌, ℕ, zero, suc, ◌+◌, ◌≤◌, nat_eq, Bool, true, false, List, [], ◌∷◌, Option, Some, None, map, refl, sym, ◌∙◌, ap, subst, arith, if◌then◌else◌}
use Rattle.std.specs.Prelude.{slice_get}
use Rattle.std.proofs.lemmas.Bool.{eqb-true, eq-eqb, ne_eqb}
use Rattle.ir_tree.specs.Flow.{repeated, successors}
use Rattle.ir_tree.specs.Formed.{Distinct}
use Rattle.ir_tree.specs.declared.block.Block.{Block}
use Rattle.ir_tree.specs.declared.block.Case.{Case}
use Rattle.ir_tree.specs.declared.block.Terminator.{Terminator}
use Rattle.ir_tree.specs.declared.block.Terminator.TheVariants.{Branch, Jump, Return, Switch, Unreachable}
use Rattle.ir_meaning.specs.Counted.{times}
use Rattle.ir_meaning.proofs.Counting.{distinct_rest, here, not_again, number_at, numbers_in, times_both, times_repeated}
use Rattle.ir_meaning.proofs.Exits.{side_among, switch_among}
use Rattle.branch_simplify.specs.Decided.{all_but_one, branch_target, constant, decided, jump_or, lost, straight, switch_target, without_first}
use Rattle.branch_simplify.specs.Simplified.{lost_into}

-- ---- edges that are lost

no_lost : (n m : ℕ) (bs : List Block) → ((j : ℕ) → slice_get (numbers_in bs) j ≡ Some n → ⊥) → times n (lost_into m bs) ≡ 0
no_lost n m [] none = refl
no_lost n m (b ∷ bs) none =
    times_both n (repeated b.number m (lost b.end)) (lost_into m bs)
    ∙ sum (times_repeated n b.number m (lost b.end) ∙ ap (λ (t : Bool). if t then times m (lost b.end) else 0) (ne_eqb b.number n (λ e. none 0 (ap (λ (k : ℕ). Some k) e)))) (no_lost n m bs (λ j e. none (suc j) e))
  where
    sum : {x y : ℕ} → x ≡ 0 → y ≡ 0 → x + y ≡ 0
    sum e g = omega (arith, e, g)

-- where each block has its own number, a block loses its own edges
pub lost_from : (m : ℕ) (bs : List Block) → Distinct (numbers_in bs) → (i : ℕ) (b : Block) → slice_get bs i ≡ Some b → times b.number (lost_into m bs) ≡ times m (lost b.end)
lost_from m [] d i b e = absurd cc
lost_from m (x ∷ bs) d zero b e =
    times_both b.number (repeated x.number m (lost x.end)) (lost_into m bs)
    ∙ sum (times_repeated b.number x.number m (lost x.end) ∙ ap (λ (t : Bool). if t then times m (lost x.end) else 0) (eq-eqb x.number b.number (ap (λ (y : Block). y.number) same)) ∙ ap (λ (y : Block). times m (lost y.end)) same)
    (no_lost b.number m bs (λ j g. let h : 0 ≡ suc j = d 0 (suc j) b.number (ap (λ (y : Block). Some y.number) same) g in omega (arith, h)))
  where
    same : x ≡ b
    same = cc e

    sum : {x y z : ℕ} → x ≡ z → y ≡ 0 → x + y ≡ z
    sum e g = omega (arith, e, g)
lost_from m (x ∷ bs) d (suc i) b e =
    times_both b.number (repeated x.number m (lost x.end)) (lost_into m bs)
    ∙ sum (times_repeated b.number x.number m (lost x.end) ∙ ap (λ (t : Bool). if t then times m (lost x.end) else 0) (not_again x.number (numbers_in bs) d i b.number (number_at bs i b e)))
    (lost_from m bs (distinct_rest x.number (numbers_in bs) d) i b e)
  where
    sum : {x y z : ℕ} → x ≡ 0 → y ≡ z → x + y ≡ z
    sum e g = omega (arith, e, g)

-- ---- the block that is decided is a target

branch_among : (c : Option ℕ) (t f d : ℕ) → branch_target c t f ≡ Some d → 1 ≤ times d (t ∷ f ∷ [])
branch_among (Some bits) t f d e = subst (λ (n : ℕ). 1 ≤ times n (t ∷ f ∷ [])) (cc e) (side_among t f bits)
branch_among None t f d e = by (nat_eq t f) e
  where
    by : (b : Bool) → (if b then Some t else None) ≡ Some d → 1 ≤ times d (t ∷ f ∷ [])
    by true e = here d t (f ∷ []) (cc e)
    by false e = absurd cc

switch_to_among : (c : Option ℕ) (default d : ℕ) (cs : List Case) → switch_target c default cs ≡ Some d → 1 ≤ times d (default ∷ map (λ c. c.target) cs)
switch_to_among (Some bits) default d cs e = subst (λ (n : ℕ). 1 ≤ times n (default ∷ map (λ c. c.target) cs)) (cc e) (switch_among cs default bits)
switch_to_among None default d [] e = here d default [] (cc e)
switch_to_among None default d (c ∷ cs) e = absurd cc

pub decided_among : (t : Terminator) (d : ℕ) → decided t ≡ Some d → 1 ≤ times d (successors t)
decided_among (Return argument) d e = absurd cc
decided_among (Jump target) d e = absurd cc
decided_among (Branch condition if_true if_false) d e = branch_among (constant condition) if_true if_false d e
decided_among (Switch width value default cases) d e = switch_to_among (constant value) default d cases e
decided_among Unreachable d e = absurd cc

one_taken : (m d : ℕ) (ts : List ℕ) → 1 ≤ times d ts → times m (d ∷ []) + times m (without_first d ts) ≡ times m ts
one_taken m d [] h = absurd (omega (arith, h))
one_taken m d (t ∷ ts) h = by (nat_eq t d) refl h (one_taken m d ts)
  where
    last : (u v : Bool) → times m (d ∷ []) + times m (without_first d ts) ≡ times m ts
        → times m (d ∷ []) + (if u then suc (times m (without_first d ts)) else times m (without_first d ts)) ≡ (if u then suc (times m ts) else times m ts)
    last true v e = omega (arith, e)
    last false v e = e

    first : (u : Bool) → (if u then 1 else 0) + times m ts ≡ (if u then suc (times m ts) else times m ts)
    first true = omega arith
    first false = omega arith

    by : (b : Bool) → nat_eq t d ≡ b → 1 ≤ (if b then suc (times d ts) else times d ts) → (1 ≤ times d ts → times m (d ∷ []) + times m (without_first d ts) ≡ times m ts)
        → times m (d ∷ []) + times m (if b then ts else t ∷ without_first d ts) ≡ times m (t ∷ ts)
    by true e h more = ap (λ (x : ℕ). times m (x ∷ []) + times m ts) (sym (eqb-true t d e)) ∙ first (nat_eq t m)
    by false e h more = last (nat_eq t m) true (more h)

-- the edges that stay and those that are lost are all
pub edges_stay : (m : ℕ) (t : Terminator) → times m (successors (straight t)) + times m (lost t) ≡ times m (successors t)
edges_stay m t = by (decided t) refl
  where
    by : (o : Option ℕ) → decided t ≡ o → times m (successors (jump_or o t)) + times m (all_but_one o (successors t)) ≡ times m (successors t)
    by None e = omega arith
    by (Some d) e = one_taken m d (successors t) (decided_among t d e)
