-- Tables of places with one number more.
use Rattle.std.proofs.Common.{◌≡◌, ℕ, zero, suc, nat_eq, nat_lt, ◌==◌, cond, ◌⊎◌, inl, inr, Bool, true, false, List, [], ◌∷◌, drop, Option, Some, None, refl, sym, ◌∙◌, ap, arith}
use Rattle.std.specs.Prelude.{slice_get}
use Rattle.std.specs.Ordering.{is_eq, nat_cmp}
use Rattle.std.specs.List.{cons_option}
use Rattle.std.specs.declared.cmp.Ordering.TheVariants.{Equal, Greater, Less}
use Rattle.std.proofs.lemmas.Bool.Decides.{nat_tests}
use Rattle.std.proofs.lemmas.Bool.{eq-eqb, eqb-true, or_left, or_right}
use Rattle.ir_tree.specs.Flow.{defined_in, definitions, holds, results}
use Rattle.ir_tree.specs.declared.block.Block.{Block}
use Rattle.ir_tree.specs.declared.instr.Line.{Line}
use Rattle.ir_tree.specs.declared.instr.Phi.{Phi}
use Rattle.fact_sources.specs.Places.{AreNumbered, ArePlaced, IsNumbered, phis_give}

-- ---- numbers in order

by_tests : (less same : Bool) → (less ≡ true → same ≡ false) → is_eq (cond less Less (cond same Equal Greater)) ≡ same
by_tests true true h = sym (h refl)
by_tests true false h = refl
by_tests false true h = refl
by_tests false false h = refl

less_differs : (x y : ℕ) → nat_lt x y ≡ true → (x == y) ≡ false
less_differs x y lt = grind (arith, nat_tests)

pub is_eq-nat_cmp : (x y : ℕ) → is_eq (nat_cmp x y) ≡ (x == y)
is_eq-nat_cmp x y = by_tests (nat_lt x y) (x == y) (less_differs x y)

-- ---- one number more

-- what the table has of a number is of the numbers before, or is this place of one of these numbers
abbrev pub FromPlace : (ℕ → Option ℕ) → ℕ → (ℕ → Bool) → ℕ → ℕ → Type 0
FromPlace old place give x p = (old x ≡ Some p) ⊎ ((p ≡ place) × (give x ≡ true))

abbrev pub Places : (ℕ → Option ℕ) → (ℕ → Option ℕ) → ℕ → (ℕ → Bool) → Type 0
Places new old place give = (x p : ℕ) → new x ≡ Some p → FromPlace old place give x p

pub one_more : (first old new : ℕ → Option ℕ) (place y : ℕ) (give : ℕ → Bool) → give y ≡ true → ((x : ℕ) → new x ≡ cond (is_eq (nat_cmp y x)) (Some place) (old x)) → Places old first place give
    → Places new first place give
one_more first old new place y give own is before x p got = by (y == x) refl (sym (ap (λ (b : Bool). cond b (Some place) (old x)) (is_eq-nat_cmp y x)) ∙ sym (is x) ∙ got)
  where
    by : (b : Bool) → (y == x) ≡ b → cond b (Some place) (old x) ≡ Some p → FromPlace first place give x p
    by true q h =
        let same : place ≡ p = cc h in
        inr (sym same, ap give (sym (eqb-true y x q)) ∙ own)
    by false q h = before x p h

-- ---- what stands in lists gives

pub phi_gives : (ps : List Phi) (i : ℕ) (p : Phi) (rest : List Phi) → drop i ps ≡ p ∷ rest → phis_give ps p.local ≡ true
phi_gives [] zero p rest e = absurd (cc e)
phi_gives [] (suc i) p rest e = absurd (cc e)
phi_gives (q ∷ ps) zero p rest e =
    let is : q ≡ p = cc e in
    or_left (nat_eq p.local q.local) (phis_give ps p.local) (eq-eqb p.local q.local (ap (λ (k : Phi). k.local) (sym is)))
phi_gives (q ∷ ps) (suc i) p rest e = or_right (nat_eq p.local q.local) (phis_give ps p.local) (phi_gives ps i p rest e)

pub line_gives : (ls : List Line) (i x : ℕ) (l : Line) (rest : List Line) → drop i ls ≡ l ∷ rest → l.local ≡ Some x → holds (results ls) x ≡ true
line_gives [] zero x l rest e o = absurd (cc e)
line_gives [] (suc i) x l rest e o = absurd (cc e)
line_gives (k ∷ ls) zero x l rest e o =
    let is : k ≡ l = cc e in
    ap (λ (r : Option ℕ). holds (cons_option r (results ls)) x) (ap (λ (m : Line). m.local) is ∙ o) ∙ or_left (nat_eq x x) (holds (results ls) x) (eq-eqb x x refl)
line_gives (k ∷ ls) (suc i) x l rest e o = by k.local (line_gives ls i x l rest e o)
  where
    by : (r : Option ℕ) → holds (results ls) x ≡ true → holds (cons_option r (results ls)) x ≡ true
    by None h = h
    by (Some y) h = or_right (nat_eq x y) (holds (results ls) x) h

-- ---- tables of blocks

pub block_more : (bs : List Block) (old new : ℕ → Option ℕ) (place : ℕ) (b : Block) → slice_get bs place ≡ Some b → Places new old place (λ x. holds (definitions b) x) → ArePlaced bs old → ArePlaced bs new
block_more bs old new place b e more before x p got =
    elim (more x p got) [ inl was ↦ before x p was | inr two ↦ ap (λ (o : Option Block). defined_in o x) (ap (slice_get bs) two.0 ∙ e) ∙ two.1 ]

pub number_more : (bs : List Block) (old new : ℕ → Option ℕ) (place : ℕ) (b : Block) → slice_get bs place ≡ Some b → ((x : ℕ) → new x ≡ cond (is_eq (nat_cmp b.number x)) (Some place) (old x))
    → AreNumbered bs old → AreNumbered bs new
number_more bs old new place b e is before n p got = by (b.number == n) refl (sym (ap (λ (t : Bool). cond t (Some place) (old n)) (is_eq-nat_cmp b.number n)) ∙ sym (is n) ∙ got)
  where
    by : (t : Bool) → (b.number == n) ≡ t → cond t (Some place) (old n) ≡ Some p → IsNumbered bs n p
    by true q h =
        let same : place ≡ p = cc h in
        record { block = b; found = ap (slice_get bs) (sym same) ∙ e; number = eqb-true b.number n q }
    by false q h = before n p h
