-- What blocks outside a set give values.
use Rattle.std.proofs.Common.{◌≡◌, ℕ, zero, suc, ◌+◌, nat_eq, ◌==◌, ◌||◌, ◌⊎◌, inl, inr, Bool, true, false, List, [], ◌∷◌, ◌++◌, Option, Some, None, append_assoc, map, refl, sym, ◌∙◌, ap, arith}
use Rattle.std.specs.Prelude.{slice_get}
use Rattle.std.specs.List.{cons_option}
use Rattle.std.proofs.lemmas.Bool.{cases_eq, eq-eqb, false≢true, ne_eqb, or_cases, or_left, or_right}
use Rattle.ir_tree.specs.Flow.{definitions, holds, results}
use Rattle.ir_tree.specs.declared.block.Block.{Block}
use Rattle.ir_tree.specs.declared.instr.Line.{Line}
use Rattle.ir_tree.specs.declared.instr.Phi.{Phi}
use Rattle.ir_edit.specs.Numbered.{line_numbers, local_number, phi_numbers}
use Rattle.fact_sources.specs.Apart.{given_apart, given_where, is_listed}

-- ---- one block behind the others

pub block_given : (inside : ℕ → Bool) (i next : ℕ) (b : Block) (rest more : List Block) (r : Bool) (old new : List ℕ) → more ≡ b ∷ rest → next ≡ suc i → r ≡ inside i
    → new ≡ old ++ given_where r b → new ++ given_apart inside next rest ≡ old ++ given_apart inside i more
block_given inside i next b rest more r old new cut step is e =
    (λ j. e j ++ given_apart inside (step j) rest)
    ∙ append_assoc old (given_where r b) (given_apart inside (suc i) rest)
    ∙ ap (λ (t : Bool). old ++ (given_where t b ++ given_apart inside (suc i) rest)) is
    ∙ ap (λ (bs : List Block). old ++ given_apart inside i bs) (sym cut)

-- ---- what a block gives values is what it defines

phis_are : (ps : List Phi) → phi_numbers ps ≡ map (λ p. p.local) ps
phis_are [] = refl
phis_are (p ∷ ps) = ap (λ (xs : List ℕ). p.local ∷ xs) (phis_are ps)

lines_are : (ls : List Line) → line_numbers ls ≡ results ls
lines_are [] = refl
lines_are (l ∷ ls) = by l.local (lines_are ls)
  where
    by : (o : Option ℕ) → line_numbers ls ≡ results ls → (local_number o ++ line_numbers ls) ≡ cons_option o (results ls)
    by None more = more
    by (Some x) more = ap (λ (xs : List ℕ). x ∷ xs) more

pub given_is : (b : Block) → given_where false b ≡ definitions b
unfolding given_where
given_is b = λ i. phis_are b.phis i ++ lines_are b.lines i

none_given : (b : Block) → given_where true b ≡ []
unfolding given_where
none_given b = refl

turned : (y x : ℕ) → (y == x) ≡ nat_eq x y
turned y x = elim (cases_eq y x) [ inl e ↦ eq-eqb y x e ∙ sym (eq-eqb x y (sym e)) | inr ne ↦ ne_eqb y x ne ∙ sym (ne_eqb x y (λ e. ne (sym e))) ]

pub listed_is : (x : ℕ) (xs : List ℕ) → is_listed x xs ≡ holds xs x
listed_is x [] = refl
listed_is x (y ∷ ys) = λ i. turned y x i || listed_is x ys i

pub listed_left : (x : ℕ) (xs ys : List ℕ) → is_listed x xs ≡ true → is_listed x (xs ++ ys) ≡ true
listed_left x [] ys h = absurd (false≢true h)
listed_left x (z ∷ xs) ys h = elim (or_cases (z == x) (is_listed x xs) h) [
  | inl e ↦ or_left (z == x) (is_listed x (xs ++ ys)) e
  | inr more ↦ or_right (z == x) (is_listed x (xs ++ ys)) (listed_left x xs ys more)
]

pub listed_right : (x : ℕ) (xs ys : List ℕ) → is_listed x ys ≡ true → is_listed x (xs ++ ys) ≡ true
listed_right x [] ys h = h
listed_right x (z ∷ xs) ys h = or_right (z == x) (is_listed x (xs ++ ys)) (listed_right x xs ys h)

listed_either : (x : ℕ) (xs ys : List ℕ) → is_listed x (xs ++ ys) ≡ true → (is_listed x xs ≡ true) ⊎ (is_listed x ys ≡ true)
listed_either x [] ys h = inr h
listed_either x (z ∷ xs) ys h = elim (or_cases (z == x) (is_listed x (xs ++ ys)) h) [
  | inl e ↦ inl (or_left (z == x) (is_listed x xs) e)
  | inr more ↦ elim (listed_either x xs ys more) [ inl a ↦ inl (or_right (z == x) (is_listed x xs) a) | inr b ↦ inr b ]
]

-- ---- a local of such a block

pub record DefinedApart (inside : ℕ → Bool) (x p : ℕ) (bs : List Block) : Type 0 where
  pub at : ℕ
  pub block : Block
  pub found : slice_get bs at ≡ Some block
  pub out : inside (p + at) ≡ false
  pub here : holds (definitions block) x ≡ true

pub apart_from : (inside : ℕ → Bool) (x p : ℕ) (bs : List Block) → is_listed x (given_apart inside p bs) ≡ true → DefinedApart inside x p bs
apart_from inside x p [] h = absurd (false≢true h)
apart_from inside x p (b ∷ bs) h =
    elim (listed_either x (given_where (inside p) b) (given_apart inside (suc p) bs) h) [
      | inl own ↦ first (inside p) refl own
      | inr more ↦ later (apart_from inside x (suc p) bs more)
    ]
  where
    first : (t : Bool) → inside p ≡ t → is_listed x (given_where t b) ≡ true → DefinedApart inside x p (b ∷ bs)
    first true q own = absurd (false≢true (ap (is_listed x) (sym (none_given b)) ∙ own))
    first false q own =
        let here : p + 0 ≡ p = omega arith in
        record { at = 0; block = b; found = refl; out = ap inside here ∙ q; here = sym (listed_is x (definitions b)) ∙ ap (is_listed x) (sym (given_is b)) ∙ own }

    later : DefinedApart inside x (suc p) bs → DefinedApart inside x p (b ∷ bs)
    later d =
        let here : p + suc d.at ≡ suc p + d.at = omega arith in
        record { at = suc d.at; block = d.block; found = d.found; out = ap inside here ∙ d.out; here = d.here }

pub apart_to : (inside : ℕ → Bool) (x p : ℕ) (bs : List Block) (i : ℕ) (b : Block) → slice_get bs i ≡ Some b → inside (p + i) ≡ false → holds (definitions b) x ≡ true
    → is_listed x (given_apart inside p bs) ≡ true
apart_to inside x p [] i b e out h = absurd (cc e)
apart_to inside x p (d ∷ bs) zero b e out h =
    let is : d ≡ b = cc e in
    let here : p ≡ p + 0 = omega arith in
    listed_left x (given_where (inside p) d) (given_apart inside (suc p) bs)
    (ap (λ (t : Bool). is_listed x (given_where t d)) (ap inside here ∙ out)
    ∙ ap (is_listed x) (given_is d)
    ∙ listed_is x (definitions d)
    ∙ ap (λ (c : Block). holds (definitions c) x) is
    ∙ h)
apart_to inside x p (d ∷ bs) (suc i) b e out h =
    let here : suc p + i ≡ p + suc i = omega arith in
    listed_right x (given_where (inside p) d) (given_apart inside (suc p) bs) (apart_to inside x (suc p) bs i b e (ap inside here ∙ out) h)
