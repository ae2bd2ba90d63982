-- What stays of a block's lines without slots.
use Rattle.std.proofs.Common.{◌≡◌, ℕ, ◌+◌, ◌≤◌, nat_eq, Bool, true, false, ◌||◌, List, [], ◌∷◌, ◌++◌, length, take, map, Option, Some, None, ◌⊎◌, inl, inr, refl, ◌∙◌, ap, arith, if◌then◌else◌}
use Rattle.std.specs.List.{cons_option}
use Rattle.std.proofs.lemmas.Bool.{eqb-true, or_cases, or_left, or_right}
use Rattle.ir_tree.specs.Flow.{holds, results}
use Rattle.ir_tree.specs.declared.instr.Line.{Line}
use Rattle.ir_tree.specs.declared.instr.Phi.{Phi}
use Rattle.ir_meaning.specs.Promote.{Current}
use Rattle.ir_edit.proofs.Tally.{tally}
use Rattle.slot_promote.specs.Values.{behind_line, behind_lines, goes, instr_with, is_there, without_slots}
use Rattle.slot_promote.specs.declared.slots.SlotRank.{SlotRank}
use Rattle.slot_promote.proofs.Tests.{clash}

tally_named : (z : ℕ) (o : Option ℕ) (xs ys : List ℕ) → tally z xs ≤ tally z ys → tally z (cons_option o xs) ≤ tally z (cons_option o ys)
tally_named z None xs ys h = h
tally_named z (Some y) xs ys h = omega (arith, h)

tally_unnamed : (z : ℕ) (o : Option ℕ) (xs ys : List ℕ) → tally z xs ≤ tally z ys → tally z xs ≤ tally z (cons_option o ys)
tally_unnamed z None xs ys h = h
tally_unnamed z (Some y) xs ys h = omega (arith, h)

pub taken : {X : Type 0} (xs ys : List X) → take (length xs) (xs ++ ys) ≡ xs
taken {X} [] ys = refl
taken {X} (x ∷ xs) ys = ap (λ (r : List X). x ∷ r) (taken xs ys)

module _ (at : ℕ → Option SlotRank) where
  abbrev pub line_with : Current → Line → Line
  line_with c l = record { local = l.local; instr = instr_with at c l.instr }

  -- what goes gives no local a value but a slot's
  abbrev pub Tidy : Line → Type 0
  Tidy l = goes at l.local l.instr ≡ true → (x : ℕ) → l.local ≡ Some x → is_there (at x) ≡ true

  abbrev pub AllTidy : List Line → Type 0
  AllTidy [] = Unit {0}
  AllTidy (l ∷ ls) = Tidy l × AllTidy ls

  pub tidy_front : (xs ys : List Line) → AllTidy (xs ++ ys) → AllTidy xs
  tidy_front [] ys h = tt
  tidy_front (x ∷ xs) ys h = (h.0, tidy_front xs ys h.1)

  pub results_less : (z : ℕ) (c : Current) (ls : List Line) → tally z (results (without_slots at c ls)) ≤ tally z (results ls)
  results_less z c [] = omega arith
  results_less z c (l ∷ ls) = by (goes at l.local l.instr) (results_less z (behind_line at l c) ls)
    where
      by : (t : Bool) → tally z (results (without_slots at (behind_line at l c) ls)) ≤ tally z (results ls)
          → tally z (results (if t then without_slots at (behind_line at l c) ls else line_with c l ∷ without_slots at (behind_line at l c) ls)) ≤ tally z (cons_option l.local (results ls))
      by true h = tally_unnamed z l.local (results (without_slots at (behind_line at l c) ls)) (results ls) h
      by false h = tally_named z l.local (results (without_slots at (behind_line at l c) ls)) (results ls) h

  pub results_stay : (x : ℕ) → is_there (at x) ≡ false → (c : Current) (ls : List Line) → AllTidy ls → holds (results ls) x ≡ true → holds (results (without_slots at c ls)) x ≡ true
  results_stay x out c [] tidy h = h
  results_stay x out c (l ∷ ls) tidy h = by (goes at l.local l.instr) refl l.local refl h (results_stay x out (behind_line at l c) ls tidy.1)
    where
      dropped : (y : ℕ) → goes at l.local l.instr ≡ true → l.local ≡ Some y → (nat_eq x y ≡ true) ⊎ (holds (results ls) x ≡ true) → (holds (results ls) x ≡ true → holds (results (without_slots at (behind_line at l c) ls)) x ≡ true) → holds (results (without_slots at (behind_line at l c) ls)) x ≡ true
      dropped y g is (inl e) more = absurd (clash (is_there (at x)) (ap (λ (i : ℕ). is_there (at i)) (eqb-true x y e) ∙ tidy.0 g y is) out)
      dropped y g is (inr k) more = more k

      kept : (y : ℕ) → (nat_eq x y ≡ true) ⊎ (holds (results ls) x ≡ true) → (holds (results ls) x ≡ true → holds (results (without_slots at (behind_line at l c) ls)) x ≡ true) → (nat_eq x y || holds (results (without_slots at (behind_line at l c) ls)) x) ≡ true
      kept y (inl e) more = or_left (nat_eq x y) (holds (results (without_slots at (behind_line at l c) ls)) x) e
      kept y (inr k) more = or_right (nat_eq x y) (holds (results (without_slots at (behind_line at l c) ls)) x) (more k)

      by : (t : Bool) → goes at l.local l.instr ≡ t → (o : Option ℕ) → l.local ≡ o → holds (cons_option o (results ls)) x ≡ true
          → (holds (results ls) x ≡ true → holds (results (without_slots at (behind_line at l c) ls)) x ≡ true)
          → holds (results (if t then without_slots at (behind_line at l c) ls else line_with c l ∷ without_slots at (behind_line at l c) ls)) x ≡ true
      by true g None is k more = more k
      by true g (Some y) is k more = dropped y g is (or_cases (nat_eq x y) (holds (results ls) x) k) more
      by false g None is k more = ap (λ (o : Option ℕ). holds (cons_option o (results (without_slots at (behind_line at l c) ls))) x) is ∙ more k
      by false g (Some y) is k more =
          ap (λ (o : Option ℕ). holds (cons_option o (results (without_slots at (behind_line at l c) ls))) x) is ∙ kept y (or_cases (nat_eq x y) (holds (results ls) x) k) more

  pub both : (c : Current) (xs ys : List Line) → without_slots at c (xs ++ ys) ≡ without_slots at c xs ++ without_slots at (behind_lines at c xs) ys
  both c [] ys = refl
  both c (l ∷ xs) ys = by (goes at l.local l.instr) (both (behind_line at l c) xs ys)
    where
      by : (t : Bool) → without_slots at (behind_line at l c) (xs ++ ys) ≡ without_slots at (behind_line at l c) xs ++ without_slots at (behind_lines at (behind_line at l c) xs) ys
          → (if t then without_slots at (behind_line at l c) (xs ++ ys) else line_with c l ∷ without_slots at (behind_line at l c) (xs ++ ys))
          ≡ (if t then without_slots at (behind_line at l c) xs else line_with c l ∷ without_slots at (behind_line at l c) xs) ++ without_slots at (behind_lines at (behind_line at l c) xs) ys
      by true h = h
      by false h = ap (λ (r : List Line). line_with c l ∷ r) h

-- phis in front
pub phis_behind : (x : ℕ) (ns ps : List Phi) → holds (map (λ p. p.local) ps) x ≡ true → holds (map (λ p. p.local) (ns ++ ps)) x ≡ true
phis_behind x [] ps h = h
phis_behind x (p ∷ ns) ps h = or_right (nat_eq x p.local) (holds (map (λ p. p.local) (ns ++ ps)) x) (phis_behind x ns ps h)

pub phis_before : (x : ℕ) (ns ps : List Phi) → holds (map (λ p. p.local) ns) x ≡ true → holds (map (λ p. p.local) (ns ++ ps)) x ≡ true
phis_before x [] ps h = absurd cc
phis_before x (p ∷ ns) ps h = by (or_cases (nat_eq x p.local) (holds (map (λ p. p.local) ns) x) h) (phis_before x ns ps)
  where
    by : (nat_eq x p.local ≡ true) ⊎ (holds (map (λ p. p.local) ns) x ≡ true) → (holds (map (λ p. p.local) ns) x ≡ true → holds (map (λ p. p.local) (ns ++ ps)) x ≡ true) → (nat_eq x p.local || holds (map (λ p. p.local) (ns ++ ps)) x) ≡ true
    by (inl e) more = or_left (nat_eq x p.local) (holds (map (λ p. p.local) (ns ++ ps)) x) e
    by (inr k) more = or_right (nat_eq x p.local) (holds (map (λ p. p.local) (ns ++ ps)) x) (more k)

pub phis_tally : (z : ℕ) (ns ps : List Phi) → tally z (map (λ p. p.local) (ns ++ ps)) ≡ tally z (map (λ p. p.local) ns) + tally z (map (λ p. p.local) ps)
phis_tally z [] ps = omega arith
phis_tally z (p ∷ ns) ps = let h : tally z (map (λ p. p.local) (ns ++ ps)) ≡ tally z (map (λ p. p.local) ns) + tally z (map (λ p. p.local) ps) = phis_tally z ns ps in omega (arith, h)
