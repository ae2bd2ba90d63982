-- Two solutions together are a solution, so what the greatest makes is one function.
use Rattle.std.proofs.Common.{◌≡◌, ℕ, zero, suc, ◌||◌, ◌==◌, ◌⊎◌, inl, inr, Bool, true, false, List, [], ◌∷◌, ◌++◌, Option, Some, None, refl, sym, ◌∙◌, ap, subst, if◌then◌else◌}
use Rattle.std.proofs.lemmas.Bool.{eq-eqb, false≢true, or_parts}
use Rattle.ir_tree.specs.declared.block.Block.{Block}
use Rattle.ir_tree.specs.declared.function.Function.{Function}
use Rattle.ir_tree.specs.declared.instr.Line.{Line}
use Rattle.ir_tree.specs.declared.instr.Phi.{Phi}
use Rattle.ir_tree.specs.declared.operand.Operand.{Operand}
use Rattle.ir_meaning.specs.Act.{find_block}
use Rattle.ir_meaning.specs.Facts.{EdgeFacts, EntryIs, Facts, Has, behind_lines, behind_local, is_local, phi_operand, with_fact, without}
use Rattle.ir_facts.specs.Settled.{settled}
use Rattle.ir_facts.specs.Steps.{AppliedIsOne, AreRounds, IsRound, IsSolution, IsStep, candidate_of, end_of, ends_of}
use Rattle.ir_facts.proofs.Holding.{without_had, without_has}

-- each fact of the first is among the second
abbrev pub AreIn : Facts → Facts → Type 0
AreIn fs gs = (x : ℕ) (v : Operand) → Has fs x v → Has gs x v

pub left_in : (fs gs : Facts) → AreIn fs (fs ++ gs)
left_in [] gs x v h = absurd h
left_in ((y, u) ∷ fs) gs x v (inl e) = inl e
left_in ((y, u) ∷ fs) gs x v (inr h) = inr (left_in fs gs x v h)

pub right_in : (fs gs : Facts) → AreIn gs (fs ++ gs)
right_in [] gs x v h = h
right_in ((y, u) ∷ fs) gs x v h = inr (right_in fs gs x v h)

pub one_of : (fs gs : Facts) (x : ℕ) (v : Operand) → Has (fs ++ gs) x v → Has fs x v ⊎ Has gs x v
one_of [] gs x v h = inr h
one_of ((y, u) ∷ fs) gs x v (inl e) = inl (inl e)
one_of ((y, u) ∷ fs) gs x v (inr h) = elim (one_of fs gs x v h) [ inl a ↦ inl (inr a) | inr b ↦ inr b ]

-- ---- along lines

-- what a new value of y leaves is no fact of y, and none that rests on it
pub left_apart : (y x : ℕ) (v : Operand) (fs : Facts) → Has (without y fs) x v → ((x == y) || is_local y v) ≡ false
left_apart y x v [] h = absurd h
left_apart y x v ((z, u) ∷ fs) h = by ((z == y) || is_local y u) refl h (λ h'. left_apart y x v fs h')
  where
    by : (b : Bool) → ((z == y) || is_local y u) ≡ b → Has (if b then without y fs else (z, u) ∷ without y fs) x v
        → (Has (without y fs) x v → ((x == y) || is_local y v) ≡ false) → ((x == y) || is_local y v) ≡ false
    by true q h' more = more h'
    by false q (inl e) more = ap (λ (n : ℕ). (n == y) || is_local y v) (sym e.0) ∙ ap (λ (o : Operand). (z == y) || is_local y o) (sym e.1) ∙ q
    by false q (inr h') more = more h'

pub without_in : (y : ℕ) (fs gs : Facts) → AreIn fs gs → AreIn (without y fs) (without y gs)
without_in y fs gs sub x v h =
    let apart = or_parts (x == y) (is_local y v) (left_apart y x v fs h) in
    without_has y x v gs (λ e. false≢true (sym apart.0 ∙ eq-eqb x y (sym e))) apart.1 (sub x v (without_had y x v fs h))

module _ (c : ℕ → Option Operand) where
  behind_in : (o : Option ℕ) (fs gs : Facts) → AreIn fs gs → AreIn (behind_local c o fs) (behind_local c o gs)
  behind_in None fs gs sub x v h = sub x v h
  behind_in (Some y) fs gs sub x v h = by (c y) h
    where
      by : (o : Option Operand) → Has (with_fact y o (without y fs)) x v → Has (with_fact y o (without y gs)) x v
      by None h' = without_in y fs gs sub x v h'
      by (Some u) (inl e) = inl e
      by (Some u) (inr h') = inr (without_in y fs gs sub x v h')

  lines_in : (ls : List Line) (fs gs : Facts) → AreIn fs gs → AreIn (behind_lines c ls fs) (behind_lines c ls gs)
  lines_in [] fs gs sub = sub
  lines_in (l ∷ ls) fs gs sub = lines_in ls (behind_local c l.local fs) (behind_local c l.local gs) (behind_in l.local fs gs sub)

-- ---- along edges

entry_in : (end more : Facts) → AreIn end more → (x : ℕ) (v : Operand) (o : Option Operand) → EntryIs end x v o → EntryIs more x v o
entry_in end more sub x v None h = tt
entry_in end more sub x v (Some e) (inl is) = inl is
entry_in end more sub x v (Some e) (inr (own, h)) = inr (own, sub x v h)

pub edge_in : (end more : Facts) (from : ℕ) (ps : List Phi) → AreIn end more → (fs : Facts) → EdgeFacts end from ps fs → EdgeFacts more from ps fs
edge_in end more from ps sub [] t = tt
edge_in end more from ps sub ((x, v) ∷ fs) (outside, inl (none, h), rest) = (outside, inl (none, sub x v h), edge_in end more from ps sub fs rest)
edge_in end more from ps sub ((x, v) ∷ fs) (outside, inr (phi, h), rest) =
    (outside, inr (phi, entry_in end more sub x v (phi_operand x from ps) h), edge_in end more from ps sub fs rest)

edge_both : (end : Facts) (from : ℕ) (ps : List Phi) (fs gs : Facts) → EdgeFacts end from ps fs → EdgeFacts end from ps gs → EdgeFacts end from ps (fs ++ gs)
edge_both end from ps [] gs s t = t
edge_both end from ps ((x, v) ∷ fs) gs (outside, here, rest) t = (outside, here, edge_both end from ps fs gs rest t)

-- ---- two solutions

module _ (c : ℕ → Option Operand) (f : Function) where
  ends_in : (starts others : ℕ → Facts) → ((n : ℕ) → AreIn (starts n) (others n)) → (n : ℕ) → AreIn (ends_of c starts f n) (ends_of c others f n)
  ends_in starts others sub n = by (find_block f.blocks n)
    where
      by : (o : Option Block) → AreIn (end_of c starts o) (end_of c others o)
      by None x v h = h
      by (Some b) x v h = lines_in c b.lines (starts b.number) (others b.number) (sub b.number) x v h

  module _ (s t : ℕ → Facts) where
    abbrev pub both : ℕ → Facts
    both n = s n ++ t n

    pub both_solve : IsSolution c f s → IsSolution c f t → IsSolution c f both
    both_solve first second = record {
      known = λ n x v h. elim (one_of (s n) (t n) x v h) [ inl a ↦ first.known n x v a | inr b ↦ second.known n x v b ];
      entry = λ b e. ap (λ (fs : Facts). fs ++ t b.number) (first.entry b e) ∙ second.entry b e;
      outside = λ n x v b e h. elim (one_of (s n) (t n) x v h) [ inl a ↦ first.outside n x v b e a | inr d ↦ second.outside n x v b e d ];
      edges = λ m n a b at target found.
          edge_both (ends_of c both f m) m b.phis (s n) (t n)
          (edge_in (ends_of c s f m) (ends_of c both f m) m b.phis (ends_in s both (λ k. left_in (s k) (t k)) m) (s n) (first.edges m n a b at target found))
          (edge_in (ends_of c t f m) (ends_of c both f m) m b.phis (ends_in t both (λ k. right_in (s k) (t k)) m) (t n) (second.edges m n a b at target found));
    }

  pub one_step : (g h : Function) → IsStep c f g → IsStep c f h → g ≡ h
  one_step g h first second =
      let solves = both_solve first.starts second.starts first.solution second.solution in
      first.most (both first.starts second.starts) solves (λ n. left_in (first.starts n) (second.starts n))
      ∙ sym (second.most (both first.starts second.starts) solves (λ n. right_in (first.starts n) (second.starts n)))

-- ---- rounds

one_round : (f g h : Function) → IsRound f g → IsRound f h → g ≡ h
one_round f g h first second = one_step (candidate_of (settled f)) (settled f) g h first second

one_chain : (n : ℕ) (f g h : Function) → AreRounds n f g → AreRounds n f h → g ≡ h
unfolding AreRounds
one_chain zero f g h first second = first ∙ sym second
one_chain (suc n) f g h (k, round, more) (l, round', more') =
    one_chain n l g h (subst (λ (j : Function). AreRounds n j g) (one_round f k l round round') more) more'

pub is_one : AppliedIsOne
is_one f g h first second = one_chain 16 f g h first second
