-- The greatest marks are one, so a fact holds at one set of points.
use Rattle.std.proofs.Common.{◌≡◌, ℕ, suc, ◌+◌, ◌<◌, Bool, List, [], ◌∷◌, ◌++◌, length, map, refl, sym, ap, ◌∙◌, subst, arith}
use Rattle.ir_tree.specs.declared.block.Block.{Block}
use Rattle.ir_tree.specs.declared.function.Function.{Function}
use Rattle.ir_tree.specs.declared.operand.Operand.{Operand}
use Rattle.ir_meaning.proofs.Names.Moved.{both}
use Rattle.ir_facts.specs.Points.{EachIsFact, FactsAreOne, IsFact, line_points, points_from}
use Rattle.fact_sources.specs.declared.fact.Fact.{Fact}

-- points rest on the marks of the blocks alone
points_same : (x : ℕ) (v : Operand) (s t : ℕ → Bool) (p : ℕ) (bs : List Block) → ((q : ℕ) → q < p + length bs → s q ≡ t q) → points_from x v s p bs ≡ points_from x v t p bs
points_same x v s t p [] same = refl
points_same x v s t p (b ∷ bs) same =
    ap (λ (held : Bool). line_points x v b.lines held ++ points_from x v s (suc p) bs) (same p (omega arith))
    ∙ ap (λ (more : List Bool). line_points x v b.lines (t p) ++ more) (points_same x v s t (suc p) bs (λ q lt. same q (omega (arith, lt))))

abbrev pair_of : Fact → ℕ × Operand
pair_of t = (t.local, t.value)

module _ (f : Function) where
  same_points : (x : ℕ) (v : Operand) (at others : List Bool) → IsFact f (record { local = x; value = v; at = at }) → IsFact f (record { local = x; value = v; at = others }) → at ≡ others
  same_points x v at others a b =
      a.points
      ∙ points_same x v a.starts b.starts 0 f.blocks
      (λ q lt. let within : q < length f.blocks = omega (arith, lt) in
      both (a.starts q) (b.starts q) (b.greatest a.starts a.solution q within) (a.greatest b.starts b.solution q within))
      ∙ sym b.points

  same_fact : (s t : Fact) → s.local ≡ t.local → s.value ≡ t.value → IsFact f s → IsFact f t → s ≡ t
  same_fact s t e g a b =
      let named : s ≡ record { local = t.local; value = t.value; at = s.at } =
      ap (λ (x : ℕ). record { local = x; value = s.value; at = s.at }) e ∙ ap (λ (v : Operand). record { local = t.local; value = v; at = s.at }) g in
      named ∙ ap (λ (at : List Bool). record { local = t.local; value = t.value; at = at }) (same_points t.local t.value s.at t.at (subst (IsFact f) named a) b)

  same_list : (ss ts : List Fact) → map pair_of ss ≡ map pair_of ts → EachIsFact f ss → EachIsFact f ts → ss ≡ ts
  same_list [] [] e a b = refl
  same_list [] (t ∷ ts) e a b = absurd (cc e)
  same_list (s ∷ ss) [] e a b = absurd (cc e)
  same_list (s ∷ ss) (t ∷ ts) e a b =
      let first : pair_of s ≡ pair_of t = cc e in
      let rest : map pair_of ss ≡ map pair_of ts = cc e in
      ap (λ (u : Fact). u ∷ ss) (same_fact s t (ap (λ (p : ℕ × Operand). p.0) first) (ap (λ (p : ℕ × Operand). p.1) first) a.0 b.0)
      ∙ ap (λ (us : List Fact). t ∷ us) (same_list ss ts rest a.1 b.1)

pub are_one : FactsAreOne
are_one f ss ts a b = same_list f ss ts (a.listed ∙ sym b.listed) a.each b.each
