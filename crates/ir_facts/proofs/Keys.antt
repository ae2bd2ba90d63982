-- Each local has at most one candidate, so lists of candidates are looked up alike, whole or in parts.
use Rattle.std.proofs.Common.{◌≡◌, ℕ, ◌+◌, ◌≤◌, nat_eq, ◌==◌, ◌⊎◌, inl, inr, Bool, true, false, List, [], ◌∷◌, ◌++◌, Option, Some, None, map, refl, sym, ◌∙◌, ap, subst, arith, if◌then◌else◌}
use Rattle.std.specs.Prelude.{flat_map}
use Rattle.std.specs.List.{cons_option}
use Rattle.std.proofs.lemmas.Bool.{cases_eq, eq-eqb, eqb-true, false≢true, or_cases}
use Rattle.ir_tree.specs.Flow.{definitions, locals, parameters, phi_locals, results}
use Rattle.ir_tree.specs.Formed.{Distinct, numbers}
use Rattle.ir_tree.specs.declared.block.Block.{Block}
use Rattle.ir_tree.specs.declared.function.Function.{Function}
use Rattle.ir_tree.specs.declared.instr.Instr.{Instr}
use Rattle.ir_tree.specs.declared.instr.Line.{Line}
use Rattle.ir_tree.specs.declared.instr.Phi.{Phi}
use Rattle.ir_tree.specs.declared.operand.Operand.{Operand}
use Rattle.ir_meaning.specs.Facts.{Facts, Has}
use Rattle.ir_edit.specs.Numbered.{later_or}
use Rattle.ir_edit.specs.Substituted.{replacement}
use Rattle.ir_edit.proofs.Tally.{tally, tally_both, tally_same}
use Rattle.fact_sources.specs.Apart.{firm, resting}
use Rattle.ir_facts.specs.Candidates.{block_candidates, blocks_candidates, candidates, line_candidates, line_source, paired, phi_candidates, phi_source, result_candidate}
use Rattle.fact_sources.specs.Membership.{is_member}
use Rattle.fact_sources.specs.Naming.{is_key}
use Rattle.ir_facts.proofs.Matching.{Once, locals_once, once_right}
use Rattle.fact_sources.proofs.Unnamed.{no_key}

-- the locals of facts
abbrev pub keys : Facts → List ℕ
keys [] = []
keys ((x, v) ∷ fs) = x ∷ keys fs

keys_both : (fs gs : Facts) → keys (fs ++ gs) ≡ keys fs ++ keys gs
keys_both [] gs = refl
keys_both ((x, v) ∷ fs) gs = ap (λ (xs : List ℕ). x ∷ xs) (keys_both fs gs)

module _ (x : ℕ) where
  -- how often x is counted
  abbrev Fewer : Facts → List ℕ → Type 0
  Fewer fs xs = tally x (keys fs) ≤ tally x xs

  fewer_both : (fs gs : Facts) (xs ys : List ℕ) → Fewer fs xs → Fewer gs ys → Fewer (fs ++ gs) (xs ++ ys)
  fewer_both fs gs xs ys a b =
      let left : tally x (keys (fs ++ gs)) ≡ tally x (keys fs) + tally x (keys gs) = ap (tally x) (keys_both fs gs) ∙ tally_both x (keys fs) (keys gs) in
      let right : tally x (xs ++ ys) ≡ tally x xs + tally x ys = tally_both x xs ys in
      omega (arith, left, right, a, b)

  fewer_paired : (y : ℕ) (o : Option Operand) → Fewer (paired y o) (y ∷ [])
  fewer_paired y None = omega arith
  fewer_paired y (Some v) = omega arith

  fewer_phis : (all ps : List Phi) → Fewer (phi_candidates all ps) (map (λ p. p.local) ps)
  fewer_phis all [] = omega arith
  fewer_phis all (p ∷ ps) = fewer_both (paired p.local (phi_source all p)) (phi_candidates all ps) (p.local ∷ []) (map (λ q. q.local) ps) (fewer_paired p.local (phi_source all p)) (fewer_phis all ps)

  fewer_result : (o : Option ℕ) (i : Instr) → Fewer (result_candidate o i) (cons_option o [])
  fewer_result None i = omega arith
  fewer_result (Some y) i = fewer_paired y (line_source y i)

  results_cons : (o : Option ℕ) (xs : List ℕ) → cons_option o [] ++ xs ≡ cons_option o xs
  results_cons None xs = refl
  results_cons (Some y) xs = refl

  fewer_lines : (ls : List Line) → Fewer (line_candidates ls) (results ls)
  fewer_lines [] = omega arith
  fewer_lines (l ∷ ls) =
      subst (λ (xs : List ℕ). Fewer (line_candidates (l ∷ ls)) xs) (results_cons l.local (results ls))
      (fewer_both (result_candidate l.local l.instr) (line_candidates ls) (cons_option l.local []) (results ls) (fewer_result l.local l.instr) (fewer_lines ls))

  fewer_block : (b : Block) → Fewer (block_candidates b) (definitions b)
  unfolding block_candidates
  fewer_block b = fewer_both (phi_candidates b.phis b.phis) (line_candidates b.lines) (phi_locals b) (results b.lines) (fewer_phis b.phis b.phis) (fewer_lines b.lines)

  fewer_blocks : (bs : List Block) → Fewer (blocks_candidates bs) (flat_map definitions bs)
  fewer_blocks [] = omega arith
  fewer_blocks (b ∷ bs) = fewer_both (block_candidates b) (blocks_candidates bs) (definitions b) (flat_map definitions bs) (fewer_block b) (fewer_blocks bs)

pub candidates_once : (f : Function) → Distinct (locals f ++ numbers f) → Once (keys (candidates f))
candidates_once f once x =
    let one : tally x (flat_map definitions f.blocks) ≤ 1 = once_right (parameters f) (flat_map definitions f.blocks) (locals_once f once) x in
    let few : tally x (keys (candidates f)) ≤ tally x (flat_map definitions f.blocks) = fewer_blocks x f.blocks in
    omega (arith, one, few)

-- ---- looking up

key_counted : (x : ℕ) (fs : Facts) → is_key x fs ≡ true → 1 ≤ tally x (keys fs)
key_counted x [] h = absurd (false≢true h)
key_counted x ((y, v) ∷ fs) h = elim (cases_eq x y) [ inl e ↦ here e | inr ne ↦ later ne (λ more. key_counted x fs more) ]
  where
    here : x ≡ y → 1 ≤ (if nat_eq x y then 1 else 0) + tally x (keys fs)
    here e = let one : 1 ≤ (if nat_eq x y then 1 else 0) = tally_same x y e in omega (arith, one)

    later : (x ≡ y → ⊥) → (is_key x fs ≡ true → 1 ≤ tally x (keys fs)) → 1 ≤ (if nat_eq x y then 1 else 0) + tally x (keys fs)
    later ne on =
        let rest : 1 ≤ tally x (keys fs) = elim (or_cases (y == x) (is_key x fs) h) [ inl e ↦ absurd (ne (sym (eqb-true y x e))) | inr more ↦ on more ] in
        omega (arith, rest)

once_tail : (y : ℕ) (xs : List ℕ) → Once (y ∷ xs) → Once xs
once_tail y xs once x = let all : (if nat_eq x y then 1 else 0) + tally x xs ≤ 1 = once x in omega (arith, all)

no_later : (y : ℕ) (v : Operand) (fs : Facts) → Once (keys ((y, v) ∷ fs)) → is_key y fs ≡ false
no_later y v fs once = by (is_key y fs) refl
  where
    by : (b : Bool) → is_key y fs ≡ b → b ≡ false
    by false e = refl
    by true e =
        let all : (if nat_eq y y then 1 else 0) + tally y (keys fs) ≤ 1 = once y in
        let one : 1 ≤ (if nat_eq y y then 1 else 0) = tally_same y y refl in
        let more : 1 ≤ tally y (keys fs) = key_counted y fs e in
        absurd (omega (arith, all, one, more))

-- what is looked up stands in the list
pub found_has : (fs : Facts) (x : ℕ) (v : Operand) → replacement fs x ≡ Some v → Has fs x v
found_has [] x v e = absurd (cc e)
found_has ((y, u) ∷ fs) x v e = by (replacement fs x) refl e (found_has fs x v)
  where
    here : (b : Bool) → (y == x) ≡ b → (if b then Some u else None) ≡ Some v → ((y ≡ x) × (u ≡ v)) ⊎ Has fs x v
    here true q e' = inl (eqb-true y x q, cc e')
    here false q e' = absurd (cc e')

    by : (o : Option Operand) → replacement fs x ≡ o → later_or o (if y == x then Some u else None) ≡ Some v → (replacement fs x ≡ Some v → Has fs x v) → ((y ≡ x) × (u ≡ v)) ⊎ Has fs x v
    by None q e' more = here (y == x) refl e'
    by (Some w) q e' more = inr (more (q ∙ e'))

-- and what stands in it once is looked up
pub has_found : (fs : Facts) → Once (keys fs) → (x : ℕ) (v : Operand) → Has fs x v → replacement fs x ≡ Some v
has_found [] once x v h = absurd h
has_found ((y, u) ∷ fs) once x v (inl e) =
    ap (λ (o : Option Operand). later_or o (if y == x then Some u else None)) (no_key fs x (ap (λ (n : ℕ). is_key n fs) (sym e.0) ∙ no_later y u fs once))
    ∙ ap (λ (b : Bool). if b then Some u else None) (eq-eqb y x e.0)
    ∙ ap (λ (w : Operand). Some w) e.1
has_found ((y, u) ∷ fs) once x v (inr h) = ap (λ (o : Option Operand). later_or o (if y == x then Some u else None)) (has_found fs (once_tail y (keys fs) once) x v h)

-- ---- parts

module _ (among : ℕ → Bool) where
  pub resting_has : (fs : Facts) (x : ℕ) (v : Operand) → Has (resting among fs) x v → Has fs x v × (is_member among v ≡ true)
  resting_has [] x v h = absurd h
  resting_has ((y, u) ∷ fs) x v h = by (is_member among u) refl h (resting_has fs x v)
    where
      by : (b : Bool) → is_member among u ≡ b → Has (if b then (y, u) ∷ resting among fs else resting among fs) x v → (Has (resting among fs) x v → Has fs x v × (is_member among v ≡ true))
          → (((y ≡ x) × (u ≡ v)) ⊎ Has fs x v) × (is_member among v ≡ true)
      by true q (inl e) more = (inl e, ap (is_member among) (sym e.1) ∙ q)
      by true q (inr h') more = let rest = more h' in (inr rest.0, rest.1)
      by false q h' more = let rest = more h' in (inr rest.0, rest.1)

  pub has_resting : (fs : Facts) (x : ℕ) (v : Operand) → Has fs x v → is_member among v ≡ true → Has (resting among fs) x v
  has_resting [] x v h m = absurd h
  has_resting ((y, u) ∷ fs) x v h m = by (is_member among u) refl h (λ h'. has_resting fs x v h' m)
    where
      by : (b : Bool) → is_member among u ≡ b → ((y ≡ x) × (u ≡ v)) ⊎ Has fs x v → (Has fs x v → Has (resting among fs) x v) → Has (if b then (y, u) ∷ resting among fs else resting among fs) x v
      by true q (inl e) more = inl e
      by true q (inr h') more = inr (more h')
      by false q (inl e) more = absurd (false≢true (sym q ∙ ap (is_member among) e.1 ∙ m))
      by false q (inr h') more = more h'

  pub firm_has : (fs : Facts) (x : ℕ) (v : Operand) → Has (firm among fs) x v → Has fs x v × (is_member among v ≡ false)
  firm_has [] x v h = absurd h
  firm_has ((y, u) ∷ fs) x v h = by (is_member among u) refl h (firm_has fs x v)
    where
      by : (b : Bool) → is_member among u ≡ b → Has (if b then firm among fs else (y, u) ∷ firm among fs) x v → (Has (firm among fs) x v → Has fs x v × (is_member among v ≡ false))
          → (((y ≡ x) × (u ≡ v)) ⊎ Has fs x v) × (is_member among v ≡ false)
      by true q h' more = let rest = more h' in (inr rest.0, rest.1)
      by false q (inl e) more = (inl e, ap (is_member among) (sym e.1) ∙ q)
      by false q (inr h') more = let rest = more h' in (inr rest.0, rest.1)

  pub has_firm : (fs : Facts) (x : ℕ) (v : Operand) → Has fs x v → is_member among v ≡ false → Has (firm among fs) x v
  has_firm [] x v h m = absurd h
  has_firm ((y, u) ∷ fs) x v h m = by (is_member among u) refl h (λ h'. has_firm fs x v h' m)
    where
      by : (b : Bool) → is_member among u ≡ b → ((y ≡ x) × (u ≡ v)) ⊎ Has fs x v → (Has fs x v → Has (firm among fs) x v) → Has (if b then firm among fs else (y, u) ∷ firm among fs) x v
      by false q (inl e) more = inl e
      by false q (inr h') more = inr (more h')
      by true q (inl e) more = absurd (false≢true (sym m ∙ ap (is_member among) (sym e.1) ∙ q))
      by true q (inr h') more = more h'

  -- the parts are looked up as the whole
  firm_once : (fs : Facts) (x : ℕ) → tally x (keys (firm among fs)) ≤ tally x (keys fs)
  firm_once [] x = omega arith
  firm_once ((y, u) ∷ fs) x = by (is_member among u) (firm_once fs x)
    where
      by : (b : Bool) → tally x (keys (firm among fs)) ≤ tally x (keys fs) → tally x (keys (if b then firm among fs else (y, u) ∷ firm among fs)) ≤ (if nat_eq x y then 1 else 0) + tally x (keys fs)
      by true less = omega (arith, less)
      by false less = omega (arith, less)

  pub firm_found : (fs : Facts) → Once (keys fs) → (x : ℕ) (v : Operand) → replacement fs x ≡ Some v → is_member among v ≡ false → replacement (firm among fs) x ≡ Some v
  firm_found fs once x v e m =
      has_found (firm among fs) (λ y. let all : tally y (keys fs) ≤ 1 = once y in let less : tally y (keys (firm among fs)) ≤ tally y (keys fs) = firm_once fs y in omega (arith, all, less))
      x v (has_firm fs x v (found_has fs x v e) m)

  pub firm_sub : (fs : Facts) → Once (keys fs) → (x : ℕ) (v : Operand) → replacement (firm among fs) x ≡ Some v → (replacement fs x ≡ Some v) × (is_member among v ≡ false)
  firm_sub fs once x v e =
      let two = firm_has fs x v (found_has (firm among fs) x v e) in
      (has_found fs once x v two.0, two.1)
