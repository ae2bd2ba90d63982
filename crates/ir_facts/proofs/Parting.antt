-- Facts that rest on what unreached blocks give, and the others: the others hold wherever they are used.
use Rattle.std.proofs.Common.{◌≡◌, ℕ, ◌+◌, inl, inr, Bool, true, false, List, [], ◌∷◌, Option, Some, None, refl, sym, ◌∙◌, ap, subst, arith}
use Rattle.std.specs.Prelude.{slice_get}
use Rattle.std.proofs.lemmas.Bool.{false≢true, or_cases}
use Rattle.lto_sets.specs.Sets.{contains}
use Rattle.ir_tree.specs.Flow.{Reachable, defined_in, definitions, holds, phi_locals, results}
use Rattle.ir_tree.specs.Rules.{Sound}
use Rattle.ir_tree.specs.declared.block.Block.{Block}
use Rattle.ir_tree.specs.declared.function.Function.{Function}
use Rattle.ir_tree.specs.declared.instr.Instr.{Instr}
use Rattle.ir_tree.specs.declared.instr.Line.{Line}
use Rattle.ir_tree.specs.declared.instr.Phi.{Phi}
use Rattle.ir_tree.specs.declared.operand.Operand.{Operand}
use Rattle.ir_tree.specs.declared.operand.Operand.TheVariants.{Local, Null, Number as Constant, Poison as PoisonOf, Symbol as Named}
use Rattle.ir_meaning.specs.Facts.{Facts, Has}
use Rattle.ir_edit.specs.Substituted.{replacement, substituted}
use Rattle.fact_sources.specs.Apart.{IsApart, defined, firm, resting}
use Rattle.fact_sources.specs.AtPoints.{function_at}
use Rattle.ir_facts.specs.Candidates.{block_candidates, candidates, line_candidates, phi_candidates}
use Rattle.ir_facts.specs.Clear.{IsClear, is_barred, is_over, stands_over}
use Rattle.fact_sources.specs.Membership.{is_member}
use Rattle.ir_facts.specs.Points.{EachIsFact}
use Rattle.ir_facts.specs.Steps.{IsStep, candidate_of, step_of}
use Rattle.fact_sources.specs.declared.fact.Fact.{Fact}
use Rattle.ir_facts.proofs.AtPoints.{OwnAll, made_step, pairs}
use Rattle.ir_facts.proofs.Covering.{covered, or_mono}
use Rattle.ir_facts.proofs.Covers.{Covers, opening}
use Rattle.ir_facts.proofs.Holding.{one_step}
use Rattle.ir_facts.proofs.Inner.{CandidateAt, candidate_at, holds_key, inner_or_near, none_among, over_or_not}
use Rattle.ir_facts.proofs.Keys.{candidates_once, firm_found, firm_sub, found_has, has_found, has_resting, keys, resting_has}
use Rattle.ir_facts.proofs.Matching.{Once, apart_right, has_site, keys_block, keys_lines, site_of}
use Rattle.ir_facts.proofs.OneFunction.{one_of}
use Rattle.fact_sources.proofs.Outside.{apart_from, apart_to}
use Rattle.ir_facts.proofs.Passing.{apart_safe, block_once, given_once, one_definer, open_out, source_reached, sources_safe}
use Rattle.ir_facts.proofs.RightSources.{AreSources, LineSource, LineSources, PhiSources}
use Rattle.ir_facts.proofs.Sourcing.{are_sources}
use Rattle.ir_facts.proofs.Substituting.{holds_left}
use Rattle.ir_facts.proofs.Thinning.{MayRead, Thin, clear_at, covers_thin, inner, may_read, over, thin, thin_parts}

-- ---- fewer candidates are sources

module _ (c cf : ℕ → Option Operand) (sub : (x : ℕ) (v : Operand) → cf x ≡ Some v → c x ≡ Some v) where
  line_less : (o : Option ℕ) (i : Instr) → LineSource c o i → LineSource cf o i
  line_less None i own = tt
  line_less (Some y) i own = λ v e. own v (sub y v e)

  lines_less : (ls : List Line) → LineSources c ls → LineSources cf ls
  lines_less [] own = tt
  lines_less (l ∷ ls) own = (line_less l.local l.instr own.0, lines_less ls own.1)

  phis_less : (all ps : List Phi) → PhiSources c all ps → PhiSources cf all ps
  phis_less all [] own = tt
  phis_less all (p ∷ ps) own = ((λ v e. own.0 v (sub p.local v e)), phis_less all ps own.1)

  pub sources_less : (f : Function) → AreSources c f → AreSources cf f
  sources_less f src = record {
    lines = λ p b e. lines_less b.lines (src.lines p b e);
    phis = λ p b e. phis_less b.phis b.phis (src.phis p b e);
    params = λ x v e. src.params x v (sub x v e);
    within = λ x z e. src.within x z (sub x (Local z) e);
  }

-- ---- facts of candidates

pub own_all : (c : ℕ → Option Operand) (ts : List Fact) → ((x : ℕ) (v : Operand) → Has (pairs ts) x v → c x ≡ Some v) → OwnAll c ts
own_all c [] own = tt
own_all c (t ∷ ts) own = (own t.local t.value (inl (refl, refl)), own_all c ts (λ x v h. own x v (inr h)))

-- ---- the step

module _ (f : Function) (sound : Sound f) (among : ℕ → Bool) (a : IsApart f among) where
  once : Once (keys (candidates f))
  once = candidates_once f sound.formed.once

  -- a local that no unreached block defines is defined in reached ones
  reached_block : (z p : ℕ) (b : Block) → among z ≡ false → slice_get f.blocks p ≡ Some b → holds (definitions b) z ≡ true → Reachable f p
  reached_block z p b out e h = by (contains a.reached p) refl
    where
      by : (t : Bool) → contains a.reached p ≡ t → Reachable f p
      by true q = (a.reach.1 p).0 q
      by false q =
          let here : 0 + p ≡ p = omega arith in
          absurd (false≢true (sym out ∙ a.is z ∙ apart_to (contains a.reached) z 0 f.blocks p b e (ap (contains a.reached) here ∙ q) h))

  firm_of : (x : ℕ) (v : Operand) → replacement (firm among (candidates f)) x ≡ Some v → (replacement (candidates f) x ≡ Some v) × (is_member among v ≡ false)
  firm_of x v e = firm_sub among (candidates f) once x v e

  fewer : (x : ℕ) (v : Operand) → replacement (firm among (candidates f)) x ≡ Some v → replacement (candidates f) x ≡ Some v
  fewer x v e = (firm_of x v e).0

  -- a source of a firm fact has no fact that rests
  keeps_apart : (r : ℕ → ℕ → Bool) (cov : Covers r f) (y x : ℕ) (v : Operand) → replacement (firm among (candidates f)) y ≡ Some (Local x) → Has (resting among (candidates f)) x v → ⊥
  keeps_apart r cov y x v own h = by v (resting_has among (candidates f) x v h)
    where
      out : among x ≡ false
      out = (firm_of y (Local x) own).1

      rests : (z : ℕ) → replacement (candidates f) x ≡ Some (Local z) → among z ≡ true → ⊥
      rests z q m =
          let away = apart_from (contains a.reached) z 0 f.blocks (sym (a.is z) ∙ m) in
          let site = site_of f sound.formed.once f.blocks x (has_site f sound.formed.once x (Local z) q).0 in
          let way = reached_block x site.0 site.1 out site.2 site.3 in
          let there = source_reached (replacement (candidates f)) r f cov (are_sources r f cov) site.0 away.at x z away.block way
          (ap (λ (o : Option Block). defined_in o x) site.2 ∙ site.3) q away.found away.here in
          let here : away.at ≡ 0 + away.at = omega arith in
          false≢true (sym away.out ∙ ap (contains a.reached) (sym here) ∙ (a.reach.1 away.at).1 there)

      by : (v : Operand) → Has (candidates f) x v × (is_member among v ≡ true) → ⊥
      by (Local z) two = rests z (has_found (candidates f) once x (Local z) two.0) two.1
      by (Constant w a) two = false≢true two.1
      by Null two = false≢true two.1
      by (PoisonOf reg) two = false≢true two.1
      by (Named t i) two = false≢true two.1

  pub step_at : (ts : List Fact) → pairs ts ≡ resting among (candidates f) → EachIsFact f ts → IsStep (candidate_of f) f (function_at ts (substituted (firm among (candidates f)) f))
  step_at ts listed each =
      let all = covered f sound in
      let src = sources_less (replacement (candidates f)) (replacement (firm among (candidates f))) fewer f (are_sources all.family f all.held) in
      made_step (replacement (candidates f)) (replacement (firm among (candidates f))) fewer all.family f all.held src
      (sources_safe (replacement (firm among (candidates f))) all.family f all.held src (λ x z p b own e h. reached_block z p b (firm_of x (Local z) own).1 e h))
      ts each
      (own_all (replacement (candidates f)) ts (λ x v h. has_found (candidates f) once x v (resting_has among (candidates f) x v (subst (λ (fs : Facts). Has fs x v) listed h)).0))
      complete
      (λ y x v own h. keeps_apart all.family all.held y x v own (subst (λ (fs : Facts). Has fs x v) listed h))
    where
      complete : (x : ℕ) (v : Operand) → replacement (candidates f) x ≡ Some v → replacement (firm among (candidates f)) x ≡ None → Has (pairs ts) x v
      complete x v q none = by (is_member among v) refl
        where
          by : (t : Bool) → is_member among v ≡ t → Has (pairs ts) x v
          by true m = subst (λ (fs : Facts). Has fs x v) (sym listed) (has_resting among (candidates f) x v (found_has (candidates f) x v q) m)
          by false m = absurd (let clash : ◌≡◌ {A = Option Operand} None (Some v) = sym none ∙ firm_found among (candidates f) once x v q m in cc clash)

  -- where nothing rests on what unreached blocks give, each use is replaced
  pub step_everywhere : resting among (candidates f) ≡ [] → IsStep (candidate_of f) f (step_of f)
  step_everywhere none =
      let all = covered f sound in
      let src = are_sources all.family f all.held in
      one_step (replacement (candidates f)) all.family f all.held src
      (sources_safe (replacement (candidates f)) all.family f all.held src (λ x z p b own e h. reached_block z p b (out x z own) e h))
    where
      out : (x z : ℕ) → replacement (candidates f) x ≡ Some (Local z) → among z ≡ false
      out x z own = by (among z) refl
        where
          by : (t : Bool) → among z ≡ t → t ≡ false
          by false m = refl
          by true m = absurd (subst (λ (fs : Facts). Has fs x (Local z)) none (has_resting among (candidates f) x (Local z) (found_has (candidates f) x (Local z) own) m))

  -- where blocks are clear of what rests on what unreached blocks give, each use is replaced too
  module _ (clear : IsClear among f) (r : ℕ → ℕ → Bool) (cov : Covers r f) where
    abbrev less : ℕ → ℕ → Bool
    less = thin among r f cov clear

    same_block : (p q : ℕ) (b d : Block) → p ≡ q → slice_get f.blocks p ≡ Some b → slice_get f.blocks q ≡ Some d → b ≡ d
    same_block p q b d same e g = cc (sym e, ap (slice_get f.blocks) same, g)

    place_of : (p q x : ℕ) (b d : Block) → slice_get f.blocks p ≡ Some b → slice_get f.blocks q ≡ Some d → holds (definitions b) x ≡ true → holds (definitions d) x ≡ true → p ≡ q
    place_of p q x b d e g h k = one_definer f.blocks (given_once (replacement (candidates f)) r f cov (are_sources r f cov)) p q x b d e g h k

    one_place_of : (p q x : ℕ) (b d : Block) → slice_get f.blocks p ≡ Some b → slice_get f.blocks q ≡ Some d → holds (definitions b) x ≡ true → holds (definitions d) x ≡ true → b ≡ d
    one_place_of p q x b d e g h k = same_block p q b d (place_of p q x b d e g h k) e g

    -- the place that the table has for a local is that of its block
    placed_at : (x p q : ℕ) (b : Block) → clear.at x ≡ Some q → slice_get f.blocks p ≡ Some b → holds (definitions b) x ≡ true → q ≡ p
    placed_at x p q b is e h = by (slice_get f.blocks q) refl (clear.placed x q is)
      where
        by : (o : Option Block) → slice_get f.blocks q ≡ o → defined_in o x ≡ true → q ≡ p
        by None g k = absurd (false≢true k)
        by (Some d) g k = place_of q p x d b g e k h

    -- the candidate of a phi that rests, its block doesn't define
    phi_out : (p : ℕ) (b : Block) (x z : ℕ) → slice_get f.blocks p ≡ Some b → holds (phi_locals b) x ≡ true → Has (block_candidates b) x (Local z) → holds (definitions b) z ≡ false
    unfolding block_candidates
    phi_out p b x z e h has =
        elim (one_of (phi_candidates b.phis b.phis) (line_candidates b.lines) x (Local z) has) [
          | inl a ↦ none_among (defined b) (phi_candidates b.phis b.phis) x (Local z) (clear_at among r f cov clear p b e).sources a
          | inr a ↦
              absurd (false≢true (
              sym (apart_right x (phi_locals b) (results b.lines) (block_once (replacement (candidates f)) r f cov (are_sources r f cov) p b e x) h)
              ∙ holds_key (line_candidates b.lines) (results b.lines) (keys_lines b.lines) x (Local z) a
              ))
        ]

    resting_out : (p : ℕ) (b : Block) (x z : ℕ) → slice_get f.blocks p ≡ Some b → opening less p b x ≡ true → replacement (candidates f) x ≡ Some (Local z) → among z ≡ true → holds (definitions b) z ≡ false
    resting_out p b x z e h is m = by (holds (definitions b) z) refl
      where
        site : CandidateAt f.blocks x (Local z)
        site = candidate_at f.blocks x (Local z) (found_has (candidates f) x (Local z) is)

        here : holds (definitions site.block) x ≡ true
        here = holds_key (block_candidates site.block) (definitions site.block) (keys_block site.block) x (Local z) site.has

        -- an inner local isn't read where its candidate is defined
        inner_out : holds (definitions b) z ≡ true → Thin among r f cov clear p x → inner among r f cov clear x ≡ true → ⊥
        inner_out d parts i =
            by (may_read (over among r f cov clear x) (clear.at x) clear.above p
            (ap (λ (t : Bool). is_barred t (over among r f cov clear x) (clear.at x) clear.above p) (sym i) ∙ parts.free))
          where
            under : (q : ℕ) → clear.at x ≡ Some q → over among r f cov clear x ≡ false → clear.above q p ≡ true → ⊥
            under q is low up =
                elim (over_or_not clear.at clear.above x z f.blocks site.at site.block site.found site.has) [
                  | inl o ↦ false≢true (sym low ∙ o)
                  | inr apart ↦
                      beside_it (clear.at z) refl (ap (λ (j : ℕ). is_over clear.at clear.above j z) (placed_at x site.at q site.block is site.found here) ∙ apart)
                ]
              where
                beside_it : (o : Option ℕ) → clear.at z ≡ o → stands_over clear.above q o ≡ false → ⊥
                beside_it None k n = false≢true (sym n)
                beside_it (Some j) k n = false≢true (sym n ∙ ap (λ (i : ℕ). clear.above q i) (placed_at z p j b k e d) ∙ up)

            by : MayRead (over among r f cov clear x) (clear.at x) clear.above p → ⊥
            by m =
                elim m.where' [
                  | inl same ↦ false≢true (sym parts.apart ∙ ap (λ (j : ℕ). defined_in (slice_get f.blocks j) x) (sym same) ∙ clear.placed x m.at m.is)
                  | inr two ↦ under m.at m.is two.0 two.1
                ]

        at_start : holds (definitions b) z ≡ true → less p x ≡ true → ⊥
        at_start d g =
            let parts = thin_parts among r f cov clear p x g in
            elim (inner_or_near among f.blocks site.at site.block x z site.found site.has m) [
              | inl i ↦ inner_out d parts i
              | inr near ↦
                  false≢true (
                  sym parts.apart
                  ∙ ap (λ (o : Option Block). defined_in o x) e
                  ∙ ap (λ (k : Block). holds (definitions k) x) (one_place_of p site.at z b site.block e site.found d near)
                  ∙ here
                  )
            ]

        as_phi : holds (phi_locals b) x ≡ true → holds (definitions b) z ≡ false
        as_phi g =
            let same = one_place_of site.at p x site.block b site.found e here (holds_left (phi_locals b) (results b.lines) x g) in
            phi_out p b x z e g (subst (λ (k : Block). Has (block_candidates k) x (Local z)) same site.has)

        by : (t : Bool) → holds (definitions b) z ≡ t → t ≡ false
        by false q = refl
        by true q =
            elim (or_cases (less p x) (holds (phi_locals b) x) h) [
              | inl g ↦ absurd (at_start q g)
              | inr g ↦ sym q ∙ as_phi g
            ]

    source_out : (p : ℕ) (b : Block) (x z : ℕ) → slice_get f.blocks p ≡ Some b → opening less p b x ≡ true → replacement (candidates f) x ≡ Some (Local z) → holds (definitions b) z ≡ false
    source_out p b x z e h is = by (among z) refl
      where
        wide : opening r p b x ≡ true
        wide = or_mono (less p x) (holds (phi_locals b) x) (r p x) (λ g. (thin_parts among r f cov clear p x g).there) h

        by : (t : Bool) → among z ≡ t → holds (definitions b) z ≡ false
        by true m = resting_out p b x z e h is m
        by false m =
            open_out (replacement (firm among (candidates f))) r f cov
            (sources_less (replacement (candidates f)) (replacement (firm among (candidates f))) fewer f (are_sources r f cov))
            (λ y w q d own g k. reached_block w q d (firm_of y (Local w) own).1 g k) p b x z e wide
            (firm_found among (candidates f) once x (Local z) is m)

    step_less : IsStep (candidate_of f) f (step_of f)
    step_less =
        let src = are_sources r f cov in
        let cov' = covers_thin among r f cov clear in
        one_step (replacement (candidates f)) less f cov' src
        (apart_safe (replacement (candidates f)) less f cov' src source_out
        (λ p b x z e is g. ap (λ (o : Option Block). defined_in o z) (sym e) ∙ (thin_parts among r f cov clear p z g).apart))

  pub step_clear : IsClear among f → IsStep (candidate_of f) f (step_of f)
  step_clear clear = let all = covered f sound in step_less clear all.family all.held
