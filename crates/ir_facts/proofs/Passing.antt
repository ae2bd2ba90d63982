-- Where the sources of candidates are defined in reached blocks, no local that is there has its candidate given another value.
use Rattle.std.proofs.Common.{◌≡◌, ℕ, zero, suc, ◌<◌, nat_eq, ◌||◌, ◌⊎◌, inl, inr, Bool, true, false, List, [], ◌∷◌, Option, Some, None, map, length, refl, sym, ◌∙◌, ap, subst, arith}
use Rattle.std.specs.Prelude.{slice_get, flat_map}
use Rattle.std.specs.List.{cons_option}
use Rattle.std.proofs.lemmas.Bool.{eq-eqb, eqb-true, false≢true, ne_eqb, or_cases, or_left}
use Rattle.std.proofs.lemmas.List.Folds.{list_any-append}
use Rattle.ir_tree.specs.Flow.{Among, Path, Reachable, defined_in, definitions, holds, locals, parameters, phi_locals, results}
use Rattle.ir_tree.specs.declared.block.Block.{Block}
use Rattle.ir_tree.specs.declared.function.Function.{Function}
use Rattle.ir_tree.specs.declared.instr.Line.{Line}
use Rattle.ir_tree.specs.declared.instr.Phi.{Phi}
use Rattle.ir_tree.specs.declared.operand.Operand.{Operand}
use Rattle.ir_tree.specs.declared.operand.Operand.TheVariants.{Local, Null, Number as Constant, Poison as PoisonOf, Symbol as Named}
use Rattle.ir_meaning.specs.Facts.{is_local, is_phi_operand}
use Rattle.ir_flow.specs.Laws.{Passed}
use Rattle.ir_flow.proofs.Availability.{available-passed}
use Rattle.ir_flow.proofs.Reaching.{edge-from}
use Rattle.ir_facts.proofs.Covers.{Covers, LinesCovered, closing, closing_is, named, opening, with_named}
use Rattle.ir_facts.proofs.Holding.{AreSafe, LinesSafe, SafeFrom, phi_held}
use Rattle.ir_facts.proofs.Matching.{Once, apart_left, apart_right, locals_once, once_left, once_right}
use Rattle.ir_facts.proofs.RuleReads.{rule_kept}
use Rattle.ir_facts.proofs.RightSources.{AreSources, LineSource, LineSources}
use Rattle.ir_facts.proofs.Substituting.{at_place, in_blocks, line_sourced, phi_leads, taken_here}

-- ---- one block defines a local

pub one_definer : (bs : List Block) → Once (flat_map definitions bs) → (p q x : ℕ) (a b : Block) → slice_get bs p ≡ Some a → slice_get bs q ≡ Some b → holds (definitions a) x ≡ true → holds (definitions b) x ≡ true → p ≡ q
one_definer [] once p q x a b e d h g = absurd (cc e)
one_definer (z ∷ bs) once zero zero x a b e d h g = refl
one_definer (z ∷ bs) once zero (suc q) x a b e d h g =
    let is : z ≡ a = cc e in
    let out = apart_right x (definitions z) (flat_map definitions bs) (once x) (ap (λ (y : Block). holds (definitions y) x) is ∙ h) in
    absurd (false≢true (sym out ∙ in_blocks bs q b x d g))
one_definer (z ∷ bs) once (suc p) zero x a b e d h g =
    let is : z ≡ b = cc d in
    let out = apart_right x (definitions z) (flat_map definitions bs) (once x) (ap (λ (y : Block). holds (definitions y) x) is ∙ g) in
    absurd (false≢true (sym out ∙ in_blocks bs p a x e h))
one_definer (z ∷ bs) once (suc p) (suc q) x a b e d h g = ap suc (one_definer bs (once_right (definitions z) (flat_map definitions bs) once) p q x a b e d h g)

-- ---- paths that come back

cut : (f : Function) (b : ℕ) (ps : List ℕ) (p : ℕ) → Path f ps p → Among b ps → (qs : List ℕ) × Path f qs b × (length qs < length ps)
cut f b [] p w m = absurd m
cut f b (q ∷ ps) p w (inl e) = (ps, subst (Path f ps) (sym e) w.1, omega arith)
cut f b (q ∷ ps) p w (inr m) = let r = cut f b ps q w.1 m in (r.0, r.1, omega (arith, r.2))

-- not every path to a block passes it before
first_time : (f : Function) (b : ℕ) → ((qs : List ℕ) → Path f qs b → Among b qs) → (fuel : ℕ) (ps : List ℕ) → length ps < fuel → Path f ps b → ⊥
first_time f b all zero ps h w = absurd (omega (arith, h))
first_time f b all (suc fuel) ps h w = let r = cut f b ps b w (all ps w) in first_time f b all fuel r.0 (omega (arith, r.2, h)) r.1

module _ (c : ℕ → Option Operand) (r : ℕ → ℕ → Bool) (f : Function) (cov : Covers r f) (src : AreSources c f) where
  local_once : Once (locals f)
  local_once = locals_once f cov.once

  pub given_once : Once (flat_map definitions f.blocks)
  given_once = once_right (parameters f) (flat_map definitions f.blocks) local_once

  defined_block : (p x : ℕ) → defined_in (slice_get f.blocks p) x ≡ true → (b : Block) × (slice_get f.blocks p ≡ Some b) × (holds (definitions b) x ≡ true)
  defined_block p x h = by (slice_get f.blocks p) refl h
    where
      by : (o : Option Block) → slice_get f.blocks p ≡ o → defined_in o x ≡ true → (b : Block) × (slice_get f.blocks p ≡ Some b) × (holds (definitions b) x ≡ true)
      by None e h' = absurd (false≢true h')
      by (Some b) e h' = (b, e, h')

  -- what passed a local's only block passed the block
  passed_here : (p z : ℕ) (b : Block) → slice_get f.blocks p ≡ Some b → holds (definitions b) z ≡ true → (ps : List ℕ) → Passed f z ps → Among p ps
  passed_here p z b e h [] passed =
      absurd (false≢true (sym (apart_left z (parameters f) (flat_map definitions f.blocks) (local_once z) (in_blocks f.blocks p b z e h)) ∙ passed))
  passed_here p z b e h (q ∷ ps) (inl d) = let at = defined_block q z d in inl (one_definer f.blocks given_once p q z b at.0 e at.1 h at.2)
  passed_here p z b e h (q ∷ ps) (inr more) = inr (passed_here p z b e h ps more)

  there_passed : (p z : ℕ) → r p z ≡ true → (ps : List ℕ) → Path f ps p → Passed f z ps
  there_passed p z h ps path = available-passed f p z (r, cov.justified, h) ps path

  -- at the end of the last block of a path
  end_passed : (p z : ℕ) (a : Block) → slice_get f.blocks p ≡ Some a → closing r p a z ≡ true → (ps : List ℕ) → Path f ps p → (defined_in (slice_get f.blocks p) z ≡ true) ⊎ Passed f z ps
  end_passed p z a e h ps path =
      elim (or_cases (r p z) (holds (definitions a) z) h) [
        | inl g ↦ inr (there_passed p z g ps path)
        | inr d ↦ inl (ap (λ (o : Option Block). defined_in o z) e ∙ d)
      ]

  -- a phi's source was passed before the phi's block
  phi_passed : (q : ℕ) (b : Block) (qs : List ℕ) (x z : ℕ) → slice_get f.blocks q ≡ Some b → Path f qs q → holds (phi_locals b) x ≡ true → c x ≡ Some (Local z)
      → (Passed f x qs → Passed f z qs) → Passed f z qs
  phi_passed q b [] x z e path h is ih =
      absurd (false≢true (sym (ap (λ (ps : List Phi). holds (map (λ p. p.local) ps) x) (cov.bare b (ap (slice_get f.blocks) (sym path.0) ∙ e))) ∙ h))
  phi_passed q b (p ∷ ps) x z e path h is ih =
      let at = at_place f.blocks p (edge-from f q p path.0) in
      let cover = cov.blocks q b e in
      elim (phi_leads c r f cov src at.0.number x z b.phis b.phis (src.phis q b e) cover.phis (cover.entered p at.0 path.0 at.1) h is) [
        | inl t ↦ end_passed p z at.0 at.1 (taken_here c r f cov src p at.0 z at.1 t) ps path.1
        | inr t ↦ ih (end_passed p x at.0 at.1 (taken_here c r f cov src p at.0 x at.1 t) ps path.1)
      ]

  -- a path to the block that defines a local passed its source's definition, or ends with it
  source_near : (q : ℕ) (qs : List ℕ) (x z : ℕ) → Path f qs q → c x ≡ Some (Local z) → defined_in (slice_get f.blocks q) x ≡ true → (Passed f x qs → Passed f z qs)
      → (defined_in (slice_get f.blocks q) z ≡ true) ⊎ Passed f z qs
  source_near q qs x z path is d ih =
      let at = defined_block q x d in
      elim (or_cases (holds (phi_locals at.0) x) (holds (results at.0.lines) x) (sym (list_any-append (nat_eq x) (phi_locals at.0) (results at.0.lines)) ∙ at.2)) [
        | inl phi ↦ inr (phi_passed q at.0 qs x z at.1 path phi is ih)
        | inr line ↦
            end_passed q z at.0 at.1
            (sym (closing_is r q at.0 z) ∙ line_sourced c at.0.lines (opening r q at.0) x z (cov.blocks q at.0 at.1).lines (src.lines q at.0 at.1) line is) qs path
      ]

  -- a path that passed a local's definition passed its source's
  source_passed : (ps : List ℕ) (b : ℕ) → Path f ps b → (x z : ℕ) → c x ≡ Some (Local z) → Passed f x ps → Passed f z ps
  source_passed [] b path x z is passed = absurd (false≢true (sym (src.params x (Local z) is) ∙ passed))
  source_passed (q ∷ qs) b path x z is (inr more) = inr (source_passed qs q path.1 x z is more)
  source_passed (q ∷ qs) b path x z is (inl d) = source_near q qs x z path.1 is d (source_passed qs q path.1 x z is)

  -- the source of a local that a reached block defines is defined in a reached block
  pub source_reached : (p q x z : ℕ) (b : Block) → Reachable f p → defined_in (slice_get f.blocks p) x ≡ true → c x ≡ Some (Local z) → slice_get f.blocks q ≡ Some b → holds (definitions b) z ≡ true → Reachable f q
  source_reached p q x z b way d is e h =
      onto (passed_here q z b e h (p ∷ way.0) (source_near p way.0 x z way.1 is d (source_passed way.0 p way.1 x z is)))
    where
      onto : Among q (p ∷ way.0) → Reachable f q
      onto (inl same) = (way.0, subst (Path f way.0) (sym same) way.1)
      onto (inr m) = let part = cut f q way.0 p way.1 m in (part.0, part.1)

  open_passed : (p : ℕ) (b : Block) (x z : ℕ) → slice_get f.blocks p ≡ Some b → opening r p b x ≡ true → c x ≡ Some (Local z) → (ps : List ℕ) → Path f ps p → Passed f z ps
  open_passed p b x z e h is ps path =
      elim (or_cases (r p x) (holds (phi_locals b) x) h) [
        | inl g ↦ source_passed ps p path x z is (there_passed p x g ps path)
        | inr phi ↦ phi_passed p b ps x z e path phi is (source_passed ps p path x z is)
      ]

  parts_false : (b : Block) (z : ℕ) → holds (definitions b) z ≡ false → (holds (phi_locals b) z ≡ false) × (holds (results b.lines) z ≡ false)
  parts_false b z h = by (holds (phi_locals b) z) (holds (results b.lines) z) (sym (list_any-append (nat_eq z) (phi_locals b) (results b.lines)) ∙ h)
    where
      by : (s t : Bool) → (s || t) ≡ false → (s ≡ false) × (t ≡ false)
      by false t e = (refl, e)
      by true t e = absurd (false≢true (sym e))

  -- none of the lines gives a value to what is there, or to its source
  abbrev Spared : (ℕ → Bool) → List Line → Type 0
  Spared s ls = ((x z : ℕ) → s x ≡ true → c x ≡ Some (Local z) → holds (results ls) z ≡ false) × ((x z : ℕ) → c x ≡ Some (Local z) → s z ≡ true → holds (results ls) z ≡ false)

  cons_false : (o : Option ℕ) (xs : List ℕ) (z : ℕ) → holds (cons_option o xs) z ≡ false → (named o z ≡ false) × (holds xs z ≡ false)
  cons_false None xs z h = (refl, h)
  cons_false (Some y) xs z h = by (nat_eq z y) h
    where
      by : (t : Bool) → (t || holds xs z) ≡ false → (t ≡ false) × (holds xs z ≡ false)
      by false e = (refl, e)
      by true e = absurd (false≢true (sym e))

  lines_safe : (ls : List Line) (s : ℕ → Bool) → Spared s ls → Once (results ls) → LinesCovered s ls → LineSources c ls → LinesSafe c s ls
  lines_safe [] s spared once cov' own = tt
  lines_safe (l ∷ ls) s spared once cov' own = (
    safe_from l.local refl,
    lines_safe ls (with_named s l.local) (
      (λ x z h is. elim (or_cases (s x) (named l.local x) h) [
        | inl g ↦ (cons_false l.local (results ls) z (spared.0 x z g is)).1
        | inr g ↦ (cons_false l.local (results ls) z (spared.1 x z is (named_source l.local own.0 x z g is))).1
      ]),
      (λ x z is h. elim (or_cases (s z) (named l.local z) h) [
        | inl g ↦ (cons_false l.local (results ls) z (spared.1 x z is g)).1
        | inr g ↦ named_once l.local once z g
      ]),
    )
        (rest_once l.local once) cov'.2 own.1,
  )
    where
      safe_from : (o : Option ℕ) → l.local ≡ o → SafeFrom c s o
      safe_from None q = tt
      safe_from (Some y) q = by
        where
          by : (x : ℕ) (v : Operand) → s x ≡ true → c x ≡ Some v → is_local y v ≡ false
          by x (Local z) h is' = ne_eqb z y (λ e. false≢true (sym (cons_false (Some y) (results ls) z (ap (λ (o : Option ℕ). holds (cons_option o (results ls)) z) (sym q) ∙ spared.0 x z h is')).0 ∙ eq-eqb z y e))
          by x (Constant w n) h is' = refl
          by x Null h is' = refl
          by x (PoisonOf reg) h is' = refl
          by x (Named t i) h is' = refl

      named_source : (o : Option ℕ) → LineSource c o l.instr → (x z : ℕ) → named o x ≡ true → c x ≡ Some (Local z) → s z ≡ true
      named_source None line x z g is = absurd (false≢true g)
      named_source (Some y) line x z g is = rule_kept s l.instr (Local z) cov'.1 (line (Local z) (ap c (sym (eqb-true x y g)) ∙ is)).0

      named_once : (o : Option ℕ) → Once (cons_option o (results ls)) → (z : ℕ) → named o z ≡ true → holds (results ls) z ≡ false
      named_once None once' z g = absurd (false≢true g)
      named_once (Some y) once' z g = apart_right z (y ∷ []) (results ls) (once' z) (or_left (nat_eq z y) false g)

      rest_once : (o : Option ℕ) → Once (cons_option o (results ls)) → Once (results ls)
      rest_once None once' = once'
      rest_once (Some y) once' = once_right (y ∷ []) (results ls) once'

  pub block_once : (p : ℕ) (b : Block) → slice_get f.blocks p ≡ Some b → Once (definitions b)
  block_once p b e = from f.blocks given_once p e
    where
      from : (bs : List Block) → Once (flat_map definitions bs) → (i : ℕ) → slice_get bs i ≡ Some b → Once (definitions b)
      from [] once i d = absurd (cc d)
      from (z ∷ bs) once zero d = let is : z ≡ b = cc d in subst (λ (y : Block). Once (definitions y)) is (once_left (definitions z) (flat_map definitions bs) once)
      from (z ∷ bs) once (suc i) d = from bs (once_right (definitions z) (flat_map definitions bs) once) i d

  -- where no block defines the source of what is there behind its phis, and none a source that is there at its start
  module _ (out : (p : ℕ) (b : Block) (x z : ℕ) → slice_get f.blocks p ≡ Some b → opening r p b x ≡ true → c x ≡ Some (Local z) → holds (definitions b) z ≡ false)
      (alone : (p : ℕ) (b : Block) (x z : ℕ) → slice_get f.blocks p ≡ Some b → c x ≡ Some (Local z) → r p z ≡ true → holds (definitions b) z ≡ false) where
    spared_open : (p : ℕ) (b : Block) → slice_get f.blocks p ≡ Some b → Spared (opening r p b) b.lines
    spared_open p b e = (
      (λ x z h is. (parts_false b z (out p b x z e h is)).1),
      (λ x z is h. elim (or_cases (r p z) (holds (phi_locals b) z) h) [
        | inl g ↦ (parts_false b z (alone p b x z e is g)).1
        | inr g ↦ apart_right z (phi_locals b) (results b.lines) (block_once p b e z) g
      ]),
    )

    pub apart_safe : AreSafe c r f
    apart_safe = record {
      lines = λ p b e. lines_safe b.lines (opening r p b) (spared_open p b e) (once_right (phi_locals b) (results b.lines) (block_once p b e)) (cov.blocks p b e).lines (src.lines p b e);
      phis = λ p b e x v h is. by p b e x v h is;
    }
      where
        by : (p : ℕ) (b : Block) → slice_get f.blocks p ≡ Some b → (x : ℕ) (v : Operand) → opening r p b x ≡ true → c x ≡ Some v → is_phi_operand v b.phis ≡ false
        by p b e x (Local z) h is = phi_held z b.phis ∙ (parts_false b z (out p b x z e h is)).0
        by p b e x (Constant w n) h is = refl
        by p b e x Null h is = refl
        by p b e x (PoisonOf reg) h is = refl
        by p b e x (Named s i) h is = refl

  module _ (reached : (x z p : ℕ) (b : Block) → c x ≡ Some (Local z) → slice_get f.blocks p ≡ Some b → holds (definitions b) z ≡ true → Reachable f p) where
    -- the source of a local that every path to a block passed, the block doesn't define
    not_defined : (p x z : ℕ) (b : Block) → slice_get f.blocks p ≡ Some b → c x ≡ Some (Local z) → ((ps : List ℕ) → Path f ps p → Passed f z ps) → holds (definitions b) z ≡ false
    not_defined p x z b e is all = by (holds (definitions b) z) refl
      where
        by : (t : Bool) → holds (definitions b) z ≡ t → t ≡ false
        by false q = refl
        by true q =
            let path = reached x z p b is e q in
            absurd (first_time f p (λ qs w. passed_here p z b e q qs (all qs w)) (suc (length path.0)) path.0 (omega arith) path.1)

    pub open_out : (p : ℕ) (b : Block) (x z : ℕ) → slice_get f.blocks p ≡ Some b → opening r p b x ≡ true → c x ≡ Some (Local z) → holds (definitions b) z ≡ false
    open_out p b x z e h is = not_defined p x z b e is (λ ps w. open_passed p b x z e h is ps w)

    pub sources_safe : AreSafe c r f
    sources_safe = apart_safe open_out (λ p b x z e is g. not_defined p x z b e is (λ ps w. there_passed p z g ps w))
