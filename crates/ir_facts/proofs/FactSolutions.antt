-- The greatest solution of one fact's equations says where the fact holds.
use Rattle.std.proofs.Common.{◌≡◌, ℕ, zero, suc, ◌+◌, ◌<◌, ◌==◌, nat_eq, ◌&&◌, ◌||◌, Bool, true, false, List, [], ◌∷◌, ◌++◌, Option, Some, None, length, map, refl, sym, ◌∙◌, ap, subst, arith, if◌then◌else◌}
use Rattle.std.specs.Prelude.{slice_get, flat_map, not}
use Rattle.std.proofs.lemmas.Bool.{eqb-true, false≢true}
use Rattle.std.proofs.lemmas.Option.{slice_get_within}
use Rattle.ir_tree.specs.Flow.{Among, IsGreatest, IsJustified, Justified, definitions, edges, locals, parameters, phi_locals, results}
use Rattle.ir_tree.specs.Formed.{Distinct, numbers}
use Rattle.ir_tree.specs.declared.block.Block.{Block}
use Rattle.ir_tree.specs.declared.function.Function.{Function}
use Rattle.ir_tree.specs.declared.instr.Phi.{Phi}
use Rattle.ir_tree.specs.declared.operand.Operand.{Operand}
use Rattle.ir_meaning.specs.Facts.{Facts, edge_operand, is_phi, is_phi_operand, phi_operand}
use Rattle.ir_flow.specs.Narrowing.{marked}
use Rattle.ir_flow.proofs.Reaching.{edge-from}
use Rattle.ir_flow.proofs.Solved.{at_end, at_ends}
use Rattle.ir_facts.specs.FactFlow.{earlier, fact_flow, flow_points, members_out, none_at, opened, opened_at, phi_in, phi_of, taken_from}
use Rattle.ir_facts.specs.FlowLaws.{Less, along_less, entry_less}
use Rattle.ir_facts.specs.Points.{EachIsFact, IsFact, IsFactFlow, entry_holds, held_along, line_points, points_from}
use Rattle.fact_sources.specs.declared.fact.Fact.{Fact}
use Rattle.ir_facts.proofs.Holding.{phi_held}
use Rattle.ir_facts.proofs.Matching.{Once, apart_left, locals_once, not_held, once_right}
use Rattle.ir_facts.proofs.Substituting.{at_place, holds_left, in_blocks}

-- ---- the phi of a local

some_in : (x : ℕ) (ps : List Phi) (o : Option Phi) → is_phi x ps ≡ true → earlier (phi_in x ps) o ≡ phi_in x ps
some_in x [] o h = absurd (false≢true h)
some_in x (p ∷ ps) o h = by (p.local == x) h (some_in x ps o)
  where
    by : (t : Bool) → (t || is_phi x ps) ≡ true → (is_phi x ps ≡ true → earlier (phi_in x ps) o ≡ phi_in x ps)
        → earlier (if t then Some p else phi_in x ps) o ≡ (if t then Some p else phi_in x ps)
    by true h' more = refl
    by false h' more = more h'

none_in : (x : ℕ) (ps : List Phi) → is_phi x ps ≡ false → phi_in x ps ≡ None
none_in x [] h = refl
none_in x (p ∷ ps) h = by (p.local == x) h (none_in x ps)
  where
    by : (t : Bool) → (t || is_phi x ps) ≡ false → (is_phi x ps ≡ false → phi_in x ps ≡ None) → (if t then Some p else phi_in x ps) ≡ None
    by true h' more = absurd (false≢true (sym h'))
    by false h' more = more h'

taken_is : (x m : ℕ) (ps : List Phi) → phi_operand x m ps ≡ taken_from m (phi_in x ps)
taken_is x m [] = refl
taken_is x m (p ∷ ps) = by (p.local == x) (taken_is x m ps)
  where
    by : (t : Bool) → phi_operand x m ps ≡ taken_from m (phi_in x ps)
        → (if t then edge_operand m p.incoming else phi_operand x m ps) ≡ taken_from m (if t then Some p else phi_in x ps)
    by true more = refl
    by false more = more

-- a phi of one block is a phi of no other
home_is : (x : ℕ) (bs : List Block) → Once (flat_map definitions bs) → (p : ℕ) (b : Block) → slice_get bs p ≡ Some b → is_phi x b.phis ≡ true → phi_of x bs ≡ phi_in x b.phis
home_is x [] once p b e h = absurd (cc e)
home_is x (z ∷ bs) once zero b e h =
    let is : z ≡ b = cc e in
    ap (λ (y : Block). earlier (phi_in x y.phis) (phi_of x bs)) is ∙ some_in x b.phis (phi_of x bs) h
home_is x (z ∷ bs) once (suc p) b e h =
    let here = holds_left (phi_locals b) (results b.lines) x (sym (phi_held x b.phis) ∙ h) in
    let out = apart_left x (definitions z) (flat_map definitions bs) (once x) (in_blocks bs p b x e here) in
    let away = none_in x z.phis (phi_held x z.phis ∙ (not_held x (phi_locals z) (results z.lines) out).0) in
    ap (λ (o : Option Phi). earlier o (phi_of x bs)) away ∙ home_is x bs (once_right (definitions z) (flat_map definitions bs) once) p b e h

-- ---- a block's opening

record Opened (x : ℕ) (v : Operand) (ps : List Phi) (before entered : Bool) : Type 0 where
  outside : is_phi_operand v ps ≡ false
  passed : is_phi x ps ≡ false → before ≡ true
  taken : is_phi x ps ≡ true → entered ≡ true

opened_parts : (x : ℕ) (v : Operand) (ps : List Phi) (a b : Bool) → opened x v ps a b ≡ true → Opened x v ps a b
opened_parts x v ps a b h = by (is_phi_operand v ps) refl (is_phi x ps) refl h
  where
    by : (s : Bool) → is_phi_operand v ps ≡ s → (t : Bool) → is_phi x ps ≡ t → (not s && (if t then b else a)) ≡ true → Opened x v ps a b
    by true e t q h' = absurd (false≢true h')
    by false e true q h' = record { outside = e; passed = λ d. absurd (false≢true (sym d ∙ q)); taken = λ d. h' }
    by false e false q h' = record { outside = e; passed = λ d. h'; taken = λ d. absurd (false≢true (sym q ∙ d)) }

opened_from : (x : ℕ) (v : Operand) (ps : List Phi) (a b : Bool) → Opened x v ps a b → opened x v ps a b ≡ true
opened_from x v ps a b o = ap (λ (s : Bool). not s && (if is_phi x ps then b else a)) o.outside ∙ by (is_phi x ps) refl
  where
    by : (t : Bool) → is_phi x ps ≡ t → (if t then b else a) ≡ true
    by true q = o.taken q
    by false q = o.passed q

both_true : (a b : Bool) → (a && b) ≡ true → (a ≡ true) × (b ≡ true)
both_true true b h = (refl, h)
both_true false b h = absurd (false≢true h)

and_true : (a b : Bool) → a ≡ true → b ≡ true → (a && b) ≡ true
and_true true b g h = h
and_true false b g h = absurd (false≢true g)

not_true : (a : Bool) → not a ≡ true → a ≡ false
not_true true h = absurd (false≢true h)
not_true false h = refl

module _ (f : Function) (x : ℕ) (v : Operand) (once : Distinct (locals f ++ numbers f)) where
  defined_once : Once (flat_map definitions f.blocks)
  defined_once = once_right (parameters f) (flat_map definitions f.blocks) (locals_once f once)

  abbrev home : Option Phi
  home = phi_of x f.blocks

  home_takes : (q m : ℕ) (b : Block) → slice_get f.blocks q ≡ Some b → is_phi x b.phis ≡ true → phi_operand x m b.phis ≡ taken_from m home
  home_takes q m b e h = taken_is x m b.phis ∙ ap (taken_from m) (sym (home_is x f.blocks defined_once q b e h))

  module _ (rows : ℕ → ℕ → Bool) (most : IsGreatest (fact_flow f x v) rows) where
    abbrev pub starts_of : ℕ → Bool
    starts_of p = opened_at x v (slice_get f.blocks p) (rows p 0) (rows p 1)

    never : (y : ℕ) → rows 0 y ≡ true → ⊥
    never y m = false≢true (most.justified 0 y m).2

    entry_none : (o : Option Block) → opened_at x v o (rows 0 0) (rows 0 1) ≡ false
    entry_none None = refl
    entry_none (Some b) = by (opened x v b.phis (rows 0 0) (rows 0 1)) refl
      where
        by : (t : Bool) → opened x v b.phis (rows 0 0) (rows 0 1) ≡ t → t ≡ false
        by false e = refl
        by true e =
            let o = opened_parts x v b.phis (rows 0 0) (rows 0 1) e in
            absurd (at (is_phi x b.phis) refl o)
          where
            at : (s : Bool) → is_phi x b.phis ≡ s → Opened x v b.phis (rows 0 0) (rows 0 1) → ⊥
            at true q o = never 1 (o.taken q)
            at false q o = never 0 (o.passed q)

    start_parts : (q : ℕ) (b : Block) → slice_get f.blocks q ≡ Some b → starts_of q ≡ true → Opened x v b.phis (rows q 0) (rows q 1)
    start_parts q b e m = opened_parts x v b.phis (rows q 0) (rows q 1) (sym (ap (λ (o : Option Block). opened_at x v o (rows q 0) (rows q 1)) e) ∙ m)

    -- a mark holds at the end of each predecessor
    out_of : (p q y : ℕ) (a : Block) → slice_get f.blocks p ≡ Some a → Among p (edges f q) → rows q y ≡ true → members_out x v home (Some a) (starts_of p) y ≡ true
    out_of p q y a e edge m = sym (ap (λ (o : Option Block). members_out x v home o (starts_of p) y) e) ∙ by (nat_eq q 0) (most.justified q y m).2
      where
        by : (t : Bool) → Justified (fact_flow f x v) rows q y (if t then Some (λ (z : ℕ). false) else None) → (fact_flow f x v).out p (rows p) y ≡ true
        by true j = absurd (false≢true j)
        by false j = at_end (fact_flow f x v) rows y p (edges f q) j edge

    flow : IsFactFlow f x v starts_of
    flow = record {
      entry = entry_none (slice_get f.blocks 0);
      outside = λ q b e m. (start_parts q b e m).outside;
      passed = λ p q a b e d edge m away. out_of p q 0 a e edge ((start_parts q b d m).passed away);
      entered = λ p q a b e d edge m here.
          ap (entry_holds x v (held_along x v a.lines (starts_of p))) (home_takes q a.number b d here) ∙ out_of p q 1 a e edge ((start_parts q b d m).taken here);
    }

    module _ (others : ℕ → Bool) (solves : IsFactFlow f x v others) where
      abbrev member : Option Block → Bool → ℕ → Bool
      member None s y = false
      member (Some b) s zero = s && not (is_phi x b.phis)
      member (Some b) s (suc zero) = s && is_phi x b.phis
      member (Some b) s (suc (suc y)) = false

      abbrev family : ℕ → ℕ → Bool
      family p y = member (slice_get f.blocks p) (others p) y

      reopened : (p : ℕ) (b : Block) → slice_get f.blocks p ≡ Some b → Less (others p) (opened x v b.phis (member (Some b) (others p) 0) (member (Some b) (others p) 1))
      reopened p b e m = opened_from x v b.phis (others p && not (is_phi x b.phis)) (others p && is_phi x b.phis) record {
        outside = solves.outside p b e m;
        passed = λ q. and_true (others p) (not (is_phi x b.phis)) m (ap not q);
        taken = λ q. and_true (others p) (is_phi x b.phis) m q;
      }

      passes : (p q y : ℕ) (a b : Block) → slice_get f.blocks p ≡ Some a → slice_get f.blocks q ≡ Some b → Among p (edges f q) → member (Some b) (others q) y ≡ true
          → members_out x v home (Some a) (opened x v a.phis (member (Some a) (others p) 0) (member (Some a) (others p) 1)) y ≡ true
      passes p q zero a b e d edge m =
          let two = both_true (others q) (not (is_phi x b.phis)) m in
          along_less x v a.lines (others p) (opened x v a.phis (member (Some a) (others p) 0) (member (Some a) (others p) 1)) (reopened p a e)
          (solves.passed p q a b e d edge two.0 (not_true (is_phi x b.phis) two.1))
      passes p q (suc zero) a b e d edge m =
          let two = both_true (others q) (is_phi x b.phis) m in
          entry_less x v (taken_from a.number home) (held_along x v a.lines (others p))
          (held_along x v a.lines (opened x v a.phis (member (Some a) (others p) 0) (member (Some a) (others p) 1)))
          (along_less x v a.lines (others p) (opened x v a.phis (member (Some a) (others p) 0) (member (Some a) (others p) 1)) (reopened p a e))
          (ap (entry_holds x v (held_along x v a.lines (others p))) (sym (home_takes q a.number b d two.1)) ∙ solves.entered p q a b e d edge two.0 two.1)
      passes p q (suc (suc y)) a b e d edge m = absurd (false≢true m)

      out_again : (p q y : ℕ) (b : Block) → slice_get f.blocks q ≡ Some b → member (Some b) (others q) y ≡ true → Among p (edges f q) → (fact_flow f x v).out p (family p) y ≡ true
      out_again p q y b d m edge =
          let found = at_place f.blocks p (edge-from f q p edge) in
          subst (λ (o : Option Block). members_out x v home o (opened_at x v o (member o (others p) 0) (member o (others p) 1)) y ≡ true) (sym found.1)
          (passes p q y found.0 b found.1 d edge m)

      below_two : (b : Block) (s : Bool) (y : ℕ) → member (Some b) s y ≡ true → (y < 2) × (s ≡ true)
      below_two b s zero m = (omega arith, (both_true s (not (is_phi x b.phis)) m).0)
      below_two b s (suc zero) m = (omega arith, (both_true s (is_phi x b.phis) m).0)
      below_two b s (suc (suc y)) m = absurd (false≢true m)

      justified : IsJustified (fact_flow f x v) family
      justified q y m = by (slice_get f.blocks q) refl m
        where
          by : (o : Option Block) → slice_get f.blocks q ≡ o → member o (others q) y ≡ true → (q < length f.blocks) × (y < 2) × Justified (fact_flow f x v) family q y (none_at q)
          by None e m' = absurd (false≢true m')
          by (Some b) e m' = let two = below_two b (others q) y m' in (slice_get_within f.blocks q b e, two.0, at b e m' two.1 (nat_eq q 0) refl)
            where
              at : (b : Block) → slice_get f.blocks q ≡ Some b → member (Some b) (others q) y ≡ true → others q ≡ true → (t : Bool) → nat_eq q 0 ≡ t
                  → Justified (fact_flow f x v) family q y (if t then Some (λ (z : ℕ). false) else None)
              at b e m' s true z = absurd (false≢true (sym solves.entry ∙ ap others (sym (eqb-true q 0 z)) ∙ s))
              at b e m' s false z = at_ends (fact_flow f x v) family y (edges f q) (λ p edge. out_again p q y b e m' edge)

      greatest : (p : ℕ) → p < length f.blocks → others p ≡ true → starts_of p ≡ true
      greatest p lt s =
          let found = at_place f.blocks p lt in
          let b = found.0 in
          let up : (y : ℕ) → member (Some b) (others p) y ≡ true → rows p y ≡ true =
          λ y m. most.greatest family justified p y (ap (λ (o : Option Block). member o (others p) y) found.1 ∙ m) in
          ap (λ (o : Option Block). opened_at x v o (rows p 0) (rows p 1)) found.1
          ∙ opened_from x v b.phis (rows p 0) (rows p 1) record {
            outside = solves.outside p b found.1 s;
            passed = λ q. up 0 (and_true (others p) (not (is_phi x b.phis)) s (ap not q));
            taken = λ q. up 1 (and_true (others p) (is_phi x b.phis) s q);
          }

    points_same : (k : ℕ) (bs : List Block) → ((i : ℕ) (b : Block) → slice_get bs i ≡ Some b → slice_get f.blocks (k + i) ≡ Some b) → flow_points x v rows k bs ≡ points_from x v starts_of k bs
    points_same k [] at = refl
    points_same k (b ∷ bs) at =
        let here : slice_get f.blocks k ≡ Some b = (let on : k ≡ k + 0 = omega arith in ap (slice_get f.blocks) on ∙ at 0 b refl) in
        λ i. line_points x v b.lines (ap (λ (o : Option Block). opened_at x v o (rows k 0) (rows k 1)) (sym here) i)
        ++ points_same (suc k) bs (λ j d e. let on : suc k + j ≡ k + suc j = omega arith in ap (slice_get f.blocks) on ∙ at (suc j) d e) i

  pub fact_is : (rows : ℕ → ℕ → Bool) → IsGreatest (fact_flow f x v) rows → (at : List Bool) → at ≡ flow_points x v rows 0 f.blocks
      → IsFact f (record { local = x; value = v; at = at })
  fact_is rows most at e = record {
    starts = starts_of rows most;
    solution = flow rows most;
    greatest = greatest rows most;
    points = e ∙ points_same rows most 0 f.blocks (λ i b d. let on : 0 + i ≡ i = omega arith in ap (slice_get f.blocks) on ∙ d);
  }

-- ---- one behind the others

pub each_pushed : (f : Function) (ts : List Fact) (t : Fact) → EachIsFact f ts → IsFact f t → EachIsFact f (ts ++ t ∷ [])
each_pushed f [] t each is = (is, tt)
each_pushed f (s ∷ ts) t each is = (each.0, each_pushed f ts t each.1 is)

pub listed_more : (ts : List Fact) (t : Fact) (rest more : Facts) (x : ℕ) (v : Operand) → t.local ≡ x → t.value ≡ v → more ≡ (x, v) ∷ rest
    → map (λ (s : Fact). (s.local, s.value)) (ts ++ t ∷ []) ++ rest ≡ map (λ (s : Fact). (s.local, s.value)) ts ++ more
listed_more [] t rest more x v a b e = (λ i. (a i, b i) ∷ rest) ∙ sym e
listed_more (s ∷ ts) t rest more x v a b e = ap (λ (fs : Facts). (s.local, s.value) ∷ fs) (listed_more ts t rest more x v a b e)

-- ---- a fact as code makes it

pub fact_made : (f : Function) (x : ℕ) (v w : Operand) → Distinct (locals f ++ numbers f) → (rows : List (List Bool)) → IsGreatest (fact_flow f x v) (marked rows) → w ≡ v
    → (marks at : List Bool) → marks ≡ flow_points x w (marked rows) 0 f.blocks → at ≡ marks → IsFact f (record { local = x; value = w; at = at })
fact_made f x v w once rows most same marks at marks_are at_is =
    subst (λ (u : Operand). IsFact f (record { local = x; value = u; at = at })) (sym same)
    (fact_is f x v once (marked rows) most at (at_is ∙ marks_are ∙ ap (λ (u : Operand). flow_points x u (marked rows) 0 f.blocks) same))
