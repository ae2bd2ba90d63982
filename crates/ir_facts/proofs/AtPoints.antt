-- Facts that hold at each use are put in place everywhere, the others at points: together that is a step.
use Rattle.std.proofs.Common.{◌≡◌, ℕ, suc, ◌+◌, ◌≤◌, nat_eq, ◌==◌, inl, inr, Bool, true, false, List, [], ◌∷◌, ◌++◌, Option, Some, None, length, map, take, refl, sym, ◌∙◌, ap, subst, arith, if◌then◌else◌}
use Rattle.std.specs.Prelude.{slice_get, ◌&&◌}
use Rattle.std.proofs.lemmas.Bool.{and_from, and_parts, cases_eq, eq-eqb, eqb-true, false≢true, ne_eqb, or_cases}
use Rattle.std.proofs.lemmas.List.{take_all}
use Rattle.std.proofs.lemmas.Option.{slice_get_within}
use Rattle.lto_sets.specs.Sets.{contains}
use Rattle.ir_tree.specs.Flow.{locals}
use Rattle.ir_tree.specs.Formed.{Distinct, numbers}
use Rattle.ir_tree.specs.Rules.{IsNoPhi, place}
use Rattle.ir_tree.specs.declared.block.Block.{Block}
use Rattle.ir_tree.specs.declared.block.Terminator.{Terminator}
use Rattle.ir_tree.specs.declared.block.Terminator.TheVariants.{Branch, Jump, Return, Switch, Unreachable}
use Rattle.ir_tree.specs.declared.function.Function.{Function}
use Rattle.ir_tree.specs.declared.instr.Incoming.{Incoming}
use Rattle.ir_tree.specs.declared.instr.Instr.{Instr}
use Rattle.ir_tree.specs.declared.instr.Instr.TheVariants.{Address, Alloca, Binary, Call, Cast, Freeze, Icmp, Load, Phi as StrayPhi, Select, Store}
use Rattle.ir_tree.specs.declared.instr.Line.{Line}
use Rattle.ir_tree.specs.declared.instr.Phi.{Phi}
use Rattle.ir_tree.specs.declared.operand.Argument.{Argument}
use Rattle.ir_tree.specs.declared.operand.Operand.{Operand}
use Rattle.ir_tree.specs.declared.operand.Operand.TheVariants.{Local, Null, Number as Constant, Poison as PoisonOf, Symbol as Named}
use Rattle.ir_meaning.specs.Act.{find_block}
use Rattle.ir_meaning.specs.Facts.{Facts, Has, behind_lines, behind_local, block_replaced, blocks_replaced, edges_replaced, end_replaced, is_local, lines_replaced, phis_replaced, replaced, replaced_local, with_fact, without}
use Rattle.ir_meaning.specs.Needed.{AllKept, EndReads, IsKept, UsesKept}
use Rattle.ir_tree.specs.Edited.{argument_edited, edited, end_edited, incoming_edited, instr_edited, line_edited, phi_edited, with_operands}
use Rattle.ir_edit.specs.Substituted.{operand_replaced, or_local}
use Rattle.ir_facts.specs.Agreement.{marks_of}
use Rattle.fact_sources.specs.AtPoints.{block_at, blocks_at, edges_at, end_at, function_at, last_point, lines_at, phis_at, standing, standing_behind}
use Rattle.ir_facts.specs.Points.{EachIsFact, IsFact, held_along, held_behind}
use Rattle.ir_facts.specs.Steps.{IsSolution, IsStep, end_of, ends_of, substituted_by}
use Rattle.fact_sources.specs.declared.fact.Fact.{Fact}
use Rattle.ir_facts.proofs.Agreeing.{AreMarks, Flows, Marks, along_marks, are_marks, behind_marks, flow_of, solves}
use Rattle.ir_facts.proofs.Blocks.{find_at}
use Rattle.ir_facts.proofs.Covers.{BlockCovered, Covers, EdgesCovered, LinesCovered, PhisCovered, TakenAt, behind, closing, closing_is, opening, with_named}
use Rattle.ir_facts.proofs.Editing.{block_by}
use Rattle.ir_facts.proofs.Holding.{AreSafe, Held, Known, LinesSafe, SafeFrom, filled, filled_fills, filled_solves, known_one, known_lines, local_none, local_some, with_has, without_has}
use Rattle.ir_facts.proofs.OneFunction.{AreIn, both, both_solve, edge_in, left_in, right_in, without_in}
use Rattle.ir_facts.proofs.Places.{base, base_next, last_of, last_same, long_as, point_of}
use Rattle.ir_facts.proofs.RightSources.{AreSources}
use Rattle.fact_sources.proofs.Staying.{cases_stay, local_stays, params_stay}
use Rattle.ir_facts.proofs.Substituting.{one_place}

abbrev pub pairs : List Fact → Facts
pairs ts = map (λ t. (t.local, t.value)) ts

some_none : (v : Operand) (o : Option Operand) → o ≡ Some v → o ≡ None → ⊥
some_none v o e n = absurd (cc (sym n ∙ e))

one_value : (u v : Operand) (o : Option Operand) → o ≡ Some u → o ≡ Some v → u ≡ v
one_value u v o a b = let both : ◌≡◌ {A = Option Operand} (Some u) (Some v) = sym a ∙ b in cc both

-- ---- a solution of fewer candidates is one of more

module _ (c cf : ℕ → Option Operand) (sub : (x : ℕ) (v : Operand) → cf x ≡ Some v → c x ≡ Some v) where
  more_behind : (o : Option ℕ) (fs gs : Facts) → AreIn fs gs → AreIn (behind_local cf o fs) (behind_local c o gs)
  more_behind None fs gs less x v h = less x v h
  more_behind (Some y) fs gs less x v h = by (cf y) refl h
    where
      rest : Has (without y fs) x v → Has (with_fact y (c y) (without y gs)) x v
      rest h' = with_has y x v (c y) (without y gs) (without_in y fs gs less x v h')

      by : (o : Option Operand) → cf y ≡ o → Has (with_fact y o (without y fs)) x v → Has (with_fact y (c y) (without y gs)) x v
      by None q h' = rest h'
      by (Some u) q (inl e) = subst (λ (o : Option Operand). Has (with_fact y o (without y gs)) x v) (sym (sub y u q)) (inl e)
      by (Some u) q (inr h') = rest h'

  more_lines : (ls : List Line) (fs gs : Facts) → AreIn fs gs → AreIn (behind_lines cf ls fs) (behind_lines c ls gs)
  more_lines [] fs gs less = less
  more_lines (l ∷ ls) fs gs less = more_lines ls (behind_local cf l.local fs) (behind_local c l.local gs) (more_behind l.local fs gs less)

  more_ends : (f : Function) (starts : ℕ → Facts) (n : ℕ) → AreIn (ends_of cf starts f n) (ends_of c starts f n)
  more_ends f starts n = by (find_block f.blocks n)
    where
      by : (o : Option Block) → AreIn (end_of cf starts o) (end_of c starts o)
      by None x v h = h
      by (Some b) x v h = more_lines b.lines (starts b.number) (starts b.number) (λ y u g. g) x v h

  pub more_solve : (f : Function) (starts : ℕ → Facts) → IsSolution cf f starts → IsSolution c f starts
  more_solve f starts sol = record {
    known = λ n x v h. sub x v (sol.known n x v h);
    entry = sol.entry;
    outside = sol.outside;
    edges = λ m n a b e target d. edge_in (ends_of cf starts f m) (ends_of c starts f m) m b.phis (more_ends f starts m) (starts n) (sol.edges m n a b e target d);
  }

  -- along lines, what is there keeps its fact
  held_more : (s : ℕ → Bool) (o : Option ℕ) (fs : Facts) → Held cf s fs → SafeFrom cf s o → Held cf (with_named s o) (behind_local c o fs)
  held_more s None fs held safe x v h is = elim (or_cases (s x) false h) [ inl a ↦ held x v a is | inr b ↦ absurd (false≢true b) ]
  held_more s (Some y) fs held safe x v h is =
      elim (cases_eq y x) [
        | inl e ↦ subst (λ (o : Option Operand). Has (with_fact y o (without y fs)) x v) (sym (ap c e ∙ sub x v is)) (inl (e, refl))
        | inr ne ↦
            elim (or_cases (s x) (nat_eq x y) h) [
              | inl a ↦ with_has y x v (c y) (without y fs) (without_has y x v fs ne (safe x v a is) (held x v a is))
              | inr b ↦ absurd (ne (sym (eqb-true x y b)))
            ]
      ]

  held_all : (ls : List Line) (s : ℕ → Bool) (fs : Facts) → Held cf s fs → LinesSafe cf s ls → Held cf (behind s ls) (behind_lines c ls fs)
  held_all [] s fs held safe = held
  held_all (l ∷ ls) s fs held safe = held_all ls (with_named s l.local) (behind_local c l.local fs) (held_more s l.local fs held safe.0) safe.1

-- ---- one point

abbrev PointRight : Facts → ℕ → List Fact → Type 0
PointRight fs k [] = Unit {0}
PointRight fs k (t ∷ ts) = Marks fs t.local t.value (contains t.at k) × PointRight fs k ts

record Marked (fs : Facts) (x : ℕ) (v : Operand) : Type 0 where
  held : Bool
  marks : Marks fs x v held

moved_marks : (fs : Facts) (x y : ℕ) (u v : Operand) (held : Bool) → x ≡ y → u ≡ v → Marks fs x u held → Marks fs y v held
moved_marks fs x y u v held e g m = subst (λ (w : Operand). Marks fs y w held) g (subst (λ (z : ℕ). Marks fs z u held) e m)

mark_of : (fs : Facts) (k : ℕ) (ts : List Fact) (x : ℕ) (v : Operand) → PointRight fs k ts → Has (pairs ts) x v → Marked fs x v
mark_of fs k [] x v p h = absurd h
mark_of fs k (t ∷ ts) x v p (inl e) = record { held = contains t.at k; marks = moved_marks fs t.local x t.value v (contains t.at k) e.0 e.1 p.0 }
mark_of fs k (t ∷ ts) x v p (inr h) = mark_of fs k ts x v p.1 h

standing_some : (fs : Facts) (k : ℕ) (ts : List Fact) (x : ℕ) (v : Operand) → ((u : Operand) → Has (pairs ts) x u → u ≡ v) → PointRight fs k ts → Has fs x v → Has (pairs ts) x v → standing ts k (Local x) ≡ v
standing_some fs k [] x v one p has h = absurd h
standing_some fs k (t ∷ ts) x v one p has h =
    elim (cases_eq t.local x) [
      | inl e ↦ here e
      | inr ne ↦ later ne (standing_some fs k ts x v (λ u g. one u (inr g)) p.1 has (rest ne))
    ]
  where
    here : t.local ≡ x → (if (x == t.local) && contains t.at k then t.value else standing ts k (Local x)) ≡ v
    here e =
        let value : t.value ≡ v = one t.value (inl (e, refl)) in
        let holds = (moved_marks fs t.local x t.value v (contains t.at k) e value p.0).to has in
        ap (λ (b : Bool). if b then t.value else standing ts k (Local x)) (and_from (x == t.local) (contains t.at k) (eq-eqb x t.local (sym e)) holds) ∙ value

    rest : (t.local ≡ x → ⊥) → Has (pairs ts) x v
    rest ne = elim h [ inl e ↦ absurd (ne e.0) | inr h' ↦ h' ]

    later : (t.local ≡ x → ⊥) → standing ts k (Local x) ≡ v → (if (x == t.local) && contains t.at k then t.value else standing ts k (Local x)) ≡ v
    later ne more = ap (λ (b : Bool). if b && contains t.at k then t.value else standing ts k (Local x)) (ne_eqb x t.local (λ e. ne (sym e))) ∙ more

standing_none : (fs : Facts) (k : ℕ) (ts : List Fact) (x : ℕ) → ((v : Operand) → Has (pairs ts) x v → Has fs x v → ⊥) → PointRight fs k ts → standing ts k (Local x) ≡ Local x
standing_none fs k [] x none p = refl
standing_none fs k (t ∷ ts) x none p = by ((x == t.local) && contains t.at k) refl (standing_none fs k ts x (λ v h. none v (inr h)) p.1)
  where
    by : (b : Bool) → ((x == t.local) && contains t.at k) ≡ b → standing ts k (Local x) ≡ Local x → (if b then t.value else standing ts k (Local x)) ≡ Local x
    by false q rest = rest
    by true q rest =
        let two = and_parts (x == t.local) (contains t.at k) q in
        let e : t.local ≡ x = sym (eqb-true x t.local two.0) in
        absurd (none t.value (inl (e, refl)) ((moved_marks fs t.local x t.value t.value (contains t.at k) e refl p.0).from two.1))

standing_other : (k : ℕ) (ts : List Fact) (o : Operand) → ((y : ℕ) → is_local y o ≡ false) → standing ts k o ≡ o
standing_other k [] o out = refl
standing_other k (t ∷ ts) o out = ap (λ (b : Bool). if b && contains t.at k then t.value else standing ts k o) (out t.local) ∙ standing_other k ts o out

-- ---- operands changed twice

each_twice : (s : ℕ → Bool) (h g d : Operand → Operand) → ((o : Operand) → IsKept s o → g (h o) ≡ d o) → (as' : List Argument) → AllKept s as'
    → map (argument_edited g) (map (argument_edited h) as') ≡ map (argument_edited d) as'
each_twice s h g d e [] k = refl
each_twice s h g d e (a ∷ more) k = λ i. record { reg = a.reg; operand = e a.operand k.0 i } ∷ each_twice s h g d e more k.1 i

instr_twice : (s : ℕ → Bool) (h g d : Operand → Operand) → ((o : Operand) → IsKept s o → g (h o) ≡ d o) → (j : Instr) → IsNoPhi j → UsesKept s j
    → instr_edited (λ x. x) g (instr_edited (λ x. x) h j) ≡ with_operands d j
instr_twice s h g d e (Binary op f w l r) n k = λ i. Binary op f w (e l k.0 i) (e r k.1 i)
instr_twice s h g d e (Icmp p reg l r) n k = λ i. Icmp p reg (e l k.0 i) (e r k.1 i)
instr_twice s h g d e (Cast op from o to) n k = λ i. Cast op from (e o k i) to
instr_twice s h g d e (Select t a b) n k = λ i. Select (e t k.0 i) (record { reg = a.reg; operand = e a.operand k.1 i }) (record { reg = b.reg; operand = e b.operand k.2 i })
instr_twice s h g d e (Freeze reg o) n k = λ i. Freeze reg (e o k i)
instr_twice s h g d e (Alloca shape align) n k = refl
instr_twice s h g d e (Load reg o align) n k = λ i. Load reg (e o k i) align
instr_twice s h g d e (Store reg o a align) n k = λ i. Store reg (e o k.0 i) (e a k.1 i) align
instr_twice s h g d e (Address inbounds shape o is) n k = λ i. Address inbounds shape (e o k.0 i) (each_twice s h g d e is k.1 i)
instr_twice s h g d e (Call result o args) n k = λ i. Call result (e o k.0 i) (each_twice s h g d e args k.1 i)
instr_twice s h g d e (StrayPhi reg es) n k = absurd n

end_twice : (s : ℕ → Bool) (h : Operand → Operand) (ts : List Fact) (n : ℕ) (fs : Facts) → ((o : Operand) → IsKept s o → standing ts n (h o) ≡ replaced fs o) → (t : Terminator) → EndReads s t
    → end_at ts n (end_edited (λ x. x) h t) ≡ end_replaced fs t
end_twice s h ts n fs e (Return None) k = refl
end_twice s h ts n fs e (Return (Some a)) k = λ i. Return (Some (record { reg = a.reg; operand = e a.operand k i }))
end_twice s h ts n fs e (Jump target) k = refl
end_twice s h ts n fs e (Branch o yes' no') k = λ i. Branch (e o k i) yes' no'
end_twice s h ts n fs e (Switch w o default cases) k = λ i. Switch w (e o k i) default (cases_stay cases i)
end_twice s h ts n fs e Unreachable k = refl

-- ---- facts by themselves are a solution

abbrev pub OwnAll : (ℕ → Option Operand) → List Fact → Type 0
OwnAll c [] = Unit {0}
OwnAll c (t ∷ ts) = (c t.local ≡ Some t.value) × OwnAll c ts

own_has : (c : ℕ → Option Operand) (ts : List Fact) → OwnAll c ts → (x : ℕ) (v : Operand) → Has (pairs ts) x v → c x ≡ Some v
own_has c [] own x v h = absurd h
own_has c (t ∷ ts) own x v (inl e) = ap c (sym e.0) ∙ own.0 ∙ ap (λ (w : Operand). Some w) e.1
own_has c (t ∷ ts) own x v (inr h) = own_has c ts own.1 x v h

abbrev only : Bool → ℕ → Operand → Facts
only true x v = (x, v) ∷ []
only false x v = []

only_has : (b : Bool) (x y : ℕ) (u v : Operand) → Has (only b x u) y v → (b ≡ true) × (x ≡ y) × (u ≡ v)
only_has true x y u v (inl e) = (refl, e.0, e.1)
only_has true x y u v (inr h) = absurd h
only_has false x y u v h = absurd h

has_only : (b : Bool) (x : ℕ) (v : Operand) → b ≡ true → Has (only b x v) x v
has_only true x v e = inl (refl, refl)
has_only false x v e = absurd (false≢true e)

module _ (c : ℕ → Option Operand) (f : Function) (once : Distinct (locals f ++ numbers f)) where
  abbrev alone : (t : Fact) → IsFact f t → ℕ → Facts
  alone t is n = only (is.starts (place f.blocks n)) t.local t.value

  alone_solves : (t : Fact) (is : IsFact f t) → c t.local ≡ Some t.value → IsSolution c f (alone t is)
  alone_solves t is own = solves c f once (alone t is) known each_flow
    where
      known : (n x : ℕ) (v : Operand) → Has (alone t is n) x v → c x ≡ Some v
      known n x v h = let e = only_has (is.starts (place f.blocks n)) t.local x t.value v h in ap c (sym e.1) ∙ own ∙ ap (λ (w : Operand). Some w) e.2

      at : (p : ℕ) (b : Block) → slice_get f.blocks p ≡ Some b → Marks (alone t is b.number) t.local t.value (is.starts p)
      at p b e =
          subst (λ (q : ℕ). Marks (only (is.starts q) t.local t.value) t.local t.value (is.starts p)) (sym (find_at f once p b e).1)
          (record { to = λ h. (only_has (is.starts p) t.local t.local t.value t.value h).0; from = λ m. has_only (is.starts p) t.local t.value m })

      here : (x : ℕ) (v : Operand) → c x ≡ Some v → t.local ≡ x → Flows c f once (alone t is) x v
      here x v q e =
          let value : t.value ≡ v = one_value t.value v (c x) (ap c (sym e) ∙ own) q in
          subst (λ (w : Operand). Flows c f once (alone t is) x w) value
          (subst (λ (z : ℕ). Flows c f once (alone t is) z t.value) e (record {
            marks = is.starts;
            are = record { none = λ none. is.solution.entry; each = at };
            flow = is.solution;
          }))

      away : (x : ℕ) (v : Operand) → (t.local ≡ x → ⊥) → Flows c f once (alone t is) x v
      away x v ne = record {
        marks = λ p. false;
        are = record {
          none = λ none. refl;
          each = λ p b e. record { to = λ h. absurd (ne (only_has (is.starts (place f.blocks b.number)) t.local x t.value v h).1); from = λ m. absurd (false≢true m) };
        };
        flow = record {
          entry = refl;
          outside = λ q b e m. absurd (false≢true m);
          passed = λ p q a b e d edge m out. absurd (false≢true m);
          entered = λ p q a b e d edge m phi. absurd (false≢true m);
        };
      }

      each_flow : (x : ℕ) (v : Operand) → c x ≡ Some v → Flows c f once (alone t is) x v
      each_flow x v q = elim (cases_eq t.local x) [ inl e ↦ here x v q e | inr ne ↦ away x v ne ]

  abbrev own_facts : (ts : List Fact) → EachIsFact f ts → ℕ → Facts
  own_facts [] each n = []
  own_facts (t ∷ ts) each n = alone t each.0 n ++ own_facts ts each.1 n

  none_solve : IsSolution c f (λ n. [])
  none_solve = record {
    known = λ n x v h. absurd h;
    entry = λ b e. refl;
    outside = λ n x v b e h. absurd h;
    edges = λ m n a b e target d. tt;
  }

  own_solve : (ts : List Fact) (each : EachIsFact f ts) → OwnAll c ts → IsSolution c f (own_facts ts each)
  own_solve [] each own = none_solve
  own_solve (t ∷ ts) each own = both_solve c f (alone t each.0) (own_facts ts each.1) (alone_solves t each.0 own.0) (own_solve ts each.1 own.1)

  -- ---- a fact's marks along lines

  record Runs (t : Fact) (k : ℕ) (ls : List Line) (fs : Facts) : Type 0 where
    held : Bool
    marks : Marks fs t.local t.value held
    points : (i : ℕ) → i ≤ length ls → contains t.at (k + i) ≡ held_along t.local t.value (take i ls) held

  abbrev AllRun : ℕ → List Line → Facts → List Fact → Type 0
  AllRun k ls fs [] = Unit {0}
  AllRun k ls fs (t ∷ ts) = Runs t k ls fs × AllRun k ls fs ts

  runs_on : (k : ℕ) (l : Line) (ls : List Line) (fs : Facts) (ts : List Fact) → OwnAll c ts → AllRun k (l ∷ ls) fs ts → AllRun (suc k) ls (behind_local c l.local fs) ts
  runs_on k l ls fs [] own run = tt
  runs_on k l ls fs (t ∷ ts) own run = (
    record {
      held = held_behind t.local t.value l.local run.0.held;
      marks = behind_marks c t.local t.value own.0 l.local fs run.0.held run.0.marks;
      points = λ i lt. let at : suc k + i ≡ k + suc i = omega arith in ap (contains t.at) at ∙ run.0.points (suc i) (omega (arith, lt));
    },
    runs_on k l ls fs ts own.1 run.1,
  )

  runs_here : (k : ℕ) (ls : List Line) (fs : Facts) (ts : List Fact) → AllRun k ls fs ts → PointRight fs k ts
  runs_here k ls fs [] run = tt
  runs_here k ls fs (t ∷ ts) run =
      let at : k ≡ k + 0 = omega arith in (
        subst (λ (b : Bool). Marks fs t.local t.value b) (sym (ap (contains t.at) at ∙ run.0.points 0 (omega arith))) run.0.marks,
        runs_here k ls fs ts run.1,
      )

  runs_end : (k : ℕ) (ls : List Line) (fs : Facts) (ts : List Fact) → OwnAll c ts → AllRun k ls fs ts → PointRight (behind_lines c ls fs) (k + length ls) ts
  runs_end k ls fs [] own run = tt
  runs_end k ls fs (t ∷ ts) own run = (
    subst (λ (b : Bool). Marks (behind_lines c ls fs) t.local t.value b)
        (sym (run.0.points (length ls) (omega arith) ∙ ap (λ (m : List Line). held_along t.local t.value m run.0.held) (take_all (length ls) ls (omega arith))))
        (along_marks c t.local t.value own.0 ls fs run.0.held run.0.marks),
    runs_end k ls fs ts own.1 run.1,
  )

  -- the facts of a larger solution are those that hold at the points
  runs_start : (ts : List Fact) (each : EachIsFact f ts) → OwnAll c ts → (others : ℕ → Facts) → IsSolution c f others → ((n : ℕ) → AreIn (own_facts ts each n) (others n))
      → (q : ℕ) (b : Block) → slice_get f.blocks q ≡ Some b → AllRun (base f.blocks q) b.lines (others b.number) ts
  runs_start [] each own others sol among q b e = tt
  runs_start (t ∷ ts) each own others sol among q b e = (
    record {
      held = each.0.starts q;
      marks = record {
        to = λ h. each.0.greatest (marks_of others f t.local) (flow_of c f once others t.local t.value (marks_of others f t.local) sol own.0 are) q (slice_get_within f.blocks q b e) ((are.each q b e).to h);
        from = λ m.
            among b.number t.local t.value
            (left_in (alone t each.0 b.number) (own_facts ts each.1 b.number) t.local t.value (has_only (each.0.starts (place f.blocks b.number)) t.local t.value (ap each.0.starts (find_at f once q b e).1 ∙ m)));
      };
      points = λ i lt.
          let at : 0 + q ≡ q = omega arith in
          ap (λ (l : List Bool). contains l (base f.blocks q + i)) each.0.points
          ∙ point_of t.local t.value each.0.starts 0 f.blocks q b e i lt
          ∙ ap (λ (p : ℕ). held_along t.local t.value (take i b.lines) (each.0.starts p)) at;
    },
    runs_start ts each.1 own.1 others sol (λ n y u h. among n y u (right_in (alone t each.0 n) (own_facts ts each.1 n) y u h)) q b e,
  )
    where
      are : AreMarks c f once others t.local t.value (marks_of others f t.local)
      are = are_marks c f once others (λ n y u h. sol.known n y u h) t.local t.value own.0

-- ---- everywhere and at points

module _ (c cf : ℕ → Option Operand) (sub : (x : ℕ) (v : Operand) → cf x ≡ Some v → c x ≡ Some v)
    (r : ℕ → ℕ → Bool) (f : Function) (cov : Covers r f) (src : AreSources cf f) (safe : AreSafe cf r f)
    (ts : List Fact) (each : EachIsFact f ts) (own : OwnAll c ts)
    (complete : (x : ℕ) (v : Operand) → c x ≡ Some v → cf x ≡ None → Has (pairs ts) x v)
    (apart : (y x : ℕ) (v : Operand) → cf y ≡ Some (Local x) → Has (pairs ts) x v → ⊥) where
  abbrev made : Function
  made = function_at ts (edited (λ x. x) (operand_replaced cf) f)

  abbrev last : ℕ → Option ℕ
  last n = last_point 0 (map (block_by (operand_replaced cf)) f.blocks) n

  one : (x : ℕ) (v : Operand) → c x ≡ Some v → (u : Operand) → Has (pairs ts) x u → u ≡ v
  one x v q u g = one_value u v (c x) (own_has c ts own x u g) q

  firm_stays : (fs : Facts) (n : ℕ) (x : ℕ) (v : Operand) → PointRight fs n ts → cf x ≡ Some v → standing ts n v ≡ v
  firm_stays fs n x (Local z) p q = standing_none fs n ts z (λ u g has. apart x z u q g) p
  firm_stays fs n x (Constant w a) p q = standing_other n ts (Constant w a) (λ y. refl)
  firm_stays fs n x Null p q = standing_other n ts Null (λ y. refl)
  firm_stays fs n x (PoisonOf reg) p q = standing_other n ts (PoisonOf reg) (λ y. refl)
  firm_stays fs n x (Named t i) p q = standing_other n ts (Named t i) (λ y. refl)

  same_point : (s : ℕ → Bool) (fs : Facts) (n : ℕ) → Held cf s fs → Known c fs → PointRight fs n ts → (o : Operand) → IsKept s o → standing ts n (operand_replaced cf o) ≡ replaced fs o
  same_point s fs n held known p (Local x) kept = by (cf x) refl
    where
      known_one' : (v : Operand) → c x ≡ Some v → (u : Operand) → Has fs x u → u ≡ v
      known_one' v q u g = one_value u v (c x) (known x u g) q

      by_mark : (v : Operand) → c x ≡ Some v → Has (pairs ts) x v → (t : Bool) → Marks fs x v t → standing ts n (Local x) ≡ replaced_local fs x
      by_mark v q m true marks = standing_some fs n ts x v (one x v q) p (marks.from refl) m ∙ sym (local_some c fs x v (known_one' v q) (marks.from refl))
      by_mark v q m false marks =
          standing_none fs n ts x (λ u g has. false≢true (marks.to (subst (λ (w : Operand). Has fs x w) (one x v q u g) has))) p
          ∙ sym (local_none c fs x (λ u has. false≢true (marks.to (subst (λ (w : Operand). Has fs x w) (known_one' v q u has) has))))

      shifting : (o : Option Operand) → c x ≡ o → cf x ≡ None → standing ts n (Local x) ≡ replaced_local fs x
      shifting None q q' =
          standing_none fs n ts x (λ u g has. some_none u (c x) (own_has c ts own x u g) q) p
          ∙ sym (local_none c fs x (λ u has. some_none u (c x) (known x u has) q))
      shifting (Some v) q q' = let m = complete x v q q' in let mark = mark_of fs n ts x v p m in by_mark v q m mark.held mark.marks

      by : (o : Option Operand) → cf x ≡ o → standing ts n (or_local o x) ≡ replaced_local fs x
      by None q = shifting (c x) refl q
      by (Some v) q = firm_stays fs n x v p q ∙ sym (local_some c fs x v (known_one' v (sub x v q)) (held x v kept q))
  same_point s fs n held known p (Constant w a) kept = standing_other n ts (Constant w a) (λ y. refl)
  same_point s fs n held known p Null kept = standing_other n ts Null (λ y. refl)
  same_point s fs n held known p (PoisonOf reg) kept = standing_other n ts (PoisonOf reg) (λ y. refl)
  same_point s fs n held known p (Named t i) kept = standing_other n ts (Named t i) (λ y. refl)

  lines_same : (ls : List Line) (s : ℕ → Bool) (fs : Facts) (n : ℕ) → Held cf s fs → Known c fs → AllRun c f cov.once n ls fs ts → LinesSafe cf s ls → LinesCovered s ls
      → lines_at ts n (map (line_edited (λ x. x) (operand_replaced cf)) ls) ≡ lines_replaced c fs ls
  lines_same [] s fs n held known run safe' cov' = refl
  lines_same (l ∷ ls) s fs n held known run safe' cov' =
      λ i. record {
        local = local_stays l.local i;
        instr = instr_twice s (operand_replaced cf) (standing ts n) (replaced fs) (same_point s fs n held known (runs_here c f cov.once n (l ∷ ls) fs ts run)) l.instr cov'.0 cov'.1 i;
      }
      ∷ lines_same ls (with_named s l.local) (behind_local c l.local fs) (suc n) (held_more c cf sub s l.local fs held safe'.0) (known_one c l.local fs known) (runs_on c f cov.once n l ls fs ts own run) safe'.1 cov'.2 i

  module _ (others : ℕ → Facts) (sol : IsSolution c f others) (fills : (q : ℕ) (b : Block) → slice_get f.blocks q ≡ Some b → Held cf (opening r q b) (others b.number))
      (among : (n : ℕ) → AreIn (own_facts c f cov.once ts each n) (others n)) where
    abbrev ends : ℕ → Facts
    ends = ends_of c others f

    run : (q : ℕ) (b : Block) → slice_get f.blocks q ≡ Some b → AllRun c f cov.once (base f.blocks q) b.lines (others b.number) ts
    run q b e = runs_start c f cov.once ts each own others sol among q b e

    ends_are : (q : ℕ) (b : Block) → slice_get f.blocks q ≡ Some b → ends b.number ≡ behind_lines c b.lines (others b.number)
    ends_are q b e = ap (end_of c others) (find_at f cov.once q b e).0

    same_end : (q : ℕ) (b : Block) → slice_get f.blocks q ≡ Some b → (o : Operand) → IsKept (closing r q b) o → standing ts (base f.blocks q + length b.lines) (operand_replaced cf o) ≡ replaced (ends b.number) o
    same_end q b e o kept =
        subst (λ (fs : Facts). standing ts (base f.blocks q + length b.lines) (operand_replaced cf o) ≡ replaced fs o) (sym (ends_are q b e))
        (same_point (closing r q b) (behind_lines c b.lines (others b.number)) (base f.blocks q + length b.lines)
        (λ x v m is. held_all c cf sub b.lines (opening r q b) (others b.number) (fills q b e) (safe.lines q b e) x v (closing_is r q b x ∙ m) is)
        (known_lines c b.lines (others b.number) (λ x v g. sol.known b.number x v g))
        (runs_end c f cov.once (base f.blocks q) b.lines (others b.number) ts own (run q b e)) o kept)

    last_is : (q : ℕ) (b : Block) → slice_get f.blocks q ≡ Some b → last b.number ≡ Some (base f.blocks q + length b.lines)
    last_is q b e =
        let at : 0 + base f.blocks q + length b.lines ≡ base f.blocks q + length b.lines = omega arith in
        last_same (operand_replaced cf) 0 f.blocks b.number
        ∙ last_of 0 f.blocks q b e (λ i d g same. one_place f cov.once i q d b g e same)
        ∙ ap (λ (m : ℕ). Some m) at

    same_taken : (n : ℕ) (o : Operand) → TakenAt r f n o → standing_behind ts (last n) (operand_replaced cf o) ≡ replaced (ends n) o
    same_taken n o t =
        subst (λ (m : ℕ). standing_behind ts (last m) (operand_replaced cf o) ≡ replaced (ends m) o) t.number
        (ap (λ (p : Option ℕ). standing_behind ts p (operand_replaced cf o)) (last_is t.place t.block t.found) ∙ same_end t.place t.block t.found o t.kept)

    edges_same : (es : List Incoming) → EdgesCovered r f es → edges_at ts last (map (incoming_edited (λ x. x) (operand_replaced cf)) es) ≡ edges_replaced ends es
    edges_same [] t = refl
    edges_same (e ∷ es) t = λ i. record { from = e.from; value = same_taken e.from e.value t.0 i } ∷ edges_same es t.1 i

    phis_same : (ps : List Phi) → PhisCovered r f ps → phis_at ts last (map (phi_edited (λ x. x) (operand_replaced cf)) ps) ≡ phis_replaced ends ps
    phis_same [] t = refl
    phis_same (p ∷ ps) t = λ i. record { local = p.local; reg = p.reg; incoming = edges_same p.incoming t.0 i } ∷ phis_same ps t.1 i

    block_same : (q : ℕ) (b : Block) → slice_get f.blocks q ≡ Some b → block_at ts last (base f.blocks q) (block_by (operand_replaced cf) b) ≡ block_replaced c others ends b
    block_same q b e = λ i. record {
      number = b.number;
      phis = phis_same b.phis cover.phis i;
      lines = lines_same b.lines (opening r q b) (others b.number) (base f.blocks q) (fills q b e) (λ x v g. sol.known b.number x v g) (run q b e) (safe.lines q b e) cover.lines i;
      end = end_is i;
    }
      where
        cover : BlockCovered r f q b
        cover = cov.blocks q b e

        end_is : end_at ts (base f.blocks q + length (block_by (operand_replaced cf) b).lines) (end_edited (λ x. x) (operand_replaced cf) b.end) ≡ end_replaced (ends b.number) b.end
        end_is =
            ap (λ (n : ℕ). end_at ts (base f.blocks q + n) (end_edited (λ x. x) (operand_replaced cf) b.end)) (long_as (operand_replaced cf) b)
            ∙ end_twice (closing r q b) (operand_replaced cf) ts (base f.blocks q + length b.lines) (ends b.number) (same_end q b e) b.end cover.end

    blocks_same : (p n : ℕ) (bs : List Block) → n ≡ base f.blocks p → ((i : ℕ) (b : Block) → slice_get bs i ≡ Some b → slice_get f.blocks (p + i) ≡ Some b)
        → blocks_at ts last n (map (block_by (operand_replaced cf)) bs) ≡ blocks_replaced c others ends bs
    blocks_same p n [] is at = refl
    blocks_same p n (b ∷ bs) is at =
        λ i. (ap (λ (m : ℕ). block_at ts last m (block_by (operand_replaced cf) b)) is ∙ block_same p b here) i
        ∷ blocks_same (suc p) (suc (n + length (block_by (operand_replaced cf) b).lines)) bs next (λ j d e. let on : suc p + j ≡ p + suc j = omega arith in ap (slice_get f.blocks) on ∙ at (suc j) d e) i
      where
        here : slice_get f.blocks p ≡ Some b
        here = let on : p ≡ p + 0 = omega arith in ap (slice_get f.blocks) on ∙ at 0 b refl

        next : suc (n + length (block_by (operand_replaced cf) b).lines) ≡ base f.blocks (suc p)
        next =
            ap (λ (m : ℕ). suc (n + m)) (long_as (operand_replaced cf) b)
            ∙ ap (λ (m : ℕ). suc (m + length b.lines)) is
            ∙ sym (base_next f.blocks p b here)

    made_same : made ≡ substituted_by c others f
    made_same = λ i. record f {
      params = sym (params_stay f.params) i;
      blocks = blocks_same 0 0 f.blocks refl (λ j d e. let on : 0 + j ≡ j = omega arith in ap (slice_get f.blocks) on ∙ e) i;
    }

  pub made_step : IsStep c f made
  made_step = record {
    starts = both c f (filled cf r f cov src safe) (own_facts c f cov.once ts each);
    solution =
        both_solve c f (filled cf r f cov src safe) (own_facts c f cov.once ts each) (more_solve c cf sub f (filled cf r f cov src safe) (filled_solves cf r f cov src safe))
        (own_solve c f cov.once ts each own);
    most = λ others sol among.
        made_same others sol
        (λ q b e x v m is. among b.number x v (left_in (filled cf r f cov src safe b.number) (own_facts c f cov.once ts each b.number) x v (filled_fills cf r f cov src safe q b e x v m is)))
        (λ n x v g. among n x v (right_in (filled cf r f cov src safe n) (own_facts c f cov.once ts each n) x v g));
  }
