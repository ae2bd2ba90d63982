-- In a covered function whose candidates keep their values each use has its candidate's fact, so one step replaces them all.
use Rattle.std.proofs.Common.{◌≡◌, ℕ, zero, suc, ◌+◌, ◌<◌, nat_eq, ◌==◌, ◌||◌, ◌⊎◌, inl, inr, Bool, true, false, List, [], ◌∷◌, Option, Some, None, map, option_map, refl, sym, ◌∙◌, ap, subst, arith, if◌then◌else◌}
use Rattle.std.specs.Prelude.{slice_get}
use Rattle.std.proofs.lemmas.Bool.{cases_eq, cases_lt, eq-eqb, eqb-true, false≢true, ne_eqb, or_cases}
use Rattle.ir_tree.specs.Flow.{Among, Justified, availability, defined_in, edges, holds, locals, parameters, phi_locals, results, room}
use Rattle.ir_tree.specs.Rules.{IsNoPhi, place}
use Rattle.ir_tree.specs.declared.block.Block.{Block}
use Rattle.ir_tree.specs.declared.block.Terminator.{Terminator}
use Rattle.ir_tree.specs.declared.block.Terminator.TheVariants.{Branch, Jump, Return, Switch, Unreachable}
use Rattle.ir_tree.specs.declared.block.Case.{Case}
use Rattle.ir_tree.specs.declared.function.Function.{Function}
use Rattle.ir_tree.specs.declared.instr.Incoming.{Incoming}
use Rattle.ir_tree.specs.declared.instr.Instr.{Instr}
use Rattle.ir_tree.specs.declared.instr.Instr.TheVariants.{Address, Alloca, Binary, Call, Cast, Freeze, Icmp, Load, Phi as StrayPhi, Select, Store}
use Rattle.ir_tree.specs.declared.instr.Line.{Line}
use Rattle.ir_tree.specs.declared.instr.Phi.{Phi}
use Rattle.ir_tree.specs.declared.operand.Argument.{Argument}
use Rattle.ir_tree.specs.declared.operand.Operand.{Operand}
use Rattle.ir_tree.specs.declared.operand.Operand.TheVariants.{Local, Null, Number as Constant, Poison as PoisonOf, Symbol as Named}
use Rattle.ir_meaning.specs.Act.{find_block}
use Rattle.ir_meaning.specs.Facts.{EdgeFacts, EntryIs, Facts, Has, IsTarget, behind_lines, behind_local, block_replaced, blocks_replaced, edge_operand, edges_replaced, end_replaced, is_local, is_phi, is_phi_operand, lines_replaced, phi_operand, phis_replaced, replaced, replaced_local, with_fact, without}
use Rattle.ir_meaning.specs.Needed.{AllKept, EndReads, IsKept, UsesKept}
use Rattle.ir_tree.specs.Edited.{argument_edited, case_edited, edited, end_edited, incoming_edited, instr_edited, line_edited, phi_edited, with_operands}
use Rattle.ir_edit.specs.Substituted.{operand_replaced, or_local}
use Rattle.ir_flow.proofs.Solved.{at_end}
use Rattle.fact_sources.proofs.Staying.{params_stay}
use Rattle.ir_facts.specs.Steps.{IsSolution, IsStep, end_of, ends_of, substituted_by}
use Rattle.ir_facts.proofs.Blocks.{edge_of, find_at, found_there}
use Rattle.ir_facts.proofs.Covers.{BlockCovered, Covers, EdgesCovered, LinesCovered, PhisCovered, TakenAt, behind, closing, closing_is, opening, with_named}
use Rattle.ir_facts.proofs.Editing.{block_by}
use Rattle.ir_facts.proofs.RightSources.{AreSources, PhiSources}
use Rattle.ir_facts.proofs.Substituting.{defined_room, edge_taken, holds_left, taken_here}

-- ---- lists of facts

abbrev pub Held : (ℕ → Option Operand) → (ℕ → Bool) → Facts → Type 0
Held c s fs = (x : ℕ) (v : Operand) → s x ≡ true → c x ≡ Some v → Has fs x v

abbrev pub Known : (ℕ → Option Operand) → Facts → Type 0
Known c fs = (x : ℕ) (v : Operand) → Has fs x v → c x ≡ Some v

pub without_has : (y x : ℕ) (v : Operand) (fs : Facts) → (y ≡ x → ⊥) → is_local y v ≡ false → Has fs x v → Has (without y fs) x v
without_has y x v [] ne out h = absurd h
without_has y x v ((z, u) ∷ fs) ne out h = by ((z == y) || is_local y u) refl h (λ h'. without_has y x v fs ne out h')
  where
    by : (b : Bool) → ((z == y) || is_local y u) ≡ b → ((z ≡ x) × (u ≡ v)) ⊎ Has fs x v → (Has fs x v → Has (without y fs) x v) → Has (if b then without y fs else (z, u) ∷ without y fs) x v
    by true q (inr h') more = more h'
    by false q (inl e) more = inl e
    by false q (inr h') more = inr (more h')
    by true q (inl e) more =
        absurd (elim (or_cases (z == y) (is_local y u) q) [
          | inl same ↦ ne (sym (eqb-true z y same) ∙ e.0)
          | inr is ↦ false≢true (sym out ∙ sym (ap (is_local y) e.1) ∙ is)
        ])

pub without_had : (y x : ℕ) (v : Operand) (fs : Facts) → Has (without y fs) x v → Has fs x v
without_had y x v [] h = h
without_had y x v ((z, u) ∷ fs) h = by ((z == y) || is_local y u) h (λ h'. without_had y x v fs h')
  where
    by : (b : Bool) → Has (if b then without y fs else (z, u) ∷ without y fs) x v → (Has (without y fs) x v → Has fs x v) → ((z ≡ x) × (u ≡ v)) ⊎ Has fs x v
    by true h' more = inr (more h')
    by false (inl e) more = inl e
    by false (inr h') more = inr (more h')

pub with_has : (y x : ℕ) (v : Operand) (o : Option Operand) (fs : Facts) → Has fs x v → Has (with_fact y o fs) x v
with_has y x v None fs h = h
with_has y x v (Some u) fs h = inr h

-- nothing that is there has its candidate in the local
abbrev pub SafeFrom : (ℕ → Option Operand) → (ℕ → Bool) → Option ℕ → Type 0
SafeFrom c s None = Unit {0}
SafeFrom c s (Some y) = (x : ℕ) (v : Operand) → s x ≡ true → c x ≡ Some v → is_local y v ≡ false

abbrev pub LinesSafe : (ℕ → Option Operand) → (ℕ → Bool) → List Line → Type 0
LinesSafe c s [] = Unit {0}
LinesSafe c s (l ∷ ls) = SafeFrom c s l.local × LinesSafe c (with_named s l.local) ls

pub record AreSafe (c : ℕ → Option Operand) (r : ℕ → ℕ → Bool) (f : Function) : Type 0 where
  pub lines : (p : ℕ) (b : Block) → slice_get f.blocks p ≡ Some b → LinesSafe c (opening r p b) b.lines
  pub phis : (p : ℕ) (b : Block) → slice_get f.blocks p ≡ Some b → (x : ℕ) (v : Operand) → opening r p b x ≡ true → c x ≡ Some v → is_phi_operand v b.phis ≡ false

module _ (c : ℕ → Option Operand) where
  pub held_one : (s : ℕ → Bool) (o : Option ℕ) (fs : Facts) → Held c s fs → SafeFrom c s o → Held c (with_named s o) (behind_local c o fs)
  held_one s None fs held safe x v h is = elim (or_cases (s x) false h) [ inl a ↦ held x v a is | inr b ↦ absurd (false≢true b) ]
  held_one s (Some y) fs held safe x v h is =
      elim (cases_eq y x) [
        | inl e ↦ subst (λ (o : Option Operand). Has (with_fact y o (without y fs)) x v) (sym (ap c e ∙ is)) (inl (e, refl))
        | inr ne ↦
            elim (or_cases (s x) (nat_eq x y) h) [
              | inl a ↦ with_has y x v (c y) (without y fs) (without_has y x v fs ne (safe x v a is) (held x v a is))
              | inr b ↦ absurd (ne (sym (eqb-true x y b)))
            ]
      ]

  pub known_one : (o : Option ℕ) (fs : Facts) → Known c fs → Known c (behind_local c o fs)
  known_one None fs known x v h = known x v h
  known_one (Some y) fs known x v h = by (c y) refl h
    where
      by : (o : Option Operand) → c y ≡ o → Has (with_fact y o (without y fs)) x v → c x ≡ Some v
      by None q h' = known x v (without_had y x v fs h')
      by (Some u) q (inl e) = ap c (sym e.0) ∙ q ∙ ap (λ (w : Operand). Some w) e.1
      by (Some u) q (inr h') = known x v (without_had y x v fs h')

  pub held_lines : (ls : List Line) (s : ℕ → Bool) (fs : Facts) → Held c s fs → LinesSafe c s ls → Held c (behind s ls) (behind_lines c ls fs)
  held_lines [] s fs held safe = held
  held_lines (l ∷ ls) s fs held safe = held_lines ls (with_named s l.local) (behind_local c l.local fs) (held_one s l.local fs held safe.0) safe.1

  pub known_lines : (ls : List Line) (fs : Facts) → Known c fs → Known c (behind_lines c ls fs)
  known_lines [] fs known = known
  known_lines (l ∷ ls) fs known = known_lines ls (behind_local c l.local fs) (known_one l.local fs known)

  -- ---- operands by facts that are all there

  pub local_some : (fs : Facts) (x : ℕ) (v : Operand) → ((u : Operand) → Has fs x u → u ≡ v) → Has fs x v → replaced_local fs x ≡ v
  local_some [] x v one h = absurd h
  local_some ((y, u) ∷ fs) x v one h = by (λ h'. local_some fs x v (λ w k. one w (inr k)) h') (cases_eq y x)
    where
      rest : (y ≡ x → ⊥) → Has fs x v
      rest ne = elim h [ inl e ↦ absurd (ne e.0) | inr h' ↦ h' ]

      by : (Has fs x v → replaced_local fs x ≡ v) → (y ≡ x) ⊎ (y ≡ x → ⊥) → (if y == x then u else replaced_local fs x) ≡ v
      by later (inl e) = ap (λ (b : Bool). if b then u else replaced_local fs x) (eq-eqb y x e) ∙ one u (inl (e, refl))
      by later (inr ne) = ap (λ (b : Bool). if b then u else replaced_local fs x) (ne_eqb y x ne) ∙ later (rest ne)

  pub local_none : (fs : Facts) (x : ℕ) → ((u : Operand) → Has fs x u → ⊥) → replaced_local fs x ≡ Local x
  local_none [] x none = refl
  local_none ((y, u) ∷ fs) x none = by (local_none fs x (λ w k. none w (inr k))) (cases_eq y x)
    where
      by : replaced_local fs x ≡ Local x → (y ≡ x) ⊎ (y ≡ x → ⊥) → (if y == x then u else replaced_local fs x) ≡ Local x
      by later (inl e) = absurd (none u (inl (e, refl)))
      by later (inr ne) = ap (λ (b : Bool). if b then u else replaced_local fs x) (ne_eqb y x ne) ∙ later

  pub same_operand : (s : ℕ → Bool) (fs : Facts) → Held c s fs → Known c fs → (o : Operand) → IsKept s o → replaced fs o ≡ operand_replaced c o
  same_operand s fs held known (Local x) k = by (c x) refl
    where
      by : (o : Option Operand) → c x ≡ o → replaced_local fs x ≡ or_local o x
      by None q = local_none fs x (λ u h. some_none u (sym (known x u h) ∙ q))
        where
          some_none : (u : Operand) → ◌≡◌ {A = Option Operand} (Some u) None → ⊥
          some_none u e = absurd (cc e)
      by (Some v) q = local_some fs x v (λ u h. one u (sym (known x u h) ∙ q)) (held x v k q)
        where
          one : (u : Operand) → ◌≡◌ {A = Option Operand} (Some u) (Some v) → u ≡ v
          one u e = cc e
  same_operand s fs held known (Constant w n) k = refl
  same_operand s fs held known Null k = refl
  same_operand s fs held known (PoisonOf reg) k = refl
  same_operand s fs held known (Named t i) k = refl

  -- ---- what is made of parts

  abbrev g : Operand → Operand
  g = operand_replaced c

  abbrev SameOn : (ℕ → Bool) → (Operand → Operand) → Type 0
  SameOn s h = (o : Operand) → IsKept s o → h o ≡ g o

  each_same : (s : ℕ → Bool) (h : Operand → Operand) → SameOn s h → (as' : List Argument) → AllKept s as' → map (argument_edited h) as' ≡ map (argument_edited g) as'
  each_same s h e [] k = refl
  each_same s h e (a ∷ more) k = λ i. record { reg = a.reg; operand = e a.operand k.0 i } ∷ each_same s h e more k.1 i

  pub instr_same : (s : ℕ → Bool) (h : Operand → Operand) → SameOn s h → (j : Instr) → IsNoPhi j → UsesKept s j → with_operands h j ≡ instr_edited (λ x. x) g j
  instr_same s h e (Binary op f w l r) n k = λ i. Binary op f w (e l k.0 i) (e r k.1 i)
  instr_same s h e (Icmp p reg l r) n k = λ i. Icmp p reg (e l k.0 i) (e r k.1 i)
  instr_same s h e (Cast op from o to) n k = λ i. Cast op from (e o k i) to
  instr_same s h e (Select t a b) n k = λ i. Select (e t k.0 i) (record { reg = a.reg; operand = e a.operand k.1 i }) (record { reg = b.reg; operand = e b.operand k.2 i })
  instr_same s h e (Freeze reg o) n k = λ i. Freeze reg (e o k i)
  instr_same s h e (Alloca shape align) n k = refl
  instr_same s h e (Load reg o align) n k = λ i. Load reg (e o k i) align
  instr_same s h e (Store reg o d align) n k = λ i. Store reg (e o k.0 i) (e d k.1 i) align
  instr_same s h e (Address inbounds shape o is) n k = λ i. Address inbounds shape (e o k.0 i) (each_same s h e is k.1 i)
  instr_same s h e (Call result o args) n k = λ i. Call result (e o k.0 i) (each_same s h e args k.1 i)
  instr_same s h e (StrayPhi reg es) n k = absurd n

  pub local_kept : (o : Option ℕ) → o ≡ option_map (λ x. x) o
  local_kept None = refl
  local_kept (Some x) = refl

  lines_same : (ls : List Line) (s : ℕ → Bool) (fs : Facts) → Held c s fs → Known c fs → LinesSafe c s ls → LinesCovered s ls → lines_replaced c fs ls ≡ map (line_edited (λ x. x) g) ls
  lines_same [] s fs held known safe cov = refl
  lines_same (l ∷ ls) s fs held known safe cov =
      λ i. record { local = local_kept l.local i; instr = instr_same s (replaced fs) (same_operand s fs held known) l.instr cov.0 cov.1 i }
      ∷ lines_same ls (with_named s l.local) (behind_local c l.local fs) (held_one s l.local fs held safe.0) (known_one l.local fs known) safe.1 cov.2 i

  pub cases_kept : (cs : List Case) → cs ≡ map (case_edited (λ x. x)) cs
  cases_kept [] = refl
  cases_kept (d ∷ cs) = ap (λ (more : List Case). d ∷ more) (cases_kept cs)

  pub end_same : (s : ℕ → Bool) (fs : Facts) → Held c s fs → Known c fs → (t : Terminator) → EndReads s t → end_replaced fs t ≡ end_edited (λ x. x) g t
  end_same s fs held known (Return None) k = refl
  end_same s fs held known (Return (Some a)) k = λ i. Return (Some (record { reg = a.reg; operand = same_operand s fs held known a.operand k i }))
  end_same s fs held known (Jump target) k = refl
  end_same s fs held known (Branch o yes' no') k = λ i. Branch (same_operand s fs held known o k i) yes' no'
  end_same s fs held known (Switch w o default cases) k = λ i. Switch w (same_operand s fs held known o k i) default (cases_kept cases i)
  end_same s fs held known Unreachable k = refl

  -- ---- facts by number

  abbrev facts_below : ℕ → (ℕ → Bool) → Facts
  facts_below zero t = []
  facts_below (suc n) t = if t n then with_fact n (c n) (facts_below n t) else facts_below n t

  below_has : (n : ℕ) (t : ℕ → Bool) (x : ℕ) (v : Operand) → Has (facts_below n t) x v → (t x ≡ true) × (c x ≡ Some v)
  below_has zero t x v h = absurd h
  below_has (suc n) t x v h = by (t n) refl h (below_has n t x v)
    where
      one : (o : Option Operand) → c n ≡ o → t n ≡ true → Has (with_fact n o (facts_below n t)) x v → (Has (facts_below n t) x v → (t x ≡ true) × (c x ≡ Some v)) → (t x ≡ true) × (c x ≡ Some v)
      one None q m h' more = more h'
      one (Some u) q m (inl e) more = (sym (ap t e.0) ∙ m, sym (ap c e.0) ∙ q ∙ ap (λ (w : Operand). Some w) e.1)
      one (Some u) q m (inr h') more = more h'

      by : (b : Bool) → t n ≡ b → Has (if b then with_fact n (c n) (facts_below n t) else facts_below n t) x v → (Has (facts_below n t) x v → (t x ≡ true) × (c x ≡ Some v)) → (t x ≡ true) × (c x ≡ Some v)
      by true m h' more = one (c n) refl m h' more
      by false m h' more = more h'

  below_from : (n : ℕ) (t : ℕ → Bool) (x : ℕ) (v : Operand) → x < n → t x ≡ true → c x ≡ Some v → Has (facts_below n t) x v
  below_from zero t x v lt m is = absurd (omega (arith, lt))
  below_from (suc n) t x v lt m is = by (λ lt'. below_from n t x v lt' m is) (cases_eq n x)
    where
      before : (n ≡ x → ⊥) → x < n
      before ne = elim (cases_lt x n) [ inl less ↦ less | inr past ↦ absurd (ne (omega (arith, lt, past))) ]

      later : (b : Bool) → Has (facts_below n t) x v → Has (if b then with_fact n (c n) (facts_below n t) else facts_below n t) x v
      later true h = with_has n x v (c n) (facts_below n t) h
      later false h = h

      by : (x < n → Has (facts_below n t) x v) → (n ≡ x) ⊎ (n ≡ x → ⊥) → Has (if t n then with_fact n (c n) (facts_below n t) else facts_below n t) x v
      by more (inl e) =
          subst (λ (b : Bool). Has (if b then with_fact n (c n) (facts_below n t) else facts_below n t) x v) (sym (ap t e ∙ m))
          (subst (λ (o : Option Operand). Has (with_fact n o (facts_below n t)) x v) (sym (ap c e ∙ is)) (inl (e, refl)))
      by more (inr ne) = later (t n) (more (before ne))

  below_none : (n : ℕ) (t : ℕ → Bool) → ((x : ℕ) (v : Operand) → t x ≡ true → c x ≡ Some v → ⊥) → facts_below n t ≡ []
  below_none zero t none = refl
  below_none (suc n) t none = by (below_none n t none) (t n) refl (c n) refl
    where
      by : facts_below n t ≡ [] → (b : Bool) → t n ≡ b → (o : Option Operand) → c n ≡ o → (if b then with_fact n o (facts_below n t) else facts_below n t) ≡ []
      by more true m None q = more
      by more true m (Some v) q = absurd (none n v m q)
      by more false m o q = more

-- ---- the facts of what is there

pub edge_all : (end : Facts) (from : ℕ) (ps : List Phi) (fs : Facts)
    → ((x : ℕ) (v : Operand) → Has fs x v → (is_phi_operand v ps ≡ false) × (((is_phi x ps ≡ false) × Has end x v) ⊎ ((is_phi x ps ≡ true) × EntryIs end x v (phi_operand x from ps))))
    → EdgeFacts end from ps fs
edge_all end from ps [] all = tt
edge_all end from ps ((x, v) ∷ fs) all =
    let here = all x v (inl (refl, refl)) in
    (here.0, here.1, edge_all end from ps fs (λ y u h. all y u (inr h)))

pub phi_held : (x : ℕ) (ps : List Phi) → is_phi x ps ≡ holds (map (λ p. p.local) ps) x
phi_held x [] = refl
phi_held x (p ∷ ps) = λ i. turned p.local x i || phi_held x ps i
  where
    turned : (y x : ℕ) → (y == x) ≡ nat_eq x y
    turned y x = elim (cases_eq y x) [ inl e ↦ eq-eqb y x e ∙ sym (eq-eqb x y (sym e)) | inr ne ↦ ne_eqb y x ne ∙ sym (ne_eqb x y (λ e. ne (sym e))) ]

module _ (c : ℕ → Option Operand) (r : ℕ → ℕ → Bool) (f : Function) (cov : Covers r f) (src : AreSources c f) (safe : AreSafe c r f) where
  abbrev there : Option Block → ℕ → ℕ → Bool
  there None p x = false
  there (Some b) p x = opening r p b x

  -- the facts at a block's start of what is there
  pub filled : ℕ → Facts
  filled n = facts_below c (room (locals f)) (there (slice_get f.blocks (place f.blocks n)) (place f.blocks n))

  abbrev pub Fills : (ℕ → Facts) → Type 0
  Fills starts = (p : ℕ) (b : Block) → slice_get f.blocks p ≡ Some b → Held c (opening r p b) (starts b.number)

  open_room : (p : ℕ) (b : Block) (x : ℕ) → slice_get f.blocks p ≡ Some b → opening r p b x ≡ true → x < room (locals f)
  open_room p b x e h =
      elim (or_cases (r p x) (holds (phi_locals b) x) h) [
        | inl a ↦ (cov.justified p x a).1
        | inr o ↦ defined_room f p b x e (holds_left (phi_locals b) (results b.lines) x o)
      ]

  there_is : (p : ℕ) (b : Block) → slice_get f.blocks p ≡ Some b → (x : ℕ) → there (slice_get f.blocks (place f.blocks b.number)) (place f.blocks b.number) x ≡ opening r p b x
  there_is p b e x =
      let at = find_at f cov.once p b e in
      ap (λ (i : ℕ). there (slice_get f.blocks i) i x) at.1 ∙ ap (λ (o : Option Block). there o p x) e

  pub filled_fills : Fills filled
  unfolding filled
  filled_fills p b e x v h is = below_from c (room (locals f)) (there (slice_get f.blocks (place f.blocks b.number)) (place f.blocks b.number)) x v (open_room p b x e h) (there_is p b e x ∙ h) is

  pub filled_has : (p : ℕ) (b : Block) → slice_get f.blocks p ≡ Some b → (x : ℕ) (v : Operand) → Has (filled b.number) x v → (opening r p b x ≡ true) × (c x ≡ Some v)
  unfolding filled
  filled_has p b e x v h =
      let both = below_has c (room (locals f)) (there (slice_get f.blocks (place f.blocks b.number)) (place f.blocks b.number)) x v h in
      (sym (there_is p b e x) ∙ both.0, both.1)

  pub filled_known : (n : ℕ) → Known c (filled n)
  unfolding filled
  filled_known n x v h = (below_has c (room (locals f)) (there (slice_get f.blocks (place f.blocks n)) (place f.blocks n)) x v h).1

  -- at the end of a block, whatever has the facts at its start
  pub end_held : (starts : ℕ → Facts) → Fills starts → (p : ℕ) (b : Block) → slice_get f.blocks p ≡ Some b → Held c (closing r p b) (ends_of c starts f b.number)
  end_held starts fills p b e x v h is =
      let at = find_at f cov.once p b e in
      subst (λ (o : Option Block). Has (end_of c starts o) x v) (sym at.0)
      (held_lines c b.lines (opening r p b) (starts b.number) (fills p b e) (safe.lines p b e) x v (closing_is r p b x ∙ h) is)

  pub end_known : (starts : ℕ → Facts) → ((n : ℕ) → Known c (starts n)) → (n : ℕ) → Known c (ends_of c starts f n)
  end_known starts known n = by (find_block f.blocks n)
    where
      by : (o : Option Block) → Known c (end_of c starts o)
      by None = λ x v h. absurd h
      by (Some b) = known_lines c b.lines (starts b.number) (known b.number)

  -- ---- they are a solution

  entry_is : (m x : ℕ) (v : Operand) (end : Facts) (all ps : List Phi) → PhiSources c all ps → PhisCovered r f ps → is_phi x ps ≡ true → c x ≡ Some v
      → (TakenAt r f m (Local x) → Has end x v) → EntryIs end x v (phi_operand x m ps)
  entry_is m x v end all [] own taken h is own_end = absurd (false≢true h)
  entry_is m x v end all (p ∷ ps) own taken h is own_end = by (p.local == x) refl h (λ h'. entry_is m x v end all ps own.1 taken.1 h' is own_end)
    where
      at : (o : Option Operand) → edge_operand m p.incoming ≡ o → p.local ≡ x → EntryIs end x v o
      at None q same = tt
      at (Some o) q same =
          let source = own.0 v (ap c same ∙ is) in
          elim (source.0.entries m o q) [
            | inl e ↦ inl e
            | inr e ↦ (let mine : o ≡ Local x = e ∙ ap (λ (n : ℕ). Local n) same in
                inr (mine, own_end (subst (λ (w : Operand). TakenAt r f m w) mine (edge_taken r f m p.incoming o taken.0 q))))
          ]

      by : (b : Bool) → (p.local == x) ≡ b → (b || is_phi x ps) ≡ true → (is_phi x ps ≡ true → EntryIs end x v (phi_operand x m ps)) → EntryIs end x v (if b then edge_operand m p.incoming else phi_operand x m ps)
      by true q h' more = at (edge_operand m p.incoming) refl (eqb-true p.local x q)
      by false q h' more = more h'

  entry_bare : (b : Block) → slice_get f.blocks 0 ≡ Some b → (x : ℕ) (v : Operand) → opening r 0 b x ≡ true → c x ≡ Some v → ⊥
  entry_bare b e x v h is =
      elim (or_cases (r 0 x) (holds (phi_locals b) x) h) [
        | inl g ↦ false≢true (sym (src.params x v is) ∙ (cov.justified 0 x g).2)
        | inr g ↦ false≢true (sym (ap (λ (ps : List Phi). holds (map (λ p. p.local) ps) x) (cov.bare b e)) ∙ g)
      ]

  entry_empty : (b : Block) → slice_get f.blocks 0 ≡ Some b → filled b.number ≡ []
  unfolding filled
  entry_empty b e =
      below_none c (room (locals f)) (there (slice_get f.blocks (place f.blocks b.number)) (place f.blocks b.number))
      (λ x v h is. entry_bare b e x v (sym (there_is 0 b e x) ∙ h) is)

  edge_right : (p q : ℕ) (a b : Block) → slice_get f.blocks p ≡ Some a → slice_get f.blocks q ≡ Some b → Among p (edges f q)
      → EdgeFacts (ends_of c filled f a.number) a.number b.phis (filled b.number)
  edge_right p q a b e d edge = edge_all (ends_of c filled f a.number) a.number b.phis (filled b.number) each
    where
      at_end_of : (x : ℕ) (v : Operand) → c x ≡ Some v → closing r p a x ≡ true → Has (ends_of c filled f a.number) x v
      at_end_of x v is h = end_held filled filled_fills p a e x v h is

      from_pred : (x : ℕ) (v : Operand) → c x ≡ Some v → r q x ≡ true → closing r p a x ≡ true
      from_pred x v is g = by (nat_eq q 0) refl (cov.justified q x g).2
        where
          by : (t : Bool) → nat_eq q 0 ≡ t → Justified (availability f) r q x (if t then Some (holds (parameters f)) else None) → closing r p a x ≡ true
          by true z j = absurd (false≢true (sym (src.params x v is) ∙ j))
          by false z j = sym (ap (λ (o : Option Block). r p x || defined_in o x) e) ∙ at_end (availability f) r x p (edges f q) j edge

      each : (x : ℕ) (v : Operand) → Has (filled b.number) x v
          → (is_phi_operand v b.phis ≡ false) × (((is_phi x b.phis ≡ false) × Has (ends_of c filled f a.number) x v) ⊎ ((is_phi x b.phis ≡ true) × EntryIs (ends_of c filled f a.number) x v (phi_operand x a.number b.phis)))
      each x v h =
          let both = filled_has q b d x v h in
          (safe.phis q b d x v both.0 both.1, by (is_phi x b.phis) refl (or_cases (r q x) (holds (phi_locals b) x) both.0) both.1)
        where
          by : (t : Bool) → is_phi x b.phis ≡ t → (r q x ≡ true) ⊎ (holds (phi_locals b) x ≡ true) → c x ≡ Some v
              → ((is_phi x b.phis ≡ false) × Has (ends_of c filled f a.number) x v) ⊎ ((is_phi x b.phis ≡ true) × EntryIs (ends_of c filled f a.number) x v (phi_operand x a.number b.phis))
          by true t o is =
              inr (t, entry_is a.number x v (ends_of c filled f a.number) b.phis b.phis (src.phis q b d) (cov.blocks q b d).phis t is (λ taken. at_end_of x v is (taken_here c r f cov src p a x e taken)))
          by false t (inl g) is = inl (t, at_end_of x v is (from_pred x v is g))
          by false t (inr g) is = absurd (false≢true (sym t ∙ phi_held x b.phis ∙ g))

  pub filled_solves : IsSolution c f filled
  filled_solves = record {
    known = filled_known;
    entry = entry_empty;
    outside = λ n x v b e h.
        let to = found_there f.blocks n b e in
        let has = filled_has (place f.blocks n) b to.0 x v (subst (λ (j : ℕ). Has (filled j) x v) (sym to.1) h) in
        safe.phis (place f.blocks n) b to.0 x v has.0 has.1;
    edges = λ m n a b e target d.
        let from = found_there f.blocks m a e in
        let to = found_there f.blocks n b d in
        subst (λ (j : ℕ). EdgeFacts (ends_of c filled f m) m b.phis (filled j)) to.1
        (subst (λ (i : ℕ). EdgeFacts (ends_of c filled f i) i b.phis (filled b.number)) from.1
        (edge_right (place f.blocks m) (place f.blocks n) a b from.0 to.0
        (edge_of f (place f.blocks m) (place f.blocks n) a b from.0 to.0 (subst (IsTarget a.end) (sym to.1) target))));
  }

  -- ---- what they make

  pub taken_same : (starts : ℕ → Facts) → Fills starts → ((n : ℕ) → Known c (starts n)) → (n : ℕ) (o : Operand) → TakenAt r f n o → replaced (ends_of c starts f n) o ≡ operand_replaced c o
  taken_same starts fills known n o at =
      subst (λ (m : ℕ). replaced (ends_of c starts f m) o ≡ operand_replaced c o) at.number
      (same_operand c (closing r at.place at.block) (ends_of c starts f at.block.number) (end_held starts fills at.place at.block at.found) (end_known starts known at.block.number) o at.kept)

  edges_same : (starts : ℕ → Facts) → Fills starts → ((n : ℕ) → Known c (starts n)) → (es : List Incoming) → EdgesCovered r f es
      → edges_replaced (ends_of c starts f) es ≡ map (incoming_edited (λ x. x) (operand_replaced c)) es
  edges_same starts fills known [] t = refl
  edges_same starts fills known (e ∷ es) t = λ i. record { from = e.from; value = taken_same starts fills known e.from e.value t.0 i } ∷ edges_same starts fills known es t.1 i

  phis_same : (starts : ℕ → Facts) → Fills starts → ((n : ℕ) → Known c (starts n)) → (ps : List Phi) → PhisCovered r f ps
      → phis_replaced (ends_of c starts f) ps ≡ map (phi_edited (λ x. x) (operand_replaced c)) ps
  phis_same starts fills known [] t = refl
  phis_same starts fills known (p ∷ ps) t = λ i. record { local = p.local; reg = p.reg; incoming = edges_same starts fills known p.incoming t.0 i } ∷ phis_same starts fills known ps t.1 i

  block_same : (starts : ℕ → Facts) → Fills starts → ((n : ℕ) → Known c (starts n)) → (p : ℕ) (b : Block) → slice_get f.blocks p ≡ Some b
      → block_replaced c starts (ends_of c starts f) b ≡ block_by (operand_replaced c) b
  block_same starts fills known p b e = λ i. record {
    number = b.number;
    phis = phis_same starts fills known b.phis cover.phis i;
    lines = lines_same c b.lines (opening r p b) (starts b.number) (fills p b e) (known b.number) (safe.lines p b e) cover.lines i;
    end = end_same c (closing r p b) (ends_of c starts f b.number) (end_held starts fills p b e) (end_known starts known b.number) b.end cover.end i;
  }
    where
      cover : BlockCovered r f p b
      cover = cov.blocks p b e

  blocks_same : (starts : ℕ → Facts) → Fills starts → ((n : ℕ) → Known c (starts n)) → (k : ℕ) (bs : List Block) → ((i : ℕ) (b : Block) → slice_get bs i ≡ Some b → slice_get f.blocks (k + i) ≡ Some b)
      → blocks_replaced c starts (ends_of c starts f) bs ≡ map (block_by (operand_replaced c)) bs
  blocks_same starts fills known k [] at = refl
  blocks_same starts fills known k (b ∷ bs) at =
      λ i. block_same starts fills known (k + 0) b (at 0 b refl) i
      ∷ blocks_same starts fills known (suc k) bs (λ j d e. let on : suc k + j ≡ k + suc j = omega arith in ap (slice_get f.blocks) on ∙ at (suc j) d e) i

  pub all_replaced : (starts : ℕ → Facts) → Fills starts → ((n : ℕ) → Known c (starts n)) → edited (λ x. x) (operand_replaced c) f ≡ substituted_by c starts f
  all_replaced starts fills known =
      λ i. record f { params = sym (params_stay f.params) i; blocks = sym (blocks_same starts fills known 0 f.blocks (λ j d e. let on : 0 + j ≡ j = omega arith in ap (slice_get f.blocks) on ∙ e)) i }

  pub one_step : IsStep c f (edited (λ x. x) (operand_replaced c) f)
  one_step = record {
    starts = filled;
    solution = filled_solves;
    most = λ others solves among. all_replaced others (λ p b e x v h is. among b.number x v (filled_fills p b e x v h is)) solves.known;
  }
