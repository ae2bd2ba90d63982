-- Lists of facts are a solution exactly where the marks of each fact are one.
use Rattle.std.proofs.Common.{◌≡◌, ℕ, suc, ◌+◌, nat_eq, ◌==◌, ◌||◌, ◌⊎◌, inl, inr, Bool, true, false, List, [], ◌∷◌, ◌++◌, Option, Some, None, map, refl, sym, ◌∙◌, ap, subst, arith, if◌then◌else◌}
use Rattle.std.specs.Prelude.{slice_get, not, ◌&&◌}
use Rattle.std.proofs.lemmas.Bool.{and_from, and_parts, cases_eq, eq-eqb, eqb-true, false≢true, or_cases, or_left, or_parts, or_right}
use Rattle.ir_tree.specs.Flow.{Among, edges, leading, leading_to, locals, repeated, successors}
use Rattle.ir_tree.specs.Formed.{Distinct, numbers}
use Rattle.ir_tree.specs.Rules.{place}
use Rattle.ir_tree.specs.declared.block.Block.{Block}
use Rattle.ir_tree.specs.declared.block.Case.{Case}
use Rattle.ir_tree.specs.declared.block.Terminator.{Terminator}
use Rattle.ir_tree.specs.declared.block.Terminator.TheVariants.{Branch, Jump, Return, Switch, Unreachable}
use Rattle.ir_tree.specs.declared.function.Function.{Function}
use Rattle.ir_tree.specs.declared.instr.Line.{Line}
use Rattle.ir_tree.specs.declared.instr.Phi.{Phi}
use Rattle.ir_tree.specs.declared.operand.Operand.{Operand}
use Rattle.ir_tree.specs.declared.operand.Operand.TheVariants.{Local, Null, Number as Constant, Poison as PoisonOf, Symbol as Named}
use Rattle.ir_tree.specs.declared.operand.Reg.{Reg}
use Rattle.ir_tree.specs.declared.operand.Reg.TheVariants.{Int, Ptr}
use Rattle.ir_meaning.specs.Execute.{reg_eq}
use Rattle.ir_tree.proofs.Symbols.{symbol_self}
use Rattle.ir_tree.specs.Symbols.{symbol_eq}
use Rattle.ir_meaning.specs.Table.{same}
use Rattle.ir_meaning.specs.Facts.{EdgeFacts, EntryIs, Facts, Has, InCases, IsTarget, behind_lines, behind_local, is_local, is_phi, is_phi_operand, phi_operand, with_fact, without}
use Rattle.ir_facts.specs.Agreement.{SolutionsAgree, marks_of, starting}
use Rattle.fact_sources.specs.Naming.{is_key}
use Rattle.ir_facts.specs.Points.{IsFactFlow, entry_holds, held_along, held_behind}
use Rattle.ir_facts.specs.Steps.{IsSolution, end_of, ends_of}
use Rattle.ir_facts.proofs.Blocks.{edge_of, find_at, found_there}
use Rattle.ir_facts.proofs.Holding.{edge_all, with_has, without_had, without_has}
use Rattle.ir_facts.proofs.OneFunction.{left_apart}
use Rattle.ir_facts.proofs.Standing.{not_true, own_local, same_true}

-- ---- an operand is the same as itself

number_self : (n : ℕ) → (n == n) ≡ true
number_self n = eq-eqb n n refl

reg_self : (r : Reg) → reg_eq r r ≡ true
reg_self (Int w) = number_self w
reg_self Ptr = refl

same_self : (v : Operand) → same v v ≡ true
same_self (Local x) = number_self x
same_self (Constant w a) = and_from (w == w) (a == a) (number_self w) (number_self a)
same_self Null = refl
same_self (PoisonOf r) = reg_self r
same_self (Named s i) = and_from (symbol_eq s s) (i == i) (symbol_self s) (number_self i)

-- ---- edges, from the blocks to which they lead

cases_from : (cs : List Case) (n : ℕ) → Among n (map (λ c. c.target) cs) → InCases cs n
cases_from [] n h = absurd h
cases_from (c ∷ cs) n (inl e) = inl (sym e)
cases_from (c ∷ cs) n (inr h) = inr (cases_from cs n h)

target_from : (t : Terminator) (n : ℕ) → Among n (successors t) → IsTarget t n
target_from (Return value) n h = absurd h
target_from (Jump target) n (inl e) = sym e
target_from (Jump target) n (inr h) = absurd h
target_from (Branch c yes' no') n (inl e) = inl (sym e)
target_from (Branch c yes' no') n (inr (inl e)) = inr (sym e)
target_from (Branch c yes' no') n (inr (inr h)) = absurd h
target_from (Switch w o default cases) n (inl e) = inl (sym e)
target_from (Switch w o default cases) n (inr h) = inr (cases_from cases n h)
target_from Unreachable n h = absurd h

among_either : (p : ℕ) (xs ys : List ℕ) → Among p (xs ++ ys) → Among p xs ⊎ Among p ys
among_either p [] ys h = inr h
among_either p (x ∷ xs) ys (inl e) = inl (inl e)
among_either p (x ∷ xs) ys (inr h) = elim (among_either p xs ys h) [ inl a ↦ inl (inr a) | inr b ↦ inr b ]

repeated_from : (p k n : ℕ) (ts : List ℕ) → Among p (repeated k n ts) → (p ≡ k) × Among n ts
repeated_from p k n [] h = absurd h
repeated_from p k n (t ∷ ts) h = by (nat_eq t n) refl h (λ h'. repeated_from p k n ts h')
  where
    by : (b : Bool) → nat_eq t n ≡ b → Among p (if b then k ∷ repeated k n ts else repeated k n ts) → (Among p (repeated k n ts) → (p ≡ k) × Among n ts) → (p ≡ k) × Among n (t ∷ ts)
    by true q (inl e) more = (e, inl (sym (eqb-true t n q)))
    by true q (inr h') more = let rest = more h' in (rest.0, inr rest.1)
    by false q h' more = let rest = more h' in (rest.0, inr rest.1)

record LeadsTo (n k : ℕ) (bs : List Block) (p : ℕ) : Type 0 where
  at : ℕ
  block : Block
  here : p ≡ k + at
  found : slice_get bs at ≡ Some block
  leads : Among n (successors block.end)

leading_from : (n k : ℕ) (bs : List Block) (p : ℕ) → Among p (leading n k bs) → LeadsTo n k bs p
leading_from n k [] p h = absurd h
leading_from n k (b ∷ bs) p h =
    elim (among_either p (repeated k n (successors b.end)) (leading n (suc k) bs) h) [
      | inl own ↦ first (repeated_from p k n (successors b.end) own)
      | inr rest ↦ later (leading_from n (suc k) bs p rest)
    ]
  where
    first : (p ≡ k) × Among n (successors b.end) → LeadsTo n k (b ∷ bs) p
    first own = let same : p ≡ k = own.0 in record { at = 0; block = b; here = omega (arith, same); found = refl; leads = own.1 }

    later : LeadsTo n (suc k) bs p → LeadsTo n k (b ∷ bs) p
    later rest = let same : p ≡ suc k + rest.at = rest.here in record { at = suc rest.at; block = rest.block; here = omega (arith, same); found = rest.found; leads = rest.leads }

edge_back : (f : Function) (p q : ℕ) (a b : Block) → slice_get f.blocks p ≡ Some a → slice_get f.blocks q ≡ Some b → Among p (edges f q) → IsTarget a.end b.number
edge_back f p q a b e d edge = by (leading_from b.number 0 f.blocks p (subst (Among p) named edge))
  where
    named : edges f q ≡ leading b.number 0 f.blocks
    named = ap (leading_to f.blocks) d

    by : LeadsTo b.number 0 f.blocks p → IsTarget a.end b.number
    by found =
        let same : p ≡ 0 + found.at = found.here in
        let at : p ≡ found.at = omega (arith, same) in
        let is : found.block ≡ a = cc (sym found.found, ap (slice_get f.blocks) at, e) in
        target_from a.end b.number (subst (λ (c : Block). Among b.number (successors c.end)) is found.leads)

-- ---- one fact in a list, and its mark

pub record Marks (fs : Facts) (x : ℕ) (v : Operand) (held : Bool) : Type 0 where
  pub to : Has fs x v → held ≡ true
  pub from : held ≡ true → Has fs x v

edge_each : (end : Facts) (from : ℕ) (ps : List Phi) (fs : Facts) → EdgeFacts end from ps fs → (x : ℕ) (v : Operand) → Has fs x v
    → ((is_phi x ps ≡ false) × Has end x v) ⊎ ((is_phi x ps ≡ true) × EntryIs end x v (phi_operand x from ps))
edge_each end from ps [] all x v h = absurd h
edge_each end from ps ((y, u) ∷ fs) (out, here, rest) x v (inl e) =
    subst (λ (w : Operand). ((is_phi x ps ≡ false) × Has end x w) ⊎ ((is_phi x ps ≡ true) × EntryIs end x w (phi_operand x from ps))) e.1
    (subst (λ (z : ℕ). ((is_phi z ps ≡ false) × Has end z u) ⊎ ((is_phi z ps ≡ true) × EntryIs end z u (phi_operand z from ps))) e.0 here)
edge_each end from ps ((y, u) ∷ fs) (out, here, rest) x v (inr h) = edge_each end from ps fs rest x v h

entry_marks : (end : Facts) (x : ℕ) (v : Operand) (held : Bool) → Marks end x v held → (o : Option Operand)
    → (EntryIs end x v o → entry_holds x v held o ≡ true) × (entry_holds x v held o ≡ true → EntryIs end x v o)
entry_marks end x v held m None = ((λ h. refl), (λ h. tt))
entry_marks end x v held m (Some o) = (to, (λ h. from (or_cases (same v o) (is_local x o && held) h)))
  where
    to : (o ≡ v) ⊎ ((o ≡ Local x) × Has end x v) → (same v o || (is_local x o && held)) ≡ true
    to (inl e) = or_left (same v o) (is_local x o && held) (subst (λ (w : Operand). same v w ≡ true) (sym e) (same_self v))
    to (inr (own, h)) =
        or_right (same v o) (is_local x o && held)
        (and_from (is_local x o) held (subst (λ (w : Operand). is_local x w ≡ true) (sym own) (number_self x)) (m.to h))

    from : (same v o ≡ true) ⊎ ((is_local x o && held) ≡ true) → (o ≡ v) ⊎ ((o ≡ Local x) × Has end x v)
    from (inl t) = inl (sym (same_true v o t))
    from (inr t) = let two = and_parts (is_local x o) held t in inr (own_local x o two.0, m.from two.1)

module _ (c : ℕ → Option Operand) (x : ℕ) (v : Operand) (own : c x ≡ Some v) where
  pub behind_marks : (o : Option ℕ) (fs : Facts) (held : Bool) → Marks fs x v held → Marks (behind_local c o fs) x v (held_behind x v o held)
  behind_marks None fs held m = m
  behind_marks (Some y) fs held m = elim (cases_eq y x) [ inl e ↦ here e | inr ne ↦ elsewhere ne ]
    where
      here : y ≡ x → Marks (with_fact y (c y) (without y fs)) x v ((x == y) || (held && not (is_local y v)))
      here e = record {
        to = λ h. or_left (x == y) (held && not (is_local y v)) (eq-eqb x y (sym e));
        from = λ h. subst (λ (o : Option Operand). Has (with_fact y o (without y fs)) x v) (sym (ap c e ∙ own)) (inl (e, refl));
      }

      past : (y ≡ x → ⊥) → (o : Option Operand) → Has (with_fact y o (without y fs)) x v → Has (without y fs) x v
      past ne None h = h
      past ne (Some u) (inl e) = absurd (ne e.0)
      past ne (Some u) (inr h) = h

      elsewhere : (y ≡ x → ⊥) → Marks (with_fact y (c y) (without y fs)) x v ((x == y) || (held && not (is_local y v)))
      elsewhere ne = record {
        to = λ h.
            let rest = past ne (c y) h in
            let out = (or_parts (x == y) (is_local y v) (left_apart y x v fs rest)).1 in
            or_right (x == y) (held && not (is_local y v)) (and_from held (not (is_local y v)) (m.to (without_had y x v fs rest)) (ap not out));
        from = λ h. kept (or_cases (x == y) (held && not (is_local y v)) h);
      }
        where
          kept : ((x == y) ≡ true) ⊎ ((held && not (is_local y v)) ≡ true) → Has (with_fact y (c y) (without y fs)) x v
          kept (inl t) = absurd (ne (sym (eqb-true x y t)))
          kept (inr t) =
              let two = and_parts held (not (is_local y v)) t in
              with_has y x v (c y) (without y fs) (without_has y x v fs ne (not_true (is_local y v) two.1) (m.from two.0))

  pub along_marks : (ls : List Line) (fs : Facts) (held : Bool) → Marks fs x v held → Marks (behind_lines c ls fs) x v (held_along x v ls held)
  along_marks [] fs held m = m
  along_marks (l ∷ ls) fs held m = along_marks ls (behind_local c l.local fs) (held_behind x v l.local held) (behind_marks l.local fs held m)

module _ (c : ℕ → Option Operand) (f : Function) (once : Distinct (locals f ++ numbers f)) where
  -- the marks of one fact are those of the lists
  pub record AreMarks (starts : ℕ → Facts) (x : ℕ) (v : Operand) (marks : ℕ → Bool) : Type 0 where
    pub none : slice_get f.blocks 0 ≡ None → marks 0 ≡ false
    pub each : (p : ℕ) (b : Block) → slice_get f.blocks p ≡ Some b → Marks (starts b.number) x v (marks p)

  end_marks : (starts : ℕ → Facts) (x : ℕ) (v : Operand) (marks : ℕ → Bool) → c x ≡ Some v → AreMarks starts x v marks → (p : ℕ) (a : Block) → slice_get f.blocks p ≡ Some a
      → Marks (ends_of c starts f a.number) x v (held_along x v a.lines (marks p))
  end_marks starts x v marks own are p a e =
      subst (λ (o : Option Block). Marks (end_of c starts o) x v (held_along x v a.lines (marks p))) (sym (find_at f once p a e).0)
      (along_marks c x v own a.lines (starts a.number) (marks p) (are.each p a e))

  -- ---- a solution's marks are a flow

  pub flow_of : (starts : ℕ → Facts) (x : ℕ) (v : Operand) (marks : ℕ → Bool) → IsSolution c f starts → c x ≡ Some v → AreMarks starts x v marks → IsFactFlow f x v marks
  flow_of starts x v marks sol own are = record {
    entry = entry (slice_get f.blocks 0) refl;
    outside = λ q b e m. sol.outside b.number x v b (find_at f once q b e).0 ((are.each q b e).from m);
    passed = λ p q a b e d edge m away. pass p q a b e d (along p q a b e d edge m) away;
    entered = λ p q a b e d edge m here. enter p q a b e d (along p q a b e d edge m) here;
  }
    where
      entry : (o : Option Block) → slice_get f.blocks 0 ≡ o → marks 0 ≡ false
      entry None e = are.none e
      entry (Some b) e = by (marks 0) refl
        where
          by : (t : Bool) → marks 0 ≡ t → t ≡ false
          by false m = refl
          by true m = absurd (subst (λ (fs : Facts). Has fs x v) (sol.entry b e) ((are.each 0 b e).from m))

      along : (p q : ℕ) (a b : Block) → slice_get f.blocks p ≡ Some a → slice_get f.blocks q ≡ Some b → Among p (edges f q) → marks q ≡ true
          → ((is_phi x b.phis ≡ false) × Has (ends_of c starts f a.number) x v) ⊎ ((is_phi x b.phis ≡ true) × EntryIs (ends_of c starts f a.number) x v (phi_operand x a.number b.phis))
      along p q a b e d edge m =
          edge_each (ends_of c starts f a.number) a.number b.phis (starts b.number)
          (sol.edges a.number b.number a b (find_at f once p a e).0 (edge_back f p q a b e d edge) (find_at f once q b d).0) x v ((are.each q b d).from m)

      pass : (p q : ℕ) (a b : Block) → slice_get f.blocks p ≡ Some a → slice_get f.blocks q ≡ Some b
          → ((is_phi x b.phis ≡ false) × Has (ends_of c starts f a.number) x v) ⊎ ((is_phi x b.phis ≡ true) × EntryIs (ends_of c starts f a.number) x v (phi_operand x a.number b.phis))
          → is_phi x b.phis ≡ false → held_along x v a.lines (marks p) ≡ true
      pass p q a b e d (inl (none, has)) away = (end_marks starts x v marks own are p a e).to has
      pass p q a b e d (inr (phi, entry)) away = absurd (false≢true (sym away ∙ phi))

      enter : (p q : ℕ) (a b : Block) → slice_get f.blocks p ≡ Some a → slice_get f.blocks q ≡ Some b
          → ((is_phi x b.phis ≡ false) × Has (ends_of c starts f a.number) x v) ⊎ ((is_phi x b.phis ≡ true) × EntryIs (ends_of c starts f a.number) x v (phi_operand x a.number b.phis))
          → is_phi x b.phis ≡ true → entry_holds x v (held_along x v a.lines (marks p)) (phi_operand x a.number b.phis) ≡ true
      enter p q a b e d (inl (none, has)) here = absurd (false≢true (sym none ∙ here))
      enter p q a b e d (inr (phi, entry)) here =
          (entry_marks (ends_of c starts f a.number) x v (held_along x v a.lines (marks p)) (end_marks starts x v marks own are p a e) (phi_operand x a.number b.phis)).0 entry

  -- ---- lists whose marks are flows are a solution

  pub record Flows (starts : ℕ → Facts) (x : ℕ) (v : Operand) : Type 0 where
    pub marks : ℕ → Bool
    pub are : AreMarks starts x v marks
    pub flow : IsFactFlow f x v marks

  pub solves : (starts : ℕ → Facts) → ((n x : ℕ) (v : Operand) → Has (starts n) x v → c x ≡ Some v) → ((x : ℕ) (v : Operand) → c x ≡ Some v → Flows starts x v) → IsSolution c f starts
  solves starts known flows = record {
    known = known;
    entry = λ b e. bare b e (starts b.number) refl;
    outside = λ n x v b e h.
        let to = found_there f.blocks n b e in
        let own = flows x v (known n x v h) in
        own.flow.outside (place f.blocks n) b to.0 ((own.are.each (place f.blocks n) b to.0).to (subst (λ (j : ℕ). Has (starts j) x v) (sym to.1) h));
    edges = λ m n a b e target d.
        let from = found_there f.blocks m a e in
        let to = found_there f.blocks n b d in
        subst (λ (j : ℕ). EdgeFacts (ends_of c starts f m) m b.phis (starts j)) to.1
        (subst (λ (i : ℕ). EdgeFacts (ends_of c starts f i) i b.phis (starts b.number)) from.1
        (edge (place f.blocks m) (place f.blocks n) a b from.0 to.0
        (edge_of f (place f.blocks m) (place f.blocks n) a b from.0 to.0 (subst (IsTarget a.end) (sym to.1) target))));
  }
    where
      bare : (b : Block) → slice_get f.blocks 0 ≡ Some b → (fs : Facts) → starts b.number ≡ fs → fs ≡ []
      bare b e [] q = refl
      bare b e ((x, v) ∷ fs) q =
          let has : Has (starts b.number) x v = subst (λ (gs : Facts). Has gs x v) (sym q) (inl (refl, refl)) in
          let own = flows x v (known b.number x v has) in
          absurd (false≢true (sym own.flow.entry ∙ (own.are.each 0 b e).to has))

      edge : (p q : ℕ) (a b : Block) → slice_get f.blocks p ≡ Some a → slice_get f.blocks q ≡ Some b → Among p (edges f q) → EdgeFacts (ends_of c starts f a.number) a.number b.phis (starts b.number)
      edge p q a b e d way = edge_all (ends_of c starts f a.number) a.number b.phis (starts b.number) each
        where
          each : (x : ℕ) (v : Operand) → Has (starts b.number) x v
              → (is_phi_operand v b.phis ≡ false) × (((is_phi x b.phis ≡ false) × Has (ends_of c starts f a.number) x v) ⊎ ((is_phi x b.phis ≡ true) × EntryIs (ends_of c starts f a.number) x v (phi_operand x a.number b.phis)))
          each x v h =
              let is = known b.number x v h in
              let own = flows x v is in
              let m = (own.are.each q b d).to h in
              (own.flow.outside q b d m, by is own m (is_phi x b.phis) refl)
            where
              by : c x ≡ Some v → (own : Flows starts x v) → own.marks q ≡ true → (t : Bool) → is_phi x b.phis ≡ t
                  → ((is_phi x b.phis ≡ false) × Has (ends_of c starts f a.number) x v) ⊎ ((is_phi x b.phis ≡ true) × EntryIs (ends_of c starts f a.number) x v (phi_operand x a.number b.phis))
              by is own m false t = inl (t, (end_marks starts x v own.marks is own.are p a e).from (own.flow.passed p q a b e d way m t))
              by is own m true t =
                  inr (
                    t,
                    (entry_marks (ends_of c starts f a.number) x v (held_along x v a.lines (own.marks p)) (end_marks starts x v own.marks is own.are p a e) (phi_operand x a.number b.phis)).1
                        (own.flow.entered p q a b e d way m t),
                  )

-- ---- the law

key_has : (x : ℕ) (fs : Facts) → is_key x fs ≡ true → (v : Operand) × Has fs x v
key_has x [] h = absurd (false≢true h)
key_has x ((y, u) ∷ fs) h = elim (or_cases (y == x) (is_key x fs) h) [
  | inl e ↦ (u, inl (eqb-true y x e, refl))
  | inr more ↦ (let rest = key_has x fs more in (rest.0, inr rest.1))
]

has_key : (x : ℕ) (v : Operand) (fs : Facts) → Has fs x v → is_key x fs ≡ true
has_key x v [] h = absurd h
has_key x v ((y, u) ∷ fs) (inl e) = or_left (y == x) (is_key x fs) (eq-eqb y x e.0)
has_key x v ((y, u) ∷ fs) (inr h) = or_right (y == x) (is_key x fs) (has_key x v fs h)

pub are_marks : (c : ℕ → Option Operand) (f : Function) (once : Distinct (locals f ++ numbers f)) (starts : ℕ → Facts) → ((n x : ℕ) (v : Operand) → Has (starts n) x v → c x ≡ Some v)
    → (x : ℕ) (v : Operand) → c x ≡ Some v → AreMarks c f once starts x v (marks_of starts f x)
are_marks c f once starts known x v own = record {
  none = λ e. ap (λ (o : Option Block). is_key x (starting starts o)) e;
  each = λ p b e. subst (λ (o : Option Block). Marks (starts b.number) x v (is_key x (starting starts o))) (sym e) (at b);
}
  where
    one : (u : Operand) → c x ≡ Some u → u ≡ v
    one u e = let both : ◌≡◌ {A = Option Operand} (Some u) (Some v) = sym e ∙ own in cc both

    at : (b : Block) → Marks (starts b.number) x v (is_key x (starts b.number))
    at b = record {
      to = has_key x v (starts b.number);
      from = λ h. let some = key_has x (starts b.number) h in subst (λ (u : Operand). Has (starts b.number) x u) (one some.0 (known b.number x some.0 some.1)) some.1;
    }

pub solutions_agree : SolutionsAgree
solutions_agree f formed c starts known = (
  (λ sol x v own. flow_of c f formed.once starts x v (marks_of starts f x) sol own (are_marks c f formed.once starts known x v own)),
  (λ flows. solves c f formed.once starts known (λ x v own. record {
    marks = marks_of starts f x;
    are = are_marks c f formed.once starts known x v own;
    flow = flows x v own;
  })),
)
