-- A function with uses replaced by right facts is better: the facts hold of the program's own frame.
use Rattle.std.proofs.Common.{◌≡◌, ℕ, zero, suc, ◌≤◌, Bool, true, false, not, ◌==◌, if◌then◌else◌, List, [], ◌∷◌, length, Option, Some, None, ◌⊎◌, inl, inr, refl, sym, ap, ◌∙◌, subst, arith, map}
use Rattle.std.proofs.lemmas.Bool.{cases_eq, ne_eqb, cases_Bool, eq-eqb}
use Rattle.ir_tree.specs.declared.block.Block.{Block}
use Rattle.ir_tree.specs.declared.block.Case.{Case}
use Rattle.ir_tree.specs.declared.block.Terminator.{Terminator}
use Rattle.ir_tree.specs.declared.block.Terminator.TheVariants.{Return, Jump, Branch, Switch, Unreachable}
use Rattle.ir_tree.specs.declared.function.Function.{Function}
use Rattle.ir_tree.specs.declared.function.Param.{Param}
use Rattle.ir_tree.specs.declared.instr.Instr.{Instr}
use Rattle.ir_tree.specs.declared.instr.Instr.TheVariants.{Binary, Icmp, Cast, Select, Freeze, Alloca, Load, Store, Address, Call, Phi as StrayPhi}
use Rattle.ir_tree.specs.declared.instr.Line.{Line}
use Rattle.ir_tree.specs.declared.operand.Argument.{Argument}
use Rattle.ir_tree.specs.declared.operand.Operand.{Operand}
use Rattle.ir_tree.specs.declared.operand.Symbol.{Symbol}
use Rattle.ir_tree.specs.Edited.{argument_edited, with_operands}
use Rattle.ir_meaning.specs.Act.{Act, Goes, Calls, with_slot, apply, phis_bound, find_block, enters_block, jumps, case_target, side, Exit, Leaves, Leads', Stuck, by_bits, exit_of, exits, act, params_bound, enter_at, enter, resume}
use Rattle.ir_meaning.specs.Execute.{Task, evaluate, Effect, Went, Asked, Broke, execute, compares}
use Rattle.ir_meaning.specs.Frame.{Locals, Frame, Signature, look_up, bind, value_of}
use Rattle.ir_meaning.specs.Memory.{Memory, kill}
use Rattle.ir_meaning.specs.Near.{Setting, Against, IsAnswered}
use Rattle.ir_meaning.specs.Operate.{bits_of, frozen}
use Rattle.ir_meaning.specs.Program.{Program, variables, State, On, place_of, advance, Leads}
use Rattle.ir_meaning.specs.Relate.{Pairing, Point, Fixes, Related, Kept, Agrees, AllAgree, ValuesAgree, ArgumentsAgree}
use Rattle.ir_meaning.specs.declared.event.Event.{Event}
use Rattle.ir_meaning.specs.declared.value.Value.{Value}
use Rattle.ir_meaning.specs.Facts.{Facts, without, with_fact, behind_local, behind_lines, replaced, lines_replaced, end_replaced, phis_replaced, block_replaced, blocks_replaced, function_replaced, Stands, GivesFor, VariablesLive, RuleAlways, RuleSometimes, is_free, RuleFor, IsOther, LineRule, LinesRight, EdgeFacts, InCases, IsTarget, BlockRight, BlocksRight, EntryBare, FactsRight}
use Rattle.ir_meaning.specs.Formed.{IsFormed}
use Rattle.ir_meaning.specs.Laws.{ReplacedBetter}
use Rattle.ir_meaning.proofs.Alike.Answering.{by_value_agrees, near_by, answered_return, answered_fails, bind_agrees, EndReads, ExitsAgree, names_of, act_at_line, act_at_end}
use Rattle.ir_meaning.proofs.Alike.Effects.{answer_later, locals_later, slots_later, TasksAgree, OperandsAgree, evaluate_agrees, UsesKept, SlotAgrees, EffectsAlike, execute_alike}
use Rattle.ir_meaning.proofs.Alike.Itself.{slots_more}
use Rattle.ir_meaning.proofs.Alike.Keeping.{kept_refl, kept_trans, kept_fixes, more, SlotsPaired, kill_kept}
use Rattle.ir_meaning.proofs.Alike.Values.{LocalsAgree, IsKept, AllKept, EachAgrees, Names, if_agrees, value_of_agrees}
use Rattle.ir_meaning.proofs.Alike.Stacks.{stack, stack_breaks, one_answer}
use Rattle.ir_meaning.proofs.Inlining.Values.{evaluate_with}
use Rattle.ir_meaning.proofs.Runs.Steps.{one_step}
use Rattle.ir_meaning.proofs.Facts.Standing.{stands_agree, AllHold, operand_stands, without_same, fact_holds}
use Rattle.ir_meaning.proofs.Facts.Phis.{edge_facts_hold, phis_replaced_agree}

-- ---- operands of replaced instructions

reads_values : (sig : Signature) (w : Pairing) (n : ℕ) → Names sig w n → (keeps : ℕ → Bool) (ls rs : Locals) →
    LocalsAgree keeps w n ls rs → (g : Operand → Operand) → ((o : Operand) → Stands (value_of sig rs (g o)) (value_of sig rs o)) →
    (o : Operand) → IsKept keeps (g o) → Agrees w n (value_of sig ls (g o)) (value_of sig rs o)
reads_values sig w n c keeps ls rs h g s o k = stands_agree w n (value_of sig ls (g o)) (value_of sig rs (g o)) (value_of sig rs o)
    (value_of_agrees sig w n c keeps ls rs h (g o) k) (s o)

each_values : (w : Pairing) (n : ℕ) (keeps : ℕ → Bool) (g : Operand → Operand) (a b : Operand → Value) →
    ((o : Operand) → IsKept keeps (g o) → Agrees w n (a o) (b o)) → (args : List Argument) → AllKept keeps (map (argument_edited g) args) →
    EachAgrees w n a b args
each_values w n keeps g a b h [] k = tt
each_values w n keeps g a b h (x ∷ more) k = (h x.operand k.0, each_values w n keeps g a b h more k.1)

operands_read : (w : Pairing) (n : ℕ) (keeps : ℕ → Bool) (g : Operand → Operand) (a b : Operand → Value) →
    ((o : Operand) → IsKept keeps (g o) → Agrees w n (a o) (b o)) → (i : Instr) → UsesKept keeps (with_operands g i) → OperandsAgree w n a b i
operands_read w n keeps g a b h (Binary op fl k l r) x = (h l x.0, h r x.1)
operands_read w n keeps g a b h (Icmp p reg l r) x = (h l x.0, h r x.1)
operands_read w n keeps g a b h (Cast op from o to) x = h o x
operands_read w n keeps g a b h (Select c t e) x = (h c x.0, h t.operand x.1, h e.operand x.2)
operands_read w n keeps g a b h (Freeze k o) x = h o x
operands_read w n keeps g a b h (Alloca shape align) x = tt
operands_read w n keeps g a b h (Load reg o align) x = h o x
operands_read w n keeps g a b h (Store reg o d align) x = (h o x.0, h d x.1)
operands_read w n keeps g a b h (Address inbounds shape o is) x = (h o x.0, each_values w n keeps g a b h is x.1)
operands_read w n keeps g a b h (Call result c args) x = (h c x.0, each_values w n keeps g a b h args x.1)
operands_read w n keeps g a b h (StrayPhi reg es) x = tt

-- a freeze or a comparison gives some value, and nothing else
free_went : (sig : Signature) (input : List ℕ) (m : Memory) (place choice : ℕ) (value : Operand → Value) (i : Instr) → is_free i ≡ true →
    (r : Value) × (execute sig input m place choice (evaluate value i) ≡ Went (Some r) None m place [])
free_went sig input m place choice value (Freeze w o) e = (frozen w choice (value o), refl)
free_went sig input m place choice value (Icmp p reg l r) e = (compares m choice p reg (value l) (value r), refl)
free_went sig input m place choice value (Binary op f k l r) e = absurd (cc e)
free_went sig input m place choice value (Cast op from o to) e = absurd (cc e)
free_went sig input m place choice value (Select c t f) e = absurd (cc e)
free_went sig input m place choice value (Alloca shape align) e = absurd (cc e)
free_went sig input m place choice value (Load reg o align) e = absurd (cc e)
free_went sig input m place choice value (Store reg o d align) e = absurd (cc e)
free_went sig input m place choice value (Address inbounds shape o is) e = absurd (cc e)
free_went sig input m place choice value (Call result c args) e = absurd (cc e)
free_went sig input m place choice value (StrayPhi reg es) e = absurd (cc e)

free_with : (g : Operand → Operand) (i : Instr) → is_free (with_operands g i) ≡ is_free i
free_with g (Freeze w o) = refl
free_with g (Icmp p reg l r) = refl
free_with g (Binary op f k l r) = refl
free_with g (Cast op from o to) = refl
free_with g (Select c t f) = refl
free_with g (Alloca shape align) = refl
free_with g (Load reg o align) = refl
free_with g (Store reg o d align) = refl
free_with g (Address inbounds shape o is) = refl
free_with g (Call result c args) = refl
free_with g (StrayPhi reg es) = refl

found_right : (f : Function) (candidate : ℕ → Option Operand) (loose : ℕ → Bool) (starts ends : ℕ → Facts) (bs : List Block) →
    BlocksRight f candidate loose starts ends bs → (n : ℕ) (x : Block) → find_block bs n ≡ Some x → (x.number ≡ n) ×
    BlockRight f candidate loose starts ends x × (find_block (blocks_replaced candidate starts ends bs) n ≡ Some
    (block_replaced candidate starts ends x))
found_right f candidate loose starts ends [] c n x e = absurd (cc e)
found_right f candidate loose starts ends (b ∷ bs) c n x e = by (cases_eq b.number n) e (λ e'. found_right f candidate loose starts ends bs
    c.1 n x e')
  where
    by : (b.number ≡ n) ⊎ (b.number ≡ n → ⊥) → (if b.number == n then Some b else find_block bs n) ≡ Some x →
        (find_block bs n ≡ Some x → (x.number ≡ n) × BlockRight f candidate loose starts ends x ×
        (find_block (blocks_replaced candidate starts ends bs) n ≡ Some (block_replaced candidate starts ends x))) → (x.number ≡ n) ×
        BlockRight f candidate loose starts ends x × (find_block (blocks_replaced candidate starts ends (b ∷ bs)) n ≡ Some
        (block_replaced candidate starts ends x))
    by (inl same) e' go =
        let y = eq-eqb b.number n same in
        let is : Some b ≡ Some x = sym (ap (λ (v : Bool). if v then Some b else find_block bs n) y) ∙ e' in
        let is' : b ≡ x = cc is in (
          ap (λ (z : Block). z.number) (sym is') ∙ same,
          subst (λ (z : Block). BlockRight f candidate loose starts ends z) is' c.0,
          ap (λ (v : Bool). if v then Some (block_replaced candidate starts ends b) else find_block (blocks_replaced candidate starts
              ends bs) n) y ∙ ap (λ (z : Block). Some (block_replaced candidate starts ends z)) is',
        )
    by (inr other) e' go =
        let y = ne_eqb b.number n other in
        let r = go (sym (ap (λ (v : Bool). if v then Some b else find_block bs n) y) ∙ e') in (
          r.0,
          r.1,
          ap (λ (v : Bool). if v then Some (block_replaced candidate starts ends b) else find_block
              (blocks_replaced candidate starts ends bs) n) y ∙ r.2,
        )

-- a terminator leads to its targets alone
case_in : (cs : List Case) (d n : ℕ) → (d ≡ case_target cs d n) ⊎ InCases cs (case_target cs d n)
case_in [] d n = inl refl
case_in (c ∷ cs) d n = by (c.bits == n) (case_in cs d n)
  where
    by : (v : Bool) → (d ≡ case_target cs d n) ⊎ InCases cs (case_target cs d n) → (d ≡ (if v then c.target else case_target cs d n)) ⊎
        ((c.target ≡ (if v then c.target else case_target cs d n)) ⊎ InCases cs (if v then c.target else case_target cs d n))
    by true rest = inr (inl refl)
    by false (inl e) = inl e
    by false (inr e) = inr (inr e)

case_in' : (cs : List Case) (d n m : ℕ) → case_target cs d n ≡ m → (d ≡ m) ⊎ InCases cs m
case_in' cs d n m e = subst (λ (k : ℕ). (d ≡ k) ⊎ InCases cs k) e (case_in cs d n)

pub target_in : (value : Operand → Value) (e : Terminator) (n : ℕ) → exit_of value e ≡ Leads' n → IsTarget e n
target_in value (Return a) n q = absurd (cc q)
target_in value (Jump t) n q = cc q
target_in value (Branch c t f) n q = by (bits_of 1 (value c)) q
  where
    at : (k m : ℕ) → side t f k ≡ m → (t ≡ m) ⊎ (f ≡ m)
    at zero m e = inr e
    at (suc k) m e = inl e

    by : (o : Option ℕ) → by_bits (side t f) o ≡ Leads' n → (t ≡ n) ⊎ (f ≡ n)
    by (Some k) q' = at k n (cc q')
    by None q' = absurd (cc q')
target_in value (Switch w o d cs) n q = by (bits_of w (value o)) q
  where
    by : (o : Option ℕ) → by_bits (case_target cs d) o ≡ Leads' n → (d ≡ n) ⊎ InCases cs n
    by (Some k) q' = case_in' cs d k n (cc q')
    by None q' = absurd (cc q')
target_in value Unreachable n q = absurd (cc q)

-- where the program's variables stand for themselves, they live
pub variables_live : (p : Program) → IsFormed p → (q : Point) → Fixes (variables p) q → VariablesLive p.signature q.right
variables_live p formed q fix s n e = fix.alive n (formed s n e)

-- one instruction on each side, with alike effects, and what the right one was
known_effects : (z : Setting) → 1 ≤ z.bound → (near : Against) (entry p : Point) → Kept (variables z.program) entry p → Fixes (variables z.program) p →
    (a b b' : Frame) (la lb : Option ℕ) (at choice : ℕ) (x y : Effect) → act z.program.signature z.input b p.right at choice ≡ apply b' lb
    y → EffectsAlike p x y → ((q : Point) (v v' : Option Value) (slot slot' : Option ℕ) (at' : ℕ) (m' : Memory) (es' : List Event) →
    y ≡ Went v' slot' m' at' es' → Kept (variables z.program) p q → ValuesAgree q v v' →
    SlotAgrees p q slot slot' →
    near (record a { locals = bind la v a.locals; slots = with_slot slot a.slots }) q.left
    (stack (record b' { locals = bind lb v' b'.locals; slots = with_slot slot' b'.slots }) [] q.right at')) →
    ((s : Symbol) (us : List Value) → y ≡ Asked s us → (q : Point) (v v' : Option Value) (at' : ℕ) → Kept (variables z.program) p q → ValuesAgree q v v' →
    near (resume (record a { awaits = la }) v) q.left (stack (resume (record b' { awaits = lb }) v') [] q.right at')) →
    IsAnswered z near entry p.left (stack b [] p.right at) (apply a la x)
known_effects z one near entry p k fix a b b' la lb at choice x (Broke why) e h went asked =
    answered_fails z near entry p.left (stack b [] p.right at) (stack_breaks z one b [] p.right at choice why e) (apply a la x)
known_effects z one near entry p k fix a b b' la lb at choice (Went v slot m pl es) (Went v' slot' m' pl' es') e h went asked =
    let b'' : Frame = record b' { locals = bind lb v' b'.locals; slots = with_slot slot' b'.slots } in
    let a' : Frame = record a { locals = bind la v a.locals; slots = with_slot slot a.slots } in
    let leads = one_step z.program z.input (stack b [] p.right at) choice (record { events = es'; next = On (stack b'' [] m' pl') })
    (ap (advance z.program (place_of b) [] p.right at) e) in
    let leads' = subst (λ (l : List Event). Leads z.program z.input 1 (stack b [] p.right at) l (On (stack b'' [] m' pl'))) (sym h.events)
    leads in
    let q = h.point in
    let near' = went q v v' slot slot' pl' m' es' refl (h.kept (variables z.program)) h.value h.slot_is in
    let near'' = subst (λ (c : Memory). near a' c (stack b'' [] q.right pl')) h.left near' in
    inr (record {
      state = stack b'' [] m' pl';
      answers = record { steps = 1; some = omega arith; few = one; leads = leads' };
      place_is = sym h.place_is;
      near_still = subst (λ (c : Memory). near a' m (stack b'' [] c pl')) h.right near'';
    })
known_effects z one near entry p k fix a b b' la lb at choice (Asked s vs) (Asked s' us) e h went asked =
    inr (record {
      steps = 0;
      few = one;
      state = stack b [] p.right at;
      leads = (refl, refl);
      place = refl;
      choice = choice;
      arguments' = us;
      waiting' = record b' { awaits = lb };
      calls = e ∙ ap (λ (t : Symbol). Calls t us (record b' { awaits = lb })) (sym h.0);
      point = p;
      left = refl;
      right_is = refl;
      related = k.related;
      fixes = fix;
      agree = h.1;
      goes_on = λ q v u at' k' agree. asked s' us refl q v u at' k' agree;
    })
known_effects z one near entry p k fix a b b' la lb at choice (Went v slot m pl es) (Asked s' us) e h went asked = absurd h
known_effects z one near entry p k fix a b b' la lb at choice (Asked s vs) (Went v' slot' m' pl' es') e h went asked = absurd h
known_effects z one near entry p k fix a b b' la lb at choice (Broke w) (Went v' slot' m' pl' es') e h went asked = absurd h
known_effects z one near entry p k fix a b b' la lb at choice (Broke w) (Asked s' us) e h went asked = absurd h

pub resume_is : (b : Frame) (v : Option Value) → resume b v ≡ record b { locals = bind b.awaits v b.locals; awaits = None }
unfolding resume
resume_is b v = refl

-- a terminator with replaced operands
exit_known : (sig : Signature) (p : Point) → Names sig p.pairing (length p.left) → (keeps : ℕ → Bool) (ls rs : Locals) →
    LocalsAgree keeps p.pairing (length p.left) ls rs → (fs : Facts) → AllHold sig rs fs → (e : Terminator) →
    EndReads keeps (end_replaced fs e) → ExitsAgree p (exit_of (value_of sig ls) (end_replaced fs e)) (exit_of (value_of sig rs) e)
exit_known sig p c keeps ls rs h fs facts (Return None) k = tt
exit_known sig p c keeps ls rs h fs facts (Return (Some a)) k = reads_values sig p.pairing (length p.left) c keeps ls rs h (replaced fs)
    (operand_stands sig rs fs facts) a.operand k
exit_known sig p c keeps ls rs h fs facts (Jump target) k = refl
exit_known sig p c keeps ls rs h fs facts (Branch d t e) k = by_value_agrees p 1 (side t e) _ _ (reads_values sig p.pairing (length p.left) c
    keeps ls rs h (replaced fs) (operand_stands sig rs fs facts) d k)
exit_known sig p c keeps ls rs h fs facts (Switch w o d cs) k = by_value_agrees p w (case_target cs d) _ _
    (reads_values sig p.pairing (length p.left) c keeps ls rs h (replaced fs) (operand_stands sig rs fs facts) o k)
exit_known sig p c keeps ls rs h fs facts Unreachable k = tt

module _ (z : Setting) (one : 1 ≤ z.bound) (formed : IsFormed z.program) (f : Function) (candidate : ℕ → Option Operand) (loose : ℕ → Bool)
    (starts ends : ℕ → Facts) (right : FactsRight f candidate loose starts ends) where
  abbrev keeps : ℕ → Bool
  keeps x = not (loose x)

  record Known (entry p : Point) (a b : Frame) (fs : Facts) : Type 0 where
    kept : Kept (variables z.program) entry p
    fixes : Fixes (variables z.program) entry
    function : a.function ≡ function_replaced candidate starts ends f
    function' : b.function ≡ f
    block : a.block ≡ b.block
    rest : a.rest ≡ lines_replaced candidate fs b.rest
    end : a.end ≡ end_replaced (ends b.block) b.end
    ends_are : ends b.block ≡ behind_lines candidate b.rest fs
    locals : LocalsAgree keeps p.pairing (length p.left) a.locals b.locals
    slots : SlotsPaired (variables z.program) p.pairing (length p.left) a.slots b.slots
    holds : AllHold z.program.signature b.locals fs
    lines : LinesRight candidate loose fs b.rest
    reads : EndReads keeps (end_replaced (ends b.block) b.end)
    targets : (n : ℕ) (x : Block) → IsTarget b.end n → find_block f.blocks n ≡ Some x → EdgeFacts (ends b.block) b.block x.phis
        (starts x.number)

  record Holds (entry : Point) (a : Frame) (m : Memory) (s : State) : Type 0 where
    point : Point
    left : point.left ≡ m
    frame : Frame
    at : ℕ
    is : s ≡ stack frame [] point.right at
    facts : Facts
    known : Known entry point a frame facts

  holds_at : (entry p : Point) (a b : Frame) (at : ℕ) (fs : Facts) → Known entry p a b fs → Holds entry a p.left (stack b [] p.right at)
  holds_at entry p a b at fs k = record { point = p; left = refl; frame = b; at = at; is = refl; facts = fs; known = k }

  -- the state behind a line
  behind : (entry p q : Point) (a b : Frame) (fs fs' : Facts) (line : Line) (rest : List Line) → Known entry p a b fs →
      b.rest ≡ line ∷ rest → fs' ≡ behind_local candidate line.local fs → Kept (variables z.program) p q → (la lb : Locals) →
      LocalsAgree keeps q.pairing (length q.left) la lb → AllHold z.program.signature lb fs' → (ls rs : List ℕ) →
      SlotsPaired (variables z.program) q.pairing (length q.left) ls rs → (i j : Option ℕ) → Known entry q (record a {
        rest = lines_replaced candidate fs' rest;
        locals = la;
        slots = ls;
        awaits = i;
      }) (record b { rest = rest; locals = lb; slots = rs; awaits = j }) fs'
  behind entry p q a b fs fs' line rest k e e' kq la lb l h ls rs s i j = record {
    kept = kept_trans entry p q k.kept kq;
    fixes = k.fixes;
    function = k.function;
    function' = k.function';
    block = k.block;
    rest = refl;
    end = k.end;
    ends_are = k.ends_are ∙ ap (λ (x : List Line). behind_lines candidate x fs) e ∙ ap (λ (x : Facts). behind_lines candidate rest x)
        (sym e');
    locals = l;
    slots = s;
    holds = h;
    lines = subst (λ (x : Facts). LinesRight candidate loose x rest) (sym e') (subst (λ (x : List Line). LinesRight candidate loose fs x) e
        k.lines).2;
    reads = k.reads;
    targets = k.targets;
  }

  -- what a value of the line's local leaves of the facts
  bound_holds : (sg : Signature) (local : Option ℕ) (i : Instr) → LineRule candidate loose local i →
      (fs : Facts) (ls : Locals) (u : Option Value) → ((y : ℕ) (r : Value) (v : Operand) → local ≡ Some y → u ≡ Some r →
      candidate y ≡ Some v → Stands (value_of sg ls v) r) → ((y : ℕ) (v : Operand) → local ≡ Some y → u ≡ None → candidate y ≡ Some v →
      ⊥) → AllHold sg ls fs → AllHold sg (bind local u ls) (behind_local candidate local fs)
  bound_holds sg None i rule fs ls u s none h = h
  bound_holds sg (Some y) i rule fs ls (Some r) s none h = fact_holds sg y r ls fs (candidate y) rule.1 (λ v e. s y r v refl refl e) h
  bound_holds sg (Some y) i rule fs ls None s none h = by (candidate y) refl
    where
      by : (o : Option Operand) → candidate y ≡ o → AllHold sg ls (with_fact y o (without y fs))
      by None e = without_same sg y ls fs h
      by (Some v) e = absurd (none y v refl refl e)

  -- the effect on the right gives what the candidate stands for
  given : (sg : Signature) (m : Memory) (at : ℕ) (v : Value) (e : Effect) → GivesFor m at v e → (u : Option Value) (slot : Option ℕ)
      (m' : Memory) (at' : ℕ) (es : List Event) → e ≡ Went u slot m' at' es → (r : Value) × (u ≡ Some r) × Stands v r
  given sg m at v (Broke why) g u slot m' at' es q = absurd (cc q)
  given sg m at v (Asked s vs) g u slot m' at' es q = absurd g
  given sg m at v (Went None s' m1 at1 es1) g u slot m' at' es q = absurd g
  given sg m at v (Went (Some r) None m1 at1 es1) g u slot m' at' es q = (r, cc q, g.0)
  given sg m at v (Went (Some r) (Some s') m1 at1 es1) g u slot m' at' es q = absurd g

  asked_not : (m : Memory) (at : ℕ) (v : Value) (e : Effect) → GivesFor m at v e → (s : Symbol) (vs : List Value) → e ≡ Asked s vs → ⊥
  asked_not m at v (Broke why) g s vs q = cc q
  asked_not m at v (Asked s' us) g s vs q = g
  asked_not m at v (Went None s' m1 at1 es1) g s vs q = g
  asked_not m at v (Went (Some r) s' m1 at1 es1) g s vs q = cc q

  locals_loose : (w : Pairing) (n : ℕ) (y : ℕ) (u r : Value) (ls rs : Locals) → loose y ≡ true → LocalsAgree keeps w n ls rs →
      LocalsAgree keeps w n ((y, u) ∷ ls) ((y, r) ∷ rs)
  locals_loose w n y u r ls rs e h x kept = by (cases_eq y x)
    where
      by : (y ≡ x) ⊎ (y ≡ x → ⊥) → Agrees w n (look_up ((y, u) ∷ ls) x) (look_up ((y, r) ∷ rs) x)
      by (inl same) =
          let t = ap loose (sym same) ∙ e in
          let k = ap not t in
          absurd (cc (kept, k))
      by (inr ne) =
          let t = ne_eqb y x ne in
          subst (λ (b : Bool). Agrees w n (if b then u else look_up ls x) (if b then r else look_up rs x)) (sym t) (h x kept)

  -- an instruction whose local agrees
  strict_line : (entry p : Point) (a b : Frame) (at choice : ℕ) (fs : Facts) → Known entry p a b fs → (line : Line) (rest : List Line) →
      b.rest ≡ line ∷ rest → ((y : ℕ) (v : Operand) → line.local ≡ Some y → candidate y ≡ Some v → RuleAlways line.instr v) →
      IsAnswered z (Holds entry) entry p.left (stack b [] p.right at) (act z.program.signature z.input a p.left at choice)
  strict_line entry p a b at choice fs k line rest e always =
      let sg = z.program.signature in
      let fix' = kept_fixes (variables z.program) entry p k.fixes k.kept in
      let names = names_of z.program formed p fix' in
      let live = variables_live z.program formed p fix' in
      let lines = subst (λ (x : List Line). LinesRight candidate loose fs x) e k.lines in
      let g = replaced fs in
      let ops = operands_read p.pairing (length p.left) keeps g (λ o. value_of sg a.locals (g o)) (value_of sg b.locals)
      (reads_values sg p.pairing (length p.left) names keeps a.locals b.locals k.locals g (operand_stands sg b.locals fs k.holds))
      line.instr lines.1 in
      let tasks0 = evaluate_agrees p.pairing (length p.left) (λ o. value_of sg a.locals (g o)) (value_of sg b.locals) line.instr ops in
      let tasks = subst (λ (t : Task). TasksAgree p.pairing (length p.left) t (evaluate (value_of sg b.locals) line.instr))
      (sym (evaluate_with g (value_of sg a.locals) line.instr)) tasks0 in
      let x = execute_alike sg p k.kept.related z.input at choice (evaluate (value_of sg a.locals) (with_operands g line.instr))
      (evaluate (value_of sg b.locals) line.instr) tasks in
      let fs' = behind_local candidate line.local fs in
      let line' : Line = record { local = line.local; instr = with_operands g line.instr } in
      let ea : a.rest ≡ line' ∷ lines_replaced candidate fs' rest = k.rest ∙ ap (λ (l : List Line). lines_replaced candidate fs l) e in
      let a' : Frame = record a { rest = lines_replaced candidate fs' rest } in
      let b' : Frame = record b { rest = rest } in
      let y = execute sg z.input p.right at x.0 (evaluate (value_of sg b.locals) line.instr) in
      let r = known_effects z one (Holds entry) entry p k.kept fix' a' b b' line.local line.local at x.0
      (execute sg z.input p.left at choice (evaluate (value_of sg a.locals) (with_operands g line.instr))) y
      (act_at_line sg z.input b p.right at x.0 line rest e) x.1
      (λ q v v' slot slot' at' m' es' is k' agree slots'. holds_at entry q _ _ at' fs' (behind entry p q a b fs fs' line rest k e refl k' _
      _ (bind_agrees keeps q line.local v v' a.locals b.locals agree (locals_later p q k' keeps a.locals b.locals k.locals))
      (bound_holds sg line.local line.instr lines.0 fs b.locals v' (λ n r' w ln vr cn. stands_for fs k line at x.0 w
      (always n w ln cn) v' slot' m' at' es' is r' vr) (λ n w ln vr cn. gives_some fs k line at x.0 w (always n w ln cn) v' slot' m'
      at' es' is vr) k.holds) _ _ (slots_more (variables z.program) p q fix' slot slot' a.slots b.slots slots' (slots_later p q k' a.slots b.slots k.slots))
      a.awaits b.awaits))
      (λ s us is q v v' at' k' agree.
      let h' = bound_holds sg line.local line.instr lines.0 fs b.locals v' (λ n r' w ln vr cn.
      absurd (asked_not p.right at (value_of sg b.locals w) y (always n w ln cn sg z.input p.right at x.0 b.locals live) s us is))
      (λ n w ln vr cn. asked_not p.right at (value_of sg b.locals w) y (always n w ln cn sg z.input p.right at x.0 b.locals live) s us is)
      k.holds in
      let c = behind entry p q a b fs fs' line rest k e refl k' (bind line.local v a.locals) (bind line.local v' b.locals)
      (bind_agrees keeps q line.local v v' a.locals b.locals agree (locals_later p q k' keeps a.locals b.locals k.locals)) h' a.slots
      b.slots (slots_later p q k' a.slots b.slots k.slots) None None in
      let c1 = holds_at entry q _ _ at' fs' c in
      let c2 = subst (λ (w : Frame). Holds entry w q.left (stack (record b' { locals = bind line.local v' b.locals; awaits = None }) []
      q.right at')) (sym (resume_is (record a' { awaits = line.local }) v)) c1 in
      subst (λ (w : Frame). Holds entry (resume (record a' { awaits = line.local }) v) q.left (stack w [] q.right at'))
      (sym (resume_is (record b' { awaits = line.local }) v')) c2) in
      subst (λ (w : Act). IsAnswered z (Holds entry) entry p.left (stack b [] p.right at) w)
      (sym (act_at_line sg z.input a p.left at choice line' (lines_replaced candidate fs' rest) ea)) r
    where
      living : (fs : Facts) → Known entry p a b fs → VariablesLive z.program.signature p.right
      living fs k = variables_live z.program formed p (kept_fixes (variables z.program) entry p k.fixes k.kept)

      stands_for : (fs : Facts) → Known entry p a b fs → (line : Line) (at c : ℕ) (w : Operand) → RuleAlways line.instr w →
          (v' : Option Value) (slot' : Option ℕ) (m' : Memory) (at' : ℕ) (es' : List Event) → execute z.program.signature z.input p.right
          at c (evaluate (value_of z.program.signature b.locals) line.instr) ≡ Went v' slot' m' at' es' → (r' : Value) → v' ≡ Some r' →
          Stands (value_of z.program.signature b.locals w) r'
      stands_for fs k line at c w rule v' slot' m' at' es' is r' vr =
          let y = given z.program.signature p.right at (value_of z.program.signature b.locals w) (execute z.program.signature z.input
          p.right at c (evaluate (value_of z.program.signature b.locals) line.instr)) (rule z.program.signature z.input p.right at c
          b.locals (living fs k)) v' slot' m' at' es' is in
          let same : y.0 ≡ r' = cc (y.1, vr) in
          subst (λ (q : Value). Stands (value_of z.program.signature b.locals w) q) same y.2

      gives_some : (fs : Facts) → Known entry p a b fs → (line : Line) (at c : ℕ) (w : Operand) → RuleAlways line.instr w →
          (v' : Option Value) (slot' : Option ℕ) (m' : Memory) (at' : ℕ) (es' : List Event) → execute z.program.signature z.input p.right
          at c (evaluate (value_of z.program.signature b.locals) line.instr) ≡ Went v' slot' m' at' es' → v' ≡ None → ⊥
      gives_some fs k line at c w rule v' slot' m' at' es' is vr =
          let y = given z.program.signature p.right at (value_of z.program.signature b.locals w) (execute z.program.signature z.input
          p.right at c (evaluate (value_of z.program.signature b.locals) line.instr)) (rule z.program.signature z.input p.right at c
          b.locals (living fs k)) v' slot' m' at' es' is in
          cc (y.1, vr)

  -- an instruction whose local has its fact by a free choice
  loose_line : (entry p : Point) (a b : Frame) (at choice : ℕ) (fs : Facts) → Known entry p a b fs → (line : Line) (rest : List Line) →
      b.rest ≡ line ∷ rest → (y : ℕ) (v : Operand) → line.local ≡ Some y → candidate y ≡ Some v → loose y ≡ true →
      is_free line.instr ≡ true → RuleSometimes line.instr v → IsOther y (candidate y) → IsAnswered z (Holds entry) entry p.left
      (stack b [] p.right at) (act z.program.signature z.input a p.left at choice)
  loose_line entry p a b at choice fs k line rest e y v ln cn lo fr rule other =
      let sg = z.program.signature in
      let g = replaced fs in
      let fs' = behind_local candidate line.local fs in
      let line' : Line = record { local = line.local; instr = with_operands g line.instr } in
      let ea : a.rest ≡ line' ∷ lines_replaced candidate fs' rest = k.rest ∙ ap (λ (l : List Line). lines_replaced candidate fs l) e in
      let live = variables_live z.program formed p (kept_fixes (variables z.program) entry p k.fixes k.kept) in
      let c = rule sg z.input p.right at b.locals live in
      let left = free_went sg z.input p.left at choice (value_of sg a.locals) (with_operands g line.instr) (free_with g line.instr ∙ fr) in
      let rt = free_went sg z.input p.right at c.0 (value_of sg b.locals) line.instr fr in
      let st = given sg p.right at (value_of sg b.locals v) (execute sg z.input p.right at c.0 (evaluate (value_of sg b.locals)
      line.instr)) c.1 (Some rt.0) None p.right at [] rt.1 in
      let same : st.0 ≡ rt.0 = cc (st.1) in
      let stands = subst (λ (q : Value). Stands (value_of sg b.locals v) q) same st.2 in
      let la : Locals = (y, left.0) ∷ a.locals in
      let lb : Locals = (y, rt.0) ∷ b.locals in
      let a1 : Frame = record a { rest = lines_replaced candidate fs' rest; locals = la; slots = a.slots; awaits = a.awaits } in
      let b1 : Frame = record b { rest = rest; locals = lb; slots = b.slots; awaits = b.awaits } in
      let h0 = fact_holds sg y rt.0 b.locals fs (candidate y) other (λ w q. let vw : v ≡ w = cc (cn, q) in
      subst (λ (o : Operand). Stands (value_of sg b.locals o) rt.0) vw stands) k.holds in
      let h' = subst (λ (o : Option ℕ). AllHold sg lb (behind_local candidate o fs)) (sym ln) h0 in
      let known = behind entry p p a b fs fs' line rest k e refl (kept_refl p k.kept.related) la lb (locals_loose p.pairing (length p.left)
      y left.0 rt.0 a.locals b.locals lo k.locals) h' a.slots b.slots k.slots a.awaits b.awaits in
      let bl : bind line.local (Some rt.0) b.locals ≡ lb = ap (λ (o : Option ℕ). bind o (Some rt.0) b.locals) ln in
      let al : bind line.local (Some left.0) a.locals ≡ la = ap (λ (o : Option ℕ). bind o (Some left.0) a.locals) ln in
      let act_b : act sg z.input b p.right at c.0 ≡ Goes b1 p.right at [] =
      act_at_line sg z.input b p.right at c.0 line rest e ∙ ap (λ (q : Effect). apply (record b { rest = rest }) line.local q) rt.1
      ∙ ap (λ (q : Locals). let w : Act = Goes (record b { rest = rest; locals = q }) p.right at [] in w) bl in
      let act_a : act sg z.input a p.left at choice ≡ Goes a1 p.left at [] =
      act_at_line sg z.input a p.left at choice line' (lines_replaced candidate fs' rest) ea
      ∙ ap (λ (q : Effect). apply (record a { rest = lines_replaced candidate fs' rest }) line.local q) left.1
      ∙ ap (λ (q : Locals). let w : Act = Goes (record a { rest = lines_replaced candidate fs' rest; locals = q }) p.left at [] in w)
      al in
      let r = one_answer z one (Holds entry) entry p.left (stack b [] p.right at) (stack b1 [] p.right at) c.0
      (ap (advance z.program (place_of b) [] p.right at) act_b) a1 p.left at refl (holds_at entry p a1 b1 at fs' known) in
      subst (λ (w : Act). IsAnswered z (Holds entry) entry p.left (stack b [] p.right at) w) (sym act_a) r

  no_loose : (t : Bool) (i : Instr) (v : Operand) → t ≡ false → RuleFor t i (Some v) → RuleAlways i v
  no_loose false i v e r = r
  no_loose true i v e r = absurd (cc e)

  yes_loose : (t : Bool) (i : Instr) (o : Option Operand) → t ≡ true → RuleFor t i o → (v : Operand) × (o ≡ Some v) × (is_free i ≡ true) ×
      RuleSometimes i v
  yes_loose true i (Some v) e r = (v, refl, r.0, r.1)
  yes_loose true i None e r = absurd r
  yes_loose false i o e r = absurd (cc e)

  any_line : (entry p : Point) (a b : Frame) (at choice : ℕ) (fs : Facts) → Known entry p a b fs → (line : Line) (rest : List Line) →
      b.rest ≡ line ∷ rest → (local : Option ℕ) → line.local ≡ local → IsAnswered z (Holds entry) entry p.left (stack b [] p.right at)
      (act z.program.signature z.input a p.left at choice)
  any_line entry p a b at choice fs k line rest e None ln = strict_line entry p a b at choice fs k line rest e
      (λ y v l c. absurd (cc (l, ln)))
  any_line entry p a b at choice fs k line rest e (Some y) ln = by (cases_Bool (loose y))
    where
      rule : RuleFor (loose y) line.instr (candidate y) × IsOther y (candidate y)
      rule = subst (λ (o : Option ℕ). LineRule candidate loose o line.instr) ln (subst (λ (x : List Line). LinesRight candidate loose fs x)
          e k.lines).0

      by : (loose y ≡ true) ⊎ (loose y ≡ false) → IsAnswered z (Holds entry) entry p.left (stack b [] p.right at)
          (act z.program.signature z.input a p.left at choice)
      by (inl lo) = let x = yes_loose (loose y) line.instr (candidate y) lo rule.0 in loose_line entry p a b at choice fs k line rest e y
          x.0 ln x.1 lo x.2 x.3 rule.1
      by (inr st) =
          strict_line entry p a b at choice fs k line rest e (λ n v l c.
          let same : y ≡ n = cc (l, ln) in
          let c' : candidate y ≡ Some v = ap candidate same ∙ c in
          no_loose (loose y) line.instr v st (subst (λ (o : Option Operand). RuleFor (loose y) line.instr o) c' rule.0))

  -- terminators
  jump : (entry p : Point) (a b : Frame) (at choice target : ℕ) (fs : Facts) → Known entry p a b fs → b.rest ≡ [] → IsTarget b.end target →
      (o : Option Block) → find_block f.blocks target ≡ o → act z.program.signature z.input b p.right at choice ≡ enters_block
      z.program.signature b p.right at o → IsAnswered z (Holds entry) entry p.left (stack b [] p.right at)
      (jumps z.program.signature a p.left at target)
  jump entry p a b at choice target fs k e tg None found is =
      answered_fails z (Holds entry) entry p.left (stack b [] p.right at) (stack_breaks z one b [] p.right at choice _ is)
      (jumps z.program.signature a p.left at target)
  jump entry p a b at choice target fs k e tg (Some x) found is =
      let sg = z.program.signature in
      let names = names_of z.program formed p (kept_fixes (variables z.program) entry p k.fixes k.kept) in
      let known = found_right f candidate loose starts ends f.blocks right.blocks target x found in
      let br = known.1 in
      let end_is : ends b.block ≡ fs = k.ends_are ∙ ap (λ (l : List Line). behind_lines candidate l fs) e in
      let facts = subst (λ (q : Facts). AllHold sg b.locals q) (sym end_is) k.holds in
      let holds' = edge_facts_hold sg b.locals (ends b.block) facts b.block x.phis (starts x.number) (k.targets target x tg found) in
      let l0 = phis_replaced_agree sg p.pairing (length p.left) names keeps a.locals b.locals k.locals ends b.block facts x.phis br.phis
      a.locals b.locals k.locals in
      let l = subst (λ (n : ℕ). LocalsAgree keeps p.pairing (length p.left) (phis_bound sg a.locals n (phis_replaced ends x.phis) a.locals)
      (phis_bound sg b.locals b.block x.phis b.locals)) (sym k.block) l0 in
      let y = block_replaced candidate starts ends x in
      let a1 : Frame = record a {
        block = y.number;
        rest = y.lines;
        end = y.end;
        locals = phis_bound sg a.locals a.block y.phis
            a.locals;
      } in
      let b1 : Frame = record b {
        block = x.number;
        rest = x.lines;
        end = x.end;
        locals = phis_bound sg b.locals b.block x.phis
            b.locals;
      } in
      let next : Known entry p a1 b1 (starts x.number) = record {
        kept = k.kept;
        fixes = k.fixes;
        function = k.function;
        function' =
            k.function';
        block = refl;
        rest = refl;
        end = refl;
        ends_are = br.ends_are;
        locals = l;
        slots = k.slots;
        holds = holds';
        lines = br.lines;
        reads = br.end;
        targets = br.targets;
      } in
      let r = one_answer z one (Holds entry) entry p.left (stack b [] p.right at) (stack b1 [] p.right at) choice
      (ap (advance z.program (place_of b) [] p.right at) is) a1 p.left at refl (holds_at entry p a1 b1 at (starts x.number) next) in
      let here : enters_block sg a p.left at (find_block a.function.blocks target) ≡ Goes a1 p.left at [] =
      ap (λ (g : Function). enters_block sg a p.left at (find_block g.blocks target)) k.function
      ∙ ap (λ (q : Option Block). enters_block sg a p.left at q) known.2 in
      subst (λ (w : Act). IsAnswered z (Holds entry) entry p.left (stack b [] p.right at) w) (sym here) r

  at_exit : (entry p : Point) (a b : Frame) (at choice : ℕ) (fs : Facts) → Known entry p a b fs → b.rest ≡ [] → (x y : Exit) →
      exit_of (value_of z.program.signature b.locals) b.end ≡ y → ExitsAgree p x y → act z.program.signature z.input b p.right at
      choice ≡ exits z.program.signature b p.right at y → IsAnswered z (Holds entry) entry p.left (stack b [] p.right at)
      (exits z.program.signature a p.left at x)
  at_exit entry p a b at choice fs k e x (Stuck cause) q h is = answered_fails z (Holds entry) entry p.left (stack b [] p.right at)
      (stack_breaks z one b [] p.right at choice _ is) (exits z.program.signature a p.left at x)
  at_exit entry p a b at choice fs k e (Leaves v) (Leaves u) q h is =
      let kill' = kill_kept (variables z.program) a.slots b.slots p k.kept.related k.slots in
      let pt : Point = record { pairing = p.pairing; left = kill a.slots p.left; right = kill b.slots p.right } in
      answered_return z one (Holds entry) entry p pt (kept_trans entry p pt k.kept kill') b at choice v u is (answer_later p pt kill' v u h)
  at_exit entry p a b at choice fs k e (Leads' m) (Leads' n) q h is =
      let sg = z.program.signature in
      let is' : act sg z.input b p.right at choice ≡ enters_block sg b p.right at (find_block f.blocks m) =
      is ∙ ap (λ (i : ℕ). enters_block sg b p.right at (find_block b.function.blocks i)) (sym h)
      ∙ ap (λ (g : Function). enters_block sg b p.right at (find_block g.blocks m)) k.function' in
      let tg = target_in (value_of sg b.locals) b.end m (q ∙ ap (λ (i : ℕ). Leads' i) (sym h)) in
      jump entry p a b at choice m fs k e tg (find_block f.blocks m) refl is'
  at_exit entry p a b at choice fs k e (Stuck cause) (Leaves u) q h is = absurd h
  at_exit entry p a b at choice fs k e (Stuck cause) (Leads' n) q h is = absurd h
  at_exit entry p a b at choice fs k e (Leaves v) (Leads' n) q h is = absurd h
  at_exit entry p a b at choice fs k e (Leads' m) (Leaves u) q h is = absurd h

  at_rest : (entry p : Point) (a b : Frame) (at choice : ℕ) (fs : Facts) → Known entry p a b fs → (rest : List Line) → b.rest ≡ rest →
      IsAnswered z (Holds entry) entry p.left (stack b [] p.right at) (act z.program.signature z.input a p.left at choice)
  at_rest entry p a b at choice fs k (line ∷ rest) e = any_line entry p a b at choice fs k line rest e line.local refl
  at_rest entry p a b at choice fs k [] e =
      let sg = z.program.signature in
      let names = names_of z.program formed p (kept_fixes (variables z.program) entry p k.fixes k.kept) in
      let end_is : ends b.block ≡ fs = k.ends_are ∙ ap (λ (l : List Line). behind_lines candidate l fs) e in
      let facts = subst (λ (q : Facts). AllHold sg b.locals q) (sym end_is) k.holds in
      let x = exit_known sg p names keeps a.locals b.locals k.locals (ends b.block) facts b.end k.reads in
      let r = at_exit entry p a b at choice fs k e (exit_of (value_of sg a.locals) (end_replaced (ends b.block) b.end))
      (exit_of (value_of sg b.locals) b.end) refl x (act_at_end sg z.input b p.right at choice e) in
      let left : act sg z.input a p.left at choice ≡ exits sg a p.left at
      (exit_of (value_of sg a.locals) (end_replaced (ends b.block) b.end)) =
      act_at_end sg z.input a p.left at choice (k.rest ∙ ap (λ (l : List Line). lines_replaced candidate fs l) e)
      ∙ ap (λ (t : Terminator). exits sg a p.left at (exit_of (value_of sg a.locals) t)) k.end in
      subst (λ (w : Act). IsAnswered z (Holds entry) entry p.left (stack b [] p.right at) w) (sym left) r

  step_answered : (entry : Point) (a : Frame) (m : Memory) (s : State) → Holds entry a m s → (choice : ℕ) →
      IsAnswered z (Holds entry) entry m s (act z.program.signature z.input a m s.place choice)
  step_answered entry a m s h choice =
      let p = h.point in
      let r = at_rest entry p a h.frame h.at choice h.facts h.known h.frame.rest refl in
      let r' = subst (λ (c : Memory). IsAnswered z (Holds entry) entry c (stack h.frame [] p.right h.at) (act z.program.signature z.input a
      c h.at choice)) h.left r in
      subst (λ (w : State). IsAnswered z (Holds entry) entry m w (act z.program.signature z.input a m w.place choice)) (sym h.is) r'

  params_agree : (w : Pairing) (n : ℕ) (ps : List Param) (vs us : List Value) → AllAgree w n vs us →
      LocalsAgree keeps w n (params_bound ps vs) (params_bound ps us)
  params_agree w n [] vs us h y kept = tt
  params_agree w n (x ∷ ps) [] [] h y kept = tt
  params_agree w n (x ∷ ps) (v ∷ vs) (u ∷ us) h y kept = if_agrees w n (x.local == y) v (look_up (params_bound ps vs) y) u
      (look_up (params_bound ps us) y) h.0 (params_agree w n ps vs us h.1 y kept)
  params_agree w n (x ∷ ps) [] (u ∷ us) h y kept = absurd h
  params_agree w n (x ∷ ps) (v ∷ vs) [] h y kept = absurd h

  enters : (entry : Point) → Related entry → Fixes (variables z.program) entry → (bs : List Block) → BlocksRight f candidate loose starts
      ends bs → EntryBare starts bs → (ls rs : Locals) → LocalsAgree keeps entry.pairing (length entry.left) ls rs → (at : ℕ) →
      Holds entry (enter_at (function_replaced candidate starts ends f) (blocks_replaced candidate starts ends bs) ls) entry.left
      (stack (enter_at f bs rs) [] entry.right at)
  enters entry rel fix [] c bare ls rs h at = absurd bare
  enters entry rel fix (b ∷ bs) c bare ls rs h at =
      holds_at entry entry _ _ at (starts b.number) (record {
        kept = kept_refl entry rel;
        fixes = fix;
        function = refl;
        function' = refl;
        block = refl;
        rest = refl;
        end = refl;
        ends_are = c.0.ends_are;
        locals = h;
        slots = tt;
        holds = subst (λ (q : Facts). AllHold z.program.signature rs q) (sym bare) tt;
        lines = c.0.lines;
        reads = c.0.end;
        targets = c.0.targets;
      })

  enter_known : (entry : Point) → Related entry → Fixes (variables z.program) entry → (vs us : List Value) → ArgumentsAgree entry vs us →
      (at : ℕ) → Holds entry (enter (function_replaced candidate starts ends f) vs) entry.left (stack (enter f us) [] entry.right at)
  unfolding enter
  enter_known entry rel fix vs us h at =
      enters entry rel fix f.blocks right.blocks right.entry (params_bound f.params vs) (params_bound f.params us)
      (params_agree entry.pairing (length entry.left) f.params vs us h) at

pub known_better : ReplacedBetter
known_better p formed f candidate loose starts ends right input n entry vs us place rel fix agree =
    let z : Setting = record { program = p; input = input; bound = 1 } in
    near_by z (Holds z (omega arith) formed f candidate loose starts ends right) (step_answered z (omega arith) formed f candidate loose
    starts ends right) n entry (enter (function_replaced candidate starts ends f) vs) entry.left (stack (enter f us) [] entry.right
    place) (enter_known z (omega arith) formed f candidate loose starts ends right entry rel fix vs us agree place)
