-- Whole runs.
use Rattle.std.proofs.Common.{◌≡◌, ℕ, zero, suc, ◌+◌, ◌<◌, ◌≤◌, List, [], ◌∷◌, ◌++◌, length, map, Option, Some, None, slice_get, ◌⊎◌, inl, inr, refl, sym, ap, ◌∙◌, subst, arith, append_assoc}
use Rattle.std.proofs.lemmas.Bool.{cases_lt}
use Rattle.ir_tree.specs.declared.function.Function.{Function}
use Rattle.ir_meaning.specs.Act.{enter}
use Rattle.ir_meaning.specs.Memory.{MemoryBlock, Memory}
use Rattle.ir_meaning.specs.Near.{Setting, Fails, Answers, Replaces, IsBetter}
use Rattle.ir_meaning.specs.Program.{Program, variables, State, Next, On, Done, Broken, Failure, Took, step, After, Leads}
use Rattle.ir_meaning.specs.Refine.{own_names, SameCell, MayStandFor, AnswerMayStandFor, SameEnding, Matched, RefinesFrom}
use Rattle.ir_meaning.specs.Relate.{Pairing, Point, Fixes, Related, SameBase, SameByte, SameBytes, SameBlock, Agrees, AllAgree, ValuesAgree}
use Rattle.ir_meaning.specs.Run.{Ending, Running, Returned, Failed, Ran, run_on, run, start_of}
use Rattle.ir_meaning.specs.declared.event.Event.{Event}
use Rattle.ir_meaning.specs.declared.value.Base.{Base}
use Rattle.ir_meaning.specs.declared.value.Base.TheVariants.{Nowhere, Code, Cell}
use Rattle.ir_meaning.specs.declared.value.Byte.{Byte}
use Rattle.ir_meaning.specs.declared.value.Byte.TheVariants.{Unset, Spoilt, Plain, Fragment}
use Rattle.ir_meaning.specs.declared.value.Value.{Value}
use Rattle.ir_meaning.specs.declared.value.Value.TheVariants.{Number, Pointer, Poison}
use Rattle.ir_meaning.specs.Formed.{IsInside, ByteIsInside, BytesAreInside, MemoryIsInside, OpensInside}
use Rattle.ir_meaning.specs.Laws.{Congruence}
use Rattle.ir_meaning.proofs.Alike.Keeping.{kept_fixes}
use Rattle.ir_meaning.proofs.Runs.Stacks.{Sim, SameNext, Meets, sim_step}
use Rattle.ir_meaning.proofs.Runs.Steps.{leads_trans}

abbrev ending_of : Next → Ending
ending_of (On s) = Running
ending_of (Done answer memory place) = Returned answer
ending_of (Broken why) = Failed why

-- a run by some choices
record ByChoices (p : Program) (input : List ℕ) (k : ℕ) (s : State) (events : List Event) (next : Next) : Type 0 where
  choices : List ℕ
  steps : (run p input choices s).steps ≡ k
  trace : (run p input choices s).trace ≡ events
  ending : (run p input choices s).ending ≡ ending_of next

by_after : (p : Program) (input : List ℕ) (k : ℕ) (s : State) (choice : ℕ) (shown : List Event) (n : Next) (events : List Event)
    (end : Next) → (step p input s choice).events ≡ shown → (step p input s choice).next ≡ n →
    ((s' : State) (es : List Event) → Leads p input k s' es end → ByChoices p input k s' es end) →
    After (Leads p input k) k shown n events end → ByChoices p input (suc k) s events end
by_after p input k s choice shown (On s') events end e f ih a =
    let b = ih s' a.0 a.2 in
    let r : run p input (choice ∷ b.choices) s ≡ run_on (run p input b.choices) shown (On s') =
    ap (λ (es : List Event). run_on (run p input b.choices) es (step p input s choice).next) e
    ∙ ap (λ (m : Next). run_on (run p input b.choices) shown m) f in
    record {
      choices = choice ∷ b.choices;
      steps = ap (λ (x : Ran). x.steps) r ∙ ap (λ (x : ℕ). suc x) b.steps;
      trace = ap (λ (x : Ran). x.trace) r ∙ ap (λ (l : List Event). shown ++ l) b.trace ∙ sym a.1;
      ending = ap (λ (x : Ran). x.ending) r ∙ b.ending;
    }
by_after p input k s choice shown (Done answer memory place) events end e f ih a =
    let r : run p input (choice ∷ []) s ≡ run_on (run p input []) shown (Done answer memory place) =
    ap (λ (es : List Event). run_on (run p input []) es (step p input s choice).next) e
    ∙ ap (λ (m : Next). run_on (run p input []) shown m) f in
    record {
      choices = choice ∷ [];
      steps = ap (λ (x : Ran). x.steps) r ∙ ap (λ (x : ℕ). suc x) (sym a.0);
      trace = ap (λ (x : Ran). x.trace) r ∙ sym a.1;
      ending = ap (λ (x : Ran). x.ending) r ∙ ap ending_of (sym a.2);
    }
by_after p input k s choice shown (Broken why) events end e f ih a =
    let r : run p input (choice ∷ []) s ≡ run_on (run p input []) shown (Broken why) =
    ap (λ (es : List Event). run_on (run p input []) es (step p input s choice).next) e
    ∙ ap (λ (m : Next). run_on (run p input []) shown m) f in
    record {
      choices = choice ∷ [];
      steps = ap (λ (x : Ran). x.steps) r ∙ ap (λ (x : ℕ). suc x) (sym a.0);
      trace = ap (λ (x : Ran). x.trace) r ∙ sym a.1;
      ending = ap (λ (x : Ran). x.ending) r ∙ ap ending_of (sym a.2);
    }

by_choices : (p : Program) (input : List ℕ) (k : ℕ) (s : State) (events : List Event) (end : Next) →
    Leads p input k s events end → ByChoices p input k s events end
by_choices p input zero s events end (a, b) =
    record { choices = []; steps = refl; trace = sym a; ending = ap ending_of (sym b) }
by_choices p input (suc k) s events end (choice, a) =
    by_after p input k s choice (step p input s choice).events (step p input s choice).next events end refl refl
    (λ s' es l. by_choices p input k s' es end l) a

-- what the pairing says of a returned value
cell_same : (g : ℕ) (q : Point) → Fixes g q → Related q → (l r : ℕ) → l < length q.left → q.pairing l ≡ r → (l < g) ⊎ (g ≤ l) →
    (r < g) ⊎ (g ≤ r) → SameCell (own_names g) l r
cell_same g q fix rel l r lt e (inl a) b = inl (a, sym (fix.stay l a) ∙ e)
cell_same g q fix rel l r lt e (inr a) (inr b) = inr (a, b)
cell_same g q fix rel l r lt e (inr a) (inl b) =
    let here : r < length q.left = omega (arith, fix.variables) in
    let same = rel.one_to_one l r lt here (e ∙ sym (fix.stay r b)) in
    absurd (omega arith)

value_same : (g : ℕ) (q : Point) → Fixes g q → Related q → (v v' : Value) → Agrees q.pairing (length q.left) v v' →
    MayStandFor (own_names g) v v'
value_same g q fix rel v Poison a = tt
value_same g q fix rel (Number n) (Number m) a = a
value_same g q fix rel (Pointer Nowhere i) (Pointer Nowhere j) a = a
value_same g q fix rel (Pointer (Code s) i) (Pointer (Code t) j) a = a
value_same g q fix rel (Pointer (Cell l) i) (Pointer (Cell r) j) a =
    (cell_same g q fix rel l r a.0.0 a.0.1 (cases_lt l g) (cases_lt r g), a.1)
value_same g q fix rel (Pointer Nowhere i) (Pointer (Code t) j) a = absurd a.0
value_same g q fix rel (Pointer Nowhere i) (Pointer (Cell r) j) a = absurd a.0
value_same g q fix rel (Pointer (Code s) i) (Pointer Nowhere j) a = absurd a.0
value_same g q fix rel (Pointer (Code s) i) (Pointer (Cell r) j) a = absurd a.0
value_same g q fix rel (Pointer (Cell l) i) (Pointer Nowhere j) a = absurd a.0
value_same g q fix rel (Pointer (Cell l) i) (Pointer (Code t) j) a = absurd a.0
value_same g q fix rel (Number n) (Pointer y j) a = absurd a
value_same g q fix rel (Pointer x i) (Number m) a = absurd a
value_same g q fix rel Poison (Number m) a = absurd a
value_same g q fix rel Poison (Pointer y j) a = absurd a

answer_same : (g : ℕ) (q : Point) → Fixes g q → Related q → (v v' : Option Value) → ValuesAgree q v v' →
    AnswerMayStandFor (own_names g) v v'
answer_same g q fix rel None None a = tt
answer_same g q fix rel (Some v) (Some v') a = value_same g q fix rel v v' a
answer_same g q fix rel None (Some v') a = absurd a
answer_same g q fix rel (Some v) None a = absurd a

-- the run is answered by steps
record ByLeads (p : Program) (input : List ℕ) (s : State) (ran : Ran) : Type 0 where
  count : ℕ
  enough : ran.steps ≤ count
  next : Next
  leads : Leads p input count s ran.trace next
  ending : SameEnding (own_names (variables p)) ran.ending (ending_of next)

record BadByLeads (p : Program) (input : List ℕ) (s : State) (trace : List Event) : Type 0 where
  count : ℕ
  failure : Failure
  seen : List Event
  later : List Event
  front : trace ≡ seen ++ later
  leads : Leads p input count s seen (Broken failure)

abbrev Met : Program → List ℕ → State → Ran → Type 0
Met p input s ran = BadByLeads p input s ran.trace ⊎ ByLeads p input s ran

-- after an answered step
met_on : (z : Setting) (k : ℕ) (right right' : State) (shown : List Event) (ran : Ran) →
    Leads z.program z.input k right shown (On right') → 1 ≤ k → Met z.program z.input right' ran →
    Met z.program z.input right (record { steps = suc ran.steps; trace = shown ++ ran.trace; ending = ran.ending })
met_on z k right right' shown ran l some (inl b) =
    inl (record {
      count = k + b.count;
      failure = b.failure;
      seen = shown ++ b.seen;
      later = b.later;
      front = ap (λ (es : List Event). shown ++ es) b.front ∙ sym (append_assoc shown b.seen b.later);
      leads = leads_trans z.program z.input k b.count right right' shown b.seen (Broken b.failure) l b.leads;
    })
met_on z k right right' shown ran l some (inr b) =
    inr (record {
      count = k + b.count;
      enough = omega (arith, b.enough);
      next = b.next;
      leads = leads_trans z.program z.input k b.count right right' shown ran.trace b.next l b.leads;
      ending = b.ending;
    })

met_step : (z : Setting) (n : ℕ) (first : Point) → Fixes (variables z.program) first → (right : State) (go : State → Ran) →
    ((l r : State) → Sim z n first l r → Met z.program z.input r (go l)) → (shown : List Event) (next next' : Next) →
    Answers z right shown next' → SameNext z n first next next' → Met z.program z.input right (run_on go shown next)
met_step z n first fix right go ih shown (On l) (On r) a same = met_on z a.steps right r shown (go l) a.leads a.some (ih l r same)
met_step z n first fix right go ih shown (Done v m pl) (Done v' m' pl') a same =
    inr (record {
      count = a.steps;
      enough = a.some;
      next = Done v' m' pl';
      leads = a.leads;
      ending = answer_same (variables z.program) same.point
          (kept_fixes (variables z.program) first same.point fix same.kept) same.kept.related v v' same.agree;
    })
met_step z n first fix right go ih shown (On l) (Done v' m' pl') a same = absurd same
met_step z n first fix right go ih shown (On l) (Broken why) a same = absurd same
met_step z n first fix right go ih shown (Done v m pl) (On r) a same = absurd same
met_step z n first fix right go ih shown (Done v m pl) (Broken why) a same = absurd same
met_step z n first fix right go ih shown (Broken why) next' a same = absurd same

met_fails : (z : Setting) (right : State) (go : State → Ran) (shown : List Event) (next : Next) → Fails z right shown →
    Met z.program z.input right (run_on go shown next)
met_fails z right go shown (On l) f =
    inl (record {
      count = f.steps;
      failure = f.failure;
      seen = f.seen;
      later = f.later ++ (go l).trace;
      front = ap (λ (es : List Event). es ++ (go l).trace) f.front ∙ append_assoc f.seen f.later (go l).trace;
      leads = f.leads;
    })
met_fails z right go shown (Done v m pl) f = inl
    (record { count = f.steps; failure = f.failure; seen = f.seen; later = f.later; front = f.front; leads = f.leads })
met_fails z right go shown (Broken why) f = inl
    (record { count = f.steps; failure = f.failure; seen = f.seen; later = f.later; front = f.front; leads = f.leads })

met_meets : (z : Setting) (n : ℕ) (first : Point) → Fixes (variables z.program) first → (right : State) (go : State → Ran) →
    ((l r : State) → Sim z n first l r → Met z.program z.input r (go l)) → (t : Took) → Meets z n first right t →
    Met z.program z.input right (run_on go t.events t.next)
met_meets z n first fix right go ih t (inl f) = met_fails z right go t.events t.next f
met_meets z n first fix right go ih t (inr a) = met_step z n first fix right go ih t.events t.next a.next a.answers a.same

-- a run of the better program is answered
sim_run : (q : Program) (z : Setting) → IsBetter q z.program z.bound → (first : Point) → Fixes (variables z.program) first →
    (choices : List ℕ) (left right : State) → Sim z (length choices) first left right →
    Met z.program z.input right (run q z.input choices left)
sim_run q z better first fix [] left right s =
    inr (record { count = 0; enough = omega arith; next = On right; leads = (refl, refl); ending = tt })
sim_run q z better first fix (choice ∷ choices) left right s =
    met_meets z (length choices) first fix right (run q z.input choices) (λ l r s'. sim_run q z better first fix choices l r s')
    (step q z.input left choice) (sim_step q z better (length choices) first left right s choice)

matched : (p : Program) (input : List ℕ) (s : State) (ran : Ran) → Met p input s ran → Matched (own_names (variables p)) p input s ran
matched p input s ran (inl b) =
    let c = by_choices p input b.count s b.seen (Broken b.failure) b.leads in
    inl (record {
      choices = c.choices;
      failure = b.failure;
      ends = c.ending;
      later = b.later;
      front = b.front
          ∙ ap (λ (es : List Event). es ++ b.later) (sym c.trace);
    })
matched p input s ran (inr b) =
    let c = by_choices p input b.count s ran.trace b.next b.leads in
    inr (record {
      choices = c.choices;
      steps = omega (arith, b.enough, c.steps);
      trace = c.trace;
      ending = subst (λ (e : Ending). SameEnding (own_names (variables p)) ran.ending e) (sym c.ending) b.ending;
    })

-- the opening memory stands for itself
same_base : (n : ℕ) (x : Base) → IsInside n x → SameBase (λ l. l) n x x
same_base n Nowhere h = tt
same_base n (Code s) h = refl
same_base n (Cell l) h = (h, refl)

same_byte : (n : ℕ) (b : Byte) → ByteIsInside n b → SameByte (λ l. l) n b b
same_byte n Unset h = tt
same_byte n Spoilt h = tt
same_byte n (Plain a) h = refl
same_byte n (Fragment i x o) h = (refl, same_base n x h, refl)

same_bytes : (n : ℕ) (bs : List Byte) → BytesAreInside n bs → SameBytes (λ l. l) n bs bs
same_bytes n [] h = tt
same_bytes n (b ∷ bs) h = (same_byte n b h.0, same_bytes n bs h.1)

same_blocks : (n : ℕ) (m : Memory) → MemoryIsInside n m → (l : ℕ) (b : MemoryBlock) → slice_get m l ≡ Some b → SameBlock (λ i. i) n b b
same_blocks n [] h l b e = absurd (cc e)
same_blocks n (x ∷ m) h zero b e =
    let same : x ≡ b = cc e in
    subst (λ (y : MemoryBlock). SameBlock (λ i. i) n y y) same
    (record { marks = record { size = refl; align = refl; writable = refl }; live = λ i. i; bytes = same_bytes n x.bytes h.0 })
same_blocks n (x ∷ m) h (suc l) b e = same_blocks n m h.1 l b e

abbrev opening_point : Program → Point
opening_point p = record { pairing = λ l. l; left = p.opening; right = p.opening }

opens_fixed : (p : Program) → OpensInside p → Fixes (variables p) (opening_point p)
opens_fixed p h = record { variables = omega arith; stay = λ l lt. refl; alive = h.alive }

opens : (p : Program) → OpensInside p → Related (opening_point p)
opens p h = record {
  blocks = λ l b e. (b, e, same_blocks (length p.opening) p.opening h.inside l b e);
  one_to_one = λ l m a b e. e;
}

numbers_agree : (w : Pairing) (n : ℕ) (arguments : List ℕ) → AllAgree w n (map Number arguments) (map Number arguments)
numbers_agree w n [] = tt
numbers_agree w n (a ∷ arguments) = (refl, numbers_agree w n arguments)

from_start : (q p : Program) (bound : ℕ) → OpensInside p → IsBetter q p bound →
    (arguments : List ℕ) (code code' : Option Function) → Replaces p bound code code' →
    RefinesFrom (own_names (variables p)) q p (start_of code (map Number arguments) p.opening)
    (start_of code' (map Number arguments) p.opening)
from_start q p bound inside better arguments None None r = tt
from_start q p bound inside better arguments (Some f) (Some g) r =
    λ input choices.
    let z : Setting = record { program = p; input = input; bound = bound } in
    let vs = map Number arguments in
    let e = opening_point p in
    let left : State = record { top = enter f vs; below = []; memory = p.opening; place = 0 } in
    let right : State = record { top = enter g vs; below = []; memory = p.opening; place = 0 } in
    let near = r input (length choices) e vs vs 0 (opens p inside) (opens_fixed p inside) (numbers_agree e.pairing (length p.opening) arguments) in
    let s : Sim z (length choices) e left right =
    record { entry = e; own = right; rest = []; is = refl; place = refl; near = near; waits = (refl, refl) } in
    matched p input right (run q input choices left) (sim_run q z better e (opens_fixed p inside) choices left right s)
from_start q p bound inside better arguments None (Some g) r = absurd r
from_start q p bound inside better arguments (Some f) None r = absurd r

pub congruent : Congruence
congruent q p bound inside better IsRoot root is_root arguments =
    let r = from_start q p bound inside better arguments (q.code root) (p.code root) (better.code root) in
    subst (λ (m : Memory). RefinesFrom (own_names (variables p)) q p (start_of (q.code root) (map Number arguments) m)
    (start_of (p.code root) (map Number arguments) p.opening)) (sym better.opening) r
