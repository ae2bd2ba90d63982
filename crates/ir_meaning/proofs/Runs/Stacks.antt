-- Whole states of two programs: each frame of the better one stands against a stretch of the other's frames.
use Rattle.std.proofs.Common.{◌≡◌, ℕ, zero, suc, ◌+◌, ◌≤◌, List, [], ◌∷◌, ◌++◌, Option, Some, None, ◌⊎◌, inl, inr, refl, sym, ap, ◌∙◌, subst, arith}
use Rattle.ir_tree.specs.declared.function.Function.{Function}
use Rattle.ir_tree.specs.declared.operand.Symbol.{Symbol}
use Rattle.ir_meaning.specs.Act.{Act, Goes, Calls, Gives, Breaks, act, enter, resume}
use Rattle.ir_meaning.specs.Fault.{Undefined}
use Rattle.ir_meaning.specs.Frame.{Frame, Signature}
use Rattle.ir_meaning.specs.Memory.{Memory}
use Rattle.ir_meaning.specs.Near.{Setting, FailsWithin, Fails, Answers, Against, GoesOn, CallsToo, GivesToo, IsAnswered, Near, Replaces, IsBetter}
use Rattle.ir_meaning.specs.Program.{Program, variables, State, Next, On, Done, Broken, Failure, place_of, Took, back, go_in, advance, step, Leads}
use Rattle.ir_meaning.specs.Relate.{Point, Kept, ValuesAgree}
use Rattle.ir_meaning.specs.declared.event.Event.{Event}
use Rattle.ir_meaning.specs.declared.fault.Place.{Place}
use Rattle.ir_tree.specs.declared.cause.Cause.TheVariants.{CallOfNoFunction}
use Rattle.ir_meaning.specs.declared.value.Value.{Value}
use Rattle.ir_meaning.proofs.Runs.Steps.{above, raise, leads_raise, leads_trans, one_step}

-- what is answered stays answered where less is asked of the rest
pub answered_map : (z : Setting) (near near' : Against) → ((a : Frame) (m : Memory) (r : State) → near a m r → near' a m r) →
    (entry : Point) (memory : Memory) (right : State) (x : Act) → IsAnswered z near entry memory right x →
    IsAnswered z near' entry memory right x
answered_map z near near' h entry memory right (Goes frame memory' place events) (inl f) = inl f
answered_map z near near' h entry memory right (Goes frame memory' place events) (inr t) =
    inr (record { state = t.state; answers = t.answers; place_is = t.place_is; near_still = h frame memory' t.state t.near_still })
answered_map z near near' h entry memory right (Calls callee arguments waiting) (inl f) = inl f
answered_map z near near' h entry memory right (Calls callee arguments waiting) (inr t) =
    inr (record {
      steps = t.steps;
      few = t.few;
      state = t.state;
      leads = t.leads;
      place = t.place;
      choice = t.choice;
      arguments' = t.arguments';
      waiting' = t.waiting';
      calls = t.calls;
      point = t.point;
      left = t.left;
      right_is = t.right_is;
      related = t.related;
      fixes = t.fixes;
      agree = t.agree;
      goes_on = λ q v v' place k a. h _ _ _ (t.goes_on q v v' place k a);
    })
answered_map z near near' h entry memory right (Gives answer memory') a = a
answered_map z near near' h entry memory right (Breaks why) a = a

-- fewer steps
pub near_less : (z : Setting) (m n : ℕ) (entry : Point) (frame : Frame) (memory : Memory) (right : State) → m ≤ n →
    Near z n entry frame memory right → Near z m entry frame memory right
near_less z zero n entry frame memory right le h = tt
near_less z (suc m) zero entry frame memory right le h = absurd (omega arith)
near_less z (suc m) (suc n) entry frame memory right le h =
    λ choice. answered_map z (Near z n entry) (Near z m entry) (λ a x r. near_less z m n entry a x r (omega arith)) entry memory
    right (act z.program.signature z.input frame memory right.place choice) (h choice)

-- the frames under the topmost function, which was entered at this point, wait for its return
abbrev pub Waits : Setting → ℕ → Point → Point → List Frame → List Frame → Type 0
Waits z n first entry [] rights = (entry ≡ first) × (rights ≡ [])
Waits z n first entry (waiting ∷ below) rights =
    (entry' : Point) × (waiting' : Frame) × (own : List Frame) × (rest : List Frame) × (rights ≡ waiting' ∷ (own ++ rest)) ×
    GoesOn (variables z.program) (Near z n entry') entry waiting waiting' own × Waits z n first entry' below rest

pub waits_less : (z : Setting) (m n : ℕ) (first entry : Point) (below rights : List Frame) → m ≤ n →
    Waits z n first entry below rights → Waits z m first entry below rights
waits_less z m n first entry [] rights le w = w
waits_less z m n first entry (waiting ∷ below) rights le w = (
  w.0,
  w.1,
  w.2,
  w.3,
  w.4,
  (λ q v v' place k a. near_less z m n w.0 _ _ _ le (w.5 q v v' place k a)),
  waits_less z m n first w.0 below w.3 le w.6,
)

-- n steps of the left state are answered by the right one; the lowest frame was entered at the first point
pub record Sim (z : Setting) (n : ℕ) (first : Point) (left right : State) : Type 0 where
  pub entry : Point
  pub own : State
  pub rest : List Frame
  pub is : right ≡ above own rest
  pub place : left.place ≡ own.place
  pub near : Near z n entry left.top left.memory own
  pub waits : Waits z n first entry left.below rest

-- both have returned
pub record SameEnd (g : ℕ) (first : Point) (answer answer' : Option Value) (memory memory' : Memory) (place place' : ℕ) : Type 0 where
  pub point : Point
  pub left : point.left ≡ memory
  pub right : point.right ≡ memory'
  pub place_is : place ≡ place'
  pub kept : Kept g first point
  pub agree : ValuesAgree point answer answer'

abbrev pub SameNext : Setting → ℕ → Point → Next → Next → Type 0
SameNext z n first (On l) (On r) = Sim z n first l r
SameNext z n first (Done v m place) (Done v' m' place') = SameEnd (variables z.program) first v v' m m' place place'
SameNext z n first _ _ = ⊥

pub record Advances (z : Setting) (n : ℕ) (first : Point) (right : State) (t : Took) : Type 0 where
  pub next : Next
  pub answers : Answers z right t.events next
  pub same : SameNext z n first t.next next

abbrev pub Meets : Setting → ℕ → Point → State → Took → Type 0
Meets z n first right t = Fails z right t.events ⊎ Advances z n first right t

pub fails_raise : (p : Program) (input : List ℕ) (k : ℕ) (s : State) (events : List Event) (rest : List Frame) →
    FailsWithin p input k s events → FailsWithin p input k (above s rest) events
fails_raise p input k s events rest f =
    record {
      steps = f.steps;
      few = f.few;
      seen = f.seen;
      later = f.later;
      front = f.front;
      failure = f.failure;
      leads = leads_raise p input f.steps s f.seen (Broken f.failure) rest f.leads;
    }

answers_raise : (z : Setting) (s : State) (events : List Event) (next : Next) (rest : List Frame) → Answers z s events next →
    Answers z (above s rest) events (raise rest next)
answers_raise z s events next rest a =
    record { steps = a.steps; some = a.some; few = a.few; leads = leads_raise z.program z.input a.steps s events next rest a.leads }

-- a state about to call goes in
call_leads : (p : Program) (input : List ℕ) (s : State) (choice : ℕ) (callee : Symbol) (arguments : List Value)
    (waiting : Frame) → act p.signature input s.top s.memory s.place choice ≡ Calls callee arguments waiting →
    Leads p input 1 s [] (go_in (place_of s.top) (p.code callee) arguments (waiting ∷ s.below) s.memory s.place)
call_leads p input s choice callee arguments waiting e =
    one_step p input s choice (advance p (place_of s.top) s.below s.memory s.place (Calls callee arguments waiting))
    (ap (advance p (place_of s.top) s.below s.memory s.place) e)

-- both call: each goes in, or both have nothing to call
both_go_in : (z : Setting) (at : Place) (n : ℕ) (first entry : Point) (memory : Memory) (place : ℕ) (own : State)
    (rest : List Frame) (callee : Symbol) (arguments : List Value) (waiting : Frame) (below : List Frame) →
    (code code' : Option Function) → Replaces z.program z.bound code code' → z.program.code callee ≡ code' →
    (t : CallsToo z (Near z n entry) memory own callee arguments waiting) → place ≡ own.place →
    Waits z n first entry below rest → Meets z n first (above own rest)
    (record { events = []; next = go_in at code arguments (waiting ∷ below) memory place })
both_go_in z at n first entry memory place own rest callee arguments waiting below None None better e t same waits =
    let call = call_leads z.program z.input t.state t.choice callee t.arguments' t.waiting' t.calls in
    let failure : Failure = record { why = Undefined CallOfNoFunction; at = place_of t.state.top } in
    let call' : Leads z.program z.input 1 t.state [] (Broken failure) =
    subst (λ (c : Option Function). Leads z.program z.input 1 t.state []
    (go_in (place_of t.state.top) c t.arguments' (t.waiting' ∷ t.state.below) t.state.memory t.state.place)) e call in
    let f : FailsWithin z.program z.input z.bound own [] =
    record {
      steps = t.steps + 1;
      few = omega (arith, t.few);
      seen = [];
      later = [];
      front = refl;
      failure = failure;
      leads = leads_trans z.program z.input t.steps 1 own t.state [] [] (Broken failure) t.leads call';
    } in
    inl (fails_raise z.program z.input z.bound own [] rest f)
both_go_in z at n first entry memory place own rest callee arguments waiting below (Some f) (Some g) better e t same waits =
    let call = call_leads z.program z.input t.state t.choice callee t.arguments' t.waiting' t.calls in
    let inside : State = record {
      top = enter g t.arguments';
      below = t.waiting' ∷ t.state.below;
      memory = t.state.memory;
      place = t.state.place;
    } in
    let call' : Leads z.program z.input 1 t.state [] (On inside) =
    subst (λ (c : Option Function). Leads z.program z.input 1 t.state []
    (go_in (place_of t.state.top) c t.arguments' (t.waiting' ∷ t.state.below) t.state.memory t.state.place)) e call in
    let answers : Answers z own [] (On inside) =
    record {
      steps = t.steps + 1;
      some = omega arith;
      few = omega (arith, t.few);
      leads = leads_trans z.program z.input t.steps 1 own t.state [] [] (On inside) t.leads call';
    } in
    let q = t.point in
    let alone : State = record { top = enter g t.arguments'; below = []; memory = t.state.memory; place = t.state.place } in
    let near : Near z n q (enter f arguments) q.left
    (record { top = enter g t.arguments'; below = []; memory = q.right; place = t.state.place }) =
    better z.input n q arguments t.arguments' t.state.place t.related t.fixes t.agree in
    let near' = subst (λ (m : Memory). Near z n q (enter f arguments) m
    (record { top = enter g t.arguments'; below = []; memory = q.right; place = t.state.place })) t.left near in
    let near'' : Near z n q (enter f arguments) memory alone =
    subst (λ (m : Memory). Near z n q (enter f arguments) memory
    (record { top = enter g t.arguments'; below = []; memory = m; place = t.state.place })) t.right_is near' in
    inr (record {
      next = On (above inside rest);
      answers = answers_raise z own [] (On inside) rest answers;
      same = record {
        entry = q;
        own = alone;
        rest = t.waiting' ∷ (t.state.below ++ rest);
        is = refl;
        place = same ∙ sym t.place;
        near = near'';
        waits = (entry, t.waiting', t.state.below, rest, refl, t.goes_on, waits);
      };
    })
both_go_in z at n first entry memory place own rest callee arguments waiting below None (Some g) better e t same waits = absurd better
both_go_in z at n first entry memory place own rest callee arguments waiting below (Some f) None better e t same waits = absurd better

-- both return
both_back : (z : Setting) (n : ℕ) (first entry : Point) (place : ℕ) (own : State) (rest : List Frame) (answer : Option Value)
    (memory : Memory) (below : List Frame) → (t : GivesToo z entry answer memory own) → place ≡ own.place →
    Waits z (suc n) first entry below rest → Meets z n first (above own rest)
    (record { events = []; next = back below answer memory place })
both_back z n first entry place own rest answer memory [] t same waits =
    let a = answers_raise z own [] (Done t.answer' t.point.right own.place) rest t.answers in
    let a' = subst (λ (r : List Frame). Answers z (above own rest) [] (back r t.answer' t.point.right own.place)) waits.1 a in
    inr (record {
      next = Done t.answer' t.point.right own.place;
      answers = a';
      same = record {
        point = t.point;
        left = t.left;
        right = refl;
        place_is = same;
        kept = subst (λ (e : Point). Kept (variables z.program) e t.point) waits.0 t.kept;
        agree = t.agree;
      };
    })
both_back z n first entry place own rest answer memory (waiting ∷ below) t same waits =
    let a = answers_raise z own [] (Done t.answer' t.point.right own.place) rest t.answers in
    let a' = subst (λ (r : List Frame). Answers z (above own rest) [] (back r t.answer' t.point.right own.place)) waits.4 a in
    let q = t.point in
    let near = near_less z n (suc n) waits.0 _ _ _ (omega arith) (waits.5 q answer t.answer' own.place t.kept t.agree) in
    let alone : State = record { top = resume waits.1 t.answer'; below = waits.2; memory = q.right; place = own.place } in
    let near' = subst (λ (m : Memory). Near z n waits.0 (resume waiting answer) m alone) t.left near in
    inr (record {
      next = On (above alone waits.3);
      answers = a';
      same = record {
        entry = waits.0;
        own = alone;
        rest = waits.3;
        is = refl;
        place = same;
        near = near';
        waits = waits_less z n (suc n) first waits.0 below waits.3 (omega arith) waits.6;
      };
    })

answered_meets : (q : Program) (z : Setting) (at : Place) → IsBetter q z.program z.bound →
    (n : ℕ) (first entry : Point) (memory : Memory) (place : ℕ) (own : State) (rest below : List Frame) (x : Act) →
    IsAnswered z (Near z n entry) entry memory own x → place ≡ own.place → Waits z (suc n) first entry below rest →
    Meets z n first (above own rest) (advance q at below memory place x)
answered_meets q z at better n first entry memory place own rest below (Goes frame memory' place' events) (inl f) same waits =
    inl (fails_raise z.program z.input z.bound own events rest f)
answered_meets q z at better n first entry memory place own rest below (Goes frame memory' place' events) (inr t) same waits =
    inr (record {
      next = On (above t.state rest);
      answers = answers_raise z own events (On t.state) rest t.answers;
      same = record {
        entry = entry;
        own = t.state;
        rest = rest;
        is = refl;
        place = sym t.place_is;
        near = t.near_still;
        waits = waits_less z n (suc n) first entry below rest (omega arith) waits;
      };
    })
answered_meets q z at better n first entry memory place own rest below (Calls callee arguments waiting) (inl f) same waits =
    inl (fails_raise z.program z.input z.bound own [] rest f)
answered_meets q z at better n first entry memory place own rest below (Calls callee arguments waiting) (inr t) same waits =
    both_go_in z at n first entry memory place own rest callee arguments waiting below (q.code callee) (z.program.code callee)
    (better.code callee) refl t same (waits_less z n (suc n) first entry below rest (omega arith) waits)
answered_meets q z at better n first entry memory place own rest below (Gives answer memory') (inl f) same waits =
    inl (fails_raise z.program z.input z.bound own [] rest f)
answered_meets q z at better n first entry memory place own rest below (Gives answer memory') (inr t) same waits =
    both_back z n first entry place own rest answer memory' below t same waits
answered_meets q z at better n first entry memory place own rest below (Breaks why) f same waits =
    inl (fails_raise z.program z.input z.bound own [] rest f)

-- one step of the better program is answered
pub sim_step : (q : Program) (z : Setting) → IsBetter q z.program z.bound → (n : ℕ) (first : Point) (left right : State) →
    Sim z (suc n) first left right → (choice : ℕ) → Meets z n first right (step q z.input left choice)
sim_step q z better n first left right s choice =
    let x = s.near choice in
    let x' = subst (λ (pl : ℕ). IsAnswered z (Near z n s.entry) s.entry left.memory s.own
    (act z.program.signature z.input left.top left.memory pl choice)) (sym s.place) x in
    let x'' = subst (λ (sig : Signature). IsAnswered z (Near z n s.entry) s.entry left.memory s.own
    (act sig z.input left.top left.memory left.place choice)) (sym better.signature) x' in
    let m = answered_meets q z (place_of left.top) better n first s.entry left.memory left.place s.own s.rest left.below
    (act q.signature z.input left.top left.memory left.place choice) x'' s.place s.waits in
    subst (λ (r : State). Meets z n first r (step q z.input left choice)) (sym s.is) m
