-- Better than a better one is better.
use Rattle.std.proofs.Common.{◌≡◌, ℕ, zero, suc, ◌+◌, ◌*◌, ◌<◌, ◌≤◌, List, [], ◌++◌, length, Option, Some, ◌⊎◌, inl, inr, refl, sym, ap, ◌∙◌, subst, arith, append_assoc, mul-le-mul_right, suc-mul}
use Rattle.ir_tree.specs.declared.function.Function.{Function}
use Rattle.ir_tree.specs.declared.operand.Symbol.{Symbol}
use Rattle.ir_meaning.specs.Act.{Act, Goes, Calls, Gives, Breaks, act, enter, resume}
use Rattle.ir_meaning.specs.Frame.{Frame, Signature}
use Rattle.ir_meaning.specs.Memory.{Memory}
use Rattle.ir_meaning.specs.Near.{Setting, FailsWithin, Fails, Answers, Against, CallsToo, GoesToo, GivesToo, IsAnswered, Near, BetterThan, Replaces, IsBetter}
use Rattle.ir_meaning.specs.Program.{Program, variables, State, Next, On, Done, Broken, Took, step, After, Leads}
use Rattle.ir_meaning.specs.Relate.{Point, Fixes, Related, Kept, AnswersAgree, AllAgree, ValuesAgree, ArgumentsAgree}
use Rattle.ir_meaning.specs.declared.event.Event.{Event}
use Rattle.ir_meaning.specs.declared.value.Value.{Value}
use Rattle.ir_meaning.specs.Laws.{Composition}
use Rattle.ir_meaning.proofs.Between.Middle.{Between, between, answer_between, all_between, entry_between}
use Rattle.ir_meaning.proofs.Between.Points.{Composes, IsFull, compose, compose_composes, compose_related, kept_compose, answer_compose, all_compose}
use Rattle.ir_meaning.proofs.Runs.Stacks.{answered_map, near_less, Waits, waits_less, Sim, SameNext, Meets, fails_raise, sim_step}
use Rattle.ir_meaning.proofs.Runs.Steps.{above, leads_raise, leads_trans}

pub sim_less : (z : Setting) (m n : ℕ) (first : Point) (left right : State) → m ≤ n → Sim z n first left right → Sim z m first left right
sim_less z m n first left right le s =
    record {
      entry = s.entry;
      own = s.own;
      rest = s.rest;
      is = s.is;
      place = s.place;
      near = near_less z m n s.entry left.top left.memory s.own le s.near;
      waits = waits_less z m n first s.entry left.below s.rest le s.waits;
    }

-- many steps
record Led (z : Setting) (j m : ℕ) (first : Point) (right : State) (events : List Event) (next : Next) : Type 0 where
  count : ℕ
  enough : j ≤ count
  few : count ≤ j * z.bound
  next' : Next
  leads : Leads z.program z.input count right events next'
  same : SameNext z m first next next'

abbrev Outcome : Setting → ℕ → ℕ → Point → State → List Event → Next → Type 0
Outcome z j m first right events next = FailsWithin z.program z.input (j * z.bound) right events ⊎ Led z j m first right events next

outcome_on : (z : Setting) (j m k : ℕ) (first : Point) (right right' : State) (shown later : List Event) (next : Next) → 1 ≤ k →
    k ≤ z.bound → Leads z.program z.input k right shown (On right') → Outcome z j m first right' later next →
    Outcome z (suc j) m first right (shown ++ later) next
outcome_on z j m k first right right' shown later next some few l (inl f) =
    let e = suc-mul j z.bound in
    inl (record {
      steps = k + f.steps;
      few = omega (arith, f.few, e);
      seen = shown ++ f.seen;
      later = f.later;
      front = ap (λ (es : List Event). shown ++ es) f.front ∙ sym (append_assoc shown f.seen f.later);
      failure = f.failure;
      leads = leads_trans z.program z.input k f.steps right right' shown f.seen (Broken f.failure) l f.leads;
    })
outcome_on z j m k first right right' shown later next some few l (inr a) =
    let e = suc-mul j z.bound in
    inr (record {
      count = k + a.count;
      enough = omega (arith, a.enough);
      few = omega (arith, a.few, e);
      next' = a.next';
      leads = leads_trans z.program z.input k a.count right right' shown later a.next' l a.leads;
      same = a.same;
    })

-- a step and what comes after it
outcome_step : (z : Setting) (j m : ℕ) (first : Point) (right : State) (leads : State → List Event → Next → Type 0)
    (shown : List Event) (n n' : Next) (events : List Event) (next : Next) →
    ((l r : State) (later : List Event) → Sim z (j + m) first l r → leads l later next → Outcome z j m first r later next) →
    Answers z right shown n' → SameNext z (j + m) first n n' → After leads j shown n events next →
    Outcome z (suc j) m first right events next
outcome_step z j m first right leads shown (On l) (On r) events next ih a same h =
    let o = outcome_on z j m a.steps first right r shown h.0 next a.some a.few a.leads (ih l r h.0 same h.2) in
    subst (λ (es : List Event). Outcome z (suc j) m first right es next) (sym h.1) o
outcome_step z j m first right leads shown (Done v mem pl) (Done v' mem' pl') events next ih a same h =
    let e = suc-mul j z.bound in
    let led : Led z (suc j) m first right shown (Done v mem pl) =
    record {
      count = a.steps;
      enough = omega (arith, a.some, h.0);
      few = omega (arith, a.few, e);
      next' = Done v' mem' pl';
      leads = a.leads;
      same = same;
    } in
    let led' = subst (λ (es : List Event). Led z (suc j) m first right es (Done v mem pl)) (sym h.1) led in
    inr (subst (λ (x : Next). Led z (suc j) m first right events x) (sym h.2) led')
outcome_step z j m first right leads shown (On l) (Done v' mem' pl') events next ih a same h = absurd same
outcome_step z j m first right leads shown (On l) (Broken why) events next ih a same h = absurd same
outcome_step z j m first right leads shown (Done v mem pl) (On r) events next ih a same h = absurd same
outcome_step z j m first right leads shown (Done v mem pl) (Broken why) events next ih a same h = absurd same
outcome_step z j m first right leads shown (Broken why) n' events next ih a same h = absurd same

outcome_fails : (z : Setting) (j m : ℕ) (first : Point) (right : State) (leads : State → List Event → Next → Type 0)
    (shown : List Event) (n : Next) (events : List Event) (next : Next) → Fails z right shown →
    After leads j shown n events next → Outcome z (suc j) m first right events next
outcome_fails z j m first right leads shown (On l) events next f h =
    let e = suc-mul j z.bound in
    inl (record {
      steps = f.steps;
      few = omega (arith, f.few, e);
      seen = f.seen;
      later = f.later ++ h.0;
      front = h.1
          ∙ ap (λ (es : List Event). es ++ h.0) f.front ∙ append_assoc f.seen f.later h.0;
      failure = f.failure;
      leads = f.leads;
    })
outcome_fails z j m first right leads shown (Done v mem pl) events next f h =
    let e = suc-mul j z.bound in
    inl (record {
      steps = f.steps;
      few = omega (arith, f.few, e);
      seen = f.seen;
      later = f.later;
      front = h.1 ∙ f.front;
      failure = f.failure;
      leads = f.leads;
    })
outcome_fails z j m first right leads shown (Broken why) events next f h =
    let e = suc-mul j z.bound in
    inl (record {
      steps = f.steps;
      few = omega (arith, f.few, e);
      seen = f.seen;
      later = f.later;
      front = h.1 ∙ f.front;
      failure = f.failure;
      leads = f.leads;
    })

outcome_meets : (z : Setting) (j m : ℕ) (first : Point) (right : State) (leads : State → List Event → Next → Type 0) (t : Took)
    (events : List Event) (next : Next) → ((l r : State) (later : List Event) → Sim z (j + m) first l r → leads l later next →
    Outcome z j m first r later next) → Meets z (j + m) first right t → After leads j t.events t.next events next →
    Outcome z (suc j) m first right events next
outcome_meets z j m first right leads t events next ih (inl f) h = outcome_fails z j m first right leads t.events t.next events next f h
outcome_meets z j m first right leads t events next ih (inr a) h =
    outcome_step z j m first right leads t.events t.next a.next events next ih a.answers a.same h

-- j steps of the better program are answered
sim_leads : (q : Program) (z : Setting) → IsBetter q z.program z.bound →
    (j m : ℕ) (first : Point) (left right : State) (events : List Event) (next : Next) → Sim z (j + m) first left right →
    Leads q z.input j left events next → Outcome z j m first right events next
sim_leads q z better zero m first left right events next s (a, b) =
    let led : Led z 0 m first right [] (On left) =
    record {
      count = 0;
      enough = omega arith;
      few = omega arith;
      next' = On right;
      leads = (refl, refl);
      same = sim_less z m (0 + m) first left right (omega arith) s;
    } in
    let led' = subst (λ (x : Next). Led z 0 m first right [] x) (sym b) led in
    inr (subst (λ (es : List Event). Led z 0 m first right es next) (sym a) led')
sim_leads q z better (suc j) m first left right events next s (choice, a) =
    let s' = sim_less z (suc (j + m)) (suc j + m) first left right (omega arith) s in
    outcome_meets z j m first right (Leads q z.input j) (step q z.input left choice) events next
    (λ l r later x y. sim_leads q z better j m first l r later next x y)
    (sim_step q z better (j + m) first left right s' choice) a

-- the right state makes the call too, and both go on from it
record SimCalls (z : Setting) (m : ℕ) (first : Point) (left right : State) (callee : Symbol) (arguments : List Value)
    (waiting : Frame) : Type 0 where
  steps : ℕ
  few : steps < z.bound
  state : State
  leads : Leads z.program z.input steps right [] (On state)
  place : state.place ≡ right.place
  choice : ℕ
  arguments' : List Value
  waiting' : Frame
  calls : act z.program.signature z.input state.top state.memory state.place choice ≡ Calls callee arguments' waiting'
  point : Point
  left_is : point.left ≡ left.memory
  right_is : point.right ≡ state.memory
  related : Related point
  fixes : Fixes (variables z.program) point
  agree : ArgumentsAgree point arguments arguments'
  goes_on : (q : Point) (v v' : Option Value) (place : ℕ) → Kept (variables z.program) point q → ValuesAgree q v v' →
      Sim z m first (record { top = resume waiting v; below = left.below; memory = q.left; place = place })
      (record { top = resume waiting' v'; below = state.below; memory = q.right; place = place })

sim_calls_from : (z : Setting) (m : ℕ) (first : Point) (left : State) (own : State) (rest : List Frame) (entry : Point) →
    Waits z (suc m) first entry left.below rest → (callee : Symbol) (arguments : List Value) (waiting : Frame) →
    Fails z own [] ⊎ CallsToo z (Near z m entry) left.memory own callee arguments waiting → Fails z (above own rest) [] ⊎
    SimCalls z m first left (above own rest) callee arguments waiting
sim_calls_from z m first left own rest entry waits callee arguments waiting (inl f) =
    inl (fails_raise z.program z.input z.bound own [] rest f)
sim_calls_from z m first left own rest entry waits callee arguments waiting (inr t) =
    inr (record {
      steps = t.steps;
      few = t.few;
      state = above t.state rest;
      leads = leads_raise z.program z.input t.steps own [] (On t.state) rest t.leads;
      place = t.place;
      choice = t.choice;
      arguments' = t.arguments';
      waiting' = t.waiting';
      calls = t.calls;
      point = t.point;
      left_is = t.left;
      right_is = t.right_is;
      related = t.related;
      fixes = t.fixes;
      agree = t.agree;
      goes_on = λ q v v' place k a. record {
        entry = entry;
        own = record { top = resume t.waiting' v'; below = t.state.below; memory = q.right; place = place };
        rest = rest;
        is = refl;
        place = refl;
        near = t.goes_on q v v' place k a;
        waits = waits_less z m (suc m) first entry left.below rest (omega arith) waits;
      };
    })

-- a call of the better program is answered
sim_calls : (q : Program) (z : Setting) → IsBetter q z.program z.bound → (m : ℕ) (first : Point) (left right : State) →
    Sim z (suc m) first left right → (choice : ℕ) (callee : Symbol) (arguments : List Value) (waiting : Frame) →
    act q.signature z.input left.top left.memory left.place choice ≡ Calls callee arguments waiting →
    Fails z right [] ⊎ SimCalls z m first left right callee arguments waiting
sim_calls q z better m first left right s choice callee arguments waiting e =
    let x = s.near choice in
    let x' = subst (λ (pl : ℕ). IsAnswered z (Near z m s.entry) s.entry left.memory s.own
    (act z.program.signature z.input left.top left.memory pl choice)) (sym s.place) x in
    let x'' = subst (λ (sig : Signature). IsAnswered z (Near z m s.entry) s.entry left.memory s.own
    (act sig z.input left.top left.memory left.place choice)) (sym better.signature) x' in
    let y = subst (λ (a : Act). IsAnswered z (Near z m s.entry) s.entry left.memory s.own a) e x'' in
    let r = sim_calls_from z m first left s.own s.rest s.entry s.waits callee arguments waiting y in
    subst (λ (r : State). Fails z r [] ⊎ SimCalls z m first left r callee arguments waiting) (sym s.is) r

-- the frame of the best against the last program, through a state of the program between
record Mid (p : Program) (b : ℕ) (z : Setting) (n : ℕ) (first : Point) (frame : Frame) (memory : Memory) (right : State) : Type 0 where
  first12 : Point
  first23 : Point
  composes : Composes first12 first23 first
  full : IsFull first12
  related : Related first12
  state : State
  near : Near (record { program = p; input = z.input; bound = b }) n first12 frame memory state
  sim : Sim z (n * b) first23 state right

abbrev product : ℕ → Setting → Setting
product b z = record { program = z.program; input = z.input; bound = b * z.bound }

-- fewer steps than the most
fails_more : (z : Setting) (j k : ℕ) (right : State) (events : List Event) → j ≤ k →
    FailsWithin z.program z.input j right events → FailsWithin z.program z.input k right events
fails_more z j k right events le f = record {
  steps = f.steps;
  few = omega (arith, f.few);
  seen = f.seen;
  later = f.later;
  front = f.front;
  failure = f.failure;
  leads = f.leads;
}

-- the program between fails, and so does the last one
fails_through : (p : Program) (b : ℕ) (z : Setting) → IsBetter p z.program z.bound →
    (m : ℕ) (first : Point) (left right : State) (events : List Event) → Sim z (b + m) first left right →
    FailsWithin p z.input b left events → Fails (product b z) right events
fails_through p b z better m first left right events s f =
    by (sim_leads p z better f.steps m first left right f.seen (Broken f.failure)
    (sim_less z (f.steps + m) (b + m) first left right (omega (arith, f.few)) s) f.leads)
  where
    le : f.steps * z.bound ≤ b * z.bound
    le = mul-le-mul_right z.bound f.few

    none : (n : Next) → SameNext z m first (Broken f.failure) n → ⊥
    none (On r) h = h
    none (Done v mem pl) h = h
    none (Broken why) h = h

    by : Outcome z f.steps m first right f.seen (Broken f.failure) → Fails (product b z) right events
    by (inl g) = record {
      steps = g.steps;
      few = omega (arith, g.few, le);
      seen = g.seen;
      later = g.later ++ f.later;
      front = f.front ∙ ap (λ (es : List Event). es ++ f.later) g.front ∙ append_assoc g.seen g.later f.later;
      failure = g.failure;
      leads = g.leads;
    }
    by (inr l) = absurd (none l.next' l.same)

module _ (p : Program) (b : ℕ) (z : Setting) (better : IsBetter p z.program z.bound) where
  abbrev near12 : ℕ → Point → Against
  near12 n first = Near (record { program = p; input = z.input; bound = b }) n first

  goes_through : (n : ℕ) (first12 first23 first : Point) → Composes first12 first23 first → IsFull first12 → Related first12 →
      (frame : Frame) (memory memory' : Memory) (place : ℕ) (events : List Event) (state right : State) →
      Sim z (b + n * b) first23 state right → GoesToo (record { program = p; input = z.input; bound = b }) (near12 n first12)
      frame memory' place events state → Fails (product b z) right events ⊎
      GoesToo (product b z) (Mid p b z n first) frame memory' place events right
  goes_through n first12 first23 first c full rel frame memory memory' place events state right s t =
      by (sim_leads p z better t.answers.steps (n * b) first23 state right events (On t.state)
      (sim_less z (t.answers.steps + n * b) (b + n * b) first23 state right (omega (arith, t.answers.few)) s) t.answers.leads)
    where
      le : t.answers.steps * z.bound ≤ b * z.bound
      le = mul-le-mul_right z.bound t.answers.few

      on : (count : ℕ) → t.answers.steps ≤ count → count ≤ t.answers.steps * z.bound → (n' : Next) →
          Leads z.program z.input count right events n' → SameNext z (n * b) first23 (On t.state) n' →
          Fails (product b z) right events ⊎ GoesToo (product b z) (Mid p b z n first) frame memory' place events right
      on count enough few (On r) leads same =
          inr (record {
            state = r;
            answers = record { steps = count; some = omega (arith, t.answers.some); few = omega (arith, le); leads = leads };
            place_is = ap (λ (x : State). x.place) same.is ∙ sym same.place ∙ t.place_is;
            near_still = record {
              first12 = first12;
              first23 = first23;
              composes = c;
              full = full;
              related = rel;
              state = t.state;
              near = t.near_still;
              sim = same;
            };
          })
      on count enough few (Done v mem pl) leads same = absurd same
      on count enough few (Broken why) leads same = absurd same

      by : Outcome z t.answers.steps (n * b) first23 right events (On t.state) → Fails (product b z) right events ⊎
          GoesToo (product b z) (Mid p b z n first) frame memory' place events right
      by (inl f) = inl (fails_more z (t.answers.steps * z.bound) (b * z.bound) right events le f)
      by (inr l) = on l.count l.enough l.few l.next' l.leads l.same

  gives_through : (m : ℕ) (first12 first23 first : Point) → Composes first12 first23 first → IsFull first12 → Related first12 →
      (answer : Option Value) (memory' : Memory) (state right : State) → Sim z (b + m) first23 state right →
      GivesToo (record { program = p; input = z.input; bound = b }) first12 answer memory' state →
      Fails (product b z) right [] ⊎ GivesToo (product b z) first answer memory' right
  gives_through m first12 first23 first c full rel answer memory' state right s t =
      by (sim_leads p z better t.answers.steps m first23 state right [] (Done t.answer' t.point.right state.place)
      (sim_less z (t.answers.steps + m) (b + m) first23 state right (omega (arith, t.answers.few)) s) t.answers.leads)
    where
      le : t.answers.steps * z.bound ≤ b * z.bound
      le = mul-le-mul_right z.bound t.answers.few

      place : state.place ≡ right.place
      place = s.place ∙ sym (ap (λ (x : State). x.place) s.is)

      done : (count : ℕ) → t.answers.steps ≤ count → count ≤ t.answers.steps * z.bound → (n' : Next) →
          Leads z.program z.input count right [] n' → SameNext z m first23 (Done t.answer' t.point.right state.place) n' →
          Fails (product b z) right [] ⊎ GivesToo (product b z) first answer memory' right
      done count enough few (Done v mem pl) leads same =
          let q12 = t.point in
          let q23 = same.point in
          let q13 = compose q12 q23 in
          let d = compose_composes q12 q23 (sym same.left) in
          let leads' = subst (λ (x : Memory). Leads z.program z.input count right [] (Done v x pl)) (sym same.right) leads in
          let leads'' = subst (λ (x : ℕ). Leads z.program z.input count right [] (Done v q23.right x)) (sym same.place_is ∙ place) leads' in
          inr (record {
            answer' = v;
            point = q13;
            answers = record { steps = count; some = omega (arith, t.answers.some); few = omega (arith, le); leads = leads'' };
            left = t.left;
            kept = kept_compose first12 first23 first q12 q23 q13 c full rel d t.kept same.kept;
            agree = answer_compose (length q12.left) (length q23.left) q12.pairing q23.pairing q13.pairing (λ l lt. refl) answer
                t.answer' v t.agree same.agree;
          })
      done count enough few (On r) leads same = absurd same
      done count enough few (Broken why) leads same = absurd same

      by : Outcome z t.answers.steps m first23 right [] (Done t.answer' t.point.right state.place) →
          Fails (product b z) right [] ⊎ GivesToo (product b z) first answer memory' right
      by (inl f) = inl (fails_more z (t.answers.steps * z.bound) (b * z.bound) right [] le f)
      by (inr l) = done l.count l.enough l.few l.next' l.leads l.same

  fixes_through : (p12 p23 : Point) → Fixes (variables p) p12 → Fixes (variables z.program) p23 →
      Fixes (variables z.program) (compose p12 p23)
  fixes_through p12 p23 f12 f23 =
      let e : variables p ≡ variables z.program = ap (λ (m : Memory). length m) better.opening in
      record {
        variables = omega (arith, f12.variables);
        stay = λ l lt. ap p23.pairing (f12.stay l (omega arith)) ∙ f23.stay l lt;
        alive = f23.alive;
      }

  calls_through : (n : ℕ) (first12 first23 first : Point) → Composes first12 first23 first → IsFull first12 → Related first12 →
      (memory : Memory) (callee : Symbol) (arguments : List Value) (waiting : Frame) (state right : State) →
      Sim z (b + n * b) first23 state right → CallsToo (record { program = p; input = z.input; bound = b }) (near12 n first12)
      memory state callee arguments waiting → Fails (product b z) right [] ⊎
      CallsToo (product b z) (Mid p b z n first) memory right callee arguments waiting
  calls_through n first12 first23 first c full rel memory callee arguments waiting state right s t =
      by (sim_leads p z better t.steps (suc (n * b)) first23 state right [] (On t.state)
      (sim_less z (t.steps + suc (n * b)) (b + n * b) first23 state right (omega (arith, t.few)) s) t.leads)
    where
      le : suc t.steps * z.bound ≤ b * z.bound
      le = mul-le-mul_right z.bound t.few

      more : suc t.steps * z.bound ≡ t.steps * z.bound + z.bound
      more = suc-mul t.steps z.bound

      place : state.place ≡ right.place
      place = s.place ∙ sym (ap (λ (x : State). x.place) s.is)

      both : (count : ℕ) → t.steps ≤ count → count ≤ t.steps * z.bound → (r : State) →
          Leads z.program z.input count right [] (On r) → Sim z (suc (n * b)) first23 t.state r →
          Fails z r [] ⊎ SimCalls z (n * b) first23 t.state r callee t.arguments' t.waiting' → Fails (product b z) right [] ⊎
          CallsToo (product b z) (Mid p b z n first) memory right callee arguments waiting
      both count enough few r leads same (inl f) =
          inl (record {
            steps = count + f.steps;
            few = omega (arith, f.few, le, more);
            seen = f.seen;
            later = f.later;
            front = f.front;
            failure = f.failure;
            leads = leads_trans z.program z.input count f.steps right r [] f.seen
                (Broken f.failure) leads f.leads;
          })
      both count enough few r leads same (inr u) =
          let pt = compose t.point u.point in
          let e = t.right_is ∙ sym u.left_is in
          let d = compose_composes t.point u.point e in
          let r_place : r.place ≡ t.state.place = ap (λ (x : State). x.place) same.is ∙ sym same.place in
          inr (record {
            steps = count + u.steps;
            few = omega (arith, u.few, le, more);
            state = u.state;
            leads = leads_trans z.program z.input count u.steps right r [] [] (On u.state) leads u.leads;
            place = u.place ∙ r_place ∙ t.place ∙ place;
            choice = u.choice;
            arguments' = u.arguments';
            waiting' = u.waiting';
            calls = u.calls;
            point = pt;
            left = t.left;
            right_is = u.right_is;
            related = compose_related t.point u.point pt d t.related u.related;
            fixes = fixes_through t.point u.point t.fixes u.fixes;
            agree = all_compose (length t.point.left) (length u.point.left) t.point.pairing u.point.pairing pt.pairing
                (λ l lt. refl) arguments t.arguments' u.arguments' t.agree u.agree;
            goes_on = λ q13 v v' pl k a. after q13 v v' pl a u
                (between (variables z.program) t.point u.point pt q13 d t.related u.related k
                (subst (λ (g : ℕ). Fixes g t.point) as_many t.fixes) u.fixes);
          })
        where
          as_many : variables p ≡ variables z.program
          as_many = ap (λ (m : Memory). length m) better.opening

          after : (q13 : Point) (v v' : Option Value) (pl : ℕ) → ValuesAgree q13 v v' →
              (u : SimCalls z (n * b) first23 t.state r callee t.arguments' t.waiting') →
              Between (variables z.program) t.point u.point (compose t.point u.point) q13 →
              Mid p b z n first (resume waiting v) q13.left
              (record { top = resume u.waiting' v'; below = u.state.below; memory = q13.right; place = pl })
          after q13 v v' pl a u x =
              let a' = subst (λ (m : Memory). AnswersAgree q13.pairing (length m) v v') (sym x.left) a in
              let y = answer_between (length x.q12.left) (length x.q23.left) x.q12.pairing x.q23.pairing q13.pairing x.passes v v' a' in
              let kept12 = subst (λ (g : ℕ). Kept g t.point x.q12) (sym as_many) x.kept12 in
              let near = t.goes_on x.q12 v y.0 pl kept12 y.1 in
              let near' = subst (λ (m : Memory). near12 n first12 (resume waiting v) m
              (record { top = resume t.waiting' y.0; below = t.state.below; memory = x.q12.right; place = pl })) x.left near in
              let sim = u.goes_on x.q23 y.0 v' pl x.kept23 y.2 in
              let sim' = subst (λ (m : Memory). Sim z (n * b) first23
              (record { top = resume t.waiting' y.0; below = t.state.below; memory = m; place = pl })
              (record { top = resume u.waiting' v'; below = u.state.below; memory = x.q23.right; place = pl }))
              (sym x.middle_is) sim in
              let sim'' = subst (λ (m : Memory). Sim z (n * b) first23
              (record { top = resume t.waiting' y.0; below = t.state.below; memory = x.q12.right; place = pl })
              (record { top = resume u.waiting' v'; below = u.state.below; memory = m; place = pl })) x.right sim' in
              record {
                first12 = first12;
                first23 = first23;
                composes = c;
                full = full;
                related = rel;
                state = record { top = resume t.waiting' y.0; below = t.state.below; memory = x.q12.right; place = pl };
                near = near';
                sim = sim'';
              }

      on : (count : ℕ) → t.steps ≤ count → count ≤ t.steps * z.bound → (n' : Next) → Leads z.program z.input count right [] n' →
          SameNext z (suc (n * b)) first23 (On t.state) n' → Fails (product b z) right [] ⊎
          CallsToo (product b z) (Mid p b z n first) memory right callee arguments waiting
      on count enough few (On r) leads same = both count enough few r leads same
          (sim_calls p z better (n * b) first23 t.state r same t.choice callee t.arguments' t.waiting' t.calls)
      on count enough few (Done v mem pl) leads same = absurd same
      on count enough few (Broken why) leads same = absurd same

      by : Outcome z t.steps (suc (n * b)) first23 right [] (On t.state) → Fails (product b z) right [] ⊎
          CallsToo (product b z) (Mid p b z n first) memory right callee arguments waiting
      by (inl f) = inl (fails_more z (t.steps * z.bound) (b * z.bound) right [] (omega (arith, le, more)) f)
      by (inr l) = on l.count l.enough l.few l.next' l.leads l.same

  through' : (n : ℕ) (first12 first23 first : Point) → Composes first12 first23 first → IsFull first12 → Related first12 →
      (memory : Memory) (state right : State) → Sim z (b + n * b) first23 state right → (x : Act) →
      IsAnswered (record { program = p; input = z.input; bound = b }) (near12 n first12) first12 memory state x →
      IsAnswered (product b z) (Mid p b z n first) first memory right x
  through' n first12 first23 first c full rel memory state right s (Goes frame memory' place events) (inl f) =
      inl (fails_through p b z better (n * b) first23 state right events s f)
  through' n first12 first23 first c full rel memory state right s (Goes frame memory' place events) (inr t) =
      goes_through n first12 first23 first c full rel frame memory memory' place events state right s t
  through' n first12 first23 first c full rel memory state right s (Calls callee arguments waiting) (inl f) =
      inl (fails_through p b z better (n * b) first23 state right [] s f)
  through' n first12 first23 first c full rel memory state right s (Calls callee arguments waiting) (inr t) =
      calls_through n first12 first23 first c full rel memory callee arguments waiting state right s t
  through' n first12 first23 first c full rel memory state right s (Gives answer memory') (inl f) =
      inl (fails_through p b z better (n * b) first23 state right [] s f)
  through' n first12 first23 first c full rel memory state right s (Gives answer memory') (inr t) =
      gives_through (n * b) first12 first23 first c full rel answer memory' state right s t
  through' n first12 first23 first c full rel memory state right s (Breaks why) f =
      fails_through p b z better (n * b) first23 state right [] s f

  mid_near : (n : ℕ) (first : Point) (frame : Frame) (memory : Memory) (right : State) → Mid p b z n first frame memory right →
      Near (product b z) n first frame memory right
  mid_near zero first frame memory right m = tt
  mid_near (suc n) first frame memory right m =
      λ choice.
      let z12 : Setting = record { program = p; input = z.input; bound = b } in
      let x = m.near choice in
      let place : m.state.place ≡ right.place = m.sim.place ∙ sym (ap (λ (y : State). y.place) m.sim.is) in
      let x' = subst (λ (pl : ℕ). IsAnswered z12 (near12 n m.first12) m.first12 memory m.state
      (act p.signature z.input frame memory pl choice)) place x in
      let x'' = subst (λ (sig : Signature). IsAnswered z12 (near12 n m.first12) m.first12 memory m.state
      (act sig z.input frame memory right.place choice)) better.signature x' in
      let s = sim_less z (b + n * b) (suc n * b) m.first23 m.state right (omega (arith, suc-mul n b)) m.sim in
      let y = through' n m.first12 m.first23 first m.composes m.full m.related memory m.state right s
      (act z.program.signature z.input frame memory right.place choice) x'' in
      answered_map (product b z) (Mid p b z n first) (Near (product b z) n first) (λ a mem r w. mid_near n first a mem r w)
      first memory right (act z.program.signature z.input frame memory right.place choice) y

abbrev Both : Program → ℕ → Option Function → Option Function → Type 0
Both q b c d = Replaces q b c d

pub composed : Composition
composed p q b1 b2 f g h better fg gh input n entry arguments arguments' place rel fix agree =
    let z : Setting = record { program = q; input = input; bound = b2 } in
    let e : variables p ≡ variables q = ap (λ (m : Memory). length m) better.opening in
    let x = entry_between (variables q) entry rel fix in
    let agree' = subst (λ (m : Memory). AllAgree entry.pairing (length m) arguments arguments') (sym x.left) agree in
    let y = all_between (length x.q12.left) (length x.q23.left) x.q12.pairing x.q23.pairing entry.pairing x.passes arguments
    arguments' agree' in
    let fix12 = subst (λ (k : ℕ). Fixes k x.q12) (sym e) x.fixes12 in
    let near = fg input n x.q12 arguments y.0 place x.related12 fix12 y.1 in
    let state : State = record { top = enter g y.0; below = []; memory = x.q12.right; place = place } in
    let near' = subst (λ (m : Memory). Near (record { program = p; input = input; bound = b1 }) n x.q12 (enter f arguments) m
    state) x.left near in
    let near23 = gh input (n * b1) x.q23 y.0 arguments' place x.related23 x.fixes23 y.2 in
    let own : State = record { top = enter h arguments'; below = []; memory = x.q23.right; place = place } in
    let near23' = subst (λ (m : Memory). Near z (n * b1) x.q23 (enter g y.0) m own) (sym x.middle_is) near23 in
    let right : State = record { top = enter h arguments'; below = []; memory = entry.right; place = place } in
    let is : right ≡ above own [] = ap (λ (m : Memory). let st : State =
    record { top = enter h arguments'; below = []; memory = m; place = place } in st) (sym x.right) in
    let sim : Sim z (n * b1) x.q23 state right = record {
      entry = x.q23;
      own = own;
      rest = [];
      is = is;
      place = refl;
      near = near23';
      waits = (refl, refl);
    } in
    mid_near p b1 z better n entry (enter f arguments) entry.left right
    (record {
      first12 = x.q12;
      first23 = x.q23;
      composes = x.composes;
      full = x.full;
      related = x.related12;
      state = state;
      near = near';
      sim = sim;
    })

-- with what the programs have at a symbol
pub composed_at : (p q : Program) (b1 b2 : ℕ) (s : Symbol) (f g h : Function) → p.code s ≡ Some g → q.code s ≡ Some h →
    BetterThan p b1 f g → IsBetter p q b2 → BetterThan q (b1 * b2) f h
composed_at p q b1 b2 s f g h at at' fg better =
    composed p q b1 b2 f g h better fg (subst (λ (c : Option Function). Replaces q b2 (Some g) c) at'
    (subst (λ (c : Option Function). Replaces q b2 c (q.code s)) at (better.code s)))
