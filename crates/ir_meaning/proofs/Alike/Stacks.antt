-- Steps of a program whose topmost frame stands above others.
use Rattle.std.proofs.Common.{◌≡◌, ℕ, ◌≤◌, List, [], Option, inr, refl, sym, ap, ◌∙◌, subst, arith}
use Rattle.ir_tree.specs.declared.operand.Symbol.{Symbol}
use Rattle.ir_meaning.specs.Act.{Goes, Calls, Breaks, with_slot, apply, act, resume}
use Rattle.ir_meaning.specs.Execute.{Effect, Went, Asked, Broke}
use Rattle.ir_meaning.specs.Fault.{Fault}
use Rattle.ir_meaning.specs.Frame.{Frame, bind}
use Rattle.ir_meaning.specs.Memory.{Memory}
use Rattle.ir_meaning.specs.Near.{Setting, FailsWithin, Against, IsAnswered}
use Rattle.ir_meaning.specs.Program.{variables, State, On, Broken, place_of, advance, step, Leads}
use Rattle.ir_meaning.specs.Relate.{Point, Fixes, Kept, ValuesAgree}
use Rattle.ir_meaning.specs.declared.event.Event.{Event}
use Rattle.ir_meaning.specs.declared.value.Value.{Value}
use Rattle.ir_meaning.proofs.Alike.Answering.{answered_fails}
use Rattle.ir_meaning.proofs.Alike.Effects.{SlotAgrees, EffectsAlike}
use Rattle.ir_meaning.proofs.Runs.Steps.{one_step}

-- ---- steps of a stack of frames

abbrev pub stack : Frame → List Frame → Memory → ℕ → State
stack b bs memory place = record { top = b; below = bs; memory = memory; place = place }

pub stack_breaks : (z : Setting) → 1 ≤ z.bound → (b : Frame) (bs : List Frame) (memory : Memory) (place choice : ℕ) (why : Fault) →
    act z.program.signature z.input b memory place choice ≡ Breaks why → FailsWithin z.program z.input z.bound (stack b bs memory place) []
stack_breaks z one b bs memory place choice why e =
    record {
      steps = 1;
      few = one;
      seen = [];
      later = [];
      front = refl;
      failure = record { why = why; at = place_of b };
      leads = one_step z.program z.input (stack b bs memory place) choice
          (record { events = []; next = Broken (record { why = why; at = place_of b }) })
          (ap (advance z.program (place_of b) bs memory place) e);
    }

-- the program takes one step
pub one_answer : (z : Setting) → 1 ≤ z.bound → (near : Against) (entry : Point) (memory : Memory) (s s' : State) (choice : ℕ) →
    step z.program z.input s choice ≡ record { events = []; next = On s' } → (a : Frame) (m' : Memory) (place : ℕ) → s'.place ≡ place →
    near a m' s' → IsAnswered z near entry memory s (Goes a m' place [])
one_answer z one near entry memory s s' choice e a m' place pl h =
    inr (record {
      state = s';
      answers = record {
        steps = 1;
        some = omega arith;
        few = one;
        leads = one_step z.program z.input s choice
            (record { events = []; next = On s' }) e;
      };
      place_is = pl;
      near_still = h;
    })

pub stack_effects : (z : Setting) → 1 ≤ z.bound → (near : Against) (entry p : Point) → Kept (variables z.program) entry p → Fixes (variables z.program) p →
    (a b b' : Frame) (bs : List Frame) (la lb : Option ℕ) (place choice : ℕ) (x y : Effect) → act z.program.signature z.input b p.right
    place choice ≡ apply b' lb y → EffectsAlike p x y → ((q : Point) (v v' : Option Value) (slot slot' : Option ℕ) (place' : ℕ) →
    Kept (variables z.program) p q → ValuesAgree q v v' → SlotAgrees p q slot slot' → near (record a {
      locals = bind la v a.locals;
      slots = with_slot slot a.slots;
    }) q.left (stack (record b' { locals = bind lb v' b'.locals; slots = with_slot slot' b'.slots }) bs
    q.right place')) → ((q : Point) (v v' : Option Value) (place' : ℕ) → Kept (variables z.program) p q → ValuesAgree q v v' →
    near (resume (record a { awaits = la }) v) q.left (stack (resume (record b' { awaits = lb }) v') bs q.right place')) →
    IsAnswered z near entry p.left (stack b bs p.right place) (apply a la x)
stack_effects z one near entry p k fix a b b' bs la lb place choice x (Broke why) e h went asked =
    answered_fails z near entry p.left (stack b bs p.right place) (stack_breaks z one b bs p.right place choice why e) (apply a la x)
stack_effects z one near entry p k fix a b b' bs la lb place choice (Went v slot m pl es) (Went v' slot' m' pl' es') e h went asked =
    let b'' : Frame = record b' { locals = bind lb v' b'.locals; slots = with_slot slot' b'.slots } in
    let a' : Frame = record a { locals = bind la v a.locals; slots = with_slot slot a.slots } in
    let leads = one_step z.program z.input (stack b bs p.right place) choice (record { events = es'; next = On (stack b'' bs m' pl') })
    (ap (advance z.program (place_of b) bs p.right place) e) in
    let leads' = subst (λ (l : List Event). Leads z.program z.input 1 (stack b bs p.right place) l (On (stack b'' bs m' pl')))
    (sym h.events) leads in
    let q = h.point in
    let near' = went q v v' slot slot' pl' (h.kept (variables z.program)) h.value h.slot_is in
    let near'' = subst (λ (c : Memory). near a' c (stack b'' bs q.right pl')) h.left near' in
    inr (record {
      state = stack b'' bs m' pl';
      answers = record { steps = 1; some = omega arith; few = one; leads = leads' };
      place_is = sym h.place_is;
      near_still = subst (λ (c : Memory). near a' m (stack b'' bs c pl')) h.right near'';
    })
stack_effects z one near entry p k fix a b b' bs la lb place choice (Asked s vs) (Asked s' us) e h went asked =
    inr (record {
      steps = 0;
      few = one;
      state = stack b bs p.right place;
      leads = (refl, refl);
      place = refl;
      choice = choice;
      arguments' = us;
      waiting' = record b' { awaits = lb };
      calls = e ∙ ap (λ (t : Symbol). Calls t us (record b' { awaits = lb })) (sym h.0);
      point = p;
      left = refl;
      right_is = refl;
      related = k.related;
      fixes = fix;
      agree = h.1;
      goes_on = λ q v u place' k' agree. asked q v u place' k' agree;
    })
stack_effects z one near entry p k fix a b b' bs la lb place choice (Went v slot m pl es) (Asked s' us) e h went asked = absurd h
stack_effects z one near entry p k fix a b b' bs la lb place choice (Asked s vs) (Went v' slot' m' pl' es') e h went asked = absurd h
stack_effects z one near entry p k fix a b b' bs la lb place choice (Broke w) (Went v' slot' m' pl' es') e h went asked = absurd h
stack_effects z one near entry p k fix a b b' bs la lb place choice (Broke w) (Asked s' us) e h went asked = absurd h
