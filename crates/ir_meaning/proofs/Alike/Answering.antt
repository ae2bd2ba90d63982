-- What a pass is proved with: an invariant of the two sides, and answers to one step.
use Rattle.std.proofs.Common.{◌≡◌, ℕ, zero, suc, ◌+◌, ◌≤◌, Bool, true, ◌==◌, if◌then◌else◌, List, [], ◌∷◌, ◌++◌, length, Option, Some, None, ◌⊎◌, inl, inr, refl, sym, ap, ◌∙◌, subst, arith}
use Rattle.std.proofs.lemmas.Bool.{cases_eq, ne_eqb}
use Rattle.ir_tree.specs.declared.block.Terminator.{Terminator}
use Rattle.ir_tree.specs.declared.block.Terminator.TheVariants.{Return, Jump, Branch, Switch, Unreachable}
use Rattle.ir_tree.specs.declared.instr.Incoming.{Incoming}
use Rattle.ir_tree.specs.declared.instr.Line.{Line}
use Rattle.ir_tree.specs.declared.instr.Phi.{Phi}
use Rattle.ir_tree.specs.declared.operand.Symbol.{Symbol}
use Rattle.ir_meaning.specs.Act.{Act, Goes, Calls, Gives, Breaks, with_slot, apply, incoming_value, phis_bound, case_target, side, Exit, Leaves, Leads', Stuck, by_bits, by_value, exit_of, exits, acts, act, resume}
use Rattle.ir_meaning.specs.Operate.{bits_of}
use Rattle.ir_meaning.specs.Execute.{evaluate, Effect, Went, Asked, Broke, execute}
use Rattle.ir_meaning.specs.Fault.{Fault}
use Rattle.ir_meaning.specs.Frame.{Locals, Frame, Signature, look_up, bind, value_of}
use Rattle.ir_meaning.specs.Memory.{Memory}
use Rattle.ir_meaning.specs.Near.{Setting, FailsWithin, Fails, Against, IsAnswered, Near}
use Rattle.ir_meaning.specs.Program.{Program, variables, State, On, Done, Broken, place_of, advance, step, Leads}
use Rattle.ir_meaning.specs.Relate.{Pairing, Point, Fixes, Kept, Agrees, ValuesAgree}
use Rattle.ir_meaning.specs.declared.event.Event.{Event}
use Rattle.ir_meaning.specs.declared.value.Value.{Value}
use Rattle.ir_meaning.specs.Formed.{IsFormed}
pub use Rattle.ir_meaning.specs.Needed.{EdgesKept, PhisKept, EndReads}
use Rattle.ir_meaning.proofs.Alike.Effects.{SlotAgrees, EffectsAlike}
use Rattle.ir_meaning.proofs.Alike.Values.{LocalsAgree, Names, NoneOrSame, bits_agree, if_agrees, value_of_agrees}
use Rattle.ir_meaning.proofs.Runs.Stacks.{answered_map}
use Rattle.ir_meaning.proofs.Runs.Steps.{one_step, leads_trans}

-- an invariant that each step of the frame keeps, with answers, makes it near
pub near_by : (z : Setting) (Holds : Point → Against) →
    ((entry : Point) (a : Frame) (m : Memory) (s : State) → Holds entry a m s → (choice : ℕ) →
    IsAnswered z (Holds entry) entry m s (act z.program.signature z.input a m s.place choice)) →
    (n : ℕ) (entry : Point) (a : Frame) (m : Memory) (s : State) → Holds entry a m s → Near z n entry a m s
near_by z Holds step zero entry a m s h = tt
near_by z Holds step (suc n) entry a m s h =
    λ choice. answered_map z (Holds entry) (Near z n entry) (λ a' m' s' h'. near_by z Holds step n entry a' m' s' h') entry m s
    (act z.program.signature z.input a m s.place choice) (step entry a m s h choice)

-- the setting with another bound
abbrev pub bounded : Setting → ℕ → Setting
bounded z k = record { program = z.program; input = z.input; bound = k }

-- what is answered after some quiet steps is answered
pub answered_after : (z : Setting) (j k : ℕ) → j + k ≤ z.bound →
    (near : Against) (entry : Point) (memory : Memory) (s s' : State) → Leads z.program z.input j s [] (On s') →
    s'.place ≡ s.place → (x : Act) → IsAnswered (bounded z k) near entry memory s' x → IsAnswered z near entry memory s x
answered_after z j k le near entry memory s s' leads place (Goes a m pl es) (inl f) =
    inl (record {
      steps = j + f.steps;
      few = omega (arith, f.few);
      seen = f.seen;
      later = f.later;
      front = f.front;
      failure = f.failure;
      leads = leads_trans z.program z.input j f.steps s s' [] f.seen (Broken f.failure) leads f.leads;
    })
answered_after z j k le near entry memory s s' leads place (Goes a m pl es) (inr t) =
    inr (record {
      state = t.state;
      answers = record {
        steps = j + t.answers.steps;
        some = omega (arith, t.answers.some);
        few = omega (arith, t.answers.few);
        leads = leads_trans z.program z.input j t.answers.steps s s' [] es (On t.state)
            leads t.answers.leads;
      };
      place_is = t.place_is;
      near_still = t.near_still;
    })
answered_after z j k le near entry memory s s' leads place (Calls c vs a) (inl f) =
    inl (record {
      steps = j + f.steps;
      few = omega (arith, f.few);
      seen = f.seen;
      later = f.later;
      front = f.front;
      failure = f.failure;
      leads = leads_trans z.program z.input j f.steps s s' [] f.seen (Broken f.failure) leads f.leads;
    })
answered_after z j k le near entry memory s s' leads place (Calls c vs a) (inr t) =
    inr (record {
      steps = j + t.steps;
      few = omega (arith, t.few);
      state = t.state;
      leads = leads_trans z.program z.input j t.steps s s' [] [] (On t.state) leads t.leads;
      place = t.place ∙ place;
      choice = t.choice;
      arguments' = t.arguments';
      waiting' = t.waiting';
      calls = t.calls;
      point = t.point;
      left = t.left;
      right_is = t.right_is;
      related = t.related;
      fixes = t.fixes;
      agree = t.agree;
      goes_on = t.goes_on;
    })
answered_after z j k le near entry memory s s' leads place (Gives v m) (inl f) =
    inl (record {
      steps = j + f.steps;
      few = omega (arith, f.few);
      seen = f.seen;
      later = f.later;
      front = f.front;
      failure = f.failure;
      leads = leads_trans z.program z.input j f.steps s s' [] f.seen (Broken f.failure) leads f.leads;
    })
answered_after z j k le near entry memory s s' leads place (Gives v m) (inr t) =
    let l = leads_trans z.program z.input j t.answers.steps s s' [] [] (Done t.answer' t.point.right s'.place) leads t.answers.leads in
    let l' = subst (λ (pl : ℕ). Leads z.program z.input (j + t.answers.steps) s [] (Done t.answer' t.point.right pl)) place l in
    inr (record {
      answer' = t.answer';
      point = t.point;
      answers = record {
        steps = j + t.answers.steps;
        some = omega (arith, t.answers.some);
        few = omega (arith, t.answers.few);
        leads = l';
      };
      left = t.left;
      kept = t.kept;
      agree = t.agree;
    })
answered_after z j k le near entry memory s s' leads place (Breaks why) f =
    record {
      steps = j + f.steps;
      few = omega (arith, f.few);
      seen = f.seen;
      later = f.later;
      front = f.front;
      failure = f.failure;
      leads = leads_trans z.program z.input j f.steps s s' [] f.seen (Broken f.failure) leads f.leads;
    }

-- where the program fails, anything is answered
pub answered_fails : (z : Setting) (near : Against) (entry : Point) (memory : Memory) (s : State) →
    FailsWithin z.program z.input z.bound s [] → (x : Act) → IsAnswered z near entry memory s x
answered_fails z near entry memory s f x = by x
  where
    front : f.seen ≡ []
    front = empty f.seen f.later f.front
      where
        empty : (a b : List Event) → [] ≡ a ++ b → a ≡ []
        empty [] b e = refl
        empty (x ∷ a) b e = absurd (cc e)

    for : (es : List Event) → Fails z s es
    for es = record {
      steps = f.steps;
      few = f.few;
      seen = [];
      later = es;
      front = refl;
      failure = f.failure;
      leads = subst (λ (l : List Event). Leads z.program z.input f.steps s l (Broken f.failure)) front f.leads;
    }

    by : (x : Act) → IsAnswered z near entry memory s x
    by (Goes a m pl es) = inl (for es)
    by (Calls c vs a) = inl (for [])
    by (Gives v m) = inl (for [])
    by (Breaks w) = for []

abbrev pub alone : Frame → Memory → ℕ → State
alone b memory place = record { top = b; below = []; memory = memory; place = place }

-- the program breaks at once
pub breaks_at_once : (z : Setting) → 1 ≤ z.bound → (b : Frame) (memory : Memory) (place choice : ℕ) (why : Fault) →
    act z.program.signature z.input b memory place choice ≡ Breaks why →
    FailsWithin z.program z.input z.bound (alone b memory place) []
breaks_at_once z one b memory place choice why e =
    record {
      steps = 1;
      few = one;
      seen = [];
      later = [];
      front = refl;
      failure = record { why = why; at = place_of b };
      leads = one_step z.program z.input (alone b memory place) choice
          (record { events = []; next = Broken (record { why = why; at = place_of b }) })
          (ap (advance z.program (place_of b) [] memory place) e);
    }

-- one instruction on each side, with alike effects
pub answered_effects : (z : Setting) → 1 ≤ z.bound → (near : Against) (entry p : Point) → Kept (variables z.program) entry p →
    Fixes (variables z.program) p → (a b b' : Frame) (la lb : Option ℕ) (place choice : ℕ) (x y : Effect) →
    act z.program.signature z.input b p.right place choice ≡ apply b' lb y → EffectsAlike p x y →
    ((q : Point) (v v' : Option Value) (slot slot' : Option ℕ) (place' : ℕ) → Kept (variables z.program) p q → ValuesAgree q v v' →
    SlotAgrees p q slot slot' → near (record a { locals = bind la v a.locals; slots = with_slot slot a.slots }) q.left
    (alone (record b' { locals = bind lb v' b'.locals; slots = with_slot slot' b'.slots }) q.right place')) →
    ((q : Point) (v v' : Option Value) (place' : ℕ) → Kept (variables z.program) p q → ValuesAgree q v v' →
    near (resume (record a { awaits = la }) v) q.left (alone (resume (record b' { awaits = lb }) v') q.right place')) →
    IsAnswered z near entry p.left (alone b p.right place) (apply a la x)
answered_effects z one near entry p k fix a b b' la lb place choice x (Broke why) e h went asked =
    answered_fails z near entry p.left (alone b p.right place) (breaks_at_once z one b p.right place choice why e) (apply a la x)
answered_effects z one near entry p k fix a b b' la lb place choice (Went v slot m pl es) (Went v' slot' m' pl' es') e h went asked =
    let b'' : Frame = record b' { locals = bind lb v' b'.locals; slots = with_slot slot' b'.slots } in
    let a' : Frame = record a { locals = bind la v a.locals; slots = with_slot slot a.slots } in
    let leads = one_step z.program z.input (alone b p.right place) choice
    (record { events = es'; next = On (alone b'' m' pl') }) (ap (advance z.program (place_of b) [] p.right place) e) in
    let leads' = subst (λ (l : List Event). Leads z.program z.input 1 (alone b p.right place) l (On (alone b'' m' pl')))
    (sym h.events) leads in
    let q = h.point in
    let near' = went q v v' slot slot' pl' (h.kept (variables z.program)) h.value h.slot_is in
    let near'' = subst (λ (c : Memory). near a' c (alone b'' q.right pl')) h.left near' in
    inr (record {
      state = alone b'' m' pl';
      answers = record { steps = 1; some = omega arith; few = one; leads = leads' };
      place_is = sym h.place_is;
      near_still = subst (λ (c : Memory). near a' m (alone b'' c pl')) h.right near'';
    })
answered_effects z one near entry p k fix a b b' la lb place choice (Asked s vs) (Asked s' us) e h went asked =
    inr (record {
      steps = 0;
      few = one;
      state = alone b p.right place;
      leads = (refl, refl);
      place = refl;
      choice = choice;
      arguments' = us;
      waiting' = record b' { awaits = lb };
      calls = e ∙ ap (λ (t : Symbol). Calls t us (record b' { awaits = lb })) (sym h.0);
      point = p;
      left = refl;
      right_is = refl;
      related = k.related;
      fixes = fix;
      agree = h.1;
      goes_on = λ q v u place' k' agree. asked q v u place' k' agree;
    })
answered_effects z one near entry p k fix a b b' la lb place choice (Went v slot m pl es) (Asked s' us) e h went asked = absurd h
answered_effects z one near entry p k fix a b b' la lb place choice (Asked s vs) (Went v' slot' m' pl' es') e h went asked = absurd h
answered_effects z one near entry p k fix a b b' la lb place choice (Broke w) (Went v' slot' m' pl' es') e h went asked = absurd h
answered_effects z one near entry p k fix a b b' la lb place choice (Broke w) (Asked s' us) e h went asked = absurd h

-- both return
pub answered_return : (z : Setting) → 1 ≤ z.bound → (near : Against) (entry p q : Point) → Kept (variables z.program) entry q →
    (b : Frame) (place choice : ℕ) (v v' : Option Value) →
    act z.program.signature z.input b p.right place choice ≡ Gives v' q.right → ValuesAgree q v v' →
    IsAnswered z near entry p.left (alone b p.right place) (Gives v q.left)
answered_return z one near entry p q k b place choice v v' e agree =
    inr (record {
      answer' = v';
      point = q;
      answers = record {
        steps = 1;
        some = omega arith;
        few = one;
        leads = one_step z.program z.input (alone b p.right place) choice
            (record { events = []; next = Done v' q.right place }) (ap (advance z.program (place_of b) [] p.right place) e);
      };
      left = refl;
      kept = k;
      agree = agree;
    })

-- both go on in the same memories
pub answered_go : (z : Setting) → 1 ≤ z.bound → (near : Against) (entry p : Point) (a b b' : Frame) (place choice : ℕ) →
    act z.program.signature z.input b p.right place choice ≡ Goes b' p.right place [] → near a p.left (alone b' p.right place) →
    IsAnswered z near entry p.left (alone b p.right place) (Goes a p.left place [])
answered_go z one near entry p a b b' place choice e h =
    inr (record {
      state = alone b' p.right place;
      answers = record {
        steps = 1;
        some = omega arith;
        few = one;
        leads = one_step z.program z.input (alone b p.right place) choice
            (record { events = []; next = On (alone b' p.right place) }) (ap (advance z.program (place_of b) [] p.right place) e);
      };
      place_is = refl;
      near_still = h;
    })

-- ---- values under agreed locals

if_yes : (w : ℕ → ℕ) (n : ℕ) (b : Bool) (v u : Value) (l r : Value) → Agrees w n v u → Agrees w n l r →
    Agrees w n (if b then v else l) (if b then u else r)
if_yes w n b v u l r a h = if_agrees w n b v l u r a h

pub bind_agrees : (keeps : ℕ → Bool) (p : Point) (local : Option ℕ) (v u : Option Value) (ls rs : Locals) → ValuesAgree p v u →
    LocalsAgree keeps p.pairing (length p.left) ls rs →
    LocalsAgree keeps p.pairing (length p.left) (bind local v ls) (bind local u rs)
bind_agrees keeps p None v u ls rs a h = h
bind_agrees keeps p (Some x) None None ls rs a h = h
bind_agrees keeps p (Some x) (Some v) (Some u) ls rs a h =
    λ y kept. if_yes p.pairing (length p.left) (x == y) v u (look_up ls y) (look_up rs y) a (h y kept)
bind_agrees keeps p (Some x) None (Some u) ls rs a h = absurd a
bind_agrees keeps p (Some x) (Some v) None ls rs a h = absurd a

pub edge_agrees : (sig : Signature) (w : Pairing) (n : ℕ) → Names sig w n → (keeps : ℕ → Bool) (ls rs : Locals) →
    LocalsAgree keeps w n ls rs → (from : ℕ) (es : List Incoming) → EdgesKept keeps es →
    Agrees w n (incoming_value sig ls from es) (incoming_value sig rs from es)
edge_agrees sig w n c keeps ls rs h from [] k = tt
edge_agrees sig w n c keeps ls rs h from (e ∷ es) k =
    if_agrees w n (e.from == from) (value_of sig ls e.value) (incoming_value sig ls from es) (value_of sig rs e.value)
    (incoming_value sig rs from es) (value_of_agrees sig w n c keeps ls rs h e.value k.0)
    (edge_agrees sig w n c keeps ls rs h from es k.1)

pub phi_agrees : (sig : Signature) (w : Pairing) (n : ℕ) → Names sig w n → (keeps : ℕ → Bool) (ls rs : Locals) →
    LocalsAgree keeps w n ls rs → (from : ℕ) (x : Phi) → (keeps x.local ≡ true → EdgesKept keeps x.incoming) →
    (ls' rs' : Locals) → LocalsAgree keeps w n ls' rs' → (y : ℕ) → keeps y ≡ true → (x.local ≡ y) ⊎ (x.local ≡ y → ⊥) →
    Agrees w n (look_up ((x.local, incoming_value sig ls from x.incoming) ∷ ls') y)
    (look_up ((x.local, incoming_value sig rs from x.incoming) ∷ rs') y)
phi_agrees sig w n c keeps ls rs h from x k ls' rs' h' y kept (inl same) =
    if_agrees w n (x.local == y) (incoming_value sig ls from x.incoming) (look_up ls' y) (incoming_value sig rs from x.incoming)
    (look_up rs' y) (edge_agrees sig w n c keeps ls rs h from x.incoming (k (ap keeps same ∙ kept))) (h' y kept)
phi_agrees sig w n c keeps ls rs h from x k ls' rs' h' y kept (inr other) =
    let e = ne_eqb x.local y other in
    subst (λ (t : Bool). Agrees w n (if t then incoming_value sig ls from x.incoming else look_up ls' y)
    (if t then incoming_value sig rs from x.incoming else look_up rs' y)) (sym e) (h' y kept)

pub phis_agree : (sig : Signature) (w : Pairing) (n : ℕ) → Names sig w n → (keeps : ℕ → Bool) (ls rs : Locals) →
    LocalsAgree keeps w n ls rs → (from : ℕ) (ps : List Phi) → PhisKept keeps ps → (ls' rs' : Locals) →
    LocalsAgree keeps w n ls' rs' → LocalsAgree keeps w n (phis_bound sig ls from ps ls') (phis_bound sig rs from ps rs')
phis_agree sig w n c keeps ls rs h from [] k ls' rs' h' = h'
phis_agree sig w n c keeps ls rs h from (x ∷ ps) k ls' rs' h' =
    λ y kept. phi_agrees sig w n c keeps ls rs h from x k.0 (phis_bound sig ls from ps ls') (phis_bound sig rs from ps rs')
    (phis_agree sig w n c keeps ls rs h from ps k.1 ls' rs' h') y kept (cases_eq x.local y)

-- ---- terminators

-- the second is stuck, or both lead to the same
abbrev pub ExitsAgree : Point → Exit → Exit → Type 0
ExitsAgree p x (Stuck cause) = Unit {0}
ExitsAgree p (Leaves v) (Leaves u) = ValuesAgree p v u
ExitsAgree p (Leads' a) (Leads' b) = a ≡ b
ExitsAgree p _ _ = ⊥

by_bits_agrees : (p : Point) (target : ℕ → ℕ) (a b : Option ℕ) → NoneOrSame a b → ExitsAgree p (by_bits target a) (by_bits target b)
by_bits_agrees p target a None h = tt
by_bits_agrees p target (Some n) (Some m) (inr e) = let same : n ≡ m = cc e in ap target same
by_bits_agrees p target None (Some m) (inr e) = absurd (cc e)
by_bits_agrees p target a (Some m) (inl e) = absurd (cc e)

pub by_value_agrees : (p : Point) (w : ℕ) (target : ℕ → ℕ) (v u : Value) → Agrees p.pairing (length p.left) v u →
    ExitsAgree p (by_value w target v) (by_value w target u)
by_value_agrees p w target v u e = by_bits_agrees p target (bits_of w v) (bits_of w u) (bits_agree p.pairing (length p.left) w v u e)

pub exit_agrees : (sig : Signature) (p : Point) → Names sig p.pairing (length p.left) → (keeps : ℕ → Bool) (ls rs : Locals) →
    LocalsAgree keeps p.pairing (length p.left) ls rs → (t : Terminator) → EndReads keeps t →
    ExitsAgree p (exit_of (value_of sig ls) t) (exit_of (value_of sig rs) t)
exit_agrees sig p c keeps ls rs h (Return None) k = tt
exit_agrees sig p c keeps ls rs h (Return (Some a)) k = value_of_agrees sig p.pairing (length p.left) c keeps ls rs h a.operand k
exit_agrees sig p c keeps ls rs h (Jump target) k = refl
exit_agrees sig p c keeps ls rs h (Branch d t f) k =
    by_value_agrees p 1 (side t f) _ _ (value_of_agrees sig p.pairing (length p.left) c keeps ls rs h d k)
exit_agrees sig p c keeps ls rs h (Switch w operand default cases) k =
    by_value_agrees p w (case_target cases default) _ _ (value_of_agrees sig p.pairing (length p.left) c keeps ls rs h operand k)
exit_agrees sig p c keeps ls rs h Unreachable k = tt

pub names_of : (p : Program) → IsFormed p → (q : Point) → Fixes (variables p) q → Names p.signature q.pairing (length q.left)
names_of p formed q f = record { count = variables p; few = f.variables; stay = f.stay; formed = formed }

-- what a frame does, where its rest is known
pub act_at_line : (sig : Signature) (input : List ℕ) (b : Frame) (memory : Memory) (place choice : ℕ) (line : Line)
    (rest : List Line) → b.rest ≡ line ∷ rest → act sig input b memory place choice ≡ apply (record b { rest = rest })
    line.local (execute sig input memory place choice (evaluate (value_of sig b.locals) line.instr))
unfolding act
act_at_line sig input b memory place choice line rest e = ap (λ (l : List Line). acts sig input b l memory place choice) e

pub act_at_end : (sig : Signature) (input : List ℕ) (b : Frame) (memory : Memory) (place choice : ℕ) → b.rest ≡ [] →
    act sig input b memory place choice ≡ exits sig b memory place (exit_of (value_of sig b.locals) b.end)
unfolding act
act_at_end sig input b memory place choice e = ap (λ (l : List Line). acts sig input b l memory place choice) e
