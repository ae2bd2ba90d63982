-- What the topmost frame did, as a step of the machine.
use Rattle.std.proofs.Common.{◌≡◌, ℕ, List, [], ◌∷◌, ◌++◌, length, Option, Some, None, refl, sym, ap, subst, ◌∙◌}
use Rattle.ir_tree.specs.declared.block.Block.{Block as MeantBlock}
use Rattle.ir_tree.specs.declared.function.Function.{Function as MeantFunction}
use Rattle.ir_tree.specs.declared.operand.Symbol.{Symbol}
use Rattle.ir_meaning.specs.Act as act
use Rattle.ir_meaning.specs.Act.{Act, enter, enter_at, params_bound, resume}
use Rattle.ir_meaning.specs.Fault.{Fault}
use Rattle.ir_meaning.specs.Fault as fault
use Rattle.ir_meaning.specs.Frame.{Frame as MeantFrame, Locals}
use Rattle.ir_meaning.specs.Memory.{Memory as MeantMemory}
use Rattle.ir_meaning.specs.Program.{back as back_to, Broken, Done, Failure, Next, On, Program, State, advance, go_in, place_of}
use Rattle.ir_meaning.specs.Run.{start, start_of}
use Rattle.ir_meaning.specs.declared.event.Event.{Event}
use Rattle.ir_meaning.specs.declared.event.Event.TheVariants.{Wrote}
use Rattle.ir_tree.specs.declared.cause.Cause.{Cause}
use Rattle.ir_meaning.specs.declared.fault.Place.{Place as MeantPlace}
use Rattle.ir_meaning.specs.declared.value.Value.{Value as MeantValue}
use Rattle.ir_machine.specs.Meant.{symbol_at}
use Rattle.ir_machine.specs.Memories.{numbers_of}
use Rattle.ir_machine.specs.Names.{AreDistinct}
use Rattle.ir_machine.specs.declared.memory.Memory.{Memory}
use Rattle.ir_machine.specs.declared.scalar.Scalar.{Scalar}
use Rattle.ir_interp.specs.Locals.{IsMemory}
use Rattle.ir_interp.specs.Slots.{AreLast}
use Rattle.ir_interp.specs.Code.{IsCode, Knows}
use Rattle.ir_interp.specs.Frames.{IsFrame, IsOpened, IsStanding, Stacks, Wait}
use Rattle.ir_interp.specs.Scenes.{Acts, Asks, Enters, Fails, GoesOn, Plays, Returns, Scene, Shown, Silent, StaysAt, IsQuiet, answer_meant, behind, events_of}
use Rattle.ir_interp.specs.Steps.{HasBegun, IsRunning, IsStep, Leads, WentBack, numbers_meant, place_meant}
use Rattle.ir_interp.specs.declared.code.Code.{Code}
use Rattle.ir_interp.specs.declared.step_end.StepPlace.{StepPlace}
use Rattle.ir_interp.specs.declared.step_end.StepEnd.{StepEnd}
use Rattle.ir_interp.specs.declared.step_end.StepEnd.TheVariants as end
use Rattle.ir_interp.specs.declared.frame.Frame.{Frame}
use Rattle.ir_interp.specs.declared.machine.Machine.{Machine}
use Rattle.ir_interp.proofs.Keeping.{keep_knows, keep_wait}

-- the scene of a state
abbrev pub scene_of : List Symbol → Program → State → List ℕ → Scene
scene_of names p s front = record { names = names; program = p; memory = s.memory; frame = s.top; front = front }

pub plays : (names : List Symbol) (p : Program) (m : Machine) (s : State) → (r : IsRunning names p m s) → Plays (scene_of names p s r.front) m.code.now m.memory m.top
plays names p m s r = record { distinct = r.distinct; code = r.code; knows = r.knows; holds = r.holds; frame = r.top; stacks = r.stacks }

-- the machine behind a step of its topmost frame
pub goes_running : (names : List Symbol) (p : Program) (m m' : Machine) (s : State) (r : IsRunning names p m s) (memory : MeantMemory) (frame : MeantFrame) (place : ℕ) → m'.code.now ≡ m.code.now → m'.below.items ≡ m.below.items → m'.ended ≡ m.ended →
    GoesOn (scene_of names p s r.front) m.memory m'.memory m'.top memory frame → IsRunning names p m' (record { top = frame; below = s.below; memory = memory; place = place })
goes_running names p m m' s r memory frame place code below ended g = record {
  running = ended ∙ r.running;
  distinct = r.distinct;
  code = subst (λ (c : Code). IsCode names p c) (sym code) r.code;
  knows = subst (λ (c : Code). Knows names c m'.memory memory) (sym code) (keep_knows names m.code.now m.memory s.memory m'.memory memory g.keeps r.knows);
  holds = g.holds;
  top = g.frame;
  front = r.front;
  stacks = g.stacks;
  waits = subst (λ (fs : List Frame). Wait names p m'.memory memory r.front fs s.below) (sym below) (keep_wait names p m.memory s.memory m'.memory memory r.front m.below.items s.below g.keeps r.waits);
}

-- the step, by what the topmost frame does
pub leads_by : (names : List Symbol) (p : Program) (s : State) (front : List ℕ) (choice : ℕ) (given : Option (Option ℕ)) (a : ℕ → Act) (events : List Event) (next : Next) → Acts (scene_of names p s front) choice given a →
    advance p (place_of s.top) s.below s.memory s.place (a s.place) ≡ record { events = events; next = next } → Leads p s choice given events next
leads_by names p s front choice given a events next h is = λ input has. ap (λ (x : Act). advance p (place_of s.top) s.below s.memory s.place x) (h input s.place has) ∙ is

pub step_goes : (names : List Symbol) (p : Program) (m m' : Machine) (s : State) (choice : ℕ) (given : Option (Option ℕ)) (r : IsRunning names p m s) (shown : Shown) (memory : MeantMemory) (frame : MeantFrame) → m'.code.now ≡ m.code.now → m'.below.items ≡ m.below.items →
    m'.ended ≡ m.ended → IsQuiet given shown → Acts (scene_of names p s r.front) choice given (λ place. act.Goes frame memory (behind shown place) (events_of shown)) →
    GoesOn (scene_of names p s r.front) m.memory m'.memory m'.top memory frame → IsStep names p s choice given m' end.Going
step_goes names p m m' s choice given r shown memory frame code below ended quiet acts g = (
  shown,
  (
    record { top = frame; below = s.below; memory = memory; place = behind shown s.place },
    (
      quiet,
      refl,
      leads_by names p s r.front choice given (λ place. act.Goes frame memory (behind shown place) (events_of shown)) (events_of shown) (On (record { top = frame; below = s.below; memory = memory; place = behind shown s.place })) acts refl,
      goes_running names p m m' s r memory frame (behind shown s.place) code below ended g,
    ),
  ),
)

pub step_writes : (names : List Symbol) (p : Program) (m m' : Machine) (s : State) (choice : ℕ) (given : Option (Option ℕ)) (r : IsRunning names p m s) (byte : ℕ) (memory : MeantMemory) (frame : MeantFrame) → m'.code.now ≡ m.code.now → m'.below.items ≡ m.below.items →
    m'.ended ≡ m.ended → Acts (scene_of names p s r.front) choice given (λ place. act.Goes frame memory place (Wrote byte ∷ [])) →
    GoesOn (scene_of names p s r.front) m.memory m'.memory m'.top memory frame → IsStep names p s choice given m' (end.Wrote byte)
step_writes names p m m' s choice given r byte memory frame code below ended acts g = (
  record { top = frame; below = s.below; memory = memory; place = s.place },
  (
    refl,
    leads_by names p s r.front choice given (λ place. act.Goes frame memory place (Wrote byte ∷ [])) (Wrote byte ∷ []) (On (record { top = frame; below = s.below; memory = memory; place = s.place })) acts refl,
    goes_running names p m m' s r memory frame s.place code below ended g,
  ),
)

pub step_wants : (names : List Symbol) (p : Program) (m m' : Machine) (s : State) (choice : ℕ) (given : Option (Option ℕ)) (r : IsRunning names p m s) → m'.code.now ≡ m.code.now → m'.below.items ≡ m.below.items → m'.ended ≡ m.ended →
    given ≡ None → Asks (scene_of names p s r.front) → GoesOn (scene_of names p s r.front) m.memory m'.memory m'.top s.memory s.top → IsStep names p s choice given m' end.Wants
step_wants names p m m' s choice given r code below ended none asks g = (
  none,
  λ input choice'. let a = asks input s.place choice' in (
    record { top = a.0; below = s.below; memory = a.1.0; place = a.1.1.0 },
    ap (λ (x : Act). advance p (place_of s.top) s.below s.memory s.place x) a.1.1.1,
  ),
  goes_running names p m m' s r s.memory s.top s.place code below ended g,
)

-- ---- calls and returns

no_slots : (f : MeantFunction) (blocks : List MeantBlock) (locals : Locals) → (enter_at f blocks locals).slots ≡ []
no_slots f [] locals = refl
no_slots f (b ∷ bs) locals = refl

fresh_frame : (f : MeantFunction) (values : List MeantValue) → (enter f values).slots ≡ []
unfolding enter
fresh_frame f values = no_slots f f.blocks (params_bound f.params values)

fresh_stack : (numbers : List ℕ) (f : Frame) (d : MeantFrame) → d.slots ≡ [] → f.base ≡ length numbers → Stacks numbers f d numbers
fresh_stack numbers f d none base = record { last = subst (λ (ks : List ℕ). AreLast numbers ks numbers) (sym none) refl; base = sym base }

-- m is the machine before the step, m' after it, and f the frame that waits
pub step_enters : (names : List Symbol) (p : Program) (m m' : Machine) (s : State) (choice : ℕ) (given : Option (Option ℕ)) (r : IsRunning names p m s) (f : Frame) → m'.code.now ≡ m.code.now → m'.below.items ≡ m.below.items ++ f ∷ [] → m'.ended ≡ m.ended →
    Enters (scene_of names p s r.front) choice given m.memory m'.memory f m'.top → IsStep names p s choice given m' end.Going
step_enters names p m m' s choice given r f code below ended e = (
  Silent,
  (
    record { top = enter e.function e.values; below = e.waiting ∷ s.below; memory = s.memory; place = s.place },
    (
      tt,
      refl,
      leads_by names p s r.front choice given (λ place. act.Calls e.symbol e.values e.waiting) [] (On (record { top = enter e.function e.values; below = e.waiting ∷ s.below; memory = s.memory; place = s.place })) e.acts
          (ap (λ (o : Option MeantFunction). record { events = []; next = go_in (place_of s.top) o e.values (e.waiting ∷ s.below) s.memory s.place }) e.called),
      record {
        running = ended ∙ r.running;
        distinct = r.distinct;
        code = subst (λ (c : Code). IsCode names p c) (sym code) r.code;
        knows = subst (λ (c : Code). Knows names c m'.memory s.memory) (sym code) (keep_knows names m.code.now m.memory s.memory m'.memory s.memory e.goes.keeps r.knows);
        holds = e.goes.holds;
        top = e.frame;
        front = numbers_of m'.memory.blocks.items;
        stacks = fresh_stack (numbers_of m'.memory.blocks.items) m'.top (enter e.function e.values) (fresh_frame e.function e.values) e.base;
        waits = (
          f,
          (
            m.below.items,
            (
              r.front,
              (
                below,
                record { frame = e.goes.frame; room = e.room; stacks = e.goes.stacks },
                keep_wait names p m.memory s.memory m'.memory s.memory r.front m.below.items s.below e.goes.keeps r.waits,
              ),
            ),
          ),
        );
      },
    ),
  ),
)

-- n is the machine when its topmost frame has returned, m' when the run has gone back
pub step_returns : (names : List Symbol) (p : Program) (m n m' : Machine) (s : State) (choice : ℕ) (given : Option (Option ℕ)) (r : IsRunning names p m s) (answer : Option Scalar) (result : StepEnd) → m'.code.now ≡ m.code.now → n.below.items ≡ m.below.items → n.ended ≡ m.ended →
    Returns (scene_of names p s r.front) choice given m.memory n.memory answer →
    ((memory : MeantMemory) (numbers : List ℕ) (d : MeantFrame) (ds : List MeantFrame) → WentBack names p memory numbers d ds answer n m' result) →
    (n.below.items ≡ [] → (result ≡ end.Returned answer) × (m'.ended ≡ Some (end.Returned answer))) → IsStep names p s choice given m' result
step_returns names p m n m' s choice given r answer result code below ended e went over = by s.below refl where
  waits : Wait names p n.memory e.after r.front n.below.items s.below
  waits = subst (λ (fs : List Frame). Wait names p n.memory e.after r.front fs s.below) (sym below) (keep_wait names p m.memory s.memory n.memory e.after r.front m.below.items s.below e.keeps r.waits)

  leads : (ds : List MeantFrame) (next : Next) → s.below ≡ ds → back_to ds (answer_meant names answer) e.after s.place ≡ next → Leads p s choice given [] next
  leads ds next is h = λ input has.
      ap (λ (x : Act). advance p (place_of s.top) s.below s.memory s.place x) (e.acts input s.place has)
      ∙ ap (λ (xs : List MeantFrame). record { events = []; next = back_to xs (answer_meant names answer) e.after s.place }) is
      ∙ ap (λ (x : Next). record { events = []; next = x }) h

  by : (ds : List MeantFrame) → s.below ≡ ds → IsStep names p s choice given m' result
  by [] is =
      let none = over (subst (λ (ds : List MeantFrame). Wait names p n.memory e.after r.front n.below.items ds) is waits) in
      subst (λ (x : StepEnd). IsStep names p s choice given m' x) (sym none.0) (
        Done (answer_meant names answer) e.after s.place,
        (leads [] (Done (answer_meant names answer) e.after s.place) is refl, refl, (end.Returned answer, (none.1, refl))),
      )
  by (d ∷ ds) is =
      let back = went e.after r.front d ds (subst (λ (xs : List MeantFrame). Wait names p n.memory e.after r.front n.below.items xs) is waits) e.valid in
      subst (λ (x : StepEnd). IsStep names p s choice given m' x) (sym back.going) (
        Silent,
        (
          record { top = resume d (answer_meant names answer); below = ds; memory = e.after; place = s.place },
          (
            tt,
            refl,
            leads (d ∷ ds) (On (record { top = resume d (answer_meant names answer); below = ds; memory = e.after; place = s.place })) is refl,
            record {
              running = back.ended ∙ ended ∙ r.running;
              distinct = r.distinct;
              code = subst (λ (c : Code). IsCode names p c) (sym code) r.code;
              knows = subst (λ (x : Memory). Knows names m'.code.now x e.after) (sym back.same)
                  (subst (λ (c : Code). Knows names c n.memory e.after) (sym code) (keep_knows names m.code.now m.memory s.memory n.memory e.after e.keeps r.knows));
              holds = subst (λ (x : Memory). IsMemory names x e.after) (sym back.same) e.holds;
              top = subst (λ (x : Memory). IsFrame names p x e.after m'.top (resume d (answer_meant names answer))) (sym back.same) back.top;
              front = back.front;
              stacks = subst (λ (x : Memory). Stacks (numbers_of x.blocks.items) m'.top (resume d (answer_meant names answer)) back.front) (sym back.same)
                  (subst (λ (ns : List ℕ). Stacks ns m'.top (resume d (answer_meant names answer)) back.front) (sym e.numbers) back.stacks);
              waits = subst (λ (x : Memory). Wait names p x e.after back.front m'.below.items ds) (sym back.same) back.waits;
            },
          ),
        ),
      )

-- ---- ends

pub step_undefined : (names : List Symbol) (p : Program) (s : State) (front : List ℕ) (choice : ℕ) (given : Option (Option ℕ)) (m' : Machine) (cause : Cause) (at : StepPlace) → Fails (scene_of names p s front) choice given (fault.Undefined cause) →
    place_meant names at ≡ place_of s.top → m'.ended ≡ Some (end.Undefined cause at) → IsStep names p s choice given m' (end.Undefined cause at)
step_undefined names p s front choice given m' cause at fails is ended =
    let failure : Failure = record { why = fault.Undefined cause; at = place_of s.top } in
    let same : failure ≡ record { why = fault.Undefined cause; at = place_meant names at } = ap (λ (x : MeantPlace). record { why = fault.Undefined cause; at = x }) (sym is) in
    (Broken failure, (λ input has. fails input s.place has (place_of s.top) s.below, same, (end.Undefined cause at, (ended, same))))

pub step_uninit : (names : List Symbol) (p : Program) (s : State) (front : List ℕ) (choice : ℕ) (given : Option (Option ℕ)) (m' : Machine) (at : StepPlace) → Fails (scene_of names p s front) choice given fault.Uninit →
    place_meant names at ≡ place_of s.top → m'.ended ≡ Some (end.Uninit at) → IsStep names p s choice given m' (end.Uninit at)
step_uninit names p s front choice given m' at fails is ended =
    let failure : Failure = record { why = fault.Uninit; at = place_of s.top } in
    let same : failure ≡ record { why = fault.Uninit; at = place_meant names at } = ap (λ (x : MeantPlace). record { why = fault.Uninit; at = x }) (sym is) in
    (Broken failure, (λ input has. fails input s.place has (place_of s.top) s.below, same, (end.Uninit at, (ended, same))))

-- a frame that stays where it was is where the definition's frame is
pub stays_standing : (blocks : List MeantBlock) (d : MeantFrame) (f f' : Frame) → StaysAt f f' → IsStanding blocks d f.block f.line → IsStanding blocks d f'.block f'.line
stays_standing blocks d f f' a s = subst (λ (q : ℕ). IsStanding blocks d q f'.line) (sym a.block) (subst (λ (k : ℕ). IsStanding blocks d f.block k) (sym a.line) s)

-- ---- the beginning

pub begun : (names : List Symbol) (p : Program) (m : Machine) (root base : ℕ) (arguments : List ℕ) (values : List MeantValue) → values ≡ numbers_meant arguments → AreDistinct names → IsCode names p m.code.now → Knows names m.code.now m.memory p.opening →
    IsMemory names m.memory p.opening → IsOpened names p m.memory p.opening root values base (Some m.top) → base ≡ length (numbers_of m.memory.blocks.items) → m.below.items ≡ [] → m.ended ≡ None → HasBegun names p root arguments m
begun names p m root base arguments values are distinct code knows holds (f, (called, frame, at)) count below ended =
    let s : State = record { top = enter f values; below = []; memory = p.opening; place = 0 } in (
      s,
      (
        ap (λ (vs : List MeantValue). start p (symbol_at names root) vs) (sym are) ∙ ap (λ (o : Option MeantFunction). start_of o values p.opening) called,
        record {
          running = ended;
          distinct = distinct;
          code = code;
          knows = knows;
          holds = holds;
          top = frame;
          front = numbers_of m.memory.blocks.items;
          stacks = fresh_stack (numbers_of m.memory.blocks.items) m.top (enter f values) (fresh_frame f values) (at ∙ count);
          waits = below;
        },
      ),
    )
