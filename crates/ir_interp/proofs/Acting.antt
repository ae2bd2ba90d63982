-- A line that ran, against what the definition's frame does.
use Rattle.std.proofs.Common.{◌≡◌, ℕ, zero, suc, ◌+◌, ◌<◌, Bool, true, false, List, [], ◌∷◌, ◌++◌, drop, length, Option, refl, sym, ap, subst, ◌∙◌, arith}
use Rattle.ir_tree.specs.declared.block.Block.{Block as MeantBlock}
use Rattle.ir_tree.specs.declared.instr.Line.{Line as MeantLine}
use Rattle.ir_meaning.specs.Act.{act, acts, apply, with_slot}
use Rattle.ir_meaning.specs.Act as meaning
use Rattle.ir_meaning.specs.Execute as execute
use Rattle.ir_meaning.specs.Execute.{Effect, evaluate}
use Rattle.ir_meaning.specs.Fault.{Fault}
use Rattle.ir_meaning.specs.Frame.{Frame as MeantFrame, bind}
use Rattle.ir_meaning.specs.Memory.{Memory as MeantMemory}
use Rattle.ir_meaning.specs.Program.{advance}
use Rattle.ir_machine.specs.Memories.{numbers_of}
use Rattle.ir_machine.specs.declared.memory.Memory.{Memory}
use Rattle.ir_interp.specs.Locals.{AreLocals}
use Rattle.ir_interp.specs.Ran.{Goes, HasEffect, StandFor, new_slot}
use Rattle.ir_interp.specs.Tasks.{task_meant}
use Rattle.ir_interp.specs.declared.registers.Registers.{Registers}
use Rattle.ir_interp.specs.declared.ran.Ran.TheVariants.{Went}
use Rattle.ir_interp.specs.Slots.{AreLast}
use Rattle.ir_interp.specs.declared.line.CodeLine.{CodeLine}
use Rattle.ir_interp.specs.Frames.{IsStanding, Stacks}
use Rattle.ir_interp.specs.Lines.{HasRanNumbers}
use Rattle.ir_interp.specs.Scenes.{Fails, GoesOn, HasDone, IsNext, Plays, Scene, Silent, Works}
use Rattle.ir_interp.specs.declared.code.Code.{Code}
use Rattle.ir_interp.specs.declared.frame.Did.TheVariants as did
use Rattle.ir_interp.specs.declared.frame.Frame.{Frame}
use Rattle.ir_interp.proofs.Positions.{none_dropped}

-- what is behind the next line, and that there is one
pub dropped_tail : {X : Type 0} (xs : List X) (k : ℕ) (x : X) (ys : List X) → drop k xs ≡ x ∷ ys → (drop (k + 1) xs ≡ ys) × (k < length xs)
dropped_tail [] zero x ys e = absurd (cc e)
dropped_tail [] (suc k) x ys e = absurd (cc e)
dropped_tail (y ∷ xs) zero x ys e = let h : xs ≡ ys = cc e in (none_dropped xs ∙ h, omega arith)
dropped_tail {X} (y ∷ xs) (suc k) x ys e =
    let rest = dropped_tail xs k x ys e in
    let one : suc k + 1 ≡ suc (k + 1) = omega arith in
    (ap (λ (n : ℕ). drop n (y ∷ xs)) one ∙ rest.0, omega (arith, rest.1))

-- a frame that is one line further
pub next_standing : (blocks : List MeantBlock) (d d' : MeantFrame) (q line : ℕ) (l : MeantLine) (rest : List MeantLine) → IsStanding blocks d q line → d.rest ≡ l ∷ rest →
    d'.block ≡ d.block → d'.end ≡ d.end → d'.rest ≡ rest → IsStanding blocks d' q (line + 1)
next_standing blocks d d' q line l rest h next block end is =
    let tail = dropped_tail h.block.lines line l rest (sym h.rest ∙ next) in
    record {
      block = h.block;
      here = h.here;
      first = h.first;
      number = block ∙ h.number;
      ends = end ∙ h.ends;
      rest = is ∙ sym tail.0;
      within = omega (arith, tail.1);
    }

-- the effect of a line on the frame
pub line_works : (z : Scene) (m : Memory) (choice : ℕ) (given : Option (Option ℕ)) (line : CodeLine) (l : MeantLine) (rest : List MeantLine) (effect : ℕ → Effect) → IsNext z m line l rest →
    ((input : List ℕ) (place : ℕ) → execute.execute z.program.signature input z.memory place choice (task_meant z.names z.frame.locals line.task) ≡ effect place) → Works z choice given l.local rest effect
unfolding act
line_works z m choice given line l rest effect n h = λ input place has.
    ap (λ (ls : List MeantLine). acts z.program.signature input z.frame ls z.memory place choice) n.next
    ∙ ap (λ (t : execute.Task). apply (record z.frame { rest = rest }) l.local (execute.execute z.program.signature input z.memory place choice t)) (sym (n.is.task z.frame.locals))
    ∙ ap (λ (x : Effect). apply (record z.frame { rest = rest }) l.local x) (h input place)

-- a line that breaks ends the run
pub work_fails : (z : Scene) (choice : ℕ) (given : Option (Option ℕ)) (local : Option ℕ) (rest : List MeantLine) (why : Fault) → Works z choice given local rest (λ place. execute.Broke why) → Fails z choice given why
work_fails z choice given local rest why w = λ input place has at below. ap (λ (a : meaning.Act). advance z.program at below z.memory place a) (w input place has)

stays_stacked : (numbers numbers' : List ℕ) (f f' : Frame) (d d' : MeantFrame) (front : List ℕ) → numbers' ≡ numbers → f'.base ≡ f.base → d'.slots ≡ d.slots → Stacks numbers f d front → Stacks numbers' f' d' front
stays_stacked numbers numbers' f f' d d' front e b s h = record {
  last = subst (λ (ns : List ℕ). AreLast ns d'.slots front) (sym e) (subst (λ (ks : List ℕ). AreLast numbers ks front) (sym s) h.last);
  base = h.base ∙ sym b;
}

slot_stacked : (numbers numbers' : List ℕ) (f f' : Frame) (d d' : MeantFrame) (front : List ℕ) (k : ℕ) → numbers' ≡ numbers ++ k ∷ [] → f'.base ≡ f.base → d'.slots ≡ k ∷ d.slots →
    Stacks numbers f d front → Stacks numbers' f' d' front
slot_stacked numbers numbers' f f' d d' front k e b s h = record {
  last = subst (λ (ks : List ℕ). AreLast numbers' ks front) (sym s) (numbers, (e, h.last));
  base = h.base ∙ sym b;
}

pub line_stacked : (m m' : Memory) (memory : MeantMemory) (f f' : Frame) (d d' : MeantFrame) (front : List ℕ) (reserved : Bool) → HasRanNumbers m m' (Went reserved) → m.made ≡ length memory → f'.base ≡ f.base →
    d'.slots ≡ with_slot (new_slot reserved (length memory)) d.slots → Stacks (numbers_of m.blocks.items) f d front → Stacks (numbers_of m'.blocks.items) f' d' front
line_stacked m m' memory f f' d d' front false n made b s h = stays_stacked (numbers_of m.blocks.items) (numbers_of m'.blocks.items) f f' d d' front n b s h
line_stacked m m' memory f f' d d' front true n made b s h =
    slot_stacked (numbers_of m.blocks.items) (numbers_of m'.blocks.items) f f' d d' front (length memory)
    (n ∙ ap (λ (k : ℕ). numbers_of m.blocks.items ++ k ∷ []) made) b s h

pub same_stacked : (numbers : List ℕ) (f f' : Frame) (d d' : MeantFrame) (front : List ℕ) → f'.base ≡ f.base → d'.slots ≡ d.slots → Stacks numbers f d front → Stacks numbers f' d' front
same_stacked numbers f f' d d' front b s h = stays_stacked numbers numbers f f' d d' front refl b s h

-- a line that ran
pub line_went : (z : Scene) (code : Code) (m m' : Memory) (choice : ℕ) (given : Option (Option ℕ)) (f : Frame) (line : CodeLine) (l : MeantLine) (rest : List MeantLine) (r' : Registers) (n : ℕ) (reserved : Bool) → n ≡ f.line + 1 →
    Plays z code m f → IsNext z m line l rest → HasRanNumbers m m' (Went reserved) →
    Goes z.names m z.memory z.frame.locals line.local choice (task_meant z.names z.frame.locals line.task) m' r' reserved →
    HasDone z choice given m m' f (record f { registers = r'; line = n }) did.Went
line_went z code m m' choice given f line l rest r' n reserved more s next numbers g =
    let d' = record z.frame { rest = rest; locals = bind l.local g.value z.frame.locals; slots = with_slot (new_slot reserved (length z.memory)) z.frame.slots } in
    let f' = record f { registers = r'; line = n } in (
      Silent,
      (
        g.after,
        (
          d',
          (
            tt,
            line_works z m choice given line l rest (λ place. execute.Went g.value (new_slot reserved (length z.memory)) g.after place []) next (λ input place. g.effect z.program.signature input place),
            record {
              holds = g.stand.holds;
              keeps = g.stand.keeps;
              frame = record {
                named = s.frame.named;
                called = s.frame.called;
                stands = subst (λ (k : ℕ). IsStanding z.frame.function.blocks d' f.block k) (sym more)
                    (next_standing z.frame.function.blocks z.frame d' f.block f.line l rest s.frame.stands next.next refl refl refl);
                reads = subst (λ (o : Option ℕ). AreLocals z.names m' g.after r' (bind o g.value z.frame.locals)) next.is.local g.stand.reads;
                awaits = s.frame.awaits;
              };
              stacks = line_stacked m m' z.memory f f' z.frame d' z.front reserved numbers s.holds.stands.made refl refl s.stacks;
            },
          ),
        ),
      ),
    )

-- a line that broke
pub line_broke : (z : Scene) (m : Memory) (choice : ℕ) (given : Option (Option ℕ)) (line : CodeLine) (l : MeantLine) (rest : List MeantLine) (why : Fault) → IsNext z m line l rest →
    HasEffect z.memory choice (task_meant z.names z.frame.locals line.task) (λ place. execute.Broke why) → Fails z choice given why
line_broke z m choice given line l rest why next h =
    work_fails z choice given l.local rest why (line_works z m choice given line l rest (λ place. execute.Broke why) next (λ input place. h z.program.signature input place))

-- frame and memory stand for what they stood for
pub still_there : (z : Scene) (code : Code) (m m' : Memory) (f : Frame) (r' : Registers) → Plays z code m f → StandFor z.names m z.memory m' r' z.memory z.frame.locals →
    numbers_of m'.blocks.items ≡ numbers_of m.blocks.items → GoesOn z m m' (record f { registers = r' }) z.memory z.frame
still_there z code m m' f r' s h n = record {
  holds = h.holds;
  keeps = h.keeps;
  frame = record { named = s.frame.named; called = s.frame.called; stands = s.frame.stands; reads = h.reads; awaits = s.frame.awaits };
  stacks = stays_stacked (numbers_of m.blocks.items) (numbers_of m'.blocks.items) f (record f { registers = r' }) z.frame z.frame z.front n refl refl s.stacks;
}

pub stays_there : (z : Scene) (code : Code) (m : Memory) (f : Frame) → Plays z code m f → GoesOn z m m f z.memory z.frame
stays_there z code m f s = record { holds = s.holds; keeps = λ h x. x; frame = s.frame; stacks = s.stacks }
