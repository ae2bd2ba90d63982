-- The frame that waits below goes on.
use Rattle.std.proofs.Common.{◌≡◌, ℕ, List, [], ◌∷◌, ◌++◌, Option, refl, sym, ap, subst, ◌∙◌}
use Rattle.ir_tree.specs.declared.operand.Symbol.{Symbol}
use Rattle.ir_meaning.specs.Act.{resume}
use Rattle.ir_meaning.specs.Frame.{Frame as MeantFrame}
use Rattle.ir_meaning.specs.Memory.{Memory as MeantMemory}
use Rattle.ir_meaning.specs.Program.{Program}
use Rattle.ir_meaning.specs.declared.value.Value.{Value as MeantValue}
use Rattle.ir_machine.specs.declared.memory.Memory.{Memory}
use Rattle.ir_machine.specs.declared.scalar.Scalar.{Scalar}
use Rattle.ir_interp.specs.Ran.{HasRoom}
use Rattle.ir_interp.specs.Slots.{AreLast}
use Rattle.ir_interp.specs.Frames.{IsFrame, IsWaiting, Wait}
use Rattle.ir_interp.specs.Scenes.{answer_meant}
use Rattle.ir_interp.specs.Steps.{Resumed}
use Rattle.ir_interp.specs.declared.step_end.StepEnd.{StepEnd}
use Rattle.ir_interp.specs.declared.step_end.StepEnd.TheVariants.{Going}
use Rattle.ir_interp.specs.declared.frame.Frame.{Frame}
use Rattle.ir_interp.specs.declared.machine.Machine.{Machine}

-- lists with one item behind are equal where the lists and the items are
same_last : (xs ys : List Frame) (x y : Frame) → xs ++ x ∷ [] ≡ ys ++ y ∷ [] → (xs ≡ ys) × (x ≡ y)
same_last [] [] x y e = (refl, cc e)
same_last [] (b ∷ []) x y e = absurd (cc e)
same_last [] (b ∷ c ∷ ys) x y e = absurd (cc e)
same_last (a ∷ []) [] x y e = absurd (cc e)
same_last (a ∷ c ∷ xs) [] x y e = absurd (cc e)
same_last (a ∷ xs) (b ∷ ys) x y e =
    let head : a ≡ b = cc e in
    let tail : xs ++ x ∷ [] ≡ ys ++ y ∷ [] = cc e in
    let rest = same_last xs ys x y tail in
    (ap (λ (f : Frame). f ∷ xs) head ∙ ap (λ (fs : List Frame). b ∷ fs) rest.0, rest.1)

resumed_slots : (d : MeantFrame) (answer : Option MeantValue) → (resume d answer).slots ≡ d.slots
unfolding resume
resumed_slots d answer = refl

pub went_back : (names : List Symbol) (p : Program) (m : Machine) (memory : MeantMemory) (numbers : List ℕ) (d : MeantFrame) (ds : List MeantFrame) (answer : Option Scalar) (top waiting : Frame) (below : List Frame) (m' : Machine) (end : StepEnd) →
    m.below.items ≡ below ++ waiting ∷ [] → m'.below.items ≡ below → m'.top ≡ top → end ≡ Going → m'.memory ≡ m.memory → m'.ended ≡ m.ended → top.base ≡ waiting.base →
    (IsFrame names p m.memory memory waiting d → HasRoom waiting.registers waiting.awaits → IsFrame names p m.memory memory top (resume d (answer_meant names answer))) →
    Wait names p m.memory memory numbers m.below.items (d ∷ ds) → Resumed names p memory numbers d ds answer m m' end
went_back names p m memory numbers d ds answer top waiting below m' end items rest at going same ended base goes (f, (others, (front, (is, w, more)))) =
    let both = same_last others below f waiting (sym is ∙ items) in
    let w' = subst (λ (x : Frame). IsWaiting names p m.memory memory numbers x d front) both.1 w in
    record {
      going = going;
      top = subst (λ (x : Frame). IsFrame names p m.memory memory x (resume d (answer_meant names answer))) (sym at) (goes w'.frame w'.room);
      front = front;
      stacks = record {
        last = subst (λ (ks : List ℕ). AreLast numbers ks front) (sym (resumed_slots d (answer_meant names answer))) w'.stacks.last;
        base = w'.stacks.base ∙ sym base ∙ ap (λ (x : Frame). x.base) (sym at);
      };
      waits = subst (λ (fs : List Frame). Wait names p m.memory memory front fs ds) (both.0 ∙ sym rest) more;
      same = same;
      ended = ended;
    }

-- where no frame is left, none waits
pub none_waits : {X : Type 0} (names : List Symbol) (p : Program) (m : Memory) (memory : MeantMemory) (numbers : List ℕ) (fs : List Frame) (d : MeantFrame) (ds : List MeantFrame) → fs ≡ [] → Wait names p m memory numbers fs (d ∷ ds) → X
none_waits {X} names p m memory numbers fs d ds e (f, (rest, (front, (is, w, more)))) = absurd (by rest (sym e ∙ is)) where
  by : (xs : List Frame) → [] ≡ xs ++ f ∷ [] → ⊥
  by [] h = cc h
  by (x ∷ xs) h = cc h
