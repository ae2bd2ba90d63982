-- What the definition's frame does next, by what its line did.
use Rattle.std.proofs.Common.{◌≡◌, ℕ, List, ◌∷◌, Option, sym, ap, subst, ◌∙◌}
use Rattle.ir_tree.specs.declared.instr.Line.{Line as MeantLine}
use Rattle.ir_tree.specs.declared.operand.Symbol.{Symbol}
use Rattle.ir_meaning.specs.Act.{act, acts, apply}
use Rattle.ir_meaning.specs.Execute as meaning
use Rattle.ir_meaning.specs.Frame.{Frame, Signature, bind}
use Rattle.ir_meaning.specs.Memory.{Memory as MeantMemory}
use Rattle.ir_machine.specs.declared.memory.Memory.{Memory}
use Rattle.ir_interp.specs.Ran.{IsRan, StandFor}
use Rattle.ir_interp.specs.Tasks.{task_meant}
use Rattle.ir_interp.specs.declared.registers.Registers.{Registers}
use Rattle.ir_interp.specs.declared.ran.Ran.{Ran}
use Rattle.ir_interp.specs.declared.ran.Ran.TheVariants.{Undefined, Uninit, Went}
use Rattle.ir_interp.specs.Lines.{HasActed, IsLine}
use Rattle.ir_interp.specs.declared.line.CodeLine.{CodeLine}
use Rattle.ir_interp.specs.declared.line.Reached.TheVariants as reached

-- the effect of the line on the frame
line_effect : (names : List Symbol) (sig : Signature) (input : List ℕ) (place choice : ℕ) (frame : Frame) (l : MeantLine) (rest : List MeantLine) (line : CodeLine) (memory : MeantMemory) (effect : meaning.Effect) →
    frame.rest ≡ l ∷ rest → IsLine names sig l line → meaning.execute sig input memory place choice (task_meant names frame.locals line.task) ≡ effect →
    act sig input frame memory place choice ≡ apply (record frame { rest = rest }) l.local effect
unfolding act
line_effect names sig input place choice frame l rest line memory effect e is h =
    ap (λ (ls : List MeantLine). acts sig input frame ls memory place choice) e
    ∙ ap (λ (t : meaning.Task). apply (record frame { rest = rest }) l.local (meaning.execute sig input memory place choice t)) (sym (is.task frame.locals))
    ∙ ap (λ (x : meaning.Effect). apply (record frame { rest = rest }) l.local x) h

pub acted : (names : List Symbol) (sig : Signature) (input : List ℕ) (place choice : ℕ) (frame : Frame) (l : MeantLine) (rest : List MeantLine) (line : CodeLine)
    (m : Memory) (memory : MeantMemory) (m' : Memory) (r' : Registers) (ran : Ran) → frame.rest ≡ l ∷ rest → IsLine names sig l line →
    IsRan names m memory frame.locals line.local choice (task_meant names frame.locals line.task) m' r' ran →
    HasActed names m memory frame rest m' r' place ran (act sig input frame memory place choice)
acted names sig input place choice frame l rest line m memory m' r' (Went reserved) e is g = (
  bind l.local g.value frame.locals,
  (
    g.after,
    (
      subst (λ (o : Option ℕ). StandFor names m memory m' r' g.after (bind o g.value frame.locals)) is.local g.stand,
      line_effect names sig input place choice frame l rest line memory _ e is (g.effect sig input place),
    ),
  ),
)
acted names sig input place choice frame l rest line m memory m' r' (Undefined cause) e is g =
    line_effect names sig input place choice frame l rest line memory _ e is (g.0 sig input place)
acted names sig input place choice frame l rest line m memory m' r' Uninit e is g =
    line_effect names sig input place choice frame l rest line memory _ e is (g.0 sig input place)

pub ran_no_call : (ran : Ran) → reached.Ran ran ≡ reached.Call → ⊥
ran_no_call ran e = cc e
