-- What the topmost frame does next, by itself (LangRef, "Terminator Instructions", "phi Instruction").
use Rattle.std.specs.Prelude.{ℕ, zero, suc, ◌==◌, if◌then◌else◌, List, [], ◌∷◌, Option, Some, None}
use Rattle.ir_tree.specs.declared.block.Block.{Block}
use Rattle.ir_tree.specs.declared.block.Case.{Case}
use Rattle.ir_tree.specs.declared.block.Terminator.{Terminator}
use Rattle.ir_tree.specs.declared.block.Terminator.TheVariants.{Branch, Jump, Return, Switch, Unreachable}
use Rattle.ir_tree.specs.declared.function.Function.{Function}
use Rattle.ir_tree.specs.declared.function.Param.{Param}
use Rattle.ir_tree.specs.declared.instr.Incoming.{Incoming}
use Rattle.ir_tree.specs.declared.instr.Line.{Line}
use Rattle.ir_tree.specs.declared.instr.Phi.{Phi}
use Rattle.ir_tree.specs.declared.operand.Argument.{Argument}
use Rattle.ir_tree.specs.declared.operand.Operand.{Operand}
use Rattle.ir_tree.specs.declared.operand.Symbol.{Symbol}
use Rattle.ir_meaning.specs.Execute.{Asked, Broke, Effect, Went, evaluate, execute}
use Rattle.ir_meaning.specs.Fault.{Fault, Undefined}
use Rattle.ir_meaning.specs.Frame.{Frame, Locals, Signature, bind, value_of}
use Rattle.ir_meaning.specs.Memory.{Memory, kill}
use Rattle.ir_meaning.specs.Operate.{bits_of}
use Rattle.ir_meaning.specs.declared.event.Event.{Event}
use Rattle.ir_tree.specs.declared.cause.Cause.{Cause}
use Rattle.ir_tree.specs.declared.cause.Cause.TheVariants.{BranchOnPoison, UnreachableReached}
use Rattle.ir_meaning.specs.declared.value.Value.{Value}
use Rattle.ir_meaning.specs.declared.value.Value.TheVariants.{Poison}

-- what a frame does next
pub data Act : Type 0 where
  -- it goes on by itself
  Goes : (frame : Frame) (memory : Memory) (place : ℕ) (events : List Event) → Act
  -- it calls a function of the program, and waits as this frame
  Calls : (callee : Symbol) (arguments : List Value) (frame : Frame) → Act
  -- it returns, and its slots are dead
  Gives : (answer : Option Value) (memory : Memory) → Act
  -- it reaches undefined behaviour or an uninitialised byte
  Breaks : (why : Fault) → Act

abbrev pub with_slot : Option ℕ → List ℕ → List ℕ
with_slot None slots = slots
with_slot (Some k) slots = k ∷ slots

-- the frame after it
abbrev pub apply : Frame → Option ℕ → Effect → Act
apply frame local (Went value slot memory place events) =
    Goes (record frame { locals = bind local value frame.locals; slots = with_slot slot frame.slots }) memory place events
apply frame local (Asked callee arguments) = Calls callee arguments (record frame { awaits = local })
apply frame local (Broke why) = Breaks why

-- ---- terminators

-- what a phi takes on the edge from a block
abbrev pub incoming_value : Signature → Locals → ℕ → List Incoming → Value
incoming_value sig locals from [] = Poison
incoming_value sig locals from (e ∷ es) = if e.from == from then value_of sig locals e.value else incoming_value sig locals from es

-- all phis at once, from the locals before them
abbrev pub phis_bound : Signature → Locals → ℕ → List Phi → Locals → Locals
phis_bound sig locals from [] after = after
phis_bound sig locals from (p ∷ ps) after = (p.local, incoming_value sig locals from p.incoming) ∷ phis_bound sig locals from ps after

abbrev pub find_block : List Block → ℕ → Option Block
find_block [] n = None
find_block (b ∷ bs) n = if b.number == n then Some b else find_block bs n

-- a jump to a block that isn't there, which is never sound, is like `unreachable`
abbrev pub enters_block : Signature → Frame → Memory → ℕ → Option Block → Act
enters_block sig frame memory place None = Breaks (Undefined UnreachableReached)
enters_block sig frame memory place (Some b) =
    Goes (record frame {
      block = b.number;
      rest = b.lines;
      end = b.end;
      locals = phis_bound sig frame.locals frame.block b.phis frame.locals;
    }) memory place []

abbrev pub jumps : Signature → Frame → Memory → ℕ → ℕ → Act
jumps sig frame memory place target = enters_block sig frame memory place (find_block frame.function.blocks target)

abbrev pub case_target : List Case → ℕ → ℕ → ℕ
case_target [] default n = default
case_target (c ∷ cs) default n = if c.bits == n then c.target else case_target cs default n

abbrev pub side : ℕ → ℕ → ℕ → ℕ
side t f zero = f
side t f (suc n) = t

-- where a terminator leads
pub data Exit : Type 0 where
  Leaves : (answer : Option Value) → Exit
  Leads' : (target : ℕ) → Exit
  Stuck : (cause : Cause) → Exit

abbrev pub by_bits : (ℕ → ℕ) → Option ℕ → Exit
by_bits target (Some n) = Leads' (target n)
by_bits target None = Stuck BranchOnPoison

-- to branch on a value asks for a number of this width
abbrev pub by_value : ℕ → (ℕ → ℕ) → Value → Exit
by_value w target v = by_bits target (bits_of w v)

abbrev pub answer_of : (Operand → Value) → Option Argument → Option Value
answer_of value None = None
answer_of value (Some a) = Some (value a.operand)

abbrev pub exit_of : (Operand → Value) → Terminator → Exit
exit_of value (Return argument) = Leaves (answer_of value argument)
exit_of value (Jump target) = Leads' target
exit_of value (Branch condition t f) = by_value 1 (side t f) (value condition)
exit_of value (Switch w operand default cases) = by_value w (case_target cases default) (value operand)
exit_of value Unreachable = Stuck UnreachableReached

abbrev pub exits : Signature → Frame → Memory → ℕ → Exit → Act
exits sig frame memory place (Leaves answer) = Gives answer (kill frame.slots memory)
exits sig frame memory place (Leads' target) = jumps sig frame memory place target
exits sig frame memory place (Stuck cause) = Breaks (Undefined cause)

-- ---- frames

abbrev pub acts : Signature → List ℕ → Frame → List Line → Memory → ℕ → ℕ → Act
acts sig input frame [] memory place choice = exits sig frame memory place (exit_of (value_of sig frame.locals) frame.end)
acts sig input frame (line ∷ rest) memory place choice =
    apply (record frame { rest = rest }) line.local
    (execute sig input memory place choice (evaluate (value_of sig frame.locals) line.instr))

-- what the frame does next, with this input, at this place in it, with this answer to a free choice
unfoldable pub act : Signature → List ℕ → Frame → Memory → ℕ → ℕ → Act
act sig input frame memory place choice = acts sig input frame frame.rest memory place choice

abbrev pub params_bound : List Param → List Value → Locals
params_bound [] values = []
params_bound (p ∷ ps) [] = []
params_bound (p ∷ ps) (v ∷ vs) = (p.local, v) ∷ params_bound ps vs

abbrev pub enter_at : Function → List Block → Locals → Frame
enter_at f [] locals = record { function = f; block = 0; rest = []; end = Unreachable; locals = locals; slots = []; awaits = None }
enter_at f (b ∷ bs) locals = record {
  function = f;
  block = b.number;
  rest = b.lines;
  end = b.end;
  locals = locals;
  slots = [];
  awaits = None;
}

-- the frame of a call
unfoldable pub enter : Function → List Value → Frame
enter f arguments = enter_at f f.blocks (params_bound f.params arguments)

-- the frame that waited goes on with the answer
unfoldable pub resume : Frame → Option Value → Frame
resume frame answer = record frame { locals = bind frame.awaits answer frame.locals; awaits = None }
