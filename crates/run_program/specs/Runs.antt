-- A run of a program: how it ends, and what its outside saw.
use Rattle.std.specs.Prelude.{◌≡◌, ◌⊎◌, ℕ, List, drop, replicate, Option, Some, None, IfSome}
use Rattle.std.specs.Io.KnownBytes.{Appends}
use Rattle.ir_tree.specs.declared.operand.Symbol.{Symbol}
use Rattle.ir_meaning.specs.Program.{Program, State}
use Rattle.ir_meaning.specs.Run.{Ending, Ran, Returned, run}
use Rattle.ir_meaning.specs.declared.value.Value.{Value}
use Rattle.ir_interp.specs.Runs.{HasFedPart, HasSentPart, IsFed, bytes_read, written}
use Rattle.ir_interp.specs.declared.end.RunFault.{RunFault}
use Rattle.ir_interp.specs.declared.end.RunFault.TheVariants as lack
use Rattle.lto_fault.specs.declared.refusal.Refusal.{Refusal}
use Rattle.lto_fault.specs.Pushing.{Hears}
use Rattle.lto_fault.specs.Returned.{returned_text}
use Rattle.lto_fault.specs.declared.returned.Returned as line
use Rattle.lto_outside.specs.Cause.{Rose}
use Rattle.lto_words.specs.declared.list.Decimal.{Decimal}
use Rattle.run_program.specs.Said.{answer_said, ending_refusal}
use Rattle.run_program.specs.Starting.{beginning, result_of, root_of}
use Rattle.run_program.specs.Causes.{Causes, never}
use Rattle.run_program.specs.Streams.{INPUT, Notes, OUTPUT, Streams}

-- ---- a run of a program

-- the run ended so; what it wrote was sent, and what it didn't read is left
pub record EndsSo (ran : Ran) (t : Streams) (bytes : List ℕ) (ending : Ending) : Type 0 where
  pub ended : ran.ending ≡ ending
  pub sent : Appends t.out.told t.out.told_now (written ran.trace)
  pub left : t.input.told_now ≡ Some (drop (bytes_read ran.trace) bytes)

-- the same over what the input gave, whether it tells that or not: the run is the definition's over all bytes that answer its
-- reads so
pub record EndsFed (p : Program) (first : State) (steps : ℕ) (t : Streams) (ending : Ending) : Type 0 where
  pub ran : Ran
  pub fed : IsFed p first steps ran
  pub ended : ran.ending ≡ ending
  pub sent : Appends t.out.told t.out.told_now (written ran.trace)

-- It began, and ended so, over what the input gave. Where the input tells what it has left, the run is the definition's over
-- these bytes, with 0 as every free choice, for at most so many steps.
pub record RunEnds (p : Program) (root : List ℕ) (args : List Decimal) (steps : ℕ) (t : Streams) (ending : Ending) : Type 0 where
  pub first : State
  pub begins : beginning p root args ≡ Some first
  pub fed : EndsFed p first steps t ending
  pub over : IfSome t.input.told (λ bytes. EndsSo (run p bytes (replicate steps 0) first) t bytes ending)

pub record DidEnd (p : Program) (root : List ℕ) (args : List Decimal) (steps : ℕ) (t : Streams) : Type 0 where
  pub ending : Ending
  pub ended : RunEnds p root args steps t ending

-- A run from this state on was given up for this: what was sent is what it writes in some number of steps that is less than so
-- many, over what the input gave. Where the input tells what it has left, that is what these steps leave, or, where memory was
-- refused, what the next one leaves.
pub record StopsSo (p : Program) (first : State) (steps : ℕ) (t : Streams) (why : RunFault) : Type 0 where
  pub fed : HasFedPart p first steps t.out.told t.out.told_now
  pub over : IfSome t.input.told (λ bytes. HasSentPart p first bytes steps why t.input.told_now t.out.told t.out.told_now)

-- it began, and was given up for this
pub record GaveUp (p : Program) (root : List ℕ) (args : List Decimal) (steps : ℕ) (t : Streams) (why : RunFault) : Type 0 where
  pub first : State
  pub begins : beginning p root args ≡ Some first
  pub stops : StopsSo p first steps t why

pub record DidReturn (p : Program) (root : List ℕ) (args : List Decimal) (steps : ℕ) (t : Streams) : Type 0 where
  pub answer : Option Value
  pub ended : RunEnds p root args steps t (Returned answer)

-- it returned, and this is said of its answer
pub record ReturnsSo (p : Program) (root : List ℕ) (args : List Decimal) (steps : ℕ) (t : Streams) (r : line.Returned) : Type 0 where
  pub answer : Option Value
  pub ended : RunEnds p root args steps t (Returned answer)
  pub is : r ≡ answer_said (result_of (root_of p root)) answer

-- it ended otherwise than by returning, and is told so, where symbols are of these files
pub record EndedOtherwise (p : Program) (root : List ℕ) (args : List Decimal) (file : Symbol → List ℕ) (steps : ℕ) (t : Streams) (why : Refusal) : Type 0 where
  pub ending : Ending
  pub ended : RunEnds p root args steps t ending
  pub told : ending_refusal file steps ending ≡ Some why

-- the root is no function that takes the arguments: there is none of its name, a parameter is a pointer, there are more or
-- fewer arguments than parameters, or one is no literal of its width
pub record IsUnfit (p : Program) (root : List ℕ) (args : List Decimal) (t : Streams) (name : List ℕ) : Type 0 where
  pub named : name ≡ root
  pub none : beginning p root args ≡ None
  pub unused : t.unused

-- a read failed
pub record CannotTake (p : Program) (root : List ℕ) (args : List Decimal) (steps : ℕ) (t : Streams) (name : List ℕ) : Type 0 where
  pub named : name ≡ INPUT
  pub rose : Rose t.input.faults t.input.faults_now
  pub gave_up : GaveUp p root args steps t lack.In

-- a push failed
pub record CannotSend (p : Program) (root : List ℕ) (args : List Decimal) (steps : ℕ) (t : Streams) (name : List ℕ) : Type 0 where
  pub named : name ≡ OUTPUT
  pub rose : Rose t.out.faults t.out.faults_now
  pub gave_up : GaveUp p root args steps t lack.Out

-- the answers of a run of the program; memory may run out before it, in it, or where its ending is told
abbrev pub run_causes : Program → List ℕ → List Decimal → (Symbol → List ℕ) → ℕ → Streams → Causes
run_causes p root args file steps t = record never {
  done = DidReturn p root args steps t;
  unread = CannotTake p root args steps t;
  unfit = IsUnfit p root args t;
  unwritten = CannotSend p root args steps t;
  unreturned = EndedOtherwise p root args file steps t;
  memory = t.unused ⊎ (GaveUp p root args steps t lack.NoMemory ⊎ DidEnd p root args steps t);
}

-- what is said where it returned
pub record Said (p : Program) (root : List ℕ) (args : List Decimal) (steps : ℕ) (t : Streams) (notes : Notes) : Type 0 where
  pub value : line.Returned
  pub returns : ReturnsSo p root args steps t value
  pub hears : Hears notes.stream (returned_text value)
