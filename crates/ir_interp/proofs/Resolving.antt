-- What a call asks for, by what it was resolved to.
use Rattle.std.proofs.Common.{◌≡◌, ℕ, zero, suc, List, [], Option, length, slice_get, Vec, Global, refl, sym, ap, subst, ◌∙◌}
use Rattle.ir_tree.specs.declared.instr.Line.{Line as MeantLine}
use Rattle.ir_tree.specs.declared.operand.Reg.{Reg}
use Rattle.ir_tree.specs.declared.operand.Symbol.{Symbol}
use Rattle.ir_meaning.specs.Act.{act, acts, apply}
use Rattle.ir_meaning.specs.Execute as execute
use Rattle.ir_meaning.specs.Execute.{Asked, Effect, calls_value, gets_char, puts_char}
use Rattle.ir_meaning.specs.Frame.{Locals, Signature}
use Rattle.ir_meaning.specs.Memory.{Memory as MeantMemory}
use Rattle.ir_meaning.specs.declared.value.Value.{Value as MeantValue}
use Rattle.ir_machine.specs.Meant.{base_meant, meant, symbol_at}
use Rattle.ir_machine.specs.declared.memory.Memory.{Memory}
use Rattle.ir_meaning.specs.Fault as fault
use Rattle.ir_tree.specs.declared.cause.Cause.TheVariants.{CallOfNoFunction}
use Rattle.ir_meaning.specs.declared.value.Base.{Base as MeantBase}
use Rattle.ir_meaning.specs.declared.value.Base.TheVariants as meant_base
use Rattle.ir_meaning.specs.declared.value.Value.TheVariants as value
use Rattle.ir_machine.specs.declared.scalar.Base.{Base}
use Rattle.ir_machine.specs.declared.scalar.Base.TheVariants as base
use Rattle.ir_machine.specs.declared.scalar.Pointer.{Pointer}
use Rattle.ir_machine.specs.declared.scalar.Scalar.{Scalar}
use Rattle.ir_machine.specs.declared.scalar.Scalar.TheVariants as scalar
use Rattle.ir_interp.specs.Locals.{AreLocals, IsKnown, source_meant}
use Rattle.ir_interp.specs.Tasks.{IsTaskKnown, regs_of, task_meant, values_meant}
use Rattle.ir_interp.specs.declared.registers.Registers.{Registers}
use Rattle.ir_interp.specs.declared.source.Source.{Source}
use Rattle.ir_interp.specs.declared.source.Typed.{Typed}
use Rattle.ir_interp.specs.declared.task.Task.{Task}
use Rattle.ir_interp.specs.declared.task.Task.TheVariants as task
use Rattle.ir_interp.specs.Lines.{IsCall}
use Rattle.ir_interp.specs.Calls.{AreKinds, call_effect}
use Rattle.ir_interp.specs.declared.callee.Entity.{Entity}
use Rattle.ir_interp.specs.declared.callee.Resolved.{Resolved}
use Rattle.ir_interp.specs.declared.callee.Resolved.TheVariants as resolved
use Rattle.ir_interp.specs.declared.host.Host.TheVariants as host
use Rattle.ir_interp.specs.declared.line.CodeLine.{CodeLine}
use Rattle.ir_interp.specs.Scenes.{Hears, IsNext, Plays, Scene, TakesSo, Works}
use Rattle.ir_interp.specs.declared.code.Code.{Code}
use Rattle.ir_interp.specs.declared.frame.Frame.{Frame}
use Rattle.ir_interp.proofs.Acting.{line_works}
use Rattle.ir_interp.proofs.Calling.{types_meant_long, value_takes}

-- what `resolve` says of its answer
abbrev pub IsAnswer : List Entity → Registers → Option Reg → Source → List Typed → Resolved → Type 0
IsAnswer entities r result callee passed answer = (names : List Symbol) (m : Memory) (memory : MeantMemory) (locals : Locals) (sig : Signature) (input : List ℕ) (place : ℕ) (values : List MeantValue) → AreKinds names sig entities →
    AreLocals names m memory r locals → IsKnown names m memory callee → calls_value sig input memory place result (regs_of passed) values (source_meant names locals callee) ≡ call_effect names input memory place values answer

-- the effect of the line, by what its call was resolved to
pub call_works : (z : Scene) (code : Code) (m : Memory) (f : Frame) (line : CodeLine) (l : MeantLine) (rest : List MeantLine) (t : Task) (answer : Resolved) (result : Option Reg) (callee : Source) (passed : List Typed) →
    line.task ≡ t → ((locals : Locals) → task_meant z.names locals t ≡ execute.ToCall result (regs_of passed) (values_meant z.names locals passed) (source_meant z.names locals callee)) → Plays z code m f → IsNext z m line l rest →
    IsKnown z.names m z.memory callee → IsAnswer code.entities.items f.registers result callee passed answer →
    (input : List ℕ) (place choice : ℕ) →
    execute.execute z.program.signature input z.memory place choice (task_meant z.names z.frame.locals line.task) ≡ call_effect z.names input z.memory place (values_meant z.names z.frame.locals passed) answer
call_works z code m f line l rest t answer result callee passed is task s next known h input place choice =
    ap (λ (x : Task). execute.execute z.program.signature input z.memory place choice (task_meant z.names z.frame.locals x)) is
    ∙ ap (λ (x : execute.Task). execute.execute z.program.signature input z.memory place choice x) (task z.frame.locals)
    ∙ h z.names m z.memory z.frame.locals z.program.signature input place (values_meant z.names z.frame.locals passed) s.code.kinds s.frame.reads known

pub call_known : (z : Scene) (m : Memory) (line : CodeLine) (l : MeantLine) (rest : List MeantLine) (t : Task) → line.task ≡ t → IsNext z m line l rest → IsTaskKnown z.names m z.memory t
call_known z m line l rest t is next = subst (λ (x : Task). IsTaskKnown z.names m z.memory x) is next.known

to_local : (z : Scene) (m : Memory) (choice : ℕ) (given : Option (Option ℕ)) (line : CodeLine) (l : MeantLine) (rest : List MeantLine) (effect : ℕ → Effect) → IsNext z m line l rest → Works z choice given l.local rest effect → Works z choice given line.local rest effect
to_local z m choice given line l rest effect next w = subst (λ (o : Option ℕ). Works z choice given o rest effect) (sym next.is.local) w

-- the line has the effect of the call
pub works_so : (z : Scene) (m : Memory) (choice : ℕ) (given : Option (Option ℕ)) (line : CodeLine) (l : MeantLine) (rest : List MeantLine) (values : List MeantValue) (answer : Resolved) (effect : ℕ → Effect) → IsNext z m line l rest →
    ((input : List ℕ) (place : ℕ) → execute.execute z.program.signature input z.memory place choice (task_meant z.names z.frame.locals line.task) ≡ call_effect z.names input z.memory place values answer) →
    ((input : List ℕ) (place : ℕ) → call_effect z.names input z.memory place values answer ≡ effect place) → Works z choice given line.local rest effect
works_so z m choice given line l rest values answer effect next h same =
    to_local z m choice given line l rest effect next (line_works z m choice given line l rest effect next (λ input place. h input place ∙ same input place))

pub hears_so : (z : Scene) (m : Memory) (line : CodeLine) (l : MeantLine) (rest : List MeantLine) (values : List MeantValue) → IsNext z m line l rest →
    ((input : List ℕ) (place choice : ℕ) → execute.execute z.program.signature input z.memory place choice (task_meant z.names z.frame.locals line.task) ≡ call_effect z.names input z.memory place values (resolved.Host host.GetChar)) →
    Hears z line.local rest
unfolding act
hears_so z m line l rest values next h = λ input place choice.
    ap (λ (ls : List MeantLine). acts z.program.signature input z.frame ls z.memory place choice) next.next
    ∙ ap (λ (t : execute.Task). apply (record z.frame { rest = rest }) l.local (execute.execute z.program.signature input z.memory place choice t)) (sym (next.is.task z.frame.locals))
    ∙ ap (λ (x : Effect). apply (record z.frame { rest = rest }) l.local x) (h input place choice)
    ∙ ap (λ (o : Option ℕ). apply (record z.frame { rest = rest }) o (gets_char z.memory place (slice_get input place))) (sym next.is.local)

-- the function that is called takes as many parameters
pub takes_so : (z : Scene) (code : Code) (m : Memory) (f : Frame) (result : Option Reg) (callee : Source) (passed : List Typed) (i : ℕ) → Plays z code m f → IsKnown z.names m z.memory callee →
    IsAnswer code.entities.items f.registers result callee passed (resolved.Function i) → TakesSo z.program (symbol_at z.names i) (length passed)
takes_so z code m f result callee passed i s known h =
    subst (λ (n : ℕ). TakesSo z.program (symbol_at z.names i) n) (types_meant_long passed)
    (value_takes z.program [] z.memory 0 result (regs_of passed) [] (source_meant z.names z.frame.locals callee) (symbol_at z.names i) []
    (h z.names m z.memory z.frame.locals z.program.signature [] 0 [] s.code.kinds s.frame.reads known))

pub no_call : (t : Task) → ((result : Option Reg) (callee : Source) (passed : Vec Typed Global) → t ≡ task.Call result callee passed → ⊥) → IsCall t → ⊥
no_call (task.Compute c) h call = call
no_call (task.Reserve size align) h call = call
no_call (task.Store reg value address align) h call = call
no_call (task.Call result callee passed) h call = h result callee passed refl

-- ---- what is called that is no function

pub calls_no_pointer : (names : List Symbol) (sig : Signature) (input : List ℕ) (memory : MeantMemory) (place : ℕ) (result : Option Reg) (regs : List Reg) (values : List MeantValue) (v : Scalar) →
    ((p : Pointer) → v ≡ scalar.Pointer p → ⊥) → calls_value sig input memory place result regs values (meant names v) ≡ execute.Broke (fault.Undefined CallOfNoFunction)
calls_no_pointer names sig input memory place result regs values (scalar.Number n) h = refl
calls_no_pointer names sig input memory place result regs values scalar.Poison h = refl
calls_no_pointer names sig input memory place result regs values (scalar.Pointer p) h = absurd (h p refl)

pub calls_no_function : (names : List Symbol) (sig : Signature) (input : List ℕ) (memory : MeantMemory) (place : ℕ) (result : Option Reg) (regs : List Reg) (values : List MeantValue) (b : Base) (offset : ℕ) →
    ((i : ℕ) → b ≡ base.Function i → ⊥) → calls_value sig input memory place result regs values (value.Pointer (base_meant names b) offset) ≡ execute.Broke (fault.Undefined CallOfNoFunction)
calls_no_function names sig input memory place result regs values base.Null offset h = refl
calls_no_function names sig input memory place result regs values (base.Block handle) offset h = refl
calls_no_function names sig input memory place result regs values (base.Function i) offset h = absurd (h i refl)

pub calls_no_start : (sig : Signature) (input : List ℕ) (memory : MeantMemory) (place : ℕ) (result : Option Reg) (regs : List Reg) (values : List MeantValue) (b : MeantBase) (offset : ℕ) →
    (offset ≡ 0 → ⊥) → calls_value sig input memory place result regs values (value.Pointer b offset) ≡ execute.Broke (fault.Undefined CallOfNoFunction)
calls_no_start sig input memory place result regs values (meant_base.Code s) zero h = absurd (h refl)
calls_no_start sig input memory place result regs values (meant_base.Code s) (suc n) h = refl
calls_no_start sig input memory place result regs values (meant_base.Cell k) offset h = refl
calls_no_start sig input memory place result regs values meant_base.Nowhere offset h = refl
