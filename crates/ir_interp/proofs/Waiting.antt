-- Frames behind a line that gave a number, and behind a call.
use Rattle.std.proofs.Common.{◌≡◌, ℕ, ◌+◌, ◌<◌, List, ◌∷◌, length, Option, Some, None, refl, sym, subst, ◌∙◌, arith}
use Rattle.ir_tree.specs.declared.function.Function.{Function as MeantFunction}
use Rattle.ir_tree.specs.declared.instr.Line.{Line as MeantLine}
use Rattle.ir_meaning.specs.Execute.{Asked}
use Rattle.ir_meaning.specs.Fault as fault
use Rattle.ir_meaning.specs.Frame.{bind}
use Rattle.ir_tree.specs.declared.cause.Cause.TheVariants.{CallOfNoFunction}
use Rattle.ir_meaning.specs.declared.value.Value.{Value as MeantValue}
use Rattle.ir_meaning.specs.declared.value.Value.TheVariants.{Number}
use Rattle.ir_machine.specs.Meant.{symbol_at}
use Rattle.ir_machine.specs.Memories.{numbers_of}
use Rattle.ir_machine.specs.declared.memory.Memory.{Memory}
use Rattle.ir_interp.specs.Locals.{AreLocals}
use Rattle.ir_interp.specs.Ran.{HasRoom}
use Rattle.ir_interp.specs.declared.registers.Registers.{Registers}
use Rattle.ir_interp.specs.Frames.{IsOpened, IsStanding}
use Rattle.ir_interp.specs.Scenes.{Fails, GoesOn, HasDone, Plays, Scene, TakesSo, Works, with_result}
use Rattle.ir_interp.specs.declared.code.Code.{Code}
use Rattle.ir_interp.specs.declared.frame.Did.TheVariants as did
use Rattle.ir_interp.specs.declared.frame.Frame.{Frame}
use Rattle.ir_interp.proofs.Acting.{next_standing, same_stacked}
use Rattle.ir_interp.proofs.Blocks.{code_function}
use Rattle.ir_interp.proofs.Calling.{call_fails}

-- a line gave a number
pub number_bound : (z : Scene) (code : Code) (m : Memory) (f : Frame) (l : MeantLine) (rest : List MeantLine) (local : Option ℕ) (n number : ℕ) (r' : Registers) → n ≡ f.line + 1 → Plays z code m f → z.frame.rest ≡ l ∷ rest →
    AreLocals z.names m z.memory r' (bind local (Some (Number number)) z.frame.locals) → GoesOn z m m (record f { registers = r'; line = n }) z.memory (with_result z.frame rest local number)
number_bound z code m f l rest local n number r' more s next a =
    let d' = with_result z.frame rest local number in
    record {
      holds = s.holds;
      keeps = λ h x. x;
      frame = record {
        named = s.frame.named;
        called = s.frame.called;
        stands = subst (λ (k : ℕ). IsStanding z.frame.function.blocks d' f.block k) (sym more)
            (next_standing z.frame.function.blocks z.frame d' f.block f.line l rest s.frame.stands next refl refl refl);
        reads = a;
        awaits = s.frame.awaits;
      };
      stacks = same_stacked (numbers_of m.blocks.items) f (record f { registers = r'; line = n }) z.frame d' z.front refl refl s.stacks;
    }

-- a function was called
pub call_entered : (z : Scene) (code : Code) (m : Memory) (choice : ℕ) (given : Option (Option ℕ)) (f callee : Frame) (l : MeantLine) (rest : List MeantLine) (local : Option ℕ) (n i base : ℕ) (r' : Registers) (values : List MeantValue) → n ≡ f.line + 1 → Plays z code m f →
    z.frame.rest ≡ l ∷ rest → AreLocals z.names m z.memory r' z.frame.locals → HasRoom r' local → Works z choice given local rest (λ place. Asked (symbol_at z.names i) values) →
    IsOpened z.names z.program m z.memory i values base (Some callee) → base ≡ length (numbers_of m.blocks.items) →
    HasDone z choice given m m f (record f { registers = r'; line = n; awaits = local }) (did.Enters callee)
call_entered z code m choice given f callee l rest local n i base r' values more s next a room w (g, (called, frame, at)) count =
    let d' = record (record z.frame { rest = rest }) { awaits = local } in
    record {
      symbol = symbol_at z.names i;
      values = values;
      waiting = d';
      function = g;
      acts = w;
      called = called;
      goes = record {
        holds = s.holds;
        keeps = λ h x. x;
        frame = record {
          named = s.frame.named;
          called = s.frame.called;
          stands = subst (λ (k : ℕ). IsStanding z.frame.function.blocks d' f.block k) (sym more)
              (next_standing z.frame.function.blocks z.frame d' f.block f.line l rest s.frame.stands next refl refl refl);
          reads = a;
          awaits = refl;
        };
        stacks = same_stacked (numbers_of m.blocks.items) f (record f { registers = r'; line = n; awaits = local }) z.frame d' z.front refl refl s.stacks;
      };
      room = room;
      frame = frame;
      base = at ∙ count;
    }

-- no function was there
pub call_missing : (z : Scene) (code : Code) (m : Memory) (choice : ℕ) (given : Option (Option ℕ)) (f : Frame) (rest : List MeantLine) (local : Option ℕ) (i base count : ℕ) (values : List MeantValue) → Plays z code m f → i < length z.names →
    TakesSo z.program (symbol_at z.names i) count → length values ≡ count → Works z choice given local rest (λ place. Asked (symbol_at z.names i) values) →
    IsOpened z.names z.program m z.memory i values base None → Fails z choice given (fault.Undefined CallOfNoFunction)
call_missing z code m choice given f rest local i base count values s inside (params, (result, (kind, many))) long w none =
    call_fails z choice given local rest (symbol_at z.names i) values w (by (z.program.code (symbol_at z.names i)) refl)
  where
    by : (o : Option MeantFunction) → z.program.code (symbol_at z.names i) ≡ o → z.program.code (symbol_at z.names i) ≡ None
    by None h = h
    by (Some g) h =
        let got = code_function z.names z.program code i g s.code inside h in
        let same = got.1.1.typed params result kind in
        absurd (none g inside h (omega (arith, same, many, long)))
