-- Frames that begin and frames that go on behind a call.
use Rattle.std.proofs.Common.{◌≡◌, ◌≢◌, ℕ, ◌<◌, List, [], ◌∷◌, length, slice_get, Option, Some, None, refl, sym, ap, subst, ◌∙◌, arith}
use Rattle.ir_tree.specs.declared.block.Block.{Block as MeantBlock}
use Rattle.ir_tree.specs.declared.function.Function.{Function as MeantFunction}
use Rattle.ir_tree.specs.declared.function.Param.{Param}
use Rattle.ir_tree.specs.declared.operand.Symbol.{Symbol}
use Rattle.ir_meaning.specs.Act.{enter, enter_at, params_bound, resume}
use Rattle.ir_meaning.specs.Frame.{Frame as MeantFrame, Locals, bind}
use Rattle.ir_meaning.specs.Memory.{Memory as MeantMemory}
use Rattle.ir_meaning.specs.Program.{Program}
use Rattle.ir_meaning.specs.declared.value.Value.{Value as MeantValue}
use Rattle.ir_machine.specs.Meant.{symbol_at}
use Rattle.ir_machine.specs.declared.memory.Memory.{Memory}
use Rattle.ir_machine.specs.declared.scalar.Scalar.{Scalar}
use Rattle.ir_interp.specs.Locals.{AreLocals}
use Rattle.ir_interp.specs.declared.registers.Registers.{Registers}
use Rattle.ir_interp.specs.Calls.{all_meant}
use Rattle.ir_interp.specs.Entering.{params_meant}
use Rattle.ir_interp.specs.Code.{IsCode, function_of, locals_of, position}
use Rattle.ir_interp.specs.Frames.{IsFrame, IsOpened}
use Rattle.ir_interp.specs.declared.code.Code.{Code}
use Rattle.ir_interp.specs.declared.code.Function.{Function}
use Rattle.ir_interp.specs.declared.frame.Frame.{Frame}
use Rattle.ir_interp.proofs.Blocks.{no_function, program_function}
use Rattle.ir_interp.proofs.Positions.{first_position, none_dropped}

-- ---- a call that is over

-- no answer binds nothing
pub bound_none : (local : Option ℕ) (locals : Locals) → bind local None locals ≡ locals
bound_none None locals = refl
bound_none (Some x) locals = refl

pub resumed : (names : List Symbol) (p : Program) (m : Memory) (memory : MeantMemory) (f : Frame) (d : MeantFrame) (answer : Option MeantValue) (r' : Registers) → IsFrame names p m memory f d →
    AreLocals names m memory r' (bind d.awaits answer d.locals) → IsFrame names p m memory (record f { registers = r'; awaits = None }) (resume d answer)
unfolding resume
resumed names p m memory f d answer r' h a = record {
  named = h.named;
  called = h.called;
  stands = record {
    block = h.stands.block;
    here = h.stands.here;
    first = h.stands.first;
    number = h.stands.number;
    ends = h.stands.ends;
    rest = h.stands.rest;
    within = h.stands.within;
  };
  reads = a;
  awaits = refl;
}

-- ---- a call that begins

pub bound_params : (ps : List Param) (values : List MeantValue) → params_meant (locals_of ps) values ≡ params_bound ps values
bound_params [] values = refl
bound_params (p ∷ ps) [] = refl
bound_params (p ∷ ps) (v ∷ vs) = ap (λ (ls : Locals). (p.local, v) ∷ ls) (bound_params ps vs)

pub locals_long : (ps : List Param) → length (locals_of ps) ≡ length ps
locals_long [] = refl
locals_long (p ∷ ps) = omega (arith, locals_long ps)

-- the frame of a function with blocks stands at the beginning of the first
entered : (names : List Symbol) (p : Program) (m : Memory) (memory : MeantMemory) (i base : ℕ) (r : Registers) (f : MeantFunction) (blocks : List MeantBlock) (locals : Locals) → f.blocks ≡ blocks → 0 < length blocks →
    i < length names → p.code (symbol_at names i) ≡ Some f → AreLocals names m memory r locals →
    IsFrame names p m memory (record { function = i; block = 0; line = 0; registers = r; base = base; awaits = None }) (enter_at f blocks locals)
entered names p m memory i base r f [] locals is some l e a = absurd (omega (arith, some))
entered names p m memory i base r f (b ∷ bs) locals is some l e a = record {
  named = l;
  called = e;
  stands = record {
    block = b;
    here = ap (λ (xs : List MeantBlock). slice_get xs 0) is;
    first = ap (λ (xs : List MeantBlock). position xs b.number) is ∙ first_position b bs;
    number = refl;
    ends = refl;
    rest = sym (none_dropped b.lines);
    within = omega arith;
  };
  reads = a;
  awaits = refl;
}

pub opened : (names : List Symbol) (p : Program) (m : Memory) (memory : MeantMemory) (code : Code) (i base : ℕ) (r : Registers) (g : Function) (values : List MeantValue) → IsCode names p code → function_of code i ≡ Some g →
    AreLocals names m memory r (params_meant g.params.items values) →
    IsOpened names p m memory i values base (Some (record { function = i; block = 0; line = 0; registers = r; base = base; awaits = None }))
unfolding enter
opened names p m memory code i base r g values c e a =
    let got = program_function names p code i g c e in
    let f = got.0 in
    let locals = params_bound f.params values in
    let reads = subst (λ (ls : Locals). AreLocals names m memory r ls) (ap (λ (xs : List ℕ). params_meant xs values) got.1.2.params ∙ bound_params f.params values) a in
    (f, (got.1.1, entered names p m memory i base r f f.blocks locals refl got.1.2.some got.1.0 got.1.1 reads, refl))

pub opened_nowhere : (names : List Symbol) (p : Program) (m : Memory) (memory : MeantMemory) (code : Code) (i base : ℕ) (values : List MeantValue) → IsCode names p code → function_of code i ≡ None →
    IsOpened names p m memory i values base None
opened_nowhere names p m memory code i base values c e = λ f l is. absurd (cc (sym (no_function names p code i c l e) ∙ is))

pub values_long : (names : List Symbol) (vs : List Scalar) → length (all_meant names vs) ≡ length vs
values_long names [] = refl
values_long names (v ∷ vs) = omega (arith, values_long names vs)

pub opened_otherwise : (names : List Symbol) (p : Program) (m : Memory) (memory : MeantMemory) (code : Code) (i base : ℕ) (g : Function) (vs : List Scalar) → IsCode names p code → function_of code i ≡ Some g →
    length vs ≢ length g.params.items → IsOpened names p m memory i (all_meant names vs) base None
opened_otherwise names p m memory code i base g vs c e other = λ f l is same.
    let got = program_function names p code i g c e in
    let one : got.0 ≡ f = cc (sym got.1.1 ∙ is) in
    let long : length f.params ≡ length got.0.params = ap (λ (x : MeantFunction). length x.params) (sym one) in
    other (omega (arith, same, long, values_long names vs, ap length got.1.2.params, locals_long got.0.params))
