-- Calls, against what the definition's frame does.
use Rattle.std.proofs.Common.{◌≡◌, ℕ, zero, suc, Bool, true, false, ◌&&◌, if◌then◌else◌, List, [], ◌∷◌, length, slice_get, Option, Some, None, refl, sym, ap, ◌∙◌, arith}
use Rattle.ir_tree.specs.declared.function.Function.{Function as MeantFunction}
use Rattle.ir_tree.specs.declared.instr.Line.{Line as MeantLine}
use Rattle.ir_tree.specs.declared.operand.Reg.{Reg}
use Rattle.ir_tree.specs.declared.operand.Reg.TheVariants.{Int}
use Rattle.ir_tree.specs.declared.operand.Symbol.{Symbol}
use Rattle.ir_meaning.specs.Act.{Act}
use Rattle.ir_meaning.specs.Execute.{Asked, Broke, calls_host, calls_kind, calls_value, gets_char, host_params, puts_bits, puts_char, reg_eq, regs_eq, result_eq}
use Rattle.ir_meaning.specs.Fault as fault
use Rattle.ir_meaning.specs.Frame.{AFunction, AHost, AVariable, Locals, GetChar, Host, SymbolKind, Missing, PutChar}
use Rattle.ir_meaning.specs.Memory.{Memory as MeantMemory}
use Rattle.ir_meaning.specs.Operate.{bits_of}
use Rattle.ir_meaning.specs.Program as program
use Rattle.ir_meaning.specs.Program.{Next, advance, go_in}
use Rattle.ir_tree.specs.declared.cause.Cause.TheVariants.{CallOfAnotherType, CallOfNoFunction}
use Rattle.ir_meaning.specs.declared.value.Base.TheVariants.{Cell, Code, Nowhere}
use Rattle.ir_meaning.specs.declared.value.Value.{Value}
use Rattle.ir_meaning.specs.declared.value.Value.TheVariants.{Number, Pointer, Poison}
use Rattle.ir_interp.specs.Tasks.{regs_of, values_meant}
use Rattle.ir_interp.specs.declared.source.Typed.{Typed}
use Rattle.ir_interp.specs.Scenes.{Fails, Scene, TakesSo, Works}

types_long : (xs bs : List Reg) → regs_eq xs bs ≡ true → length xs ≡ length bs
types_long [] [] h = refl
types_long [] (b ∷ bs) h = absurd (cc h)
types_long (a ∷ more) [] h = absurd (cc h)
types_long (a ∷ more) (b ∷ bs) h = by (reg_eq a b) h (types_long more bs) where
  by : (v : Bool) → (v && regs_eq more bs) ≡ true → (regs_eq more bs ≡ true → length more ≡ length bs) → suc (length more) ≡ suc (length bs)
  by true k rest = ap suc (rest k)
  by false k rest = absurd (cc k)

bits_ask_none : (memory : MeantMemory) (place : ℕ) (bits : Option ℕ) (s : Symbol) (vs : List Value) → puts_bits memory place bits ≡ Asked s vs → ⊥
bits_ask_none memory place None s vs h = cc h
bits_ask_none memory place (Some n) s vs h = cc h

put_asks_none : (memory : MeantMemory) (place : ℕ) (values : List Value) (s : Symbol) (vs : List Value) → puts_char memory place values ≡ Asked s vs → ⊥
put_asks_none memory place [] s vs h = cc h
put_asks_none memory place (v ∷ []) s vs h = bits_ask_none memory place (bits_of 32 v) s vs h
put_asks_none memory place (v ∷ w ∷ more) s vs h = cc h

get_asks_none : (memory : MeantMemory) (place : ℕ) (byte : Option ℕ) (s : Symbol) (vs : List Value) → gets_char memory place byte ≡ Asked s vs → ⊥
get_asks_none memory place None s vs h = cc h
get_asks_none memory place (Some byte) s vs h = cc h

host_asks_none : (host : Host) (input : List ℕ) (memory : MeantMemory) (place : ℕ) (values : List Value) (s : Symbol) (vs : List Value) → calls_host host input memory place values ≡ Asked s vs → ⊥
host_asks_none PutChar input memory place values s vs h = put_asks_none memory place values s vs h
host_asks_none GetChar input memory place values s vs h = get_asks_none memory place (slice_get input place) s vs h

-- a function that is called takes as many arguments as are passed
kind_takes : (k : SymbolKind) (t : Symbol) (input : List ℕ) (memory : MeantMemory) (place : ℕ) (result : Option Reg) (regs : List Reg) (values : List Value) (s : Symbol) (vs : List Value) →
    calls_kind k t input memory place result regs values ≡ Asked s vs → (t ≡ s) × ((params : List Reg) × ((result' : Option Reg) × ((k ≡ AFunction params result') × (length params ≡ length regs))))
kind_takes (AFunction params result') t input memory place result regs values s vs h = by (regs_eq params regs) refl h where
  by : (v : Bool) → regs_eq params regs ≡ v → (if v && result_eq result' result then Asked t values else Broke (fault.Undefined CallOfAnotherType)) ≡ Asked s vs →
      (t ≡ s) × ((ps : List Reg) × ((r : Option Reg) × ((AFunction params result' ≡ AFunction ps r) × (length ps ≡ length regs))))
  by false e x = absurd (cc x)
  by true e x = inner (result_eq result' result) x where
    inner : (w : Bool) → (if w then Asked t values else Broke (fault.Undefined CallOfAnotherType)) ≡ Asked s vs →
        (t ≡ s) × ((ps : List Reg) × ((r : Option Reg) × ((AFunction params result' ≡ AFunction ps r) × (length ps ≡ length regs))))
    inner false y = absurd (cc y)
    inner true y = (cc y, (params, (result', (refl, types_long params regs e))))
kind_takes (AVariable number) t input memory place result regs values s vs h = absurd (cc h)
kind_takes (AHost host) t input memory place result regs values s vs h = absurd (by (regs_eq (host_params host) regs && result_eq (Some (Int 32)) result) h) where
  by : (v : Bool) → (if v then calls_host host input memory place values else Broke (fault.Undefined CallOfAnotherType)) ≡ Asked s vs → ⊥
  by true x = host_asks_none host input memory place values s vs x
  by false x = cc x
kind_takes Missing t input memory place result regs values s vs h = absurd (cc h)

pub value_takes : (p : program.Program) (input : List ℕ) (memory : MeantMemory) (place : ℕ) (result : Option Reg) (regs : List Reg) (values : List Value) (v : Value) (s : Symbol) (vs : List Value) →
    calls_value p.signature input memory place result regs values v ≡ Asked s vs → TakesSo p s (length regs)
value_takes p input memory place result regs values (Number n) s vs h = absurd (cc h)
value_takes p input memory place result regs values Poison s vs h = absurd (cc h)
value_takes p input memory place result regs values (Pointer Nowhere offset) s vs h = absurd (cc h)
value_takes p input memory place result regs values (Pointer (Cell k) offset) s vs h = absurd (cc h)
value_takes p input memory place result regs values (Pointer (Code t) (suc offset)) s vs h = absurd (cc h)
value_takes p input memory place result regs values (Pointer (Code t) zero) s vs h =
    let got = kind_takes (p.signature.kind t) t input memory place result regs values s vs h in
    (got.1.0, (got.1.1.0, (ap p.signature.kind (sym got.0) ∙ got.1.1.1.0, got.1.1.1.1)))

-- a call of a symbol that has no function ends the run
pub call_fails : (z : Scene) (choice : ℕ) (given : Option (Option ℕ)) (local : Option ℕ) (rest : List MeantLine) (s : Symbol) (values : List Value) →
    Works z choice given local rest (λ place. Asked s values) → z.program.code s ≡ None → Fails z choice given (fault.Undefined CallOfNoFunction)
call_fails z choice given local rest s values w none = λ input place has at below.
    ap (λ (a : Act). advance z.program at below z.memory place a) (w input place has)
    ∙ ap (λ (o : Option MeantFunction). record {
      events = [];
      next = go_in at o values ((record (record z.frame { rest = rest }) { awaits = local }) ∷ below) z.memory place;
    }) none

-- as many values as are passed
pub meant_long : (names : List Symbol) (locals : Locals) (ts : List Typed) → length (values_meant names locals ts) ≡ length ts
meant_long names locals [] = refl
meant_long names locals (t ∷ ts) = omega (arith, meant_long names locals ts)

pub types_meant_long : (ts : List Typed) → length (regs_of ts) ≡ length ts
types_meant_long [] = refl
types_meant_long (t ∷ ts) = omega (arith, types_meant_long ts)
