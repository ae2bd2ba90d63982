-- Instructions: the values of the operands first, and then what is done with them, whatever the frame
-- (LangRef, "Instruction Reference").
use Rattle.std.specs.Prelude.{ℕ, zero, suc, ◌%◌, Bool, true, false, ◌&&◌, ◌==◌, if◌then◌else◌, ℤ, List, [], ◌∷◌, ◌++◌, length, slice_get, Option, Some, None}
use Rattle.ir_tree.specs.Forms.{Form}
use Rattle.ir_tree.specs.Layout.{size as size_of}
use Rattle.ir_tree.specs.declared.instr.BinaryOp.{BinaryOp}
use Rattle.ir_tree.specs.declared.instr.CastOp.{CastOp}
use Rattle.ir_tree.specs.declared.instr.Flags.{Flags}
use Rattle.ir_tree.specs.declared.instr.Instr.{Instr}
use Rattle.ir_tree.specs.declared.instr.Instr.TheVariants.{Address, Alloca, Binary, Call, Cast, Freeze, Icmp, Load, Phi as StrayPhi, Select, Store}
use Rattle.ir_tree.specs.declared.instr.Predicate.{Predicate}
use Rattle.ir_tree.specs.declared.operand.Operand.{Operand}
use Rattle.ir_tree.specs.declared.operand.Reg.{Reg}
use Rattle.ir_tree.specs.declared.operand.Reg.TheVariants.{Int, Ptr}
use Rattle.ir_tree.specs.declared.operand.Symbol.{Symbol}
use Rattle.ir_meaning.specs.Access.{load, store, store_cause}
use Rattle.ir_meaning.specs.Address.{address_of}
use Rattle.ir_meaning.specs.Fault.{Fault, Undefined, Uninit}
use Rattle.ir_meaning.specs.Frame.{AFunction, AHost, AVariable, GetChar, Host, SymbolKind, Missing, PutChar, Signature, indices_of, regs_of, values_of}
use Rattle.ir_meaning.specs.Memory.{Memory, fresh}
use Rattle.ir_meaning.specs.Operate.{Answer, Is, Never, Unwritten, binary, bits_of, cast, compared, frozen, selected}
use Rattle.ir_meaning.specs.Pointers.{compared_pointers}
use Rattle.ir_meaning.specs.declared.event.Event.{Event}
use Rattle.ir_meaning.specs.declared.event.Event.TheVariants.{ReadByte, ReadEnd, Wrote}
use Rattle.ir_tree.specs.declared.cause.Cause.{Cause}
use Rattle.ir_tree.specs.declared.cause.Cause.TheVariants.{CallOfAnotherType, CallOfNoFunction, PoisonArgument}
use Rattle.ir_meaning.specs.declared.value.Base.TheVariants.{Cell, Code}
use Rattle.ir_meaning.specs.declared.value.Value.{Value}
use Rattle.ir_meaning.specs.declared.value.Value.TheVariants.{Number, Pointer, Poison}

-- an instruction with the values of its operands
pub data Task : Type 0 where
  ToBinary : (op : BinaryOp) (flags : Flags) (width : ℕ) (left right : Value) → Task
  ToCompare : (predicate : Predicate) (reg : Reg) (left right : Value) → Task
  ToCast : (op : CastOp) (from to : Reg) (value : Value) → Task
  ToSelect : (condition first second : Value) → Task
  ToFreeze : (reg : Reg) (value : Value) → Task
  ToReserve : (size align : ℕ) → Task
  ToLoad : (reg : Reg) (address : Value) (align : ℕ) → Task
  ToStore : (reg : Reg) (value address : Value) (align : ℕ) → Task
  ToAddress : (inbounds : Bool) (shape : Form) (base : Value) (indices : Option (List ℤ)) → Task
  ToCall : (result : Option Reg) (regs : List Reg) (arguments : List Value) (callee : Value) → Task
  -- a phi behind another instruction, which is never sound
  ToPoison : Task

abbrev pub evaluate : (Operand → Value) → Instr → Task
evaluate value (Binary op flags w left right) = ToBinary op flags w (value left) (value right)
evaluate value (Icmp p reg left right) = ToCompare p reg (value left) (value right)
evaluate value (Cast op from operand to) = ToCast op from to (value operand)
evaluate value (Select c t f) = ToSelect (value c) (value t.operand) (value f.operand)
evaluate value (Freeze reg operand) = ToFreeze reg (value operand)
evaluate value (Alloca shape align) = ToReserve (size_of shape) align
evaluate value (Load reg address align) = ToLoad reg (value address) align
evaluate value (Store reg operand address align) = ToStore reg (value operand) (value address) align
evaluate value (Address inbounds shape base indices) = ToAddress inbounds shape (value base) (indices_of value indices)
evaluate value (Call result callee arguments) = ToCall result (regs_of arguments) (values_of value arguments) (value callee)
evaluate value (StrayPhi reg incoming) = ToPoison

-- what an instruction does, whatever the frame
pub data Effect : Type 0 where
  -- it goes on, with a value or none, a new stack slot or none, and what was shown
  Went : (value : Option Value) (slot : Option ℕ) (memory : Memory) (place : ℕ) (events : List Event) → Effect
  -- a function of the program is called
  Asked : (callee : Symbol) (arguments : List Value) → Effect
  Broke : (why : Fault) → Effect

abbrev pub gives : Memory → ℕ → Answer → Effect
gives memory place (Is v) = Went (Some v) None memory place []
gives memory place (Never cause) = Broke (Undefined cause)
gives memory place Unwritten = Broke Uninit

abbrev pub stores : ℕ → Cause → Option Memory → Effect
stores place cause None = Broke (Undefined cause)
stores place cause (Some memory) = Went None None memory place []

abbrev pub compares : Memory → ℕ → Predicate → Reg → Value → Value → Value
compares memory choice p (Int w) v u = compared p w v u
compares memory choice p Ptr v u = compared_pointers memory p v u choice

abbrev pub reg_eq : Reg → Reg → Bool
reg_eq (Int v) (Int w) = v == w
reg_eq Ptr Ptr = true
reg_eq _ _ = false

abbrev pub regs_eq : List Reg → List Reg → Bool
regs_eq [] [] = true
regs_eq (a ∷ more) (b ∷ bs) = reg_eq a b && regs_eq more bs
regs_eq _ _ = false

abbrev pub result_eq : Option Reg → Option Reg → Bool
result_eq None None = true
result_eq (Some a) (Some b) = reg_eq a b
result_eq _ _ = false

-- getchar: the byte of the input at the place, or its end
abbrev pub gets_char : Memory → ℕ → Option ℕ → Effect
gets_char memory place (Some byte) = Went (Some (Number byte)) None memory (suc place) (ReadByte byte ∷ [])
gets_char memory place None = Went (Some (Number 4294967295)) None memory place (ReadEnd ∷ [])

abbrev pub puts_bits : Memory → ℕ → Option ℕ → Effect
puts_bits memory place (Some n) = Went (Some (Number (n % 256))) None memory place (Wrote (n % 256) ∷ [])
puts_bits memory place None = Broke (Undefined PoisonArgument)

-- putchar: the lowest byte of the one argument, which has 32 bits
abbrev pub puts_char : Memory → ℕ → List Value → Effect
puts_char memory place (v ∷ []) = puts_bits memory place (bits_of 32 v)
puts_char memory place _ = Broke (Undefined PoisonArgument)

abbrev pub calls_host : Host → List ℕ → Memory → ℕ → List Value → Effect
calls_host PutChar input memory place values = puts_char memory place values
calls_host GetChar input memory place values = gets_char memory place (slice_get input place)

abbrev pub host_params : Host → List Reg
host_params PutChar = Int 32 ∷ []
host_params GetChar = []

-- a call of a symbol of this kind
abbrev pub calls_kind : SymbolKind → Symbol → List ℕ → Memory → ℕ → Option Reg → List Reg → List Value → Effect
calls_kind (AFunction params result) s input memory place result' regs values =
    if regs_eq params regs && result_eq result result' then Asked s values else Broke (Undefined CallOfAnotherType)
calls_kind (AHost host) s input memory place result' regs values =
    if regs_eq (host_params host) regs && result_eq (Some (Int 32)) result' then calls_host host input memory place values else
    Broke (Undefined CallOfAnotherType)
calls_kind (AVariable number) s input memory place result' regs values = Broke (Undefined CallOfNoFunction)
calls_kind Missing s input memory place result' regs values = Broke (Undefined CallOfNoFunction)

abbrev pub calls_value : Signature → List ℕ → Memory → ℕ → Option Reg → List Reg → List Value → Value → Effect
calls_value sig input memory place result regs values (Pointer (Code s) zero) =
    calls_kind (sig.kind s) s input memory place result regs values
calls_value sig input memory place result regs values _ = Broke (Undefined CallOfNoFunction)

-- with this input, memory, place in the input, and answer to a free choice
abbrev pub execute : Signature → List ℕ → Memory → ℕ → ℕ → Task → Effect
execute sig input memory place choice (ToBinary op flags w v u) = gives memory place (binary op flags w v u)
execute sig input memory place choice (ToCompare p reg v u) = gives memory place (Is (compares memory choice p reg v u))
execute sig input memory place choice (ToCast op from to v) = gives memory place (Is (cast op from to v))
execute sig input memory place choice (ToSelect c v u) = gives memory place (Is (selected c v u))
execute sig input memory place choice (ToFreeze reg v) = gives memory place (Is (frozen reg choice v))
execute sig input memory place choice (ToReserve size align) =
    Went (Some (Pointer (Cell (length memory)) 0)) (Some (length memory)) (memory ++ fresh size align ∷ []) place []
execute sig input memory place choice (ToLoad reg address align) = gives memory place (load memory reg address align)
execute sig input memory place choice (ToStore reg v address align) =
    stores place (store_cause memory reg address) (store memory reg v address align)
execute sig input memory place choice (ToAddress inbounds shape base indices) =
    gives memory place (Is (address_of memory inbounds shape base indices))
execute sig input memory place choice (ToCall result regs values callee) = calls_value sig input memory place result regs values callee
execute sig input memory place choice ToPoison = gives memory place (Is Poison)
