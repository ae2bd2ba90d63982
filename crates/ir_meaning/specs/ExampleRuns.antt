-- Small programs run through the definitions: every cause, calls, memory, phis, input and output.
use Rattle.std.specs.Prelude.{◌≡◌, ℕ, true, false, if◌then◌else◌, List, [], ◌∷◌, replicate, Option, Some, None}
use Rattle.ir_tree.specs.declared.block.Block.{Block}
use Rattle.ir_tree.specs.declared.block.Terminator.{Terminator}
use Rattle.ir_tree.specs.declared.block.Terminator.TheVariants.{Branch, Jump, Return, Switch, Unreachable}
use Rattle.ir_tree.specs.declared.function.Function.{Function}
use Rattle.ir_tree.specs.declared.function.Linkage.TheVariants.{External}
use Rattle.ir_tree.specs.declared.function.Param.{Param}
use Rattle.ir_tree.specs.declared.instr.BinaryOp.TheVariants.{Add, Mul, Sdiv, Shl, Udiv}
use Rattle.ir_tree.specs.declared.instr.Flags.{Flags}
use Rattle.ir_tree.specs.declared.instr.Instr.{Instr}
use Rattle.ir_tree.specs.declared.instr.Instr.TheVariants.{Alloca, Binary, Call, Icmp, Load, Phi as StrayPhi, Store}
use Rattle.ir_tree.specs.declared.instr.Line.{Line}
use Rattle.ir_tree.specs.declared.instr.Phi.{Phi}
use Rattle.ir_tree.specs.declared.instr.Predicate.TheVariants.{Eq}
use Rattle.ir_tree.specs.declared.operand.Argument.{Argument}
use Rattle.ir_tree.specs.declared.operand.Operand.{Operand}
use Rattle.ir_tree.specs.declared.operand.Operand.TheVariants.{Local, Null, Number as Constant, Poison as PoisonOf, Symbol as Named}
use Rattle.ir_tree.specs.declared.operand.Reg.{Reg}
use Rattle.ir_tree.specs.declared.operand.Reg.TheVariants.{Int, Ptr}
use Rattle.ir_tree.specs.declared.operand.Symbol.{Symbol}
use Rattle.ir_meaning.specs.Fault.{Fault, Undefined, Uninit}
use Rattle.ir_meaning.specs.Frame.{AFunction, AHost, AVariable, GetChar, SymbolKind, Missing, PutChar}
use Rattle.ir_meaning.specs.Memory.{MemoryBlock}
use Rattle.ir_meaning.specs.Program.{Program, State}
use Rattle.ir_meaning.specs.Run.{Failed, Ran, Returned, Running, run, start}
use Rattle.ir_tree.specs.Symbols.{symbol_eq}
use Rattle.ir_meaning.specs.declared.event.Event.TheVariants.{ReadByte, ReadEnd, Wrote}
use Rattle.ir_tree.specs.declared.cause.Cause.TheVariants.{BadPointer, BranchOnPoison, CallOfAnotherType, CallOfNoFunction, DivisionByZero, DivisionOverflow, Misaligned, OutOfBounds, PoisonArgument, PoisonDivisor, StoreToConstant, UnreachableReached}
use Rattle.ir_meaning.specs.declared.value.Byte.TheVariants.{Plain}
use Rattle.ir_meaning.specs.declared.value.Value.{Value}
use Rattle.ir_meaning.specs.declared.value.Value.TheVariants.{Number, Poison}
use Rattle.ir_tree.specs.Forms.{int}

-- ---- how the programs are written

abbrev pub named_by : List ℕ → Symbol
named_by name = record { home = None; name = name }

-- @f, @g, @putchar, @getchar, and the constant @k
abbrev pub sym_f : Symbol
sym_f = named_by (102 ∷ [])

abbrev pub sym_g : Symbol
sym_g = named_by (103 ∷ [])

abbrev pub sym_putchar : Symbol
sym_putchar = named_by (112 ∷ 117 ∷ 116 ∷ 99 ∷ 104 ∷ 97 ∷ 114 ∷ [])

abbrev pub sym_getchar : Symbol
sym_getchar = named_by (103 ∷ 101 ∷ 116 ∷ 99 ∷ 104 ∷ 97 ∷ 114 ∷ [])

abbrev pub sym_k : Symbol
sym_k = named_by (107 ∷ [])

abbrev pub no_flags : Flags
no_flags = record { nuw = false; nsw = false; exact = false }

abbrev pub i32 : Reg
i32 = Int 32

abbrev pub const : ℕ → Operand
const n = Constant 32 n

abbrev pub poison : Operand
poison = PoisonOf i32

abbrev pub the : Operand → Argument
the o = record { reg = i32; operand = o }

abbrev pub address : Operand → Argument
address o = record { reg = Ptr; operand = o }

-- %n = i, and i alone
abbrev pub sets : ℕ → Instr → Line
sets n i = record { local = Some n; instr = i }

abbrev pub does : Instr → Line
does i = record { local = None; instr = i }

abbrev pub calls : Symbol → List Argument → Instr
calls s arguments = Call (Some i32) (Named s 0) arguments

abbrev pub returns : Operand → Terminator
returns o = Return (Some (the o))

abbrev pub block : ℕ → List Phi → List Line → Terminator → Block
block n phis lines end = record { number = n; phis = phis; lines = lines; end = end }

-- a phi of two edges
abbrev pub phi : ℕ → ℕ → Operand → ℕ → Operand → Phi
phi n from o from' o' = record {
  local = n;
  reg = i32;
  incoming = record { from = from; value = o } ∷ record { from = from'; value = o' } ∷ [];
}

abbrev pub defines : Symbol → List Param → Option Reg → List Block → Function
defines s params result blocks = record {
  symbol = s;
  linkage = External;
  result = result;
  params = params;
  noinline = false;
  optnone = false;
  blocks = blocks;
}

-- a function without parameters, of one block
abbrev pub straight : Symbol → List Line → Terminator → Function
straight s lines end = defines s [] (Some i32) (block 0 [] lines end ∷ [])

-- ---- programs of functions, the two hosts, and the constant @k, an i32 with the value 7

abbrev pub regs_in : List Param → List Reg
regs_in [] = []
regs_in (p ∷ ps) = p.reg ∷ regs_in ps

abbrev pub other_kind : Symbol → SymbolKind
other_kind s =
    if symbol_eq s sym_putchar then AHost PutChar
    else (if symbol_eq s sym_getchar then AHost GetChar
    else (if symbol_eq s sym_k then AVariable 0 else Missing))

abbrev pub kind_in : List Function → Symbol → SymbolKind
kind_in [] s = other_kind s
kind_in (f ∷ fs) s = if symbol_eq f.symbol s then AFunction (regs_in f.params) f.result else kind_in fs s

abbrev pub code_in : List Function → Symbol → Option Function
code_in [] s = None
code_in (f ∷ fs) s = if symbol_eq f.symbol s then Some f else code_in fs s

abbrev pub constant_seven : MemoryBlock
constant_seven = record { size = 4; align = 4; bytes = Plain 7 ∷ Plain 0 ∷ Plain 0 ∷ Plain 0 ∷ []; live = true; writable = false }

abbrev pub program : List Function → Program
program fs = record { signature = record { kind = kind_in fs }; code = code_in fs; opening = constant_seven ∷ [] }

-- the run of @f without arguments on this input, by choices 0, of at most so many steps
abbrev pub ran_from : Program → List ℕ → ℕ → Option State → Ran
ran_from p input most None = record { steps = 0; trace = []; ending = Running }
ran_from p input most (Some s) = run p input (replicate most 0) s

abbrev pub ran : List Function → List ℕ → ℕ → Ran
ran fs input most = ran_from (program fs) input most (start (program fs) sym_f [])

-- @f of these lines and this end fails so at its instruction n
abbrev pub FailsAt : List Line → Terminator → Fault → ℕ → Type 0
FailsAt lines end why n = (ran (straight sym_f lines end ∷ []) [] 9).ending ≡ Failed
    (record { why = why; at = record { symbol = sym_f; instruction = n } })

abbrev pub Answers : List Line → Operand → Value → Type 0
Answers lines o v = (ran (straight sym_f lines (returns o) ∷ []) [] 9).ending ≡ Returned (Some v)

-- ---- a call, a slot, and output

-- adds 60
abbrev pub adds_60 : Function
adds_60 = defines sym_g (record { local = 0; reg = i32 } ∷ []) (Some i32)
    (block 1 [] (sets 2 (Binary Add no_flags 32 (Local 0) (const 60)) ∷ []) (returns (Local 2)) ∷ [])

-- stores 5, loads it, calls @g, writes the answer and returns it
abbrev pub writes_65 : Function
writes_65 = straight sym_f
    (sets 1 (Alloca (int 32) 4) ∷ does (Store i32 (const 5) (Local 1) 4) ∷ sets 2 (Load i32 (Local 1) 4) ∷ sets 3
    (calls sym_g (the (Local 2) ∷ [])) ∷ sets 4 (calls sym_putchar (the (Local 3) ∷ [])) ∷ [])
    (returns (Local 3))

-- ---- a loop over the input

-- counts the bytes of the input
abbrev pub counts_input : Function
counts_input = defines sym_f [] (Some i32)
    (block 0 [] [] (Jump 1)
    ∷ block 1 (phi 2 0 (const 0) 1 (Local 5) ∷ [])
    (sets 3 (calls sym_getchar []) ∷ sets 4 (Icmp Eq i32 (Local 3) (const 4294967295)) ∷ sets 5
    (Binary Add no_flags 32 (Local 2) (const 1)) ∷ []) (Branch (Local 4) 6 1)
    ∷ block 6 [] [] (returns (Local 2))
    ∷ [])

-- two phis change places at once: 1 and 2 become 2 and 1, and 10 * 2 + 1 is returned
abbrev pub swaps : Function
swaps = defines sym_f [] (Some i32)
    (block 0 [] [] (Jump 1)
    ∷ block 1 (phi 2 0 (const 1) 1 (Local 3) ∷ phi 3 0 (const 2) 1 (Local 2) ∷ phi 4 0 (const 0) 1 (const 1) ∷ []) []
    (Switch 32 (Local 4) 5 (record { reg = i32; width = 32; bits = 0; target = 1 } ∷ []))
    ∷ block 5 [] (sets 6 (Binary Mul no_flags 32 (Local 2) (const 10)) ∷ sets 7
    (Binary Add no_flags 32 (Local 6) (Local 3)) ∷ []) (returns (Local 7))
    ∷ [])

-- divides by zero in its second block, behind a phi: the place is counted over blocks, phis and terminators
abbrev pub fails_later : Function
fails_later = defines sym_f [] (Some i32)
    (block 0 [] (sets 1 (Binary Add no_flags 32 (const 1) (const 2)) ∷ []) (Jump 2)
    ∷ block 2 (record { local = 3; reg = i32; incoming = record { from = 0; value = Local 1 } ∷ [] } ∷ [])
    (sets 4 (Binary Add no_flags 32 (Local 3) (const 1)) ∷ sets 5 (Binary Udiv no_flags 32 (Local 4) (const 0)) ∷ [])
    (returns (Local 5))
    ∷ [])

-- goes round for ever
abbrev pub endless : Function
endless = defines sym_f [] None (block 0 [] [] (Jump 1) ∷ block 1 [] [] (Jump 1) ∷ [])

-- returns the address of its slot
abbrev pub leaks : Function
leaks = defines sym_g [] (Some Ptr) (block 0 [] (sets 1 (Alloca (int 32) 4) ∷ []) (Return (Some (address (Local 1)))) ∷ [])

-- loads from the slot of a call that is over
abbrev pub loads_dead : Function
loads_dead = straight sym_f (sets 1 (Call (Some Ptr) (Named sym_g 0) []) ∷ sets 2 (Load i32 (Local 1) 4) ∷ []) (returns (Local 2))

abbrev pub slot : Line
slot = sets 1 (Alloca (int 32) 4)

pub record ExampleRuns : Type 0 where
  pub call_slot_and_output : ran (writes_65 ∷ adds_60 ∷ []) [] 8 ≡ record {
    steps = 8;
    trace = Wrote 65 ∷ [];
    ending = Returned (Some (Number 65));
  }
  pub three_steps_of_it : (ran (writes_65 ∷ adds_60 ∷ []) [] 3).ending ≡ Running
  pub loop_over_input : ran (counts_input ∷ []) (7 ∷ 8 ∷ [])
      20 ≡ record { steps = 14; trace = ReadByte 7 ∷ ReadByte 8 ∷ ReadEnd ∷ []; ending = Returned (Some (Number 2)) }
  pub phis_at_once : (ran (swaps ∷ []) [] 9).ending ≡ Returned (Some (Number 21))
  pub place_behind_a_phi : (ran (fails_later ∷ []) [] 9).ending ≡ Failed
      (record { why = Undefined DivisionByZero; at = record { symbol = sym_f; instruction = 5 } })
  pub for_ever : ran (endless ∷ []) [] 9 ≡ record { steps = 9; trace = []; ending = Running }
  pub dead_slot : (ran (loads_dead ∷ leaks ∷ []) [] 9).ending ≡ Failed
      (record { why = Undefined BadPointer; at = record { symbol = sym_f; instruction = 2 } })
  pub stored_poison : Answers (slot ∷ does (Store i32 poison (Local 1) 4) ∷ sets 2 (Load i32 (Local 1) 4) ∷ []) (Local 2) Poison
  pub of_a_constant : Answers (sets 1 (Load i32 (Named sym_k 0) 4) ∷ []) (Local 1) (Number 7)
  pub unset_local : Answers [] (Local 9) Poison
  pub missing_symbol : Answers [] (Named (named_by []) 0) Poison
  pub stray_phi : Answers (sets 1 (StrayPhi i32 []) ∷ []) (Local 1) Poison
  pub putchar_answers_the_byte : Answers (sets 1 (calls sym_putchar (the (const 321) ∷ [])) ∷ []) (Local 1) (Number 65)
  pub unset_slot : FailsAt (slot ∷ sets 2 (Load i32 (Local 1) 4) ∷ []) (returns (Local 2)) Uninit 2
  pub division_overflow : FailsAt (sets 1 (Binary Shl no_flags 32 (const 1) (const 32)) ∷ sets 2
      (Binary Sdiv no_flags 32 (Local 1) (const 4294967295)) ∷ []) (returns (Local 2)) (Undefined DivisionOverflow) 2
  pub poison_divisor : FailsAt (sets 1 (Binary Udiv no_flags 32 (const 1) poison) ∷ []) (returns (Local 1)) (Undefined PoisonDivisor) 1
  pub branch_on_poison : FailsAt [] (Branch (PoisonOf (Int 1)) 0 0) (Undefined BranchOnPoison) 1
  pub switch_on_poison : FailsAt [] (Switch 32 poison 0 []) (Undefined BranchOnPoison) 1
  pub unreachable_reached : FailsAt [] Unreachable (Undefined UnreachableReached) 1
  pub call_of_no_function : FailsAt (does (Call None Null []) ∷ []) (returns (const 0)) (Undefined CallOfNoFunction) 1
  pub call_of_a_variable : FailsAt (does (Call None (Named sym_k 0) []) ∷ []) (returns (const 0)) (Undefined CallOfNoFunction) 1
  pub call_past_a_function : FailsAt (does (Call (Some i32) (Named sym_f 1) []) ∷ []) (returns (const 0)) (Undefined CallOfNoFunction) 1
  pub call_of_another_type : FailsAt (does (Call None (Named sym_f 0) []) ∷ []) (returns (const 0)) (Undefined CallOfAnotherType) 1
  pub poison_argument : FailsAt (sets 1 (calls sym_putchar (the poison ∷ [])) ∷ []) (returns (const 0)) (Undefined PoisonArgument) 1
  pub load_of_null : FailsAt (sets 1 (Load i32 Null 4) ∷ []) (returns (Local 1)) (Undefined BadPointer) 1
  pub store_to_a_function : FailsAt (does (Store i32 (const 1) (Named sym_f 0) 4) ∷ []) (returns (const 0)) (Undefined BadPointer) 1
  pub store_to_constant : FailsAt (does (Store i32 (const 1) (Named sym_k 0) 4) ∷ []) (returns (const 0)) (Undefined StoreToConstant) 1
  pub load_past_the_end : FailsAt (sets 1 (Load i32 (Named sym_k 1) 1) ∷ []) (returns (Local 1)) (Undefined OutOfBounds) 1
  pub store_past_the_end : FailsAt (slot ∷ does (Store (Int 64) (const 1) (Local 1) 8) ∷ []) (returns (const 0)) (Undefined OutOfBounds) 2
  pub misaligned_load : FailsAt (sets 1 (Load (Int 16) (Named sym_k 1) 2) ∷ []) (returns (Local 1)) (Undefined Misaligned) 1
  pub block_of_less_alignment : FailsAt (sets 1 (Load i32 (Named sym_k 0) 8) ∷ []) (returns (Local 1)) (Undefined Misaligned) 1
