-- What reading answers.
use Rattle.std.specs.Prelude.{◌≡◌, ℕ, Bool, List, [], ◌∷◌, Result, Ok, Err}
use Rattle.ir_lex.specs.Tok.{Tok}
use Rattle.ir_parse_parts.specs.declared.fault.TokenFault.{TokenFault}
use Rattle.ir_parse_names.specs.declared.fault.Fault as names
use Rattle.ir_tree.specs.declared.module.Module.{Module}
use Rattle.ir_tree.specs.declared.fault_kind.FaultKind.{FaultKind}
use Rattle.ir_tree.specs.declared.failure.Failure.{Failure}
use Rattle.ir_tree.specs.declared.failure.Failure.TheVariants as errors
use Rattle.ir_parse.specs.declared.fault.ReadFault.{ReadFault}
use Rattle.ir_parse.specs.FirstFault.{end_kind, line_of}
use Rattle.ir_parse.specs.Kinds.{grammar_fault, name_fault}

-- this module with these lines, unless memory ran out
abbrev pub IsRead : Module → List (List ℕ) → Result (Module × List (List ℕ)) (Failure ReadFault) → Type 0
IsRead m lines (Ok read) = (read.0 ≡ m) × (read.1 ≡ lines)
IsRead m lines (Err errors.NoMemory) = Unit {0}
IsRead m lines (Err (errors.Fault f)) = ⊥

-- a fault on this line and of this kind, unless memory ran out
abbrev pub IsRefused : ℕ → FaultKind → Result (Module × List (List ℕ)) (Failure ReadFault) → Type 0
IsRefused line kind (Ok read) = ⊥
IsRefused line kind (Err errors.NoMemory) = Unit {0}
IsRefused line kind (Err (errors.Fault f)) = (f.line ≡ line) × (f.kind ≡ kind)

-- ---- faults as they are made

-- where these tokens are left and the grammar refuses the first of them
abbrev pub stopped_kind : List Tok → Bool → TokenFault → FaultKind
stopped_kind [] whole kind = end_kind whole
stopped_kind (t ∷ rest) whole kind = grammar_fault t kind

abbrev pub IsStopped : List Tok → Bool → ℕ → TokenFault → ReadFault → Type 0
IsStopped rest whole end kind f = (f.line ≡ line_of rest end) × (f.kind ≡ stopped_kind rest whole kind)

abbrev pub IsNameFault : names.Fault → ReadFault → Type 0
IsNameFault fault f = (f.line ≡ fault.line) × (f.kind ≡ name_fault fault.kind)

-- this is the fault of names
abbrev pub IsFaultOf : Result Module names.Fault → ReadFault → Type 0
IsFaultOf r f = (fault : names.Fault) × (r ≡ Err fault) × IsNameFault fault f

-- a module, or this fault of names
abbrev pub Answers : Result Module names.Fault → Result Module (Failure ReadFault) → Type 0
Answers r (Ok m) = r ≡ Ok m
Answers r (Err errors.NoMemory) = Unit {0}
Answers r (Err (errors.Fault f)) = IsFaultOf r f
