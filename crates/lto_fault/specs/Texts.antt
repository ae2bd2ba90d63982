-- The text of each refusal.
use Rattle.std.specs.Prelude.{ℕ, List, ◌++◌, codes, decimal}
use Rattle.ir_tree.specs.Names.{quoted}
use Rattle.ir_tree.specs.declared.fault_kind.FaultKind.{FaultKind}
use Rattle.ir_tree.specs.declared.fault_kind.FaultKind.TheVariants as fault
use Rattle.ir_tree.specs.declared.rule.Rule.{Rule}
use Rattle.ir_tree.specs.declared.rule.Rule.TheVariants as rule
use Rattle.ir_tree.specs.declared.cause.Cause.{Cause}
use Rattle.ir_tree.specs.declared.cause.Cause.TheVariants.{DivisionByZero, DivisionOverflow, PoisonDivisor, BranchOnPoison, UnreachableReached, CallOfNoFunction, CallOfAnotherType, PoisonArgument, BadPointer, StoreToConstant, OutOfBounds, Misaligned}
use Rattle.lto_fault.specs.declared.kind.RefusalKind.{RefusalKind}
use Rattle.lto_fault.specs.declared.kind.RefusalKind.TheVariants.{Unread, Unsound, BadLine}
use Rattle.lto_fault.specs.declared.refusal.Refusal.{Refusal}
use Rattle.lto_fault.specs.declared.refusal.Refusal.TheVariants.{Usage, ReadFault, Refused, TargetClash, DuplicateSymbol, KindClash, UndefinedSymbol, NoExport, NameTaken, BadArguments, WriteFault, NoMemory, Undefined, Uninit, OutOfSteps}
use Rattle.ir_tree.specs.declared.target_line.TargetLine.{TargetLine}
use Rattle.ir_tree.specs.declared.target_line.TargetLine.TheVariants.{Datalayout, Triple}

abbrev pub cause_text : Cause → List ℕ
cause_text DivisionByZero = codes "division by zero"
cause_text DivisionOverflow = codes "division overflow"
cause_text PoisonDivisor = codes "poison divisor"
cause_text BranchOnPoison = codes "branch on poison"
cause_text UnreachableReached = codes "unreachable reached"
cause_text CallOfNoFunction = codes "call of no function"
cause_text CallOfAnotherType = codes "call of another type"
cause_text PoisonArgument = codes "poison argument"
cause_text BadPointer = codes "bad pointer"
cause_text StoreToConstant = codes "store to constant"
cause_text OutOfBounds = codes "out of bounds"
cause_text Misaligned = codes "misaligned"

abbrev pub fault_text : FaultKind → List ℕ
fault_text fault.Lex = codes "bad token"
fault_text fault.Syntax = codes "syntax"
fault_text (fault.Profile word) = codes "not in the profile: " ++ word
fault_text fault.Number = codes "number out of range"
fault_text fault.Limit = codes "limit passed"
fault_text fault.Twice = codes "name defined twice"
fault_text fault.Unknown = codes "unknown name"
fault_text fault.Layout = codes "layout not supported"
fault_text fault.Index = codes "bad index"

abbrev pub rule_text : Rule → List ℕ
rule_text rule.TypeMismatch = codes "type mismatch"
rule_text rule.NotAvailable = codes "name not available"
rule_text rule.PhiEdges = codes "phi edges"
rule_text rule.PhiPlace = codes "phi place"
rule_text rule.EntryBranch = codes "branch to entry"
rule_text rule.Index = codes "bad index"
rule_text rule.Cast = codes "bad cast"
rule_text rule.CaseTwice = codes "case twice"

abbrev pub kind_text : RefusalKind → List ℕ
kind_text (Unread fault) = fault_text fault
kind_text (Unsound rule) = rule_text rule
kind_text BadLine = codes "bad list line"

abbrev pub target_text : TargetLine → List ℕ
target_text Datalayout = codes "datalayout"
target_text Triple = codes "triple"

-- a symbol as it is printed
unfoldable pub symbol_text : List ℕ → List ℕ
symbol_text name = codes "@" ++ quoted name

-- two files that clash
unfoldable pub in_both : List ℕ → List ℕ → List ℕ
in_both first second = codes " in " ++ first ++ codes " and " ++ second

-- the files in which a symbol is a function and a variable
unfoldable pub as_function : List ℕ → List ℕ
as_function file = codes " is a function in " ++ file

unfoldable pub as_variable : List ℕ → List ℕ
as_variable file = codes " and a variable in " ++ file

unfoldable pub in_function : List ℕ → List ℕ → List ℕ
in_function function file = codes " in " ++ symbol_text function ++ codes " of " ++ file

unfoldable pub at_instruction : ℕ → List ℕ
at_instruction instruction = codes " at instruction " ++ decimal instruction

-- where a run ended
unfoldable pub place_text : List ℕ → List ℕ → ℕ → List ℕ
place_text function file instruction = in_function function file ++ at_instruction instruction

abbrev pub message_text : Refusal → List ℕ
message_text Usage = codes "usage"
message_text (ReadFault name) = codes "cannot read " ++ name
message_text (Refused file line kind) = file ++ codes ":" ++ decimal line ++ codes ": " ++ kind_text kind
message_text (TargetClash target first second) = codes "target " ++ target_text target ++ codes " differs" ++ in_both first second
message_text (DuplicateSymbol name first second) = codes "duplicate symbol " ++ symbol_text name ++ in_both first second
message_text (KindClash name function variable) = symbol_text name ++ as_function function ++ as_variable variable
message_text (UndefinedSymbol name file) = codes "undefined symbol " ++ symbol_text name ++ codes " in " ++ file
message_text (NoExport name) = codes "no definition of exported " ++ symbol_text name
message_text (NameTaken name) = codes "name taken: " ++ symbol_text name
message_text (BadArguments name) = codes "wrong arguments for " ++ symbol_text name
message_text (WriteFault name) = codes "cannot write " ++ name
message_text NoMemory = codes "out of memory"
message_text (Undefined function file instruction cause) = codes "undefined behaviour" ++ place_text function file instruction ++ codes ": " ++ cause_text cause
message_text (Uninit function file instruction) = codes "uninitialised byte read" ++ place_text function file instruction
message_text (OutOfSteps steps) = codes "out of steps after " ++ decimal steps

-- the line that a command ends with
abbrev pub refusal_text : Refusal → List ℕ
refusal_text refusal = codes "thinlto: " ++ message_text refusal ++ codes "\n"
