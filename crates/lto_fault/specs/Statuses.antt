-- The status of each refusal.
use Rattle.std.specs.Prelude.{ℕ}
use Rattle.lto_fault.specs.declared.refusal.Refusal.{Refusal}
use Rattle.lto_fault.specs.declared.refusal.Refusal.TheVariants.{Usage, ReadFault, Refused, TargetClash, DuplicateSymbol, KindClash, UndefinedSymbol, NoExport, NameTaken, BadArguments, WriteFault, NoMemory, Undefined, Uninit, OutOfSteps}

abbrev pub status_of : Refusal → ℕ
status_of Usage = 1
status_of (ReadFault name) = 2
status_of (Refused file line kind) = 3
status_of (TargetClash target first second) = 4
status_of (DuplicateSymbol name first second) = 4
status_of (KindClash name function variable) = 4
status_of (UndefinedSymbol name file) = 4
status_of (NoExport name) = 4
status_of (NameTaken name) = 4
status_of (BadArguments name) = 4
status_of (WriteFault name) = 5
status_of NoMemory = 6
status_of (Undefined function file instruction cause) = 7
status_of (Uninit function file instruction) = 8
status_of (OutOfSteps steps) = 9
