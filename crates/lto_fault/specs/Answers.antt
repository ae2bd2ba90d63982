-- A fact for one answer of a command. On every other answer each word says nothing.
use Rattle.std.specs.Prelude.{ℕ, List, Result, Ok, Err, ⊤}
use Rattle.ir_tree.specs.declared.cause.Cause.{Cause}
use Rattle.lto_fault.specs.declared.kind.RefusalKind.{RefusalKind}
use Rattle.lto_fault.specs.declared.refusal.Refusal.{Refusal}
use Rattle.lto_fault.specs.declared.refusal.Refusal.TheVariants.{Usage, ReadFault, Refused, TargetClash, DuplicateSymbol, KindClash, UndefinedSymbol, NoExport, NameTaken, BadArguments, WriteFault, Undefined, Uninit, OutOfSteps}
use Rattle.ir_tree.specs.declared.target_line.TargetLine.{TargetLine}

abbrev pub OnUsage : {A : Type 0} → Result A Refusal → Type 0 → Type 0
OnUsage (Err Usage) P = P
OnUsage _ P = ⊤

abbrev pub OnReadFault : {A : Type 0} → Result A Refusal → (List ℕ → Type 0) → Type 0
OnReadFault (Err (ReadFault name)) P = P name
OnReadFault _ P = ⊤

abbrev pub OnRefused : {A : Type 0} → Result A Refusal → (List ℕ → ℕ → RefusalKind → Type 0) → Type 0
OnRefused (Err (Refused file line kind)) P = P file line kind
OnRefused _ P = ⊤

abbrev pub OnTargetClash : {A : Type 0} → Result A Refusal → (TargetLine → List ℕ → List ℕ → Type 0) → Type 0
OnTargetClash (Err (TargetClash target first second)) P = P target first second
OnTargetClash _ P = ⊤

abbrev pub OnDuplicateSymbol : {A : Type 0} → Result A Refusal → (List ℕ → List ℕ → List ℕ → Type 0) → Type 0
OnDuplicateSymbol (Err (DuplicateSymbol name first second)) P = P name first second
OnDuplicateSymbol _ P = ⊤

abbrev pub OnKindClash : {A : Type 0} → Result A Refusal → (List ℕ → List ℕ → List ℕ → Type 0) → Type 0
OnKindClash (Err (KindClash name function variable)) P = P name function variable
OnKindClash _ P = ⊤

abbrev pub OnUndefinedSymbol : {A : Type 0} → Result A Refusal → (List ℕ → List ℕ → Type 0) → Type 0
OnUndefinedSymbol (Err (UndefinedSymbol name file)) P = P name file
OnUndefinedSymbol _ P = ⊤

abbrev pub OnNoExport : {A : Type 0} → Result A Refusal → (List ℕ → Type 0) → Type 0
OnNoExport (Err (NoExport name)) P = P name
OnNoExport _ P = ⊤

abbrev pub OnNameTaken : {A : Type 0} → Result A Refusal → (List ℕ → Type 0) → Type 0
OnNameTaken (Err (NameTaken name)) P = P name
OnNameTaken _ P = ⊤

abbrev pub OnBadArguments : {A : Type 0} → Result A Refusal → (List ℕ → Type 0) → Type 0
OnBadArguments (Err (BadArguments name)) P = P name
OnBadArguments _ P = ⊤

abbrev pub OnWriteFault : {A : Type 0} → Result A Refusal → (List ℕ → Type 0) → Type 0
OnWriteFault (Err (WriteFault name)) P = P name
OnWriteFault _ P = ⊤

abbrev pub OnUndefined : {A : Type 0} → Result A Refusal → (List ℕ → List ℕ → ℕ → Cause → Type 0) → Type 0
OnUndefined (Err (Undefined function file instruction cause)) P = P function file instruction cause
OnUndefined _ P = ⊤

abbrev pub OnUninit : {A : Type 0} → Result A Refusal → (List ℕ → List ℕ → ℕ → Type 0) → Type 0
OnUninit (Err (Uninit function file instruction)) P = P function file instruction
OnUninit _ P = ⊤

abbrev pub OnOutOfSteps : {A : Type 0} → Result A Refusal → (ℕ → Type 0) → Type 0
OnOutOfSteps (Err (OutOfSteps steps)) P = P steps
OnOutOfSteps _ P = ⊤

-- for each answer before which nothing was put: all but success and a write fault
abbrev pub OnUnwritten : {A : Type 0} → Result A Refusal → Type 0 → Type 0
OnUnwritten (Ok _) P = ⊤
OnUnwritten (Err (WriteFault name)) P = ⊤
OnUnwritten (Err _) P = P
