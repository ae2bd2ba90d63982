-- What holds of reading.
use Rattle.std.specs.Prelude.{◌≡◌, ◌⊎◌, ℕ, List}
use Rattle.ir_tree.specs.declared.module.Module.{Module}
use Rattle.ir_tree.specs.Wholes.{IsParsed}
use Rattle.ir_tree.specs.declared.fault_kind.FaultKind.{FaultKind}
use Rattle.ir_parse.specs.Reading.{Reads}
use Rattle.ir_parse.specs.FirstFault.{FirstFault}

-- no bytes are read as two modules, nor with two lists of lines
abbrev pub OneReading : Type 0
OneReading =
    (bytes : List ℕ) (m n : Module) (lines others : List (List ℕ)) → Reads bytes m lines → Reads bytes n others → (m ≡ n) × (lines ≡ others)

-- what is read has no fault
abbrev pub Apart : Type 0
Apart = (bytes : List ℕ) (m : Module) (lines : List (List ℕ)) (line : ℕ) (kind : FaultKind) → Reads bytes m lines → FirstFault bytes line kind → ⊥

abbrev pub OneFault : Type 0
OneFault =
    (bytes : List ℕ) (line here : ℕ) (kind other : FaultKind) → FirstFault bytes line kind → FirstFault bytes here other → (line ≡ here) × (kind ≡ other)

-- all bytes are read, or have a first fault
abbrev pub Decided : Type 0
Decided =
    (bytes : List ℕ) → ((m : Module) × (lines : List (List ℕ)) × Reads bytes m lines) ⊎ ((line : ℕ) × (kind : FaultKind) × FirstFault bytes line kind)

-- a module that is read is formed, and each of its parts has a line
abbrev pub ReadIsParsed : Type 0
ReadIsParsed = (bytes : List ℕ) (m : Module) (lines : List (List ℕ)) → Reads bytes m lines → IsParsed m lines
