-- What is true of every program that global values mean.
use Rattle.std.specs.Prelude.{◌≡◌, List, length}
use Rattle.ir_tree.specs.Fits.{Fits}
use Rattle.ir_tree.specs.Forms.{Form}
use Rattle.ir_tree.specs.Initials.{Initial}
use Rattle.ir_tree.specs.Layout.{IsLaidOut, size}
use Rattle.ir_tree.specs.Wholes.{IsVerified}
use Rattle.ir_tree.specs.declared.module.GlobalValue.{GlobalValue}
use Rattle.ir_tree.specs.declared.module.Module.{Module}
use Rattle.ir_tree.specs.declared.operand.Operand.{Operand}
use Rattle.ir_meaning.specs.declared.value.Value.{Value}
use Rattle.ir_meaning.specs.Formed.{IsFormed, OpensInside}
use Rattle.ir_meaning.specs.Constants.{initial_bytes}
use Rattle.ir_meaning.specs.Programs.{program_of}
use Rattle.ir_meaning.specs.Runnable.{AreRunnable}

-- a symbol of a variable has a number of the variables
abbrev pub ProgramsAreFormed : Type 0
ProgramsAreFormed = (gs : List GlobalValue) → IsFormed (program_of gs)

-- what a variable begins with points at variables alone, if at memory
abbrev pub ProgramsOpenInside : Type 0
ProgramsOpenInside = (gs : List GlobalValue) → OpensInside (program_of gs)

-- an initialiser that fits a shape within the limits has as many bytes as the shape
abbrev pub InitialisersHaveTheirSize : Type 0
InitialisersHaveTheirSize = (value : Operand → Value) (f : Form) (v : Initial) → Fits f v → IsLaidOut f → length (initial_bytes value f v) ≡ size f

-- the global values of a module that was verified can be run
abbrev pub VerifiedIsRunnable : Type 0
VerifiedIsRunnable = (m : Module) → IsVerified m → AreRunnable m.globals
