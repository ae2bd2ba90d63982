-- Where a run of global values' program begins, as it is found in their table.
use Rattle.std.specs.Prelude.{◌≡◌, ℕ, List, All, Option, Some, None}
use Rattle.ir_tree.specs.Rules.{IsInteger}
use Rattle.ir_tree.specs.Wholes.{symbols}
use Rattle.ir_tree.specs.declared.function.Function.{Function}
use Rattle.ir_tree.specs.declared.module.GlobalValue.{GlobalValue}
use Rattle.ir_tree.specs.declared.module.GlobalValue.TheVariants as global
use Rattle.ir_tree.specs.declared.operand.Reg.{Reg}
use Rattle.ir_meaning.specs.Program.{State}
use Rattle.ir_meaning.specs.Run.{start}
use Rattle.ir_machine.specs.Meant.{symbol_at}
use Rattle.ir_meaning.specs.Programs.{program_of, shared}
use Rattle.lto_words.specs.declared.list.Decimal.{Decimal}
use Rattle.ir_interp.specs.Steps.{numbers_meant}
use Rattle.run_program.specs.Starting.{beginning, result_of, root_of}
use Rattle.run_program.specs.declared.root.Begun.{Begun}

abbrev pub function_in : Option GlobalValue → Option Function
function_in None = None
function_in (Some (global.Variable v)) = None
function_in (Some (global.Function f)) = Some f

-- ---- the root

-- the root's symbol has this index, and this is its function
pub record IsRoot (gs : List GlobalValue) (root : List ℕ) (index : ℕ) (f : Function) : Type 0 where
  pub symbol : symbol_at (symbols gs) index ≡ shared root
  pub is : root_of (program_of gs) root ≡ Some f

-- no function of the name takes integers alone
abbrev pub NoRoot : List GlobalValue → List ℕ → Type 0
NoRoot gs root = (f : Function) → root_of (program_of gs) root ≡ Some f → All (λ p. IsInteger p.reg) f.params → ⊥

-- ---- the beginning

abbrev pub begun_with : ℕ → Option Reg → Option (List ℕ) → Option Begun
begun_with index gives None = None
begun_with index gives (Some numbers) = Some (record { index = index; numbers = numbers; gives = gives })

-- a run from the root begins in this state: the function of this index is entered with these numbers
pub record BeginsSo (gs : List GlobalValue) (root : List ℕ) (args : List Decimal) (b : Begun) : Type 0 where
  pub first : State
  pub begins : beginning (program_of gs) root args ≡ Some first
  pub starts : start (program_of gs) (symbol_at (symbols gs) b.index) (numbers_meant b.numbers) ≡ Some first
  pub gives : b.gives ≡ result_of (root_of (program_of gs) root)

abbrev pub IsBegun : List GlobalValue → List ℕ → List Decimal → Option Begun → Type 0
IsBegun gs root args None = beginning (program_of gs) root args ≡ None
IsBegun gs root args (Some b) = BeginsSo gs root args b
