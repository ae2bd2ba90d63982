-- Functions in which a run can begin.
use Rattle.std.specs.Prelude.{◌≡◌, ℕ, ◌<◌, Bool, true, false, if◌then◌else◌, List, [], ◌∷◌, length, slice_get, All, Option, Some, None}
use Rattle.ir_tree.specs.Rules.{IsInteger}
use Rattle.ir_tree.specs.declared.function.Function.{Function as MeantFunction}
use Rattle.ir_tree.specs.declared.module.GlobalValue.{GlobalValue}
use Rattle.ir_tree.specs.declared.module.GlobalValue.TheVariants as global
use Rattle.ir_tree.specs.declared.operand.Reg.{Reg}
use Rattle.ir_tree.specs.declared.operand.Reg.TheVariants.{Int, Ptr}
use Rattle.ir_machine.specs.declared.scalar.Base.{Base}
use Rattle.ir_machine.specs.declared.scalar.Base.TheVariants.{Block, Function, Null}
use Rattle.ir_interp.specs.declared.callee.Entity.{Entity}
use Rattle.ir_interp.specs.declared.callee.Entity.TheVariants as entity
use Rattle.ir_meaning.specs.Programs.{defined_blocks, regs_of, shared}

-- the function at an index goes by this name, which modules share, is defined, and takes integers of these types
pub record IsRoot (gs : List GlobalValue) (name : List ℕ) (i : ℕ) (types : List Reg) : Type 0 where
  pub function : MeantFunction
  pub there : slice_get gs i ≡ Some (global.Function function)
  pub named : function.symbol ≡ shared name
  pub defined : 0 < length (defined_blocks function)
  pub integers : All (λ p. IsInteger p.reg) function.params
  pub typed : regs_of function.params ≡ types

-- the index of a function on which an address is based
abbrev pub index_in : Option Base → Option ℕ
index_in None = None
index_in (Some Null) = None
index_in (Some (Function i)) = Some i
index_in (Some (Block h)) = None

abbrev pub are_integers : List Reg → Bool
are_integers [] = true
are_integers (Int w ∷ regs) = are_integers regs
are_integers (Ptr ∷ regs) = false

-- these types, where all are those of integers
abbrev pub only_integers : List Reg → Option (List Reg)
only_integers regs = if are_integers regs then Some regs else None

-- the types of the parameters of a function that takes integers alone
abbrev pub integers_of : Option Entity → Option (List Reg)
integers_of None = None
integers_of (Some (entity.Function params result)) = only_integers params.items
integers_of (Some (entity.Host h)) = None
integers_of (Some entity.Other) = None
