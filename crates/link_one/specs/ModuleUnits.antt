-- The units of the modules of a link: what is made of their tasks.
use Rattle.std.specs.Prelude.{◌≡◌, ◌<◌, ℕ, Bool, List, Some, length, slice_get}
use Rattle.ir_tree.specs.declared.module.GlobalValue.{GlobalValue}
use Rattle.ir_tree.specs.declared.module.Module.{Module}
use Rattle.ir_tree.specs.declared.operand.Symbol.{Symbol}
use Rattle.combined_index.specs.Combined.{Combined}
use Rattle.combined_index.specs.Finals.{NoneTaken, final_names}
use Rattle.combined_index.specs.Promotions.{ArePromoted}
use Rattle.thin_link.specs.Linking.{IsThinLink}
use Rattle.merge_meaning.specs.Lives.{parts}
use Rattle.lto_task.specs.Tasks.{TaskView}
use Rattle.lto_task.specs.declared.piece.Piece.{Piece}
use Rattle.importer.specs.ModuleTasks.{IsTaskOfNumber}
use Rattle.link_one.specs.TaskUnits.{IsTaskUnit}

-- what is made of its task
pub record IsUnitOfNumber (exports : List (List ℕ)) (limit : ℕ) (symbols : List Symbol) (suffixes : List (List ℕ)) (imports promoted : List (List ℕ)) (parts : List (List GlobalValue)) (k : ℕ) (unit : List Piece) : Type 0 where
  pub task : TaskView
  pub is_task : IsTaskOfNumber exports limit symbols suffixes imports promoted parts k task
  pub made : IsTaskUnit task unit

-- a unit for each module
pub record AreUnits (exports : List (List ℕ)) (limit : ℕ) (symbols : List Symbol) (suffixes : List (List ℕ)) (imports promoted : List (List ℕ)) (parts : List (List GlobalValue)) (units : List (List Piece)) : Type 0 where
  pub count : length units ≡ length parts
  pub each : (k : ℕ) (unit : List Piece) → slice_get units k ≡ Some unit → IsUnitOfNumber exports limit symbols suffixes imports promoted parts k unit

-- with the locals that imports promote
pub record AreUnitsOf (exports : List (List ℕ)) (limit : ℕ) (index : Combined) (suffixes : List (List ℕ)) (imports : List (List ℕ)) (parts : List (List GlobalValue)) (units : List (List Piece)) : Type 0 where
  pub promoted : List (List ℕ)
  pub promoted_are : ArePromoted index imports promoted
  pub are : AreUnits exports limit index.symbols suffixes imports promoted parts units

-- ---- of a link

-- the task of one of the modules
pub record IsTaskInLink (exports : List (List ℕ)) (import_limit inline_limit : ℕ) (suffixes : List (List ℕ)) (ms : List Module) (t : TaskView) : Type 0 where
  pub index : Combined
  pub live : List Bool
  pub imports : List (List ℕ)
  pub thin : IsThinLink ms exports import_limit index live imports
  pub named : NoneTaken (final_names suffixes index.symbols live)
  pub promoted : List (List ℕ)
  pub promoted_are : ArePromoted index imports promoted
  pub number : ℕ
  pub within : number < length ms
  pub task : IsTaskOfNumber exports inline_limit index.symbols suffixes imports promoted (parts ms index.symbols live suffixes) number t
