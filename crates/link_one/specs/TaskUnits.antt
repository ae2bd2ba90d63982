-- The unit of a task: what a back end makes of the task alone.
use Rattle.std.specs.Prelude.{◌≡◌, ℕ, Bool, is_some, List, ◌++◌, filter, Option}
use Rattle.std.specs.List.{AllZip}
use Rattle.ir_tree.specs.declared.function.Function.{Function}
use Rattle.ir_tree.specs.declared.module.GlobalValue.{GlobalValue}
use Rattle.ir_tree.specs.declared.module.GlobalValue.TheVariants as global
use Rattle.back_end.specs.Inlinable.{bodies_of, has_blocks}
use Rattle.emit.specs.Joins.{IsInNameOrder}
use Rattle.emit.specs.Strips.{IsStripped}
use Rattle.ir_tree.specs.Wholes.{IsVerified}
use Rattle.lto_task.specs.Tasks.{TaskView, module_of}
use Rattle.lto_task.specs.Units.{IsUnit, unit_text}
use Rattle.lto_task.specs.declared.piece.Piece.{Piece}
use Rattle.link_one.specs.Units.{IsLinkedPiece, shown}

-- a function with blocks, or a variable with an initialiser
abbrev pub is_defined : GlobalValue → Bool
is_defined (global.Variable v) = is_some v.init
is_defined (global.Function f) = has_blocks f.blocks

abbrev pub definitions : List GlobalValue → List GlobalValue
definitions globals = filter is_defined globals

-- the bodies that may be inlined, imported ones first
abbrev pub bodies_in_task : TaskView → List ℕ → Option Function
bodies_in_task t = bodies_of t.inline_limit (t.imported ++ t.own)

-- other units may refer to what isn't local, and to promoted locals
abbrev pub offered_by : TaskView → List (List ℕ)
offered_by t = shown (definitions t.own) ++ t.promoted

-- each definition becomes a piece; of these those are kept to which others may refer, and what these lead to
pub record AreKeptPieces (t : TaskView) (kept : List Piece) : Type 0 where
  pub pieces : List Piece
  pub made : AllZip (IsLinkedPiece (bodies_in_task t) t.exports) (definitions t.own) pieces
  pub stripped : IsStripped (record { offers = offered_by t; pieces = pieces }) kept

-- the pieces that are kept, by name
pub record IsTaskUnit (t : TaskView) (unit : List Piece) : Type 0 where
  pub kept : List Piece
  pub are_kept : AreKeptPieces t kept
  pub order : IsInNameOrder kept unit

-- what a back end may compile: both modules of the task are verified
pub record HasVerifiedModules (t : TaskView) : Type 0 where
  pub own : IsVerified (module_of t.own)
  pub imported : IsVerified (module_of t.imported)

-- its text, where its names rise
pub record IsUnitText (t : TaskView) (text : List ℕ) : Type 0 where
  pub unit : List Piece
  pub is_unit : IsTaskUnit t unit
  pub rises : IsUnit unit
  pub is : text ≡ unit_text unit
