-- What stays of the modules of a link once all is decided of them.
use Rattle.std.specs.Prelude.{◌≡◌, ◌<◌, ℕ, List, [], flat_map, length}
use Rattle.ir_tree.specs.declared.module.Module.{Module}
use Rattle.ir_print.specs.Modules.{module_text}
use Rattle.symbol_resolve.specs.Clashes.{given_text}
use Rattle.ir_tree.specs.declared.target_line.TargetLine.TheVariants.{Datalayout, Triple}
use Rattle.combined_index.specs.Finals.{NoneTaken, final_names}
use Rattle.combined_index.specs.Promotions.{ArePromoted}
use Rattle.thin_link.specs.Linking.{IsThinLink}
use Rattle.thin_link.specs.Views.{rows}
use Rattle.merge_meaning.specs.Lives.{parts}
use Rattle.lto_task.specs.Tasks.{TaskView}
use Rattle.lto_task.specs.declared.piece.Piece.{Piece}
use Rattle.lto_task.specs.declared.task.Task.{Task}
use Rattle.emit.specs.Joins.{IsJoin}
use Rattle.importer.specs.ModuleTasks.{AreTasks, IsTaskOfNumber}
use Rattle.link_one.specs.ModuleUnits.{AreUnits}
use Rattle.link_one.specs.declared.prepare.Prepared.{Prepared}

-- the target lines of the linked module
abbrev pub header_of : List Module → List ℕ
header_of ms = module_text (record { datalayout = given_text Datalayout ms; triple = given_text Triple ms; globals = [] })

-- what was decided of modules that can be linked, their parts and their target lines
pub record IsPrepared (exports : List (List ℕ)) (import_limit : ℕ) (suffixes : List (List ℕ)) (ms : List Module) (p : Prepared) : Type 0 where
  pub thin : IsThinLink ms exports import_limit p.index p.live (rows p.imports.items)
  pub named : NoneTaken (final_names suffixes p.index.symbols p.live)
  pub promoted_are : ArePromoted p.index (rows p.imports.items) (rows p.promoted.items)
  pub parts_are : p.parts.items ≡ parts ms p.index.symbols p.live suffixes
  pub header_is : p.header ≡ header_of ms

-- the task of one of the parts
pub record IsTaskPrepared (exports : List (List ℕ)) (limit : ℕ) (suffixes : List (List ℕ)) (p : Prepared) (t : TaskView) : Type 0 where
  pub number : ℕ
  pub within : number < length p.parts.items
  pub task : IsTaskOfNumber exports limit p.index.symbols suffixes (rows p.imports.items) (rows p.promoted.items) p.parts.items number t

-- the tasks of the parts, in their order
abbrev pub AreTasksPrepared : List (List ℕ) → ℕ → List (List ℕ) → Prepared → List Task → Type 0
AreTasksPrepared exports limit suffixes p tasks = AreTasks exports limit p.index.symbols suffixes (rows p.imports.items) (rows p.promoted.items) p.parts.items tasks

-- units of the parts
abbrev pub AreUnitsPrepared : List (List ℕ) → ℕ → List (List ℕ) → Prepared → List (List Piece) → Type 0
AreUnitsPrepared exports limit suffixes p units = AreUnits exports limit p.index.symbols suffixes (rows p.imports.items) (rows p.promoted.items) p.parts.items units

-- the text that is joined of units of the parts
pub record IsJoined (exports : List (List ℕ)) (limit : ℕ) (suffixes : List (List ℕ)) (p : Prepared) (text : List ℕ) : Type 0 where
  pub units : List (List Piece)
  pub are : AreUnitsPrepared exports limit suffixes p units
  pub join : IsJoin exports (flat_map (λ ps. ps) units) p.header text
