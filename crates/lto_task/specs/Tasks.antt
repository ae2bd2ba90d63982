-- The text of a task: what a back end reads of one module of a link. Behind a line with the version stand the inline limit, the
-- names that are exported and those that are promoted, each list behind its count and each name on a line, and then the printed
-- module and the printed module of what it imports, each behind the number of its bytes.
use Rattle.std.specs.Prelude.{◌≡◌, ℕ, ◌<◌, ◌^◌, List, [], ◌∷◌, ◌++◌, All, codes, decimal, flat_map, length, map}
use Rattle.std.specs.Borrow.{Bor}
use Rattle.ir_tree.specs.Names.{AllBytes}
use Rattle.ir_tree.specs.declared.module.GlobalValue.{GlobalValue}
use Rattle.ir_tree.specs.declared.module.Module.{Module}
use Rattle.ir_print.specs.Modules.{module_text}
use Rattle.ir_summary.specs.Once.{texts}
use Rattle.lto_task.specs.Units.{name_line}
use Rattle.lto_task.specs.declared.task.Task.{Task}
use Rattle.lto_task.specs.declared.task.TaskModule.{TaskModule}

-- ---- tasks

pub record TaskView : Type 0 where
  pub inline_limit : ℕ
  pub exports : List (List ℕ)
  pub promoted : List (List ℕ)
  pub own : List GlobalValue
  pub imported : List GlobalValue

-- the definitions, and behind them the declarations
abbrev pub globals_of : TaskModule → List GlobalValue
globals_of m = map (λ (g : Bor GlobalValue). g.now) m.defined.items ++ m.declared

abbrev pub task_view : Task → TaskView
task_view t = record {
  inline_limit = t.inline_limit;
  exports = texts t.exports.items;
  promoted = t.promoted.items;
  own = globals_of t.own;
  imported = globals_of t.imported;
}

-- ---- the text

-- these globals without target lines
abbrev pub module_of : List GlobalValue → Module
module_of gs = record { datalayout = []; triple = []; globals = gs }

-- a word and a number on a line
abbrev pub number_line : List ℕ → ℕ → List ℕ
number_line word n = word ++ (32 ∷ (decimal n ++ 10 ∷ []))

abbrev pub counted_names : List ℕ → List (List ℕ) → List ℕ
counted_names word names = number_line word (length names) ++ flat_map name_line names

abbrev pub counted_bytes : List ℕ → List ℕ → List ℕ
counted_bytes word bytes = number_line word (length bytes) ++ bytes

abbrev pub task_text : TaskView → List ℕ
task_text t = number_line (codes "thinlto task") 1
    ++ (number_line (codes "inline") t.inline_limit
    ++ (counted_names (codes "exported") t.exports
    ++ (counted_names (codes "promoted") t.promoted
    ++ (counted_bytes (codes "own") (module_text (module_of t.own)) ++ counted_bytes (codes "imported") (module_text (module_of t.imported))))))

-- ---- tasks with one text

-- what the text tells of a task: its names are bytes, and its numbers and counts are those that the machine has
pub record IsWrittenTask (t : TaskView) : Type 0 where
  pub limit : t.inline_limit < 2 ^ 32
  pub exports : All AllBytes t.exports
  pub promoted : All AllBytes t.promoted
  pub exported_count : length t.exports < 2 ^ 64
  pub promoted_count : length t.promoted < 2 ^ 64
  pub own_bytes : length (module_text (module_of t.own)) < 2 ^ 64
  pub imported_bytes : length (module_text (module_of t.imported)) < 2 ^ 64

-- tasks of which one text can be written
pub record Agree (t u : TaskView) : Type 0 where
  pub inline_limit : t.inline_limit ≡ u.inline_limit
  pub exports : t.exports ≡ u.exports
  pub promoted : t.promoted ≡ u.promoted
  pub own : module_text (module_of t.own) ≡ module_text (module_of u.own)
  pub imported : module_text (module_of t.imported) ≡ module_text (module_of u.imported)

-- tasks with one text agree
abbrev pub TasksAgree : Type 0
TasksAgree = (t u : TaskView) → IsWrittenTask t → IsWrittenTask u → task_text t ≡ task_text u → Agree t u
