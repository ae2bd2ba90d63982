-- What is true of the tasks of a link.
use Rattle.std.specs.Prelude.{◌≡◌, ◌⊎◌, ℕ, List, [], All, Contains, slice_index_or}
use Rattle.ir_tree.specs.declared.module.GlobalValue.{GlobalValue}
use Rattle.ir_tree.specs.declared.operand.Symbol.{Symbol}
use Rattle.combined_index.specs.Combined.{Combined}
use Rattle.lto_task.specs.Declarations.{declaration_of}
use Rattle.lto_task.specs.Tasks.{TaskView}
use Rattle.merge_meaning.specs.Hosts.{getchar, putchar}
use Rattle.importer.specs.Brought.{joined}
use Rattle.importer.specs.Tasks.{IsTaskOf}

-- the declaration of one of these values, or of a function of the outside
abbrev pub IsDeclared : List GlobalValue → GlobalValue → Type 0
IsDeclared all d = ((g : GlobalValue) × Contains all g × (d ≡ declaration_of g)) ⊎ ((d ≡ getchar) ⊎ (d ≡ putchar))

abbrev pub IsOrDeclared : List GlobalValue → GlobalValue → Type 0
IsOrDeclared all g = Contains all g ⊎ IsDeclared all g

-- what a task has is of the parts, or declared
abbrev pub TasksAreOfParts : Type 0
TasksAreOfParts =
    (exports : List (List ℕ)) (limit : ℕ) (index : Combined) (suffixes : List (List ℕ)) (imports promoted : List ℕ) (of_parts : List (List GlobalValue)) (k : ℕ) (t : TaskView)
    → IsTaskOf exports limit (joined of_parts) index.symbols suffixes imports promoted (slice_index_or of_parts k []) t
    → All (IsOrDeclared (joined of_parts)) t.own × All (IsOrDeclared (joined of_parts)) t.imported

-- a module has one task
abbrev pub TaskIsOne : Type 0
TaskIsOne =
    (exports : List (List ℕ)) (limit : ℕ) (all : List GlobalValue) (symbols : List Symbol) (suffixes : List (List ℕ)) (imports promoted : List ℕ) (part : List GlobalValue) (t u : TaskView)
    → IsTaskOf exports limit all symbols suffixes imports promoted part t → IsTaskOf exports limit all symbols suffixes imports promoted part u → t ≡ u
