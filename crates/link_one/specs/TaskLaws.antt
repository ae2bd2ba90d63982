-- What is true of the tasks of a link.
use Rattle.std.specs.Prelude.{ℕ, Bool, List, [], All, slice_index_or}
use Rattle.ir_tree.specs.Wholes.{IsVerified}
use Rattle.ir_tree.specs.declared.module.Module.{Module}
use Rattle.combined_index.specs.Combined.{Combined}
use Rattle.combined_index.specs.Finals.{NoneTaken, final_names}
use Rattle.thin_link.specs.Linking.{IsThinLink}
use Rattle.merge_meaning.specs.Lives.{parts}
use Rattle.lto_task.specs.Tasks.{TaskView, module_of}
use Rattle.importer.specs.Brought.{joined}
use Rattle.importer.specs.Tasks.{IsTaskOf}

-- of verified modules both modules of a task are verified
abbrev pub TasksAreVerified : Type 0
TasksAreVerified =
    (exports : List (List ℕ)) (import_limit inline_limit : ℕ) (suffixes : List (List ℕ)) (ms : List Module) (index : Combined) (live : List Bool) (imports : List (List ℕ)) (promoted : List ℕ) (k : ℕ) (t : TaskView)
    → All IsVerified ms → IsThinLink ms exports import_limit index live imports → NoneTaken (final_names suffixes index.symbols live)
    → IsTaskOf exports inline_limit (joined (parts ms index.symbols live suffixes)) index.symbols suffixes (slice_index_or imports k []) promoted (slice_index_or (parts ms index.symbols live suffixes) k []) t
    → IsVerified (module_of t.own) × IsVerified (module_of t.imported)
