-- What is true of modules that are linked, and of those that aren't.
use Rattle.std.specs.Prelude.{◌≡◌, ℕ, Bool, List, [], All, IsTrue, flat_map}
use Rattle.ir_tree.specs.Wholes.{IsVerified}
use Rattle.ir_tree.specs.declared.module.Module.{Module}
use Rattle.ir_print.specs.Modules.{module_text}
use Rattle.ir_meaning.specs.Refine.{RefinesUnder}
use Rattle.ir_meaning.specs.Programs.{program_of}
use Rattle.merge_meaning.specs.Lives.{is_export, parts}
use Rattle.merge_meaning.specs.Merged.{merged}
use Rattle.lto_fault.specs.declared.refusal.Refusal.{Refusal}
use Rattle.symbol_resolve.specs.Clashes.{given_text}
use Rattle.ir_tree.specs.declared.target_line.TargetLine.TheVariants.{Datalayout, Triple}
use Rattle.combined_index.specs.Combined.{Combined}
use Rattle.combined_index.specs.Finals.{NoneTaken, final_names}
use Rattle.lto_task.specs.declared.piece.Piece.{Piece}
use Rattle.emit.specs.Joins.{IsJoin}
use Rattle.thin_link.specs.Linking.{IsThinLink}
use Rattle.link_one.specs.Linked.{IsLinked}
use Rattle.link_one.specs.Naming.{linked_names}
use Rattle.link_one.specs.Refusing.{CanBeLinked, IsUnlinked}
use Rattle.link_one.specs.ModuleUnits.{AreUnitsOf}

-- the linked program of verified modules refines what they mean together
abbrev pub LinkedRefines : Type 0
LinkedRefines =
    (exports : List (List ℕ)) (import_limit inline_limit : ℕ) (suffixes : List (List ℕ)) (ms : List Module) (l : Module)
    → All IsVerified ms → (linked : IsLinked exports import_limit inline_limit suffixes ms l)
    → RefinesUnder (linked_names exports import_limit inline_limit suffixes ms l linked) (program_of l.globals) (merged ms) (λ s. IsTrue (is_export exports s))

-- and the linked module is verified
abbrev pub LinkedIsVerified : Type 0
LinkedIsVerified =
    (exports : List (List ℕ)) (import_limit inline_limit : ℕ) (suffixes : List (List ℕ)) (ms : List Module) (l : Module)
    → All IsVerified ms → IsLinked exports import_limit inline_limit suffixes ms l → IsVerified l

-- modules that can be linked aren't refused, and none are refused for two reasons
abbrev pub UnlinkedIsNotLinked : Type 0
UnlinkedIsNotLinked =
    (files exports : List (List ℕ)) (limit : ℕ) (suffixes : List (List ℕ)) (ms : List Module) (why : Refusal)
    → CanBeLinked exports limit suffixes ms → IsUnlinked files exports limit suffixes ms why → ⊥

abbrev pub UnlinkedIsOne : Type 0
UnlinkedIsOne =
    (files exports : List (List ℕ)) (limit : ℕ) (suffixes : List (List ℕ)) (ms : List Module) (why other : Refusal)
    → IsUnlinked files exports limit suffixes ms why → IsUnlinked files exports limit suffixes ms other → why ≡ other

-- ---- its text

-- the text of a linked module of the modules
pub record IsLinkedText (exports : List (List ℕ)) (import_limit inline_limit : ℕ) (suffixes : List (List ℕ)) (ms : List Module) (text : List ℕ) : Type 0 where
  pub l : Module
  pub linked : IsLinked exports import_limit inline_limit suffixes ms l
  pub is : text ≡ module_text l

-- behind their target lines, what is joined of the units of verified modules
abbrev pub UnitsAreLinked : Type 0
UnitsAreLinked =
    (exports : List (List ℕ)) (import_limit inline_limit : ℕ) (suffixes : List (List ℕ)) (ms : List Module) (index : Combined) (live : List Bool) (imports : List (List ℕ)) (units : List (List Piece)) (text : List ℕ)
    → All IsVerified ms → IsThinLink ms exports import_limit index live imports → NoneTaken (final_names suffixes index.symbols live)
    → AreUnitsOf exports inline_limit index suffixes imports (parts ms index.symbols live suffixes) units
    → IsJoin exports (flat_map (λ ps. ps) units) (module_text (record { datalayout = given_text Datalayout ms; triple = given_text Triple ms; globals = [] })) text
    → IsLinkedText exports import_limit inline_limit suffixes ms text
