-- What is true of an index and of the program that its modules mean.
use Rattle.std.specs.Prelude.{◌≡◌, ◌≢◌, ℕ, Bool, true, IsTrue, List, Contains, slice_get, None, Some, is_some}
use Rattle.std.specs.List.{AllZip}
use Rattle.ir_tree.specs.declared.module.GlobalValue.{GlobalValue}
use Rattle.ir_tree.specs.declared.module.Module.{Module}
use Rattle.ir_tree.specs.declared.operand.Symbol.{Symbol}
use Rattle.ir_meaning.specs.Refine.{RefinesUnder}
use Rattle.ir_meaning.specs.Rename.{then_names}
use Rattle.ir_meaning.specs.Programs.{definition_of, program_of, shared}
use Rattle.combined_index.specs.Combined.{Combined, prevailing_of}
use Rattle.combined_index.specs.Liveness.{refs}
use Rattle.combined_index.specs.Finals.{NoneTaken, final_names}
use Rattle.merge_meaning.specs.Laws.{AllWhole}
use Rattle.merge_meaning.specs.Linkable.{AreLinkable}
use Rattle.merge_meaning.specs.Linked.{AreEmitted, DefinitionNames, Improves, IsClosed, IsReordering, back_names, emission}
use Rattle.merge_meaning.specs.Lives.{final_symbol, is_export, is_live, live_globals, live_names}
use Rattle.merge_meaning.specs.Merged.{merged, merged_globals}
use Rattle.thin_link.specs.Linking.{IsIndex, IsThinLink}

-- the index has a definition of a symbol that prevails exactly where the merged program defines the symbol
abbrev pub IndexFindsDefinitions : Type 0
IndexFindsDefinitions = (ms : List Module) (index : Combined) → AllWhole ms → IsIndex ms index → (n : ℕ) (s : Symbol) →
    slice_get index.symbols n ≡ Some s → is_some (prevailing_of index n) ≡ is_some (definition_of (merged_globals ms) s)

-- and all symbols that the program's definition names are among those that the index says it refers to
abbrev pub IndexNamesReferences : Type 0
IndexNamesReferences = (ms : List Module) (index : Combined) → AllWhole ms → IsIndex ms index → (n : ℕ) (s : Symbol) →
    slice_get index.symbols n ≡ Some s → (keeps : Symbol → Bool) →
    ((r : ℕ) (t : Symbol) → Contains (refs index n) r → slice_get index.symbols r ≡ Some t → keeps t ≡ true) →
    DefinitionNames keeps (definition_of (merged_globals ms) s)

-- so in a link that lacks nothing, live definitions refer to what is live alone, and all of it is there
abbrev pub LiveIsClosed : Type 0
LiveIsClosed = (ms : List Module) (exports : List (List ℕ)) (limit : ℕ) (index : Combined) (live : List Bool) (imports : List (List ℕ)) →
    AllWhole ms → IsThinLink ms exports limit index live imports → IsClosed (is_live index.symbols live) (merged_globals ms)

-- and where no two live symbols have one final name, the live definitions are such as may be emitted
abbrev pub LiveIsEmitted : Type 0
LiveIsEmitted = (ms : List Module) (exports : List (List ℕ)) (limit : ℕ) (index : Combined) (live : List Bool) (imports suffixes : List (List ℕ)) →
    AllWhole ms → IsThinLink ms exports limit index live imports → NoneTaken (final_names suffixes index.symbols live) →
    AreEmitted (is_live index.symbols live) (final_symbol suffixes) (merged_globals ms) (live_globals ms index.symbols live suffixes)

-- and they refine the merged program from the exported names
abbrev pub LiveRefines : Type 0
LiveRefines = (ms : List Module) (exports : List (List ℕ)) (limit : ℕ) (index : Combined) (live : List Bool) (imports suffixes : List (List ℕ)) →
    AllWhole ms → IsThinLink ms exports limit index live imports → NoneTaken (final_names suffixes index.symbols live) →
    RefinesUnder (live_names ms index.symbols live suffixes) (program_of (live_globals ms index.symbols live suffixes)) (merged ms) (λ s. IsTrue (is_export exports s))

-- and so does what is compiled of them: better functions in their places, of which those are left that a set keeps which is
-- closed and has the exported names, in any order and under any linkage
abbrev pub CompiledRefines : Type 0
CompiledRefines = (ms : List Module) (exports : List (List ℕ)) (limit : ℕ) (index : Combined) (live : List Bool) (imports suffixes : List (List ℕ)) →
    AllWhole ms → IsThinLink ms exports limit index live imports → NoneTaken (final_names suffixes index.symbols live) →
    (hs ks : List GlobalValue) (bound : ℕ) (keeps : Symbol → Bool) →
    AllZip (Improves (program_of (live_globals ms index.symbols live suffixes)) bound) (live_globals ms index.symbols live suffixes) hs →
    IsClosed keeps hs → ((s : Symbol) → IsTrue (is_export exports s) → keeps s ≡ true) → IsReordering (emission keeps (λ s. s) hs) ks →
    RefinesUnder (then_names (back_names keeps (λ s. s) hs ks) (live_names ms index.symbols live suffixes)) (program_of ks) (merged ms) (λ s. IsTrue (is_export exports s))

-- the live definitions are all that they refer to, so they can stand in one module
abbrev pub LiveIsKnown : Type 0
LiveIsKnown = (ms : List Module) (exports : List (List ℕ)) (limit : ℕ) (index : Combined) (live : List Bool) (imports suffixes : List (List ℕ)) →
    AllWhole ms → IsThinLink ms exports limit index live imports → NoneTaken (final_names suffixes index.symbols live) →
    AreLinkable (live_globals ms index.symbols live suffixes)

-- and each exported name is live and defined among them
abbrev pub ExportedIsDefined : Type 0
ExportedIsDefined = (ms : List Module) (exports : List (List ℕ)) (limit : ℕ) (index : Combined) (live : List Bool) (imports suffixes : List (List ℕ)) →
    AllWhole ms → IsThinLink ms exports limit index live imports → NoneTaken (final_names suffixes index.symbols live) →
    (name : List ℕ) → Contains exports name →
    (is_live index.symbols live (shared name) ≡ true) × (definition_of (live_globals ms index.symbols live suffixes) (shared name) ≢ None)
