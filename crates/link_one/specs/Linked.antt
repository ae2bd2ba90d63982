-- The linked module of modules (Johnson, Amini and Li, "ThinLTO: Scalable and Incremental LTO", CGO 2017).
use Rattle.std.specs.Prelude.{◌≡◌, ℕ, suc, Bool, List, [], ◌∷◌, ◌++◌, Option, slice_index_or}
use Rattle.std.specs.List.{AllZip}
use Rattle.ir_tree.specs.declared.function.Function.{Function}
use Rattle.ir_tree.specs.declared.module.GlobalValue.{GlobalValue}
use Rattle.ir_tree.specs.declared.module.GlobalValue.TheVariants as global
use Rattle.ir_tree.specs.declared.module.Module.{Module}
use Rattle.ir_tree.specs.declared.operand.Symbol.{Symbol}
use Rattle.symbol_resolve.specs.Clashes.{given_text}
use Rattle.ir_tree.specs.declared.target_line.TargetLine.TheVariants.{Datalayout, Triple}
use Rattle.combined_index.specs.Combined.{Combined}
use Rattle.combined_index.specs.Finals.{NoneTaken, final_names}
use Rattle.merge_meaning.specs.Lives.{parts}
use Rattle.back_end.specs.Inlinable.{bodies_of}
use Rattle.back_end.specs.Made.{IsMade}
use Rattle.emit.specs.Emissions.{IsEmission}
use Rattle.importer.specs.Brought.{brought, joined}
use Rattle.thin_link.specs.Linking.{IsThinLink}

-- a variable as it is, and a function as the back end makes it with these bodies
abbrev pub IsLinkedGlobal : (List ℕ → Option Function) → GlobalValue → GlobalValue → Type 0
IsLinkedGlobal bodies (global.Variable v) (global.Variable w) = w ≡ v
IsLinkedGlobal bodies (global.Function f) (global.Function g) = IsMade bodies f g
IsLinkedGlobal bodies _ _ = ⊥

-- bodies up to the limit may be inlined, which are the module's own and those that it imports, as they were read
abbrev pub bodies_for : ℕ → List GlobalValue → List Symbol → List (List ℕ) → List ℕ → List GlobalValue → List ℕ → Option Function
bodies_for limit all symbols suffixes numbers part = bodies_of limit (brought all symbols suffixes numbers ++ part)

-- each module from number k on is compiled by itself: its part becomes its unit
abbrev pub AreCompiled : ℕ → List GlobalValue → List Symbol → List (List ℕ) → List (List ℕ) → ℕ → List (List GlobalValue) → List (List GlobalValue) → Type 0
AreCompiled limit all symbols suffixes imports k [] [] = Unit {0}
AreCompiled limit all symbols suffixes imports k (part ∷ more) (unit ∷ units) =
    AllZip (IsLinkedGlobal (bodies_for limit all symbols suffixes (slice_index_or imports k []) part)) part unit
    × AreCompiled limit all symbols suffixes imports (suc k) more units
AreCompiled limit all symbols suffixes imports k _ _ = ⊥

-- each module's part, under final names, is compiled by itself
abbrev pub AreUnits : ℕ → List (List ℕ) → List Module → List Symbol → List Bool → List (List ℕ) → List (List GlobalValue) → Type 0
AreUnits limit suffixes ms symbols live imports units =
    AreCompiled limit (joined (parts ms symbols live suffixes)) symbols suffixes imports 0 (parts ms symbols live suffixes) units

-- of what is made those values are kept that are reached from the exported names
pub record AreLinkedGlobals (exports : List (List ℕ)) (limit : ℕ) (suffixes : List (List ℕ)) (ms : List Module) (symbols : List Symbol) (live : List Bool) (imports : List (List ℕ)) (globals : List GlobalValue) : Type 0 where
  pub units : List (List GlobalValue)
  pub compiled : AreUnits limit suffixes ms symbols live imports units
  pub emitted : IsEmission exports (joined units) globals

-- by the index alone it is decided what is live, what it will be called, and what each module imports
pub record IsLinked (exports : List (List ℕ)) (import_limit inline_limit : ℕ) (suffixes : List (List ℕ)) (ms : List Module) (l : Module) : Type 0 where
  pub index : Combined
  pub live : List Bool
  pub imports : List (List ℕ)
  pub thin : IsThinLink ms exports import_limit index live imports
  pub named : NoneTaken (final_names suffixes index.symbols live)
  pub made : AreLinkedGlobals exports inline_limit suffixes ms index.symbols live imports l.globals
  pub datalayout : l.datalayout ≡ given_text Datalayout ms
  pub triple : l.triple ≡ given_text Triple ms
