-- What a link keeps of the pieces of parts, in the order of the parts: the way from the units of tasks to the linked module.
use Rattle.std.proofs.Common.{◌≡◌, ℕ, suc, Bool, List, [], ◌∷◌, ◌++◌, All, slice_index_or}
use Rattle.std.specs.List.{AllZip, flat_map}
use Rattle.ir_tree.specs.Wholes.{IsVerified}
use Rattle.ir_tree.specs.declared.module.GlobalValue.{GlobalValue}
use Rattle.ir_tree.specs.declared.module.Module.{Module}
use Rattle.ir_tree.specs.declared.operand.Symbol.{Symbol}
use Rattle.ir_print.specs.Modules.{module_text}
use Rattle.symbol_resolve.specs.Clashes.{given_text}
use Rattle.ir_tree.specs.declared.target_line.TargetLine.TheVariants.{Datalayout, Triple}
use Rattle.combined_index.specs.Combined.{Combined}
use Rattle.combined_index.specs.Finals.{NoneTaken, final_names}
use Rattle.combined_index.specs.Promotions.{ArePromoted}
use Rattle.merge_meaning.specs.Lives.{parts}
use Rattle.thin_link.specs.Linking.{IsThinLink}
use Rattle.lto_task.specs.declared.piece.Piece.{Piece}
use Rattle.emit.specs.Joins.{IsJoin}
use Rattle.emit.specs.Strips.{IsStripped, ModulePieces}
use Rattle.importer.specs.Brought.{joined, names_of}
use Rattle.link_one.specs.Linked.{AreCompiled}
use Rattle.link_one.specs.LinkedLaws.{IsLinkedText}
use Rattle.link_one.specs.Units.{IsSettledPiece, shown}

-- other units may refer to what isn't local, and to promoted locals (Johnson, Amini and Li, "ThinLTO", CGO 2017)
abbrev pub offers : List Symbol → List (List ℕ) → List ℕ → List GlobalValue → List (List ℕ)
offers symbols suffixes promoted part = shown part ++ names_of symbols suffixes promoted

-- a unit of pieces of what a part becomes
pub record IsPrinted (exports : List (List ℕ)) (symbols : List Symbol) (suffixes : List (List ℕ)) (promoted : List ℕ) (part unit : List GlobalValue) (u : ModulePieces) : Type 0 where
  pub offers_are : u.offers ≡ offers symbols suffixes promoted part
  pub pieces_are : AllZip (IsSettledPiece exports) unit u.pieces

-- one for each part, from number k on
abbrev pub AreAllPrinted : List (List ℕ) → List Symbol → List (List ℕ) → List (List ℕ) → ℕ → List (List GlobalValue) → List (List GlobalValue) → List ModulePieces → Type 0
AreAllPrinted exports symbols suffixes promoted k [] [] [] = Unit {0}
AreAllPrinted exports symbols suffixes promoted k (part ∷ parts) (unit ∷ units) (u ∷ us) =
    IsPrinted exports symbols suffixes (slice_index_or promoted k []) part unit u × AreAllPrinted exports symbols suffixes promoted (suc k) parts units us
AreAllPrinted exports symbols suffixes promoted k _ _ _ = ⊥

-- the pieces that the modules' units keep, of which each is compiled by itself
pub record ArePrinted (exports : List (List ℕ)) (limit : ℕ) (all : List GlobalValue) (symbols : List Symbol) (suffixes : List (List ℕ)) (imports promoted : List (List ℕ)) (parts : List (List GlobalValue)) (kept : List (List Piece)) : Type 0 where
  pub units : List (List GlobalValue)
  pub compiled : AreCompiled limit all symbols suffixes imports 0 parts units
  pub printed : List ModulePieces
  pub printed_are : AreAllPrinted exports symbols suffixes promoted 0 parts units printed
  pub stripped : AllZip IsStripped printed kept

-- with the locals that imports promote
pub record ArePrintedOf (exports : List (List ℕ)) (limit : ℕ) (index : Combined) (suffixes : List (List ℕ)) (imports : List (List ℕ)) (parts : List (List GlobalValue)) (kept : List (List Piece)) : Type 0 where
  pub promoted : List (List ℕ)
  pub promoted_are : ArePromoted index imports promoted
  pub printed : ArePrinted exports limit (joined parts) index.symbols suffixes imports promoted parts kept

-- behind their target lines, what is joined of the pieces that the units of verified modules keep
abbrev pub KeptIsLinked : Type 0
KeptIsLinked =
    (exports : List (List ℕ)) (import_limit inline_limit : ℕ) (suffixes : List (List ℕ)) (ms : List Module) (index : Combined) (live : List Bool) (imports : List (List ℕ)) (kept : List (List Piece)) (text : List ℕ)
    → All IsVerified ms → IsThinLink ms exports import_limit index live imports → NoneTaken (final_names suffixes index.symbols live)
    → ArePrintedOf exports inline_limit index suffixes imports (parts ms index.symbols live suffixes) kept
    → IsJoin exports (flat_map (λ ps. ps) kept) (module_text (record { datalayout = given_text Datalayout ms; triple = given_text Triple ms; globals = [] })) text
    → IsLinkedText exports import_limit inline_limit suffixes ms text
