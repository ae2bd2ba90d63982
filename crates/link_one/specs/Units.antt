-- The pieces of what is compiled, and those to which other units may refer.
use Rattle.std.specs.Prelude.{ℕ, not, List, filter, map, Option}
use Rattle.ir_tree.specs.declared.function.Function.{Function}
use Rattle.ir_tree.specs.Linkages.{is_local}
use Rattle.ir_tree.specs.declared.function.Linkage.{Linkage}
use Rattle.ir_tree.specs.declared.module.GlobalValue.{GlobalValue}
use Rattle.ir_tree.specs.declared.module.GlobalValue.TheVariants as global
use Rattle.ir_meaning.specs.Programs.{symbol_of}
use Rattle.lto_task.specs.Pieces.{IsPieceOf}
use Rattle.lto_task.specs.declared.piece.Piece.{Piece}
use Rattle.emit.specs.Emissions.{settled}
use Rattle.link_one.specs.Linked.{IsLinkedGlobal}

-- ---- what others may refer to

abbrev pub linkage_in : GlobalValue → Linkage
linkage_in (global.Variable v) = v.linkage
linkage_in (global.Function f) = f.linkage

-- what isn't local to the module, by its names (LangRef, "Linkage Types")
abbrev pub shown : List GlobalValue → List (List ℕ)
shown part = map (λ g. (symbol_of g).name) (filter (λ g. not (is_local (linkage_in g))) part)

-- ---- pieces

-- the piece of a value that is settled
abbrev pub IsSettledPiece : List (List ℕ) → GlobalValue → Piece → Type 0
IsSettledPiece exports g p = IsPieceOf (settled exports g) p

-- the piece of what the value is compiled to
pub record IsLinkedPiece (bodies : List ℕ → Option Function) (exports : List (List ℕ)) (g : GlobalValue) (p : Piece) : Type 0 where
  pub value : GlobalValue
  pub made : IsLinkedGlobal bodies g value
  pub piece : IsSettledPiece exports value p
