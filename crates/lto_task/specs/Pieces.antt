-- What a back end hands on of a definition that it is done with.
use Rattle.std.specs.Prelude.{◌≡◌, ◌↔◌, ℕ, List, [], ◌∷◌, Contains}
use Rattle.std.specs.Cmp.Lexicographic.{slice_cmp}
use Rattle.std.specs.List.Sorted.{IsStrictlySortedBy}
use Rattle.std.specs.Ordering.{nat_cmp}
use Rattle.ir_tree.specs.Wholes.{global_symbol}
use Rattle.ir_tree.specs.declared.module.GlobalValue.{GlobalValue}
use Rattle.ir_print.specs.Modules.{global_value, text_of}
use Rattle.ir_summary.specs.References.{global_names}
use Rattle.lto_task.specs.declared.piece.Piece.{Piece}

-- each name comes before the next in the order of bytes
abbrev pub NamesRise : List (List ℕ) → Type 0
NamesRise names = IsStrictlySortedBy (slice_cmp nat_cmp) names

-- its name, the names that it refers to, and its lines as they stand in a module's text
pub record IsPieceOf (g : GlobalValue) (p : Piece) : Type 0 where
  pub name : p.name ≡ (global_symbol g).name
  pub rise : NamesRise p.refs
  pub refers : (name : List ℕ) → Contains p.refs name ↔ Contains (global_names g) name
  pub text : p.text ≡ text_of (global_value g ∷ [])
