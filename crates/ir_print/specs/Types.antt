-- Types as they are printed (LangRef, "Type System").
use Rattle.std.specs.Prelude.{ℕ, Bool, true, false, List, [], ◌∷◌, ◌++◌, Option, Some, None, codes}
use Rattle.ir_lex.specs.Pieces.{Piece}
use Rattle.ir_tree.specs.Forms.{Form, Forms, int, pointer, array, structure, no_parts, part}
use Rattle.ir_tree.specs.declared.operand.Reg.{Reg}
use Rattle.ir_tree.specs.declared.operand.Reg.TheVariants.{Int, Ptr}
use Rattle.ir_print.specs.Tokens.{tight, space, word, mark, comma, width, natural}

abbrev pub register : List ℕ → Reg → List Piece
register blank (Int w) = width blank w
register blank Ptr = word blank (codes "ptr")

abbrev pub result : Option Reg → List Piece
result None = word space (codes "void")
result (Some reg) = register space reg

-- [4 x i8], { i32, ptr }, <{ i8, i32 }>, {}, <{}>
abbrev mutual
  pub shape : List ℕ → Form → List Piece
  shape blank (int w) = width blank w
  shape blank pointer = word blank (codes "ptr")
  shape blank (array count of) = mark blank 91 ++ (natural tight count ++ (word space (codes "x") ++ (shape space of ++ mark tight 93)))
  shape blank (structure false parts) = mark blank 123 ++ members parts
  shape blank (structure true parts) = mark blank 60 ++ (mark tight 123 ++ (members parts ++ mark tight 62))

  pub members : Forms → List Piece
  members no_parts = mark tight 125
  members (part f fs) = shape space f ++ (further_members fs ++ mark space 125)

  pub further_members : Forms → List Piece
  further_members no_parts = []
  further_members (part f fs) = (comma ++ shape space f) ++ further_members fs
