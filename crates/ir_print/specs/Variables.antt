-- Global variables and their initialisers as they are printed (LangRef, "Global Variables" and "Constants").
use Rattle.std.specs.Prelude.{ℕ, Bool, true, false, List, [], ◌∷◌, ◌++◌, Option, Some, None, if◌then◌else◌, codes}
use Rattle.ir_lex.specs.Pieces.{Piece}
use Rattle.ir_tree.specs.Forms.{Form}
use Rattle.ir_tree.specs.Initials.{Initial, Initials, plain, zeros, bytes, elements, members, no_initials, initial}
use Rattle.ir_tree.specs.declared.function.Linkage.{Linkage}
use Rattle.ir_tree.specs.declared.function.Variable.{Variable}
use Rattle.ir_print.specs.declared.level.Level.{Level}
use Rattle.ir_print.specs.declared.level.Level.TheVariants.{Array, Struct, PackedStruct}
use Rattle.ir_print.specs.Tokens.{tight, space, word, mark, comma, global, byte_string}
use Rattle.ir_print.specs.Types.{shape}
use Rattle.ir_print.specs.Operands.{operand}
use Rattle.ir_print.specs.Instructions.{aligned}
use Rattle.ir_print.specs.Functions.{linkage}

abbrev pub level_of : Bool → Level
level_of true = PackedStruct
level_of false = Struct

abbrev pub opening : Level → List Piece
opening Array = mark space 91
opening Struct = mark space 123
opening PackedStruct = mark space 60 ++ mark tight 123

-- a structure's brace stands apart where there are members
abbrev pub closing_brace : Bool → List Piece
closing_brace true = mark tight 125
closing_brace false = mark space 125

-- what closes the parts, of which there are none or some
abbrev pub closing : Level → Bool → List Piece
closing Array none = mark tight 93
closing Struct none = closing_brace none
closing PackedStruct none = closing_brace none ++ mark tight 62

abbrev pub first_shape : Level → Form → List Piece
first_shape Array f = shape tight f
first_shape Struct f = shape space f
first_shape PackedStruct f = shape space f

abbrev pub further_shape : Form → List Piece
further_shape f = comma ++ shape space f

-- the shape of a part, which is the first or not
abbrev pub part_shape : Level → Bool → Form → List Piece
part_shape level first f = if first then first_shape level f else further_shape f

-- [i32 1, i32 2], { i32 1, ptr null }, <{ i8 1 }>, c"..", zeroinitializer, []
abbrev mutual
  pub value : Initial → List Piece
  value (plain x) = operand space x
  value zeros = word space (codes "zeroinitializer")
  value (bytes text) = byte_string space text
  value (elements parts) = opening Array ++ parts_in Array true parts
  value (members packed parts) = opening (level_of packed) ++ parts_in (level_of packed) true parts

  -- the parts that are left of a level, of which the next is the first or not, and what closes it
  pub parts_in : Level → Bool → Initials → List Piece
  parts_in level first no_initials = closing level first
  parts_in level first (initial f v rest) = part_shape level first f ++ (value v ++ parts_in level false rest)

abbrev pub kind_word : Bool → List Piece
kind_word true = word space (codes "constant")
kind_word false = word space (codes "global")

-- a declared one is external
abbrev pub linked : Option Initial → Linkage → List Piece
linked None l = word space (codes "external")
linked (Some v) l = linkage l

abbrev pub given : Option Initial → List Piece
given None = []
given (Some v) = value v

abbrev pub variable : Variable → List Piece
variable v =
    global tight v.symbol.name ++ (mark space 61 ++ (linked v.init v.linkage ++ (kind_word v.constant ++ (shape space v.shape ++ (given v.init ++ aligned v.align)))))
