-- The flat form of an initialiser as it is printed, part by part, with the aggregates that are open, innermost first.
use Rattle.std.specs.Prelude.{Bool, true, false, List, [], ◌∷◌, ◌++◌, codes}
use Rattle.ir_lex.specs.Pieces.{Piece}
use Rattle.ir_tree.specs.declared.init_node.InitHead.{InitHead}
use Rattle.ir_tree.specs.declared.init_node.InitHead.TheVariants as heads
use Rattle.ir_tree.specs.declared.init_node.InitPart.{InitPart}
use Rattle.ir_tree.specs.declared.init_node.InitPart.TheVariants.{Typed, End}
use Rattle.ir_print.specs.declared.level.Level.{Level}
use Rattle.ir_print.specs.declared.level.Level.TheVariants.{Array}
use Rattle.ir_print.specs.Tokens.{space, word, byte_string}
use Rattle.ir_print.specs.Operands.{operand}
use Rattle.ir_print.specs.Variables.{level_of, opening, closing, part_shape}

-- the beginning of a value
abbrev pub beginning : InitHead → List Piece
beginning (heads.Plain x) = operand space x
beginning heads.Zeros = word space (codes "zeroinitializer")
beginning (heads.Bytes text) = byte_string space text
beginning heads.Array = opening Array
beginning (heads.Struct packed) = opening (level_of packed)

-- what is open behind it, and whether the next part is a first one
abbrev pub opened_by : InitHead → List Level → List Level
opened_by (heads.Plain x) open_ones = open_ones
opened_by heads.Zeros open_ones = open_ones
opened_by (heads.Bytes text) open_ones = open_ones
opened_by heads.Array open_ones = Array ∷ open_ones
opened_by (heads.Struct packed) open_ones = level_of packed ∷ open_ones

abbrev pub opens : InitHead → Bool
opens (heads.Plain x) = false
opens heads.Zeros = false
opens (heads.Bytes text) = false
opens heads.Array = true
opens (heads.Struct packed) = true

-- one part of the innermost aggregate, or its end
abbrev pub part : List Level → Bool → InitPart → List Piece
part [] first p = []
part (l ∷ ls) first (Typed f h) = part_shape l first f ++ beginning h
part (l ∷ ls) first End = closing l first

abbrev pub open_behind : List Level → InitPart → List Level
open_behind [] p = []
open_behind (l ∷ ls) (Typed f h) = opened_by h (l ∷ ls)
open_behind (l ∷ ls) End = ls

abbrev pub first_behind : List Level → Bool → InitPart → Bool
first_behind [] first p = first
first_behind (l ∷ ls) first (Typed f h) = opens h
first_behind (l ∷ ls) first End = false

abbrev pub parts : List Level → Bool → List InitPart → List Piece
parts open_ones first [] = []
parts open_ones first (p ∷ ps) = part open_ones first p ++ parts (open_behind open_ones p) (first_behind open_ones first p) ps
