-- Variables and their initialisers as they are printed are read as their tokens.
use Rattle.std.proofs.Common.{Bool, true, false, not, Option, Some, None, codes, refl}
use Rattle.std.proofs.lemmas.List.Elements.{recursion_from_All}
use Rattle.std.specs.List.{AllByRecursion as Each}
use Rattle.ir_lex.specs.Bytes.{has}
use Rattle.ir_tree.specs.Forms.{Form}
use Rattle.ir_tree.specs.Initials.{Initial, Initials, plain, zeros, bytes, elements, members, no_initials, initial}
use Rattle.ir_tree.specs.Wholes.{initial_operands, all_operands, init_operands}
use Rattle.ir_tree.specs.declared.function.Linkage.{Linkage}
use Rattle.ir_tree.specs.declared.function.Variable.{Variable}
use Rattle.ir_print.specs.declared.level.Level.{Level}
use Rattle.ir_print.specs.declared.level.Level.TheVariants.{Array, Struct, PackedStruct}
use Rattle.ir_print.specs.Tokens.{tight, space}
use Rattle.ir_print.specs.Variables.{level_of, opening, closing_brace, closing, first_shape, part_shape, value, parts_in, kind_word, linked, given, variable}
use Rattle.ir_round_trip.specs.Printable.{VariablePrintable, OperandPrintable}
use Rattle.ir_round_trip.proofs.PartsFunctions.{linkage_fits}
use Rattle.ir_round_trip.proofs.CutInstructions.{each_left, each_right, aligned_fits}
use Rattle.ir_round_trip.proofs.Joined.{Fits, Shut, then, nothing, weaker, spaced, marked, mark_shut, shut_by, behind_shut, comma_fits, keyword, global_fits, byte_string_fits}
use Rattle.ir_round_trip.proofs.CutOperands.{operand_fits, shape_fits}
use Rattle.ir_round_trip.proofs.Single.{open_bracket, close_bracket, open_brace, close_brace, open_angle, close_angle, equals_mark}

-- ---- what stands round parts

opening_shut : (l : Level) → Shut (opening l)
opening_shut Array = mark_shut space 91 spaced open_bracket
opening_shut Struct = mark_shut space 123 spaced open_brace
opening_shut PackedStruct = shut_by (marked space 60 spaced open_angle) (mark_shut tight 123 tt open_brace)

brace_fits : (none : Bool) → Fits true (closing_brace none)
brace_fits true = marked tight 125 tt close_brace
brace_fits false = marked space 125 spaced close_brace

closing_fits : (l : Level) (none : Bool) → Fits true (closing l none)
closing_fits Array none = marked tight 93 tt close_bracket
closing_fits Struct none = brace_fits none
closing_fits PackedStruct none = then (brace_fits none) (marked tight 62 tt close_angle)

first_fits : (l : Level) (f : Form) → Fits false (first_shape l f)
first_fits Array f = shape_fits tight f tt
first_fits Struct f = weaker false (shape_fits space f spaced)
first_fits PackedStruct f = weaker false (shape_fits space f spaced)

part_fits : (l : Level) (first : Bool) (f : Form) → Fits (not first) (part_shape l first f)
part_fits l true f = first_fits l f
part_fits l false f = then comma_fits (shape_fits space f spaced)

-- ---- initialisers

mutual
  unfolding has

  pub value_fits : (v : Initial) → Each OperandPrintable (initial_operands v) → Fits true (value v)
  value_fits (plain x) p = operand_fits space x spaced p.0
  value_fits zeros p = keyword space (codes "zeroinitializer") spaced refl
  value_fits (bytes text) p = byte_string_fits space text spaced
  value_fits (elements parts) p = behind_shut (opening_shut Array) (parts_fit Array true parts p)
  value_fits (members packed parts) p = behind_shut (opening_shut (level_of packed)) (parts_fit (level_of packed) true parts p)

  pub parts_fit : (l : Level) (first : Bool) (vs : Initials) → Each OperandPrintable (all_operands vs) → Fits (not first) (parts_in l first vs)
  parts_fit l first no_initials p = weaker (not first) (closing_fits l first)
  parts_fit l first (initial f v rest) p =
      then (part_fits l first f)
      (then (value_fits v (each_left OperandPrintable (initial_operands v) (all_operands rest) p)) (parts_fit l false rest (each_right OperandPrintable (initial_operands v) (all_operands rest) p)))

-- ---- variables

kind_fits : (constant : Bool) → Fits true (kind_word constant)
unfolding has
kind_fits true = keyword space (codes "constant") spaced refl
kind_fits false = keyword space (codes "global") spaced refl

linked_fits : (v : Option Initial) (l : Linkage) → Fits true (linked v l)
unfolding has
linked_fits None l = keyword space (codes "external") spaced refl
linked_fits (Some v) l = linkage_fits l

given_fits : (v : Option Initial) → Each OperandPrintable (init_operands v) → Fits true (given v)
given_fits None p = nothing
given_fits (Some v) p = value_fits v p

pub variable_fits : (v : Variable) → VariablePrintable v → Fits false (variable v)
variable_fits v p =
    then (global_fits tight v.symbol.name tt p.name) (then (marked space 61 spaced equals_mark) (then (linked_fits v.init v.linkage) (then (kind_fits v.constant)
    (then (shape_fits space v.shape spaced) (then (given_fits v.init (recursion_from_All OperandPrintable (init_operands v.init) p.operands)) (aligned_fits v.align))))))
