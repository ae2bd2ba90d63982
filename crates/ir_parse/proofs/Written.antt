-- Shapes, operands and arguments, from their tokens.
use Rattle.std.proofs.lemmas.List.Elements.{recursion_from_All}
use Rattle.ir_parse_operands.specs.ShapeForms.{memory_shape}
use Rattle.ir_parse.specs.Spelled.{ArgumentsAreWritten, OperandsAreWritten, ShapesAreWritten}
use Rattle.ir_parse.specs.Sized.{IsSized}
use Rattle.ir_parse.proofs.Operands.{argument_written, operand_written}
use Rattle.ir_parse.proofs.Shapes.{shape_written}

pub shapes : ShapesAreWritten
shapes ts t s h = shape_written.of ts t (recursion_from_All IsSized ts s) h

pub operands : OperandsAreWritten
operands ts reg o r s h = (operand_written memory_shape reg r).of ts o (recursion_from_All IsSized ts s) h

pub arguments : ArgumentsAreWritten
arguments ts a s h = (argument_written memory_shape).of ts a (recursion_from_All IsSized ts s) h
