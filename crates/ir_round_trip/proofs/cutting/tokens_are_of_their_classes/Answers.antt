use Rattle.ir_round_trip.proofs.Classes.{opcode_class, condition_class, conversion_class, bit_class, width_class, global_class}
use Rattle.ir_round_trip.proofs.cutting.tokens_are_of_their_classes.Goals as goal

pub returns-clause-binary : goal.returns-clause-binary
returns-clause-binary c = opcode_class

pub returns-clause-predicate : goal.returns-clause-predicate
returns-clause-predicate c = condition_class

pub returns-clause-cast : goal.returns-clause-cast
returns-clause-cast c = conversion_class

pub returns-clause-bit : goal.returns-clause-bit
returns-clause-bit c = bit_class

pub returns-clause-width : goal.returns-clause-width
returns-clause-width c = width_class

pub returns-clause-name : goal.returns-clause-name
returns-clause-name c = global_class
