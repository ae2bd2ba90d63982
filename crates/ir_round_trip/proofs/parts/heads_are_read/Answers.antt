use Rattle.ir_round_trip.proofs.Attributes.{attributes_read}
use Rattle.ir_round_trip.proofs.Heads.{head_read, declared_read, definition_pieces}
use Rattle.ir_round_trip.proofs.parts.heads_are_read.Goals as goal

pub returns-clause-definition : goal.returns-clause-definition
returns-clause-definition c = head_read

pub returns-clause-parts : goal.returns-clause-parts
returns-clause-parts c = definition_pieces

pub returns-clause-attributes : goal.returns-clause-attributes
returns-clause-attributes c = attributes_read

pub returns-clause-declaration : goal.returns-clause-declaration
returns-clause-declaration c = declared_read
