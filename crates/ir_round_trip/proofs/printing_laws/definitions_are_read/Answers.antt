use Rattle.ir_round_trip.proofs.Blocks.{blocks_read}
use Rattle.ir_round_trip.proofs.Definitions.{definition_read}
use Rattle.ir_round_trip.proofs.printing_laws.definitions_are_read.Goals as goal

pub returns-clause-blocks : goal.returns-clause-blocks
returns-clause-blocks c = blocks_read

pub returns-clause-definition : goal.returns-clause-definition
returns-clause-definition c = definition_read
