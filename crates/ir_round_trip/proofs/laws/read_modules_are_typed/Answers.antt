use Rattle.ir_round_trip.proofs.ReadTyped.{read_typed}
use Rattle.ir_round_trip.proofs.laws.read_modules_are_typed.Goals as goal

pub returns : goal.returns
returns c =
    read_typed c.tokens_are_cut.ensures c.items_are_within.ensures c.tokens_are_sized.ensures c.items_are_written.ensures c.types_are_written.ensures c.shapes_are_within.ensures
