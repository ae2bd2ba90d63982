use Rattle.ir_round_trip.proofs.Numbering.{read_numbered}
use Rattle.ir_round_trip.proofs.ReadStrings.{read_strings}
use Rattle.ir_round_trip.proofs.laws.read_modules_are_numbered.Goals as goal

pub returns : goal.returns
returns c = λ bytes m lines h r.
    let strings = read_strings bytes m lines h r in
    record { strings = strings.values; locals = read_numbered bytes m lines r; triple = strings.triple }
