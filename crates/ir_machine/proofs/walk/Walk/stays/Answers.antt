use Rattle.std.proofs.Common.{◌&&◌, pos, Some}
use Rattle.ir_meaning.specs.Address.{stays_within, sum_from}
use Rattle.lto_bits.specs.Word.{wrapped}
use Rattle.ir_machine.proofs.Walks.{stays_ends}
use Rattle.ir_machine.proofs.walk.Walk.stays.Goals as goal

pub returns-clause-ends : goal.returns-clause-ends
returns-clause-ends c =
    let w = c.args.self in
    λ inbounds zeros ds.
    stays_ends inbounds w.zero c.args.zero zeros (w.within && stays_within w.size (pos w.offset) ds) (Some (wrapped 64 (sum_from (pos w.offset) ds))) c.both.result c.both.ensures
