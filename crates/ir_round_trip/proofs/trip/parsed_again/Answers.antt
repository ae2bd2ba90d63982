use Rattle.std.proofs.Common.{Err, subst}
use Rattle.ir_parse.specs.Answers.{IsRead}
use Rattle.ir_tree.specs.declared.failure.Failure.{Failure}
use Rattle.ir_parse.specs.declared.fault.ReadFault.{ReadFault}
use Rattle.ir_round_trip.proofs.trip.parsed_again.Goals as goal

pub unreachable-requires : goal.unreachable-requires
unreachable-requires c = subst (λ (e : Failure ReadFault). IsRead c.requires.0 c.requires.1 (Err e)) c.in-Err-Fault.field-0-is (c.in-Err-Fault.ensures.only c.requires.0 c.requires.1 c.requires.2)
