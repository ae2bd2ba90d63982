use Rattle.ir_parse_sizes.proofs.Measured.{known_set, small_set}
use Rattle.ir_parse_sizes.proofs.sizes.find.Goals as goal

pub known_here-requires-clause-known : goal.known_here-requires-clause-known
known_here-requires-clause-known c = c.requires.known

pub known_here-requires-clause-small : goal.known_here-requires-clause-small
known_here-requires-clause-small c = c.requires.small

pub returns-in_err-found-clause-known : goal.returns-in_err-found-clause-known
returns-in_err-found-clause-known c = c.requires.known

pub returns-in_err-found-clause-small : goal.returns-in_err-found-clause-small
returns-in_err-found-clause-small c = c.requires.small

pub returns-in_ok-found-clause-known : goal.returns-in_ok-found-clause-known
returns-in_ok-found-clause-known c = known_set c.args.names.now c.args.known.now c.args.place c.in_ok-found.found c.requires.known c.if-place-known.true c.in_ok-found.ensures.given

pub returns-in_ok-found-clause-small : goal.returns-in_ok-found-clause-small
returns-in_ok-found-clause-small c = small_set c.args.known.now c.args.place c.in_ok-found.found c.requires.small c.if-place-known.true c.in_ok-found.ensures.small

pub returns-else-place-known-clause-known : goal.returns-else-place-known-clause-known
returns-else-place-known-clause-known c = c.requires.known

pub returns-else-place-known-clause-small : goal.returns-else-place-known-clause-small
returns-else-place-known-clause-small c = c.requires.small
