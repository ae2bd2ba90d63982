use Rattle.ir_parse_parts.proofs.Listed as listing
use Rattle.ir_parse_parts.proofs.laws.listing_faults.Goals as goal

pub returns-clause-stops : goal.returns-clause-stops
returns-clause-stops c = listing.stops

pub returns-clause-place : goal.returns-clause-place
returns-clause-place c = listing.place

pub returns-clause-kind : goal.returns-clause-kind
returns-clause-kind c = listing.kind

pub returns-clause-limit : goal.returns-clause-limit
returns-clause-limit c = listing.limit
