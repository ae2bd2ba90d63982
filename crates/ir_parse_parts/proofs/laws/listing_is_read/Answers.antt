use Rattle.ir_parse_parts.proofs.Listed as listing
use Rattle.ir_parse_parts.proofs.laws.listing_is_read.Goals as goal

pub returns-clause-found : goal.returns-clause-found
returns-clause-found c = listing.found

pub returns-clause-only : goal.returns-clause-only
returns-clause-only c = listing.only
