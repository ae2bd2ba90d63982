use Rattle.ir_parse_parts.proofs.Listed as listing
use Rattle.ir_parse_parts.proofs.laws.listing_rule.Goals as goal

pub returns : goal.returns
returns c = listing.listing_rule
