use Rattle.std.proofs.Common.{refl}
use Rattle.ir_parse_parts.specs.Listing.{further_at, numbers_at, listing_at, within}
use Rattle.ir_parse_parts.specs.Rules.{is_class}
use Rattle.ir_parse_parts.proofs.laws.listing_examples.Goals as goal

pub returns-clause-none : goal.returns-clause-none
unfolding further_at numbers_at listing_at within is_class
returns-clause-none c = refl

pub returns-clause-two : goal.returns-clause-two
unfolding further_at numbers_at listing_at within is_class
returns-clause-two c = refl

pub returns-clause-range : goal.returns-clause-range
unfolding further_at numbers_at listing_at within is_class
returns-clause-range c = refl

pub returns-clause-limit : goal.returns-clause-limit
unfolding further_at numbers_at listing_at within is_class
returns-clause-limit c = refl

pub returns-clause-syntax : goal.returns-clause-syntax
unfolding further_at numbers_at listing_at within is_class
returns-clause-syntax c = refl

pub returns-clause-end : goal.returns-clause-end
unfolding further_at numbers_at listing_at within is_class
returns-clause-end c = refl

pub returns-clause-over : goal.returns-clause-over
unfolding further_at numbers_at listing_at within is_class
returns-clause-over c = refl
