use Rattle.link_one.proofs.Apart.{accepted_is_one, accepted_not_refused}
use Rattle.link_one.proofs.laws.accepted_is_not_refused.Goals as goal

pub returns-clause-apart : goal.returns-clause-apart
returns-clause-apart c = accepted_not_refused c.one_reading.ensures.reading c.one_reading.ensures.apart

pub returns-clause-one : goal.returns-clause-one
returns-clause-one c = accepted_is_one c.one_reading.ensures.reading
