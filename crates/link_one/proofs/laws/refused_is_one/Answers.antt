use Rattle.link_one.proofs.Refusals.{refused_once}
use Rattle.link_one.proofs.laws.refused_is_one.Goals as goal

pub returns : goal.returns
returns c = refused_once c.one_reading.ensures.reading c.one_reading.ensures.apart c.one_reading.ensures.fault
