use Rattle.link_one.proofs.Texts.{linked_once}
use Rattle.link_one.proofs.laws.linked_is_one.Goals as goal

pub returns : goal.returns
returns c = linked_once c.live_by_module.ensures.sound c.made_is_one.ensures c.one_answer.ensures.decisions c.emission_is_one.ensures.one c.accepted_is_not_refused.ensures.one
