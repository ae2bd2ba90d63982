use Rattle.link_one.proofs.Unlinked.{unlinked_not_linked, unlinked_one}
use Rattle.link_one.proofs.linked_laws.unlinked_is_one.Goals as goal

pub returns-clause-apart : goal.returns-clause-apart
returns-clause-apart c = unlinked_not_linked c.one_answer.ensures.thin c.one_answer.ensures.decisions

pub returns-clause-one : goal.returns-clause-one
returns-clause-one c = unlinked_one c.one_answer.ensures.thin c.one_answer.ensures.refusal c.one_answer.ensures.decisions
