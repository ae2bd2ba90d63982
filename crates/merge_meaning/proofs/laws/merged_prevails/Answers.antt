use Rattle.merge_meaning.proofs.Prevailing.{defined_prevails, prevailing_defined}
use Rattle.merge_meaning.proofs.laws.merged_prevails.Goals as goal

pub returns-clause-defined : goal.returns-clause-defined
returns-clause-defined c = prevailing_defined

pub returns-clause-only : goal.returns-clause-only
returns-clause-only c = defined_prevails
