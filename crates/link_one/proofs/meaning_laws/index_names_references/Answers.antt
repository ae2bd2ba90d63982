use Rattle.link_one.proofs.References.{index_finds, index_names}
use Rattle.link_one.proofs.meaning_laws.index_names_references.Goals as goal

pub returns-clause-finds : goal.returns-clause-finds
returns-clause-finds c = index_finds

pub returns-clause-names : goal.returns-clause-names
returns-clause-names c = index_names
