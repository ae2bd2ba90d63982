use Rattle.link_one.proofs.LiveLinkable.{exported_is_defined, live_known}
use Rattle.link_one.proofs.meaning_laws.live_is_known.Goals as goal

pub returns-clause-known : goal.returns-clause-known
returns-clause-known c = live_known

pub returns-clause-exported : goal.returns-clause-exported
returns-clause-exported c = exported_is_defined
