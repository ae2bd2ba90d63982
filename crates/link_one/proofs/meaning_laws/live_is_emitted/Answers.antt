use Rattle.link_one.proofs.Finals.{live_emitted}
use Rattle.link_one.proofs.Lives.{live_closed}
use Rattle.link_one.proofs.meaning_laws.live_is_emitted.Goals as goal

pub returns-clause-closed : goal.returns-clause-closed
returns-clause-closed c = live_closed

pub returns-clause-emitted : goal.returns-clause-emitted
returns-clause-emitted c = live_emitted
