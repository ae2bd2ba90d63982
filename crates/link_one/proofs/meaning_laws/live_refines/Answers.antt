use Rattle.link_one.proofs.Compiled.{compiled_refines}
use Rattle.link_one.proofs.LiveRefining.{live_refines}
use Rattle.link_one.proofs.meaning_laws.live_refines.Goals as goal

pub returns-clause-live : goal.returns-clause-live
returns-clause-live c = live_refines

pub returns-clause-compiled : goal.returns-clause-compiled
returns-clause-compiled c = compiled_refines
