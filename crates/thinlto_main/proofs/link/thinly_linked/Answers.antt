use Rattle.thinlto_main.proofs.Linking.{has_thin_link}
use Rattle.thinlto_main.proofs.link.thinly_linked.Goals as goal

pub returns-clause-done : goal.returns-clause-done
returns-clause-done c = has_thin_link c.args.modules.now c.args.import_limit c.args.exports.now _ _ _ c.in_ok-thin_link.ensures.done
