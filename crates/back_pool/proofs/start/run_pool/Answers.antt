use Rattle.cache_slot.proofs.Prefixes.{prefix_self}
use Rattle.back_pool.proofs.start.run_pool.Goals as goal

pub run-requires-clause-tasks : goal.run-requires-clause-tasks
run-requires-clause-tasks g c κs within = λ k d lt. record {
  key = c.requires.keys k d lt;
  as_made = c.requires.fits k d lt;
  taken = c.requires.takes k d lt;
}

pub returns-in_err-claims-clause-seen : goal.returns-in_err-claims-clause-seen
returns-in_err-claims-clause-seen g c = prefix_self _
