use Rattle.std.proofs.lemmas.Result.{IfOk-weaker}
use Rattle.back_pool.specs.Making.{IsTrusted}
use Rattle.link_one.specs.TaskUnits.{IsTaskUnit}
use Rattle.link_one.proofs.LinkTasks.{all_made}
use Rattle.link_one.proofs.pool.Pool.units.Goals as goal

pub run_pool-requires-clause-keys : goal.run_pool-requires-clause-keys
run_pool-requires-clause-keys g c κs within = λ k d lt. (c.requires.tasks k d lt).key

pub run_pool-requires-clause-fits : goal.run_pool-requires-clause-fits
run_pool-requires-clause-fits g c κs within = λ k d lt. (c.requires.tasks k d lt).as_made

pub run_pool-requires-clause-takes : goal.run_pool-requires-clause-takes
run_pool-requires-clause-takes g c κs within = λ k d lt. (c.requires.tasks k d lt).taken

pub returns-clause-made : goal.returns-clause-made
returns-clause-made g c =
    IfOk-weaker c.run_pool.result _ _
    (λ units each trusted. all_made (IsTrusted g.S.Setting.dir g.D.CacheDisk.fits g.S.Setting.files) IsTaskUnit trusted c.args.tasks.now units.items each) c.run_pool.ensures.each
