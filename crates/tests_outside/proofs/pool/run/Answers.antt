use Rattle.lto_task.specs.Tasks.{task_text, task_view}
use Rattle.tests_outside.proofs.Keys.{key_of}
use Rattle.tests_outside.proofs.pool.run.Goals as goal

pub run_pool-requires-clause-keys : goal.run_pool-requires-clause-keys
run_pool-requires-clause-keys g c κs within = λ k d lt. c.requires.keys _ (key_of (λ t. task_text (task_view t)) c.args.tasks.now k d lt)
