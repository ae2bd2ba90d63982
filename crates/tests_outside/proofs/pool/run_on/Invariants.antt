use Rattle.std.proofs.Common.{Some, map}
use Rattle.std.specs.List.{Contains}
use Rattle.cache_slot.specs.Directory.{dir_of}
use Rattle.lto_task.specs.Tasks.{task_text, task_view}
use Rattle.outside_memory.specs.Disk.{disk_held, disk_calls}
use Rattle.tests_outside.proofs.pool.run_on.Given as goal

abbrev pub ghosts-run : goal.ghosts-run
ghosts-run g a = record { keys = Contains (map (λ t. task_text (task_view t)) a.tasks.now); dir = dir_of a.dir; faults = (disk_calls a.disk).failed; files = Some (disk_held a.disk) }
