use Rattle.std.proofs.Common.{None, Some}
use Rattle.std.specs.List.{Contains}
use Rattle.outside_memory.specs.Disk.{disk_held, disk_calls}
use Rattle.tests_outside.specs.Keys.{test_keys}
use Rattle.tests_outside.proofs.cache.threads.store_in_memory.Given as goal

abbrev pub ghosts-store_beside : goal.ghosts-store_beside
ghosts-store_beside g a = record { keys = Contains test_keys; dir = None; faults = (disk_calls a.disk).failed; files = Some (disk_held a.disk) }
