use Rattle.std.proofs.Common.{Some}
use Rattle.std.specs.List.{Contains}
use Rattle.cache_slot.specs.Directory.{dir_of}
use Rattle.outside_memory.specs.Disk.{disk_held, disk_calls}
use Rattle.tests_outside.specs.Keys.{test_keys}
use Rattle.tests_outside.proofs.cache.script.on_disk.Given as goal

abbrev pub ghosts-run : goal.ghosts-run
ghosts-run g a = record { keys = Contains test_keys; dir = dir_of a.dir; faults = (disk_calls a.disk).failed; files = Some (disk_held a.disk) }
