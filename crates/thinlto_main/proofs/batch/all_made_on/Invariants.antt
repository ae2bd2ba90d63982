use Rattle.cache_slot.specs.Directory.{dir_of}
use Rattle.thinlto_main.specs.Keys.{IsKeyAmong}
use Rattle.thinlto_main.proofs.batch.all_made_on.Given as goal

abbrev pub ghosts-all_made_in : goal.ghosts-all_made_in
ghosts-all_made_in g a = record { keys = IsKeyAmong a.options.now a.given.now; dir = dir_of a.dir; faults = g.D.CacheDisk.faults a.disk; files = g.D.CacheDisk.held a.disk }
