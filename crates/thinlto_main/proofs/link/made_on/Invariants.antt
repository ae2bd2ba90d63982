use Rattle.cache_slot.specs.Directory.{dir_of}
use Rattle.thinlto_main.specs.Keys.{IsKeyOf}
use Rattle.thinlto_main.proofs.link.made_on.Given as goal

abbrev pub ghosts-made_in : goal.ghosts-made_in
ghosts-made_in g a = record { keys = IsKeyOf a.options.now a.given.now; dir = dir_of a.dir; faults = g.D.CacheDisk.faults a.disk; files = g.D.CacheDisk.held a.disk }
