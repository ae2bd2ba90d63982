use Rattle.std.proofs.Common.{◌≡◌, ◌++◌, drop, map, take}
use Rattle.inline_site.specs.Callers.{name_in, with_names}
use Rattle.inline_site.proofs.names.Names.rename.Given as goal

abbrev pub invariant-loop-place : goal.invariant-loop-place
invariant-loop-place l = take l.place l.blocks.items ++ map (with_names (name_in l.self)) (drop l.place l.blocks.items) ≡ map (with_names (name_in l.self)) l.fn.blocks.items
