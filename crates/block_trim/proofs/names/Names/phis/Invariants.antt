use Rattle.std.proofs.Common.{◌≡◌, ◌++◌, map, drop}
use Rattle.block_trim.specs.Merged.{phi_named}
use Rattle.block_trim.specs.Working.{name_in}
use Rattle.block_trim.proofs.names.Names.phis.Given as goal

abbrev pub invariant-loop-phi : goal.invariant-loop-phi
invariant-loop-phi l = l.rows ++ map (phi_named (name_in l.self)) (drop l.phi-index l.phis) ≡ map (phi_named (name_in l.self)) l.phis
