use Rattle.std.proofs.Common.{◌≡◌, take}
use Rattle.std.specs.Prelude.{map}
use Rattle.ir_tree.specs.Rules.{place}
use Rattle.ir_verify.proofs.phis.sources.Given as goal

abbrev pub invariant-loop-entry : goal.invariant-loop-entry
invariant-loop-entry l = l.sources.items ≡ map (λ e. place l.blocks e.from) (take l.entry-index l.entries)
