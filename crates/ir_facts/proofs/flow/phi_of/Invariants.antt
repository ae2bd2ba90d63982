use Rattle.std.proofs.Common.{◌≡◌, drop}
use Rattle.ir_facts.specs.FactFlow.{phi_of}
use Rattle.ir_facts.proofs.flow.phi_of.Given as goal

abbrev pub invariant-loop-block : goal.invariant-loop-block
invariant-loop-block l = phi_of l.local (drop l.block-index l.blocks) ≡ phi_of l.local l.blocks
