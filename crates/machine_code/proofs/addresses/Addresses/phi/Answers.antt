use Rattle.std.proofs.Common.{List, refl, subst}
use Rattle.std.specs.List.{AllZip}
use Rattle.ir_tree.specs.declared.instr.Incoming.{Incoming}
use Rattle.machine_code.specs.Blocks.{IsEdge}
use Rattle.machine_code.proofs.addresses.Addresses.phi.Goals as goal

pub returns : goal.returns
returns c = record {
  local = refl;
  edges = subst (λ (es : List Incoming). AllZip (IsEdge c.args.self.now) es c.in_ok-edges.edges.items) c.as_slice.ensures c.in_ok-edges.ensures;
}
