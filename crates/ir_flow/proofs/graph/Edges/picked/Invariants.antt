use Rattle.std.proofs.Common.{◌≡◌, map, take, get_or}
use Rattle.ir_flow.specs.declared.graph.Extent.{Extent}
use Rattle.ir_flow.proofs.graph.Edges.picked.Given as goal

abbrev pub invariant-loop-place : goal.invariant-loop-place
invariant-loop-place l = (d : Extent) → l.picked.items ≡ map (λ k. get_or l.rows.items k d) (take l.place-index l.places)
