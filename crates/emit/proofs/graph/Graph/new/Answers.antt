use Rattle.std.proofs.Common.{[], List, ℕ, Bor, sym, subst}
use Rattle.emit.specs.Graphs.{Linked}
use Rattle.emit.proofs.Linking.{linked_none}
use Rattle.emit.proofs.graph.Graph.new.Goals as goal

pub returns-clause-linked : goal.returns-clause-linked
returns-clause-linked c =
    subst (λ (keys : List (Bor (List ℕ))). Linked [] keys c.new-rows.result.items) (sym c.new-names.ensures.empty)
    (subst (λ (rows : List (List ℕ)). Linked [] [] rows) (sym c.new-rows.ensures.items) linked_none)
