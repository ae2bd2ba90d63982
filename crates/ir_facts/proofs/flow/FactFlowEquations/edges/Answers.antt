use Rattle.std.proofs.Common.{ℕ, ◌<◌, ◌^◌, subst}
use Rattle.ir_flow.proofs.Reaching.{edge-from}
use Rattle.ir_facts.proofs.flow.FactFlowEquations.edges.Goals as goal

pub returns : goal.returns
returns c =
    let graph = c.args.self.now.graph in
    record {
      long = graph.long;
      short = subst (λ (n : ℕ). n < 2 ^ 32) graph.long graph.short;
      same = graph.same;
      inside = λ b p m. edge-from c.args.self.now.function.now b p m;
    }
