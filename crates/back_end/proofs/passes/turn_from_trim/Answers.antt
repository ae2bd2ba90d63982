use Rattle.std.proofs.Common.{◌∙◌, subst, sym}
use Rattle.ir_tree.specs.declared.function.Function.{Function}
use Rattle.ir_flow.specs.OfFunction.{IsGraphOf}
use Rattle.back_end.proofs.Turning.{unchanged}
use Rattle.back_end.proofs.passes.turn_from_trim.Goals as goal

pub turn_from_joins-requires-clause-graph : goal.turn_from_joins-requires-clause-graph
turn_from_joins-requires-clause-graph c uncut = subst (λ (g : Function). IsGraphOf g c.args.flow.now.edges) (sym (c.in_ok-trimmed.ensures.same uncut)) c.requires.flow.graph

pub returns : goal.returns
returns c =
    let (merged, merge, needed) = c.in_ok-g.ensures.made in
    record {
      made = (c.in_ok-trimmed.trimmed, merged, c.in_ok-trimmed.ensures.trimmed, merge, needed);
      same = λ neither. unchanged c.in_ok-trimmed.cut c.in_ok-g.changed c.args.f c.in_ok-trimmed.trimmed c.in_ok-g.g c.in_ok-trimmed.ensures.same c.in_ok-g.ensures.same (sym c.either.ensures ∙ neither);
    }
