use Rattle.std.proofs.Common.{◌∙◌, subst, sym}
use Rattle.ir_tree.specs.declared.function.Function.{Function}
use Rattle.ir_flow.specs.OfFunction.{IsFlowOf}
use Rattle.block_trim.specs.Merged.{IsMergeOf}
use Rattle.block_trim.specs.Trimmed.{IsTrimOf}
use Rattle.dead_code.specs.Least.{IsNeededOf}
use Rattle.back_end.proofs.Turning.{unchanged}
use Rattle.back_end.proofs.passes.turn_from_branches.Goals as goal

pub turn_from_jumps-requires-clause-flow : goal.turn_from_jumps-requires-clause-flow
turn_from_jumps-requires-clause-flow c undecided = subst (λ (g : Function). IsFlowOf g c.args.flow.now) (sym (c.in_ok-simplified.ensures.same undecided)) c.requires.flow

pub returns : goal.returns
returns c = record {
  made =
      subst (λ (s : Function). (trimmed merged : Function) × IsTrimOf s trimmed × IsMergeOf trimmed merged × IsNeededOf merged c.in_ok-g.g)
      c.in_ok-simplified.ensures.simplified c.in_ok-g.ensures.made;
  same = λ neither. unchanged c.in_ok-simplified.decided c.in_ok-g.changed c.args.f c.in_ok-simplified.simplified c.in_ok-g.g c.in_ok-simplified.ensures.same c.in_ok-g.ensures.same (sym c.either.ensures ∙ neither);
}
