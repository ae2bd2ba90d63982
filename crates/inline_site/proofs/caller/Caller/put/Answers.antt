use Rattle.std.proofs.Common.{◌∙◌, [], ◌∷◌, ◌++◌, map, refl, ap}
use Rattle.std.specs.Option.{option_to_list}
use Rattle.ir_tree.specs.declared.block.Terminator.TheVariants.{Jump}
use Rattle.inline_site.specs.Callers.{ended}
use Rattle.inline_site.specs.Inlined.{entry_of, leading_to}
use Rattle.inline_site.specs.declared.late.Late.{Late}
use Rattle.inline_site.specs.declared.open.Open.{Open}
use Rattle.inline_site.proofs.caller.Caller.put.Goals as goal

pub returns : goal.returns
returns c = record {
  done =
      c.in_ok-splice.ensures.done
      ∙ ap (λ (o : Open). c.args.self.now.done.items ++ ended c.args.current.now (Jump (entry_of c.args.copy.now)) ∷ map (leading_to o.number) c.args.copy.now) c.in_ok-after.ensures;
  current = c.in_ok-splice.ensures.current ∙ c.in_ok-after.ensures;
  halves =
      c.in_ok-push.ensures.halves
      ∙ ap (λ (l : Late). l.halves.items ++ record { block = c.args.current.now.number; behind = c.args.behind } ∷ []) c.in_ok-splice.ensures.late;
  lost = c.in_ok-push.ensures.lost ∙ (λ i. (c.in_ok-splice.ensures.late i).lost.items ++ option_to_list (c.lost_of.ensures i));
  free = refl;
}
