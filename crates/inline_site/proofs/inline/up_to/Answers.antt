use Rattle.std.proofs.Common.{◌∙◌, ◌++◌, ap}
use Rattle.inline_site.specs.declared.open.Open.{Open}
use Rattle.inline_site.proofs.inline.up_to.Goals as goal

pub returns-clause-block : goal.returns-clause-block
returns-clause-block c = c.in_ok-push_all.ensures ∙ ap (λ (o : Open). record o { lines = o.lines ++ c.args.site.before.now }) c.in_ok-current.ensures
