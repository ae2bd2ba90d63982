use Rattle.std.proofs.Common.{◌∙◌, sym}
use Rattle.std.proofs.lemmas.Result.{IfErr-weaker, IfOk-weaker}
use Rattle.thin_link.specs.Views.{rows}
use Rattle.thin_link.proofs.Counted.{modules_counted}
use Rattle.thin_link.proofs.reporting.index.Goals as goal

pub report_of-requires : goal.report_of-requires
report_of-requires c = record {
  live = c.in_ok-link.ensures.done.alive.long;
  imports = c.in_ok-link.ensures.done.planned.modules;
  files = c.requires ∙ sym (modules_counted c.args.modules.now c.in_ok-link.link.index c.in_ok-link.ensures.done.combined);
}

pub returns-clause-done : goal.returns-clause-done
returns-clause-done c =
    IfOk-weaker c.report_of.result _ _
    (λ text is. record {
      index = c.in_ok-link.link.index;
      live = c.in_ok-link.link.live;
      imports = rows c.in_ok-link.link.imports.items;
      linked = c.in_ok-link.ensures.done;
      report = is;
    })
    c.report_of.ensures.done

pub returns-clause-refused : goal.returns-clause-refused
returns-clause-refused c = IfErr-weaker c.report_of.result _ _ (λ why is other. absurd (other is)) c.report_of.ensures.refused
