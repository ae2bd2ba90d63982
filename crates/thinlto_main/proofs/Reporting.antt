-- The report of an index.
use Rattle.std.proofs.Common.{ℕ, Bool, List, subst}
use Rattle.ir_tree.specs.declared.module.Module.{Module}
use Rattle.link_one.specs.Laws.{AcceptedIsOne}
use Rattle.lto_fault.specs.Pushing.{Pushes}
use Rattle.thin_link.specs.Laws.{ReportIsOne}
use Rattle.thin_link.specs.Linking.{IsIndexReport}
use Rattle.thin_link.specs.Refusing.{IsRefused}
use Rattle.thinlto_main.specs.Answers.{reporting}
use Rattle.run_program.specs.Causes.{never}
use Rattle.thinlto_main.specs.Modules.{AreRead, reading}
use Rattle.thinlto_main.specs.Reporting.{DidReport}
use Rattle.thinlto_main.specs.Seen.{Seen}
use Rattle.run_program.proofs.Causes.{Implies}
use Rattle.thinlto_main.proofs.Reading.{fetched_no_put, one_reading}

-- why modules aren't read is why there is no report
pub reading_reports : (exports names : List (List ℕ)) (limit : ℕ) (s : Seen) → s.unprinted → Implies (reading names s.files) (reporting exports limit names s)
reading_reports exports names limit s same = record {
  done = λ x. absurd x;
  usage = λ x. absurd x;
  unread = λ name x. (x, same);
  refused = λ file line kind x. (x, same);
  unlinked = λ why x. absurd x;
  unfit = λ name x. absurd x;
  unwritten = λ name x. absurd x;
  unreturned = λ why x. absurd x;
  memory = λ x. (x, same);
}

module _ (exports names : List (List ℕ)) (limit : ℕ) (s : Seen) (ms : List Module) (r : AreRead names s.files.did ms) where
  -- why they aren't linked is, too
  pub unlinked_reports : s.unprinted → Implies (record never { unlinked = IsRefused names ms exports; memory = Unit {0} }) (reporting exports limit names s)
  unlinked_reports same = record {
    done = λ x. absurd x;
    usage = λ x. absurd x;
    unread = λ name x. absurd x;
    refused = λ file line kind x. absurd x;
    unlinked = λ why x. (record { ms = ms; read = r; refused = x }, same);
    unfit = λ name x. absurd x;
    unwritten = λ name x. absurd x;
    unreturned = λ why x. absurd x;
    memory = λ x. (fetched_no_put names r.given s.files.did r.fetched, same);
  }

  pub did_report : AcceptedIsOne → ReportIsOne → (text : List ℕ) → IsIndexReport names ms exports limit text → (done : Bool) → Pushes s.out text done → DidReport exports names limit s done
  did_report accepted one text report done sent = record {
    given = r.given;
    text = text;
    fetched = r.fetched;
    is_report = record { ms = ms; read = r.read; is = report };
    only = λ other q. one names exports ms limit other text (subst (λ (ns : List Module). IsIndexReport names ns exports limit other) (one_reading accepted r.given q.ms ms q.read r.read) q.is) report;
    sent = sent;
  }
