use Rattle.std.proofs.Common.{ℕ, List, refl, subst, sym, true, false}
use Rattle.ir_tree.specs.declared.module.Module.{Module}
use Rattle.lto_fault.specs.Pushing.{Pushes}
use Rattle.lto_outside.specs.Calls.{Call}
use Rattle.lto_outside.specs.Seen.{stream_seen}
use Rattle.thinlto_main.specs.Modules.{AreRead}
use Rattle.thinlto_main.specs.Seen.{seen}
use Rattle.run_program.proofs.Causes.{because_map}
use Rattle.thinlto_main.proofs.Reading.{as_many, fetched_no_put}
use Rattle.thinlto_main.proofs.Reporting.{did_report, reading_reports, unlinked_reports}
use Rattle.thinlto_main.proofs.index.index.Goals as goal

pub returns-in-Err-clause-answer : goal.returns-in-Err-clause-answer
returns-in-Err-clause-answer g c = because_map (reading_reports c.args.exports.now c.args.names.now c.args.import_limit (seen g.F.Files.did g.F.Files.held g.F.Files.faults g.O.ByteOut.sent g.O.ByteOut.faults c.args.files.now c.modules.new.files c.args.out.now c.args.out.now) refl) c.in-Err.why c.in-Err.ensures.because

pub report-requires : goal.report-requires
report-requires g c = as_many c.args.names.now (λ (calls : List Call). g.F.Files.did c.args.files.now calls c.modules.new.files) c.as_slice-all.result.now (subst (λ (l : List Module). AreRead c.args.names.now (λ (calls : List Call). g.F.Files.did c.args.files.now calls c.modules.new.files) l) (sym c.as_slice-all.ensures) c.in-Ok.ensures.read)

pub returns-in-Err-report-clause-answer : goal.returns-in-Err-report-clause-answer
returns-in-Err-report-clause-answer g c =
    because_map (unlinked_reports c.args.exports.now c.args.names.now c.args.import_limit (seen g.F.Files.did g.F.Files.held g.F.Files.faults g.O.ByteOut.sent g.O.ByteOut.faults c.args.files.now c.modules.new.files c.args.out.now c.args.out.now) c.as_slice-all.result.now
    (subst (λ (l : List Module). AreRead c.args.names.now (λ (calls : List Call). g.F.Files.did c.args.files.now calls c.modules.new.files) l) (sym c.as_slice-all.ensures) c.in-Ok.ensures.read) refl)
    c.in-Err-report.why c.in-Err-report.ensures.because

pub returns-in_default-clause-answer : goal.returns-in_default-clause-answer
returns-in_default-clause-answer g c = (fetched_no_put c.args.names.now c.in-Ok.ensures.read.given (λ (calls : List Call). g.F.Files.did c.args.files.now calls c.modules.new.files) c.in-Ok.ensures.read.fetched, refl)

pub returns-then-push_all-clause-answer : goal.returns-then-push_all-clause-answer
returns-then-push_all-clause-answer g c =
    did_report c.args.exports.now c.args.names.now c.args.import_limit (seen g.F.Files.did g.F.Files.held g.F.Files.faults g.O.ByteOut.sent g.O.ByteOut.faults c.args.files.now c.modules.new.files c.args.out.now c.push_all.new.out) c.as_slice-all.result.now
    (subst (λ (l : List Module). AreRead c.args.names.now (λ (calls : List Call). g.F.Files.did c.args.files.now calls c.modules.new.files) l) (sym c.as_slice-all.ensures) c.in-Ok.ensures.read)
    c.accepted_is_not_refused.ensures.one c.one_answer.ensures.report c.in-Ok-report.text c.in-Ok-report.ensures.done true
    (subst (λ (t : List ℕ). Pushes (stream_seen g.O.ByteOut.sent g.O.ByteOut.faults c.args.out.now c.push_all.new.out) t true) c.as_slice.ensures c.if-push_all.ensures.pushed)

pub returns-clause-answer : goal.returns-clause-answer
returns-clause-answer g c = record {
  named = c.in-Ok-output.ensures;
  did_report =
      did_report c.args.exports.now c.args.names.now c.args.import_limit (seen g.F.Files.did g.F.Files.held g.F.Files.faults g.O.ByteOut.sent g.O.ByteOut.faults c.args.files.now c.modules.new.files c.args.out.now c.push_all.new.out) c.as_slice-all.result.now
      (subst (λ (l : List Module). AreRead c.args.names.now (λ (calls : List Call). g.F.Files.did c.args.files.now calls c.modules.new.files) l) (sym c.as_slice-all.ensures) c.in-Ok.ensures.read)
      c.accepted_is_not_refused.ensures.one c.one_answer.ensures.report c.in-Ok-report.text c.in-Ok-report.ensures.done false
      (subst (λ (t : List ℕ). Pushes (stream_seen g.O.ByteOut.sent g.O.ByteOut.faults c.args.out.now c.push_all.new.out) t false) c.as_slice.ensures c.if-push_all.ensures.pushed);
}

pub returns-in-Err-clause-later : goal.returns-in-Err-clause-later
returns-in-Err-clause-later g c = c.modules.ensures.later

pub returns-in-Err-report-clause-later : goal.returns-in-Err-report-clause-later
returns-in-Err-report-clause-later g c = c.modules.ensures.later

pub returns-in_default-clause-later : goal.returns-in_default-clause-later
returns-in_default-clause-later g c = c.modules.ensures.later

pub returns-then-push_all-clause-later : goal.returns-then-push_all-clause-later
returns-then-push_all-clause-later g c = c.modules.ensures.later

pub returns-clause-later : goal.returns-clause-later
returns-clause-later g c = c.modules.ensures.later
