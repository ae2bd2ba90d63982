use Rattle.std.proofs.Common.{◌≡◌, List, OnOk, refl, ap, subst, sym}
use Rattle.lto_outside.specs.Calls.{Call}
use Rattle.lto_words.specs.declared.request.Command.{Command}
use Rattle.thinlto_main.specs.Answers.{Says, obeyed}
use Rattle.thinlto_main.specs.Asking.{is_offered}
use Rattle.cache_slot.specs.Decoded.{decoded}
use Rattle.lto_outside.specs.Honest.{IsHonest}
use Rattle.thinlto_main.specs.Keys.{LeavesDisk}
use Rattle.run_program.specs.Causes.{Comes}
use Rattle.thinlto_main.specs.Seen.{rest_seen, seen}
use Rattle.run_program.specs.Streams.{notes_seen}
use Rattle.thinlto_main.proofs.Asking.{batch_obeyed, index_obeyed, link_obeyed, on_each, run_obeyed}
use Rattle.run_program.proofs.Causes.{comes_map}
use Rattle.thinlto_main.proofs.command.obey.Goals as goal

pub returns-in-Gen-clause-answer : goal.returns-in-Gen-clause-answer
returns-in-Gen-clause-answer g c = (ap is_offered c.in-Gen.is, (g.met.F.Files.did_none _, refl), refl)

pub returns-in-Gen-clause-disk : goal.returns-in-Gen-clause-disk
returns-in-Gen-clause-disk g c =
    subst (λ (k : Command). LeavesDisk k (λ (calls : List Call). g.F.Files.did c.args.files.now calls c.args.files.now) g.D.CacheDisk.fits (g.D.CacheDisk.held c.args.disk) (g.D.CacheDisk.held c.args.disk)) (sym c.in-Gen.is) refl

pub returns-in-Link-clause-answer : goal.returns-in-Link-clause-answer
returns-in-Link-clause-answer g c =
    subst (λ (k : Command). Comes (obeyed k (seen g.F.Files.did g.F.Files.held g.F.Files.faults g.O.ByteOut.sent g.O.ByteOut.faults c.args.files.now c.obey_link.new.files c.args.out.now c.args.out.now) (rest_seen g.I.ByteIn.left g.I.ByteIn.faults (IsHonest decoded g.D.CacheDisk.fits (g.D.CacheDisk.held c.args.disk)) c.args.input.now c.args.input.now)) c.obey_link.result.status) (sym c.in-Link.is)
    (comes_map (link_obeyed c.in-Link.options c.in-Link.name c.in-Link.names (seen g.F.Files.did g.F.Files.held g.F.Files.faults g.O.ByteOut.sent g.O.ByteOut.faults c.args.files.now c.obey_link.new.files c.args.out.now c.args.out.now) (rest_seen g.I.ByteIn.left g.I.ByteIn.faults (IsHonest decoded g.D.CacheDisk.fits (g.D.CacheDisk.held c.args.disk)) c.args.input.now c.args.input.now) refl refl) c.obey_link.result.status c.obey_link.ensures.answer)

pub returns-in-Link-clause-says : goal.returns-in-Link-clause-says
returns-in-Link-clause-says g c =
    subst (λ (k : Command). OnOk c.obey_link.result.status (Says k (seen g.F.Files.did g.F.Files.held g.F.Files.faults g.O.ByteOut.sent g.O.ByteOut.faults c.args.files.now c.obey_link.new.files c.args.out.now c.args.out.now) (rest_seen g.I.ByteIn.left g.I.ByteIn.faults (IsHonest decoded g.D.CacheDisk.fits (g.D.CacheDisk.held c.args.disk)) c.args.input.now c.args.input.now) (notes_seen g.N.ByteOut.sent g.N.ByteOut.faults c.args.notes.now c.args.notes.now))) (sym c.in-Link.is) (on_each c.obey_link.result.status (c.args.notes.now ≡ c.args.notes.now) refl).0

pub returns-in-Link-clause-silent : goal.returns-in-Link-clause-silent
returns-in-Link-clause-silent g c = (on_each c.obey_link.result.status (c.args.notes.now ≡ c.args.notes.now) refl).1

pub returns-in-Index-clause-answer : goal.returns-in-Index-clause-answer
returns-in-Index-clause-answer g c =
    subst (λ (k : Command). Comes (obeyed k (seen g.F.Files.did g.F.Files.held g.F.Files.faults g.O.ByteOut.sent g.O.ByteOut.faults c.args.files.now c.obey_index-status.new.files c.args.out.now c.obey_index-status.new.out) (rest_seen g.I.ByteIn.left g.I.ByteIn.faults (IsHonest decoded g.D.CacheDisk.fits (g.D.CacheDisk.held c.args.disk)) c.args.input.now c.args.input.now)) c.obey_index-status.result) (sym c.in-Index.is)
    (comes_map (index_obeyed c.in-Index.exports c.in-Index.import_limit c.in-Index.names (seen g.F.Files.did g.F.Files.held g.F.Files.faults g.O.ByteOut.sent g.O.ByteOut.faults c.args.files.now c.obey_index-status.new.files c.args.out.now c.obey_index-status.new.out) (rest_seen g.I.ByteIn.left g.I.ByteIn.faults (IsHonest decoded g.D.CacheDisk.fits (g.D.CacheDisk.held c.args.disk)) c.args.input.now c.args.input.now) refl) c.obey_index-status.result c.obey_index-status.ensures.answer)

pub returns-in-Index-clause-says : goal.returns-in-Index-clause-says
returns-in-Index-clause-says g c =
    subst (λ (k : Command). OnOk c.obey_index-status.result (Says k (seen g.F.Files.did g.F.Files.held g.F.Files.faults g.O.ByteOut.sent g.O.ByteOut.faults c.args.files.now c.obey_index-status.new.files c.args.out.now c.obey_index-status.new.out) (rest_seen g.I.ByteIn.left g.I.ByteIn.faults (IsHonest decoded g.D.CacheDisk.fits (g.D.CacheDisk.held c.args.disk)) c.args.input.now c.args.input.now) (notes_seen g.N.ByteOut.sent g.N.ByteOut.faults c.args.notes.now c.args.notes.now))) (sym c.in-Index.is) (on_each c.obey_index-status.result (c.args.notes.now ≡ c.args.notes.now) refl).0

pub returns-in-Index-clause-silent : goal.returns-in-Index-clause-silent
returns-in-Index-clause-silent g c = (on_each c.obey_index-status.result (c.args.notes.now ≡ c.args.notes.now) refl).1

pub returns-in-Batch-clause-answer : goal.returns-in-Batch-clause-answer
returns-in-Batch-clause-answer g c =
    subst (λ (k : Command). Comes (obeyed k (seen g.F.Files.did g.F.Files.held g.F.Files.faults g.O.ByteOut.sent g.O.ByteOut.faults c.args.files.now c.batch.new.files c.args.out.now c.args.out.now) (rest_seen g.I.ByteIn.left g.I.ByteIn.faults (IsHonest decoded g.D.CacheDisk.fits (g.D.CacheDisk.held c.args.disk)) c.args.input.now c.args.input.now)) c.batch.result.status) (sym c.in-Batch.is)
    (comes_map (batch_obeyed c.in-Batch.options c.in-Batch.list (seen g.F.Files.did g.F.Files.held g.F.Files.faults g.O.ByteOut.sent g.O.ByteOut.faults c.args.files.now c.batch.new.files c.args.out.now c.args.out.now) (rest_seen g.I.ByteIn.left g.I.ByteIn.faults (IsHonest decoded g.D.CacheDisk.fits (g.D.CacheDisk.held c.args.disk)) c.args.input.now c.args.input.now) refl refl) c.batch.result.status c.batch.ensures.answer)

pub returns-in-Batch-clause-says : goal.returns-in-Batch-clause-says
returns-in-Batch-clause-says g c =
    subst (λ (k : Command). OnOk c.batch.result.status (Says k (seen g.F.Files.did g.F.Files.held g.F.Files.faults g.O.ByteOut.sent g.O.ByteOut.faults c.args.files.now c.batch.new.files c.args.out.now c.args.out.now) (rest_seen g.I.ByteIn.left g.I.ByteIn.faults (IsHonest decoded g.D.CacheDisk.fits (g.D.CacheDisk.held c.args.disk)) c.args.input.now c.args.input.now) (notes_seen g.N.ByteOut.sent g.N.ByteOut.faults c.args.notes.now c.args.notes.now))) (sym c.in-Batch.is) (on_each c.batch.result.status (c.args.notes.now ≡ c.args.notes.now) refl).0

pub returns-in-Batch-clause-silent : goal.returns-in-Batch-clause-silent
returns-in-Batch-clause-silent g c = (on_each c.batch.result.status (c.args.notes.now ≡ c.args.notes.now) refl).1

pub returns-in-Run-clause-answer : goal.returns-in-Run-clause-answer
returns-in-Run-clause-answer g c =
    subst (λ (k : Command). Comes (obeyed k (seen g.F.Files.did g.F.Files.held g.F.Files.faults g.O.ByteOut.sent g.O.ByteOut.faults c.args.files.now c.obey_run-status.new.files c.args.out.now c.obey_run-status.new.out) (rest_seen g.I.ByteIn.left g.I.ByteIn.faults (IsHonest decoded g.D.CacheDisk.fits (g.D.CacheDisk.held c.args.disk)) c.args.input.now c.obey_run-status.new.input)) c.obey_run-status.result) (sym c.in-Run.is)
    (comes_map (run_obeyed c.in-Run.root c.in-Run.args c.in-Run.steps c.in-Run.names (seen g.F.Files.did g.F.Files.held g.F.Files.faults g.O.ByteOut.sent g.O.ByteOut.faults c.args.files.now c.obey_run-status.new.files c.args.out.now c.obey_run-status.new.out) (rest_seen g.I.ByteIn.left g.I.ByteIn.faults (IsHonest decoded g.D.CacheDisk.fits (g.D.CacheDisk.held c.args.disk)) c.args.input.now c.obey_run-status.new.input)) c.obey_run-status.result c.obey_run-status.ensures.answer)

pub returns-in-Run-clause-says : goal.returns-in-Run-clause-says
returns-in-Run-clause-says g c =
    subst (λ (k : Command). OnOk c.obey_run-status.result (Says k (seen g.F.Files.did g.F.Files.held g.F.Files.faults g.O.ByteOut.sent g.O.ByteOut.faults c.args.files.now c.obey_run-status.new.files c.args.out.now c.obey_run-status.new.out) (rest_seen g.I.ByteIn.left g.I.ByteIn.faults (IsHonest decoded g.D.CacheDisk.fits (g.D.CacheDisk.held c.args.disk)) c.args.input.now c.obey_run-status.new.input) (notes_seen g.N.ByteOut.sent g.N.ByteOut.faults c.args.notes.now c.obey_run-status.new.notes))) (sym c.in-Run.is) c.obey_run-status.ensures.says

pub returns-in-Run-clause-silent : goal.returns-in-Run-clause-silent
returns-in-Run-clause-silent g c = c.obey_run-status.ensures.silent

pub returns-in-Link-clause-disk : goal.returns-in-Link-clause-disk
returns-in-Link-clause-disk g c =
    subst (λ (k : Command). LeavesDisk k (λ (calls : List Call). g.F.Files.did c.args.files.now calls c.obey_link.new.files) g.D.CacheDisk.fits (g.D.CacheDisk.held c.args.disk) (g.D.CacheDisk.held c.obey_link.result.disk)) (sym c.in-Link.is)
    c.obey_link.ensures.disk

pub returns-in-Batch-clause-disk : goal.returns-in-Batch-clause-disk
returns-in-Batch-clause-disk g c =
    subst (λ (k : Command). LeavesDisk k (λ (calls : List Call). g.F.Files.did c.args.files.now calls c.batch.new.files) g.D.CacheDisk.fits (g.D.CacheDisk.held c.args.disk) (g.D.CacheDisk.held c.batch.result.disk)) (sym c.in-Batch.is)
    c.batch.ensures.disk

pub returns-in-Index-clause-disk : goal.returns-in-Index-clause-disk
returns-in-Index-clause-disk g c =
    subst (λ (k : Command). LeavesDisk k (λ (calls : List Call). g.F.Files.did c.args.files.now calls c.obey_index-status.new.files) g.D.CacheDisk.fits (g.D.CacheDisk.held c.args.disk) (g.D.CacheDisk.held c.args.disk)) (sym c.in-Index.is) refl

pub returns-in-Run-clause-disk : goal.returns-in-Run-clause-disk
returns-in-Run-clause-disk g c =
    subst (λ (k : Command). LeavesDisk k (λ (calls : List Call). g.F.Files.did c.args.files.now calls c.obey_run-status.new.files) g.D.CacheDisk.fits (g.D.CacheDisk.held c.args.disk) (g.D.CacheDisk.held c.args.disk)) (sym c.in-Run.is) refl

pub returns-in-Link-clause-later : goal.returns-in-Link-clause-later
returns-in-Link-clause-later g c = c.obey_link.ensures.later

pub returns-in-Index-clause-later : goal.returns-in-Index-clause-later
returns-in-Index-clause-later g c = c.obey_index-status.ensures.later

pub returns-in-Batch-clause-later : goal.returns-in-Batch-clause-later
returns-in-Batch-clause-later g c = c.batch.ensures.later

pub returns-in-Run-clause-later : goal.returns-in-Run-clause-later
returns-in-Run-clause-later g c = c.obey_run-status.ensures.later

pub returns-in-Gen-clause-silent : goal.returns-in-Gen-clause-silent
returns-in-Gen-clause-silent g c = refl

pub returns-in-Gen-clause-says : goal.returns-in-Gen-clause-says
returns-in-Gen-clause-says g c = tt
