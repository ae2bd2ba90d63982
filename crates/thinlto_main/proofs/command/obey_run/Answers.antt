use Rattle.std.proofs.Common.{ℕ, List, OnOk, subst}
use Rattle.lto_outside.specs.Calls.{Call}
use Rattle.lto_outside.specs.Seen.{files_seen}
use Rattle.run_program.specs.Causes.{Comes}
use Rattle.run_program.specs.Streams.{notes_seen, streams_seen}
use Rattle.thinlto_main.specs.Modules.{AreRead}
use Rattle.thinlto_main.specs.Running.{SaysReturned, running}
use Rattle.thinlto_main.proofs.command.obey_run.Goals as goal

pub returns-clause-answer : goal.returns-clause-answer
returns-clause-answer g c =
    let options = c.args.options in
    subst (λ (ns : List (List ℕ)). Comes (running options.root options.args options.steps ns (files_seen g.F.Files.did g.F.Files.held g.F.Files.faults c.args.files.now c.run.new.files) (streams_seen g.I.ByteIn.left g.I.ByteIn.faults g.O.ByteOut.sent g.O.ByteOut.faults c.args.input.now c.run.new.input c.args.out.now c.run.new.out)) c.run.result)
    c.as_slice.ensures c.run.ensures.answer

pub returns-clause-says : goal.returns-clause-says
returns-clause-says g c =
    let options = c.args.options in
    subst (λ (ns : List (List ℕ)). OnOk c.run.result (SaysReturned (AreRead ns (λ (calls : List Call). g.F.Files.did c.args.files.now calls c.run.new.files)) options.root options.args options.steps ns (streams_seen g.I.ByteIn.left g.I.ByteIn.faults g.O.ByteOut.sent g.O.ByteOut.faults c.args.input.now c.run.new.input c.args.out.now c.run.new.out) (notes_seen g.N.ByteOut.sent g.N.ByteOut.faults c.args.notes.now c.run.new.notes)))
    c.as_slice.ensures c.run.ensures.says

pub returns-clause-silent : goal.returns-clause-silent
returns-clause-silent g c = c.run.ensures.silent

pub returns-clause-later : goal.returns-clause-later
returns-clause-later g c = c.run.ensures.later
