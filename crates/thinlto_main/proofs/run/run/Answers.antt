use Rattle.std.proofs.Common.{List, refl, subst, sym}
use Rattle.ir_tree.specs.declared.module.Module.{Module}
use Rattle.lto_outside.specs.Calls.{Call}
use Rattle.lto_outside.specs.Seen.{files_seen}
use Rattle.merge_meaning.specs.Merged.{merged}
use Rattle.thinlto_main.specs.Modules.{AreRead}
use Rattle.run_program.specs.Runs.{DidReturn}
use Rattle.run_program.specs.Streams.{notes_seen, streams_seen}
use Rattle.run_program.proofs.Causes.{because_map}
use Rattle.thinlto_main.proofs.Reading.{as_many}
use Rattle.thinlto_main.proofs.Merging.{merged_runs, merged_says, of_modules, reading_runs, unlinked_runs}
use Rattle.thinlto_main.proofs.run.run.Goals as goal

pub returns-in-Err-clause-answer : goal.returns-in-Err-clause-answer
returns-in-Err-clause-answer g c =
    because_map (reading_runs c.args.options.now.root c.args.options.now.args c.args.options.now.steps c.args.names.now (files_seen g.F.Files.did g.F.Files.held g.F.Files.faults c.args.files.now c.modules.new.files) (streams_seen g.I.ByteIn.left g.I.ByteIn.faults g.O.ByteOut.sent g.O.ByteOut.faults c.args.input.now c.args.input.now c.args.out.now c.args.out.now) (refl, refl)) c.in-Err.why c.in-Err.ensures.because

pub linkable-requires : goal.linkable-requires
linkable-requires g c = as_many c.args.names.now (λ (calls : List Call). g.F.Files.did c.args.files.now calls c.modules.new.files) c.as_slice-all.result.now (subst (λ (l : List Module). AreRead c.args.names.now (λ (calls : List Call). g.F.Files.did c.args.files.now calls c.modules.new.files) l) (sym c.as_slice-all.ensures) c.in-Ok.ensures.read)

pub returns-in-Err-linkable-clause-answer : goal.returns-in-Err-linkable-clause-answer
returns-in-Err-linkable-clause-answer g c =
    because_map (unlinked_runs c.args.options.now.root c.args.options.now.args c.args.options.now.steps c.args.names.now (files_seen g.F.Files.did g.F.Files.held g.F.Files.faults c.args.files.now c.modules.new.files) (streams_seen g.I.ByteIn.left g.I.ByteIn.faults g.O.ByteOut.sent g.O.ByteOut.faults c.args.input.now c.args.input.now c.args.out.now c.args.out.now) c.as_slice-all.result.now (subst (λ (l : List Module). AreRead c.args.names.now (λ (calls : List Call). g.F.Files.did c.args.files.now calls c.modules.new.files) l) (sym c.as_slice-all.ensures) c.in-Ok.ensures.read) (refl, refl))
    c.in-Err-linkable.why c.in-Err-linkable.ensures.because

pub returns-in-Err-run_merged-clause-answer : goal.returns-in-Err-run_merged-clause-answer
returns-in-Err-run_merged-clause-answer g c =
    because_map (merged_runs c.args.options.now.root c.args.options.now.args c.args.options.now.steps c.args.names.now (files_seen g.F.Files.did g.F.Files.held g.F.Files.faults c.args.files.now c.modules.new.files) (streams_seen g.I.ByteIn.left g.I.ByteIn.faults g.O.ByteOut.sent g.O.ByteOut.faults c.args.input.now c.run_merged.new.input c.args.out.now c.run_merged.new.out) c.as_slice-all.result.now (subst (λ (l : List Module). AreRead c.args.names.now (λ (calls : List Call). g.F.Files.did c.args.files.now calls c.modules.new.files) l) (sym c.as_slice-all.ensures) c.in-Ok.ensures.read) c.in-Ok-linkable.ensures.linked) c.in-Err-run_merged.why c.in-Err-run_merged.ensures.answer

pub returns-clause-answer : goal.returns-clause-answer
returns-clause-answer g c =
    of_modules c.args.options.now.root c.args.options.now.args c.args.options.now.steps c.args.names.now (files_seen g.F.Files.did g.F.Files.held g.F.Files.faults c.args.files.now c.modules.new.files) (streams_seen g.I.ByteIn.left g.I.ByteIn.faults g.O.ByteOut.sent g.O.ByteOut.faults c.args.input.now c.run_merged.new.input c.args.out.now c.run_merged.new.out) c.as_slice-all.result.now (subst (λ (l : List Module). AreRead c.args.names.now (λ (calls : List Call). g.F.Files.did c.args.files.now calls c.modules.new.files) l) (sym c.as_slice-all.ensures) c.in-Ok.ensures.read) c.in-Ok-linkable.ensures.linked
    (λ (ms : List Module). DidReturn (merged ms) c.args.options.now.root c.args.options.now.args c.args.options.now.steps (streams_seen g.I.ByteIn.left g.I.ByteIn.faults g.O.ByteOut.sent g.O.ByteOut.faults c.args.input.now c.run_merged.new.input c.args.out.now c.run_merged.new.out)) c.in-Ok-run_merged.ensures.answer

pub returns-clause-says : goal.returns-clause-says
returns-clause-says g c =
    merged_says c.args.options.now.root c.args.options.now.args c.args.options.now.steps c.args.names.now (files_seen g.F.Files.did g.F.Files.held g.F.Files.faults c.args.files.now c.modules.new.files) (streams_seen g.I.ByteIn.left g.I.ByteIn.faults g.O.ByteOut.sent g.O.ByteOut.faults c.args.input.now c.run_merged.new.input c.args.out.now c.run_merged.new.out) c.as_slice-all.result.now (subst (λ (l : List Module). AreRead c.args.names.now (λ (calls : List Call). g.F.Files.did c.args.files.now calls c.modules.new.files) l) (sym c.as_slice-all.ensures) c.in-Ok.ensures.read) c.in-Ok-linkable.ensures.linked
    (notes_seen g.N.ByteOut.sent g.N.ByteOut.faults c.args.notes.now c.say_returned.new.notes) c.in-Ok-run_merged.returned c.in-Ok-run_merged.ensures.returned c.say_returned.ensures.said

pub returns-in-Err-clause-later : goal.returns-in-Err-clause-later
returns-in-Err-clause-later g c = c.modules.ensures.later

pub returns-in-Err-linkable-clause-later : goal.returns-in-Err-linkable-clause-later
returns-in-Err-linkable-clause-later g c = c.modules.ensures.later

pub returns-in-Err-run_merged-clause-later : goal.returns-in-Err-run_merged-clause-later
returns-in-Err-run_merged-clause-later g c = c.modules.ensures.later

pub returns-clause-later : goal.returns-clause-later
returns-clause-later g c = c.modules.ensures.later

pub returns-in-Err-clause-silent : goal.returns-in-Err-clause-silent
returns-in-Err-clause-silent g c = refl

pub returns-in-Err-linkable-clause-silent : goal.returns-in-Err-linkable-clause-silent
returns-in-Err-linkable-clause-silent g c = refl

pub returns-in-Err-run_merged-clause-silent : goal.returns-in-Err-run_merged-clause-silent
returns-in-Err-run_merged-clause-silent g c = refl

pub returns-in-Err-clause-says : goal.returns-in-Err-clause-says
returns-in-Err-clause-says g c = tt

pub returns-in-Err-linkable-clause-says : goal.returns-in-Err-linkable-clause-says
returns-in-Err-linkable-clause-says g c = tt

pub returns-in-Err-run_merged-clause-says : goal.returns-in-Err-run_merged-clause-says
returns-in-Err-run_merged-clause-says g c = tt

pub returns-clause-silent : goal.returns-clause-silent
returns-clause-silent g c = tt
