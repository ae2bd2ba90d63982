use Rattle.std.proofs.Common.{◌≡◌, ◌∙◌, List, IfOk, refl, inl, subst, sym}
use Rattle.ir_tree.specs.declared.module.GlobalValue.{GlobalValue}
use Rattle.ir_meaning.specs.Programs.{program_of}
use Rattle.ir_meaning.specs.Runnable.{AreRunnable}
use Rattle.merge_meaning.specs.Merged.{merged_globals}
use Rattle.run_program.specs.Files.{file_in}
use Rattle.symbol_resolve.specs.Resolved.{Symbols}
use Rattle.run_program.specs.Causes.{Comes}
use Rattle.run_program.specs.Runs.{ReturnsSo, run_causes}
use Rattle.run_program.specs.Streams.{streams_seen}
use Rattle.run_program.proofs.merged.run_merged.Goals as goal

pub returns-in_default-clause-answer : goal.returns-in_default-clause-answer
returns-in_default-clause-answer g c = inl (refl, refl)

pub program-requires : goal.program-requires
program-requires g c = c.in-Ok.ensures.1

pub returns-in_default-program-clause-answer : goal.returns-in_default-program-clause-answer
returns-in_default-program-clause-answer g c = inl (refl, refl)

pub run_globals-requires : goal.run_globals-requires
run_globals-requires g c = subst (λ (gs : List GlobalValue). AreRunnable gs) (sym c.as_slice.ensures) c.in-Ok-program.ensures.runnable

pub returns-clause-answer : goal.returns-clause-answer
returns-clause-answer g c =
    let options = c.args.options.now in
    let is : c.as_slice.result.now ≡ merged_globals c.args.modules.now = c.as_slice.ensures ∙ c.in-Ok-program.ensures.merged in
    subst (λ (table : Symbols). Comes (run_causes (program_of (merged_globals c.args.modules.now)) options.root options.args (file_in c.args.names.now table) options.steps (streams_seen g.I.ByteIn.left g.I.ByteIn.faults g.O.ByteOut.sent g.O.ByteOut.faults c.args.input.now c.run_globals.new.input c.args.out.now c.run_globals.new.out)) c.run_globals.result) c.in-Ok.ensures.1
    (subst (λ (gs : List GlobalValue). Comes (run_causes (program_of gs) options.root options.args (file_in c.args.names.now c.in-Ok.resolution) options.steps (streams_seen g.I.ByteIn.left g.I.ByteIn.faults g.O.ByteOut.sent g.O.ByteOut.faults c.args.input.now c.run_globals.new.input c.args.out.now c.run_globals.new.out)) c.run_globals.result) is
    c.run_globals.ensures.answer)

pub returns-clause-returned : goal.returns-clause-returned
returns-clause-returned g c =
    let options = c.args.options.now in
    let is : c.as_slice.result.now ≡ merged_globals c.args.modules.now = c.as_slice.ensures ∙ c.in-Ok-program.ensures.merged in
    subst (λ (gs : List GlobalValue). IfOk c.run_globals.result (ReturnsSo (program_of gs) options.root options.args options.steps (streams_seen g.I.ByteIn.left g.I.ByteIn.faults g.O.ByteOut.sent g.O.ByteOut.faults c.args.input.now c.run_globals.new.input c.args.out.now c.run_globals.new.out))) is c.run_globals.ensures.returned
