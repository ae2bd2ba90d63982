use Rattle.std.proofs.Common.{◌≡◌, Some, refl, inl, subst, sym}
use Rattle.ir_tree.specs.Wholes.{symbols}
use Rattle.ir_machine.specs.Meant.{symbol_at}
use Rattle.ir_meaning.specs.Program.{State}
use Rattle.ir_meaning.specs.Run.{start}
use Rattle.ir_meaning.specs.Programs.{program_of}
use Rattle.lto_fault.specs.declared.refusal.Refusal.{Refusal}
use Rattle.ir_interp.specs.Steps.{numbers_meant}
use Rattle.run_program.specs.Files.{file_in}
use Rattle.run_program.specs.Causes.{Because}
use Rattle.run_program.specs.Runs.{run_causes}
use Rattle.run_program.specs.Streams.{streams_seen}
use Rattle.run_program.proofs.Interpreting.{begins_at_zero, ended_comes, ended_returns, gave_up_so, given_because}
use Rattle.run_program.proofs.program.run_begun.Goals as goal

pub returns-in_default-clause-answer : goal.returns-in_default-clause-answer
returns-in_default-clause-answer g c = inl (refl, refl)

pub ran-requires : goal.ran-requires
ran-requires g c = record { runnable = c.requires.runnable; code = c.requires.code; made = c.requires.made; begins = c.requires.begins }

pub ended-requires : goal.ended-requires
ended-requires g c = c.requires.gives

pub returns-in-Ok-ran-clause-answer : goal.returns-in-Ok-ran-clause-answer
returns-in-Ok-ran-clause-answer g c =
    let gs = c.args.globals.now in
    let p = program_of gs in
    let begun = c.args.begun.now in
    let found = c.requires.found in
    let at : found.first.place ≡ 0 = begins_at_zero (p.code (symbol_at (symbols gs) begun.index)) (numbers_meant begun.numbers) p.opening found.first found.starts in
    ended_comes p c.args.options.now.root c.args.options.now.args c.args.options.now.steps (streams_seen g.I.ByteIn.left g.I.ByteIn.faults g.O.ByteOut.sent g.O.ByteOut.faults c.args.input.now c.ran.new.input c.args.out.now c.ran.new.out) found.first found.begins at
    (symbols gs) c.in-Ok-ran.end (c.in-Ok-ran.ensures.ok found.first found.starts) (c.in-Ok-ran.ensures.fed found.first found.starts) (file_in c.args.names.now c.args.resolution.now) begun.gives c.ended.result c.ended.ensures.returned c.ended.ensures.because

pub returns-in-Ok-ran-clause-returned : goal.returns-in-Ok-ran-clause-returned
returns-in-Ok-ran-clause-returned g c =
    let gs = c.args.globals.now in
    let p = program_of gs in
    let begun = c.args.begun.now in
    let found = c.requires.found in
    let at : found.first.place ≡ 0 = begins_at_zero (p.code (symbol_at (symbols gs) begun.index)) (numbers_meant begun.numbers) p.opening found.first found.starts in
    ended_returns p c.args.options.now.root c.args.options.now.args c.args.options.now.steps (streams_seen g.I.ByteIn.left g.I.ByteIn.faults g.O.ByteOut.sent g.O.ByteOut.faults c.args.input.now c.ran.new.input c.args.out.now c.ran.new.out) found.first found.begins at
    (symbols gs) c.in-Ok-ran.end (c.in-Ok-ran.ensures.ok found.first found.starts) (c.in-Ok-ran.ensures.fed found.first found.starts) begun.gives found.gives c.ended.result c.ended.ensures.returned

pub returns-in-Err-clause-answer : goal.returns-in-Err-clause-answer
returns-in-Err-clause-answer g c =
    let gs = c.args.globals.now in
    let p = program_of gs in
    let begun = c.args.begun.now in
    let options = c.args.options.now in
    let found = c.requires.found in
    subst (λ (why : Refusal). Because (run_causes p options.root options.args (file_in c.args.names.now c.args.resolution.now) options.steps (streams_seen g.I.ByteIn.left g.I.ByteIn.faults g.O.ByteOut.sent g.O.ByteOut.faults c.args.input.now c.ran.new.input c.args.out.now c.ran.new.out)) why) (sym c.given_up.ensures)
    (given_because p options.root options.args (file_in c.args.names.now c.args.resolution.now) options.steps (streams_seen g.I.ByteIn.left g.I.ByteIn.faults g.O.ByteOut.sent g.O.ByteOut.faults c.args.input.now c.ran.new.input c.args.out.now c.ran.new.out)
    c.in-Ok.streams c.in-Err.fault c.in-Ok.ensures.input c.in-Ok.ensures.output c.in-Err.ensures.cause
    (gave_up_so p options.root options.args options.steps (streams_seen g.I.ByteIn.left g.I.ByteIn.faults g.O.ByteOut.sent g.O.ByteOut.faults c.args.input.now c.ran.new.input c.args.out.now c.ran.new.out)
    c.in-Err.fault found.first (λ (s : State). start p (symbol_at (symbols gs) begun.index) (numbers_meant begun.numbers) ≡ Some s) found.begins found.starts c.in-Err.ensures.part))
