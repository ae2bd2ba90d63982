use Rattle.std.proofs.Common.{ℕ, List, length, refl, sym, subst, inl}
use Rattle.ir_tree.specs.Wholes.{symbols}
use Rattle.ir_meaning.specs.Programs.{program_of}
use Rattle.ir_interp.specs.Code.{IsRunnable}
use Rattle.ir_interp.specs.Steps.{CanBegin, HasBegun}
use Rattle.ir_interp.specs.declared.code.Code.{Code}
use Rattle.run_program.specs.Streams.{streams_seen}
use Rattle.run_program.proofs.Interpreting.{begun_fed, begun_ran, begun_stops}
use Rattle.run_program.proofs.program.ran.Goals as goal

pub opening-requires : goal.opening-requires
opening-requires g c = record { runnable = c.requires.runnable; table = c.requires.made.table }

pub returns-in_default-clause-part : goal.returns-in_default-clause-part
returns-in_default-clause-part g c = inl (refl, (refl, refl))

pub new-requires : goal.new-requires
new-requires g c = subst (λ (ns : List ℕ). CanBegin c.args.lowered.now.code c.args.begun.now.index (length ns)) (sym c.as_slice-numbers.ensures) c.requires.begins

pub returns-in_default-new-clause-part : goal.returns-in_default-new-clause-part
returns-in_default-new-clause-part g c = inl (refl, (refl, refl))

pub run-requires : goal.run-requires
run-requires g c = subst (λ (x : Code). IsRunnable x) (sym c.in-Ok-new.ensures.code) c.requires.code.runnable

pub returns-clause-ok : goal.returns-clause-ok
returns-clause-ok g c =
    let gs = c.args.globals.now in
    let p = program_of gs in
    let root = c.args.begun.now.index in
    let numbers = c.args.begun.now.numbers in
    let m = c.in-Ok-new.machine in
    let begun : HasBegun (symbols gs) p root numbers m =
    subst (λ (ns : List ℕ). HasBegun (symbols gs) p root ns m) c.as_slice-numbers.ensures
    (c.in-Ok-new.ensures.begun (symbols gs) p c.requires.code.distinct c.requires.code.is (c.requires.code.knows c.in-Ok.memory p.opening c.in-Ok.ensures.variables) c.in-Ok.ensures.memory) in
    begun_ran gs root numbers m begun c.from.result c.args.steps c.from.ensures (streams_seen g.I.ByteIn.left g.I.ByteIn.faults g.O.ByteOut.sent g.O.ByteOut.faults c.args.input.now c.run.new.input c.args.out.now c.run.new.out) c.run.result c.run.ensures.ok

pub returns-clause-fed : goal.returns-clause-fed
returns-clause-fed g c =
    let gs = c.args.globals.now in
    let p = program_of gs in
    let root = c.args.begun.now.index in
    let numbers = c.args.begun.now.numbers in
    let m = c.in-Ok-new.machine in
    let begun : HasBegun (symbols gs) p root numbers m =
    subst (λ (ns : List ℕ). HasBegun (symbols gs) p root ns m) c.as_slice-numbers.ensures
    (c.in-Ok-new.ensures.begun (symbols gs) p c.requires.code.distinct c.requires.code.is (c.requires.code.knows c.in-Ok.memory p.opening c.in-Ok.ensures.variables) c.in-Ok.ensures.memory) in
    begun_fed gs root numbers m begun c.from.result c.args.steps c.from.ensures (streams_seen g.I.ByteIn.left g.I.ByteIn.faults g.O.ByteOut.sent g.O.ByteOut.faults c.args.input.now c.run.new.input c.args.out.now c.run.new.out) c.run.result c.run.ensures.fed

pub returns-clause-part : goal.returns-clause-part
returns-clause-part g c =
    let gs = c.args.globals.now in
    let p = program_of gs in
    let root = c.args.begun.now.index in
    let numbers = c.args.begun.now.numbers in
    let m = c.in-Ok-new.machine in
    let begun : HasBegun (symbols gs) p root numbers m =
    subst (λ (ns : List ℕ). HasBegun (symbols gs) p root ns m) c.as_slice-numbers.ensures
    (c.in-Ok-new.ensures.begun (symbols gs) p c.requires.code.distinct c.requires.code.is (c.requires.code.knows c.in-Ok.memory p.opening c.in-Ok.ensures.variables) c.in-Ok.ensures.memory) in
    begun_stops gs root numbers m begun c.from.result c.args.steps c.from.ensures (streams_seen g.I.ByteIn.left g.I.ByteIn.faults g.O.ByteOut.sent g.O.ByteOut.faults c.args.input.now c.run.new.input c.args.out.now c.run.new.out) c.run.result c.run.ensures.part c.run.ensures.fed_part
