use Rattle.std.proofs.Common.{Option, IfSome, length, refl, inl, subst}
use Rattle.ir_meaning.specs.Programs.{program_of}
use Rattle.ir_interp.specs.Steps.{CanBegin}
use Rattle.run_program.specs.Arguments.{IsGiven}
use Rattle.run_program.specs.Files.{file_in}
use Rattle.run_program.specs.Roots.{IsBegun}
use Rattle.run_program.specs.Streams.{streams_seen}
use Rattle.run_program.specs.declared.root.Begun.{Begun}
use Rattle.run_program.proofs.Interpreting.{unfit_because}
use Rattle.run_program.proofs.program.run_globals.Goals as goal

pub returns-in_default-clause-answer : goal.returns-in_default-clause-answer
returns-in_default-clause-answer g c = inl (refl, refl)

pub begin-requires : goal.begin-requires
begin-requires g c = record { runnable = c.requires; made = c.in-Ok.ensures.made }

pub returns-in_default-begin-clause-answer : goal.returns-in_default-begin-clause-answer
returns-in_default-begin-clause-answer g c = inl (refl, refl)

pub returns-in-None-clause-answer : goal.returns-in-None-clause-answer
returns-in-None-clause-answer g c =
    let options = c.args.options.now in
    unfit_because (program_of c.args.globals.now) options.root options.args (file_in c.args.names.now c.args.resolution.now) options.steps (streams_seen g.I.ByteIn.left g.I.ByteIn.faults g.O.ByteOut.sent g.O.ByteOut.faults c.args.input.now c.args.input.now c.args.out.now c.args.out.now)
    (subst (λ (o : Option Begun). IsBegun c.args.globals.now options.root options.args o) c.in-None.is c.in-Ok-begin.ensures.found) (refl, refl) c.unfit.result c.unfit.ensures

pub run_begun-requires : goal.run_begun-requires
run_begun-requires g c = record {
  runnable = c.requires;
  code = c.in-Ok.ensures.code;
  made = c.in-Ok.ensures.made;
  begins = subst (λ (o : Option Begun). IfSome o (λ (b : Begun). CanBegin c.in-Ok.lowered.code b.index (length b.numbers))) c.in-Some.is c.in-Ok-begin.ensures.begins;
  gives = subst (λ (o : Option Begun). IfSome o (λ (b : Begun). IsGiven b.gives)) c.in-Some.is c.in-Ok-begin.ensures.gives;
  found = subst (λ (o : Option Begun). IsBegun c.args.globals.now c.args.options.now.root c.args.options.now.args o) c.in-Some.is c.in-Ok-begin.ensures.found;
}
