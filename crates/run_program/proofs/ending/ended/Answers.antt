use Rattle.std.proofs.Common.{ap}
use Rattle.ir_tree.specs.Wholes.{symbols}
use Rattle.ir_machine.specs.Meant.{symbol_at}
use Rattle.ir_interp.specs.Runs.{ending_meant}
use Rattle.ir_interp.specs.declared.end.RunEnd.{RunEnd}
use Rattle.ir_interp.specs.Scenes.{answer_meant}
use Rattle.run_program.specs.Files.{file_in}
use Rattle.run_program.specs.Said.{ending_refusal}
use Rattle.run_program.proofs.Interpreting.{tells_undefined, tells_uninit}
use Rattle.run_program.proofs.ending.ended.Goals as goal

pub returns-in-Returned-clause-returned : goal.returns-in-Returned-clause-returned
returns-in-Returned-clause-returned c = record {
  answer = answer_meant (symbols c.args.globals.now) c.in-Returned.answer;
  returned = ap (λ (e : RunEnd). ending_meant (symbols c.args.globals.now) e) c.in-Returned.is;
  is = c.returned.ensures (symbols c.args.globals.now);
}

pub returns-in-Undefined-clause-because : goal.returns-in-Undefined-clause-because
returns-in-Undefined-clause-because c =
    let names = symbols c.args.globals.now in
    let files = file_in c.args.names.now c.args.resolution.now in
    let place = c.in-Undefined.place in
    let at = symbol_at names place.function in
    tells_undefined at.name (files at) place.instruction c.in-Undefined.cause (ending_refusal files c.args.steps (ending_meant names c.args.end))
    (ap (λ (e : RunEnd). ending_refusal files c.args.steps (ending_meant names e)) c.in-Undefined.is)
    c.undefined.result c.undefined.ensures

pub returns-in-Uninit-clause-because : goal.returns-in-Uninit-clause-because
returns-in-Uninit-clause-because c =
    let names = symbols c.args.globals.now in
    let files = file_in c.args.names.now c.args.resolution.now in
    let place = c.in-Uninit.place in
    let at = symbol_at names place.function in
    tells_uninit at.name (files at) place.instruction (ending_refusal files c.args.steps (ending_meant names c.args.end))
    (ap (λ (e : RunEnd). ending_refusal files c.args.steps (ending_meant names e)) c.in-Uninit.is)
    c.uninit.result c.uninit.ensures
