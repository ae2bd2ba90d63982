use Rattle.ir_interp.specs.declared.code.Code.{Code}
use Rattle.machine_code.specs.Tables.{IsTable}
use Rattle.machine_code.proofs.Beginning.{laid_globals}
use Rattle.machine_code.specs.declared.addresses.Addresses.{Addresses}
use Rattle.machine_code.proofs.Whole.{is_lowered, sound_globals}
use Rattle.machine_code.proofs.code.lower.Goals as goal

pub of-requires : goal.of-requires
of-requires c = laid_globals c.args.globals.now c.requires

pub bodies-requires : goal.bodies-requires
bodies-requires c = sound_globals c.args.globals.now c.requires

pub returns : goal.returns
returns c =
    let gs = c.args.globals.now in
    let t : Addresses = record { bases = c.in_ok-bases.bases } in
    let table : IsTable gs t.bases = c.in_ok-bases.ensures c.requires.once in
    let code : Code = record { entities = c.in_ok-entities.entities; functions = c.in_ok-functions.functions } in
    record {
      code = is_lowered gs c.requires.once t table code c.in_ok-entities.ensures c.in_ok-functions.ensures;
      made = record { table = table; entities = c.in_ok-entities.ensures; bodies = c.in_ok-functions.ensures };
    }
