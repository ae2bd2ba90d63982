use Rattle.std.proofs.Common.{All, subst}
use Rattle.lto_task.specs.Tasks.{task_view}
use Rattle.lto_task.specs.Units.{IsWritten}
use Rattle.link_one.proofs.UnitNames.{task_unit_rises}
use Rattle.link_one.proofs.passes.PassesBackend.compile.Goals as goal

pub returns : goal.returns
returns c = (
  task_unit_rises c.made_has_interface.ensures (task_view c.args.task.now) c.in_ok-unit.unit c.requires.own (subst (All IsWritten) c.as_slice.ensures c.are_written.ensures) c.in_ok-unit.ensures,
  c.in_ok-unit.ensures,
)
