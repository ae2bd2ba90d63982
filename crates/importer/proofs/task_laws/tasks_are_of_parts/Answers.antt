use Rattle.importer.proofs.OfParts.{of_parts_or_declared}
use Rattle.importer.proofs.task_laws.tasks_are_of_parts.Goals as goal

pub returns : goal.returns
returns c = of_parts_or_declared
