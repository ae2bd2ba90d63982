use Rattle.ir_verify.proofs.items.end_differs.Goals as goal

pub returns-in-Switch : goal.returns-in-Switch
returns-in-Switch c = rw c.in-Switch.is (rw c.as_slice.ensures at c.cases_differ.ensures)
