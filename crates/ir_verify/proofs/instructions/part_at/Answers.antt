use Rattle.ir_verify.proofs.instructions.part_at.Goals as goal

pub returns-in-None : goal.returns-in-None
returns-in-None c = λ f w. c.in-None.ensures w.0 w.1
