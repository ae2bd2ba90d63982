use Rattle.tests_link.proofs.links.merged.program_of.Goals as goal

pub program-requires : goal.program-requires
program-requires c = c.in-Ok.ensures.1
