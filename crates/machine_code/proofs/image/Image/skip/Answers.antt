use Rattle.std.proofs.Common.{◌+◌, refl}
use Rattle.machine_code.proofs.Writing.{skipped}
use Rattle.machine_code.proofs.image.Image.skip.Goals as goal

pub returns-clause-wrote : goal.returns-clause-wrote
returns-clause-wrote c = skipped c.args.self.now c.args.count (c.args.self.now.place + c.args.count) c.requires refl
