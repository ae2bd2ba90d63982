use Rattle.std.proofs.Common.{arith}
use Rattle.lto_task.proofs.Splitting.{are_bytes}
use Rattle.lto_task.proofs.taking_apart.all_bytes.Goals as goal

pub returns : goal.returns
returns c = are_bytes c.args.bytes.now (λ i. omega (arith, c.type_inv.bytes i))
