use Rattle.machine_code.proofs.Tasking.{call_task}
use Rattle.machine_code.proofs.addresses.Addresses.call.Goals as goal

pub returns : goal.returns
returns c =
    call_task c.args.self.now c.args.returned c.args.callee.now c.args.arguments.now c.source-callee.result c.in_ok-arguments.arguments c.source-callee.ensures c.in_ok-arguments.ensures
