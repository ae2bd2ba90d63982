use Rattle.std.proofs.Common.{rules}
use Rattle.ir_verify.proofs.Found.{put_new, put_old}
use Rattle.ir_verify.proofs.table.Table.put.Goals as goal

pub returns-then-is_none : goal.returns-then-is_none
returns-then-is_none g c = λ pairs holds.
    put_new c.args.self.now.entries.items c.grow.new.self.entries.items pairs c.args.number c.args.value c.in_ok-grow.ensures.same c.in_ok-grow.ensures.long holds c.index.result.now c.index.ensures (search rules)

pub returns-else-is_none : goal.returns-else-is_none
returns-else-is_none g c = λ pairs holds.
    put_old c.args.self.now.entries.items c.grow.new.self.entries.items pairs c.args.number c.args.value c.in_ok-grow.ensures.same c.in_ok-grow.ensures.long holds c.index.result.now c.index.ensures (search rules)
