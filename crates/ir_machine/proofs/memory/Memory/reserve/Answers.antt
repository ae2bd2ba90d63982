use Rattle.std.proofs.Common.{refl, true, arith}
use Rattle.ir_machine.proofs.Growing.{fresh_meant, grown}
use Rattle.ir_machine.proofs.Origins.{grown_gains, same_gains}
use Rattle.ir_machine.proofs.memory.Memory.reserve.Goals as goal

pub returns-clause-ok : goal.returns-clause-ok
returns-clause-ok c = λ names memory s.
    grown names c.args.self.now memory (record { number = c.args.self.now.made; align = c.args.align; bytes = c.in_ok-bytes.bytes; writable = true }) c.args.size c.args.align _ _ s
    c.in_ok-push.ensures.items refl refl
    (fresh_meant names (record { number = c.args.self.now.made; align = c.args.align; bytes = c.in_ok-bytes.bytes; writable = true }) c.args.size c.args.align refl refl c.in_ok-bytes.ensures.length (c.in_ok-bytes.ensures.bytes names))
    refl (omega arith) refl

pub returns-clause-held : goal.returns-clause-held
returns-clause-held c =
    grown_gains c.args.self.now.blocks.items c.push.new.self.items (record { number = c.args.self.now.made; align = c.args.align; bytes = c.in_ok-bytes.bytes; writable = true }) c.in_ok-push.ensures.items c.in_ok-bytes.ensures.empty

pub returns-in_err-push-clause-held : goal.returns-in_err-push-clause-held
returns-in_err-push-clause-held c = same_gains c.args.self.now.blocks.items c.push.new.self.items c.in_err-push.ensures.items

pub returns-clause-grown : goal.returns-clause-grown
returns-clause-grown c = (record { number = c.args.self.now.made; align = c.args.align; bytes = c.in_ok-bytes.bytes; writable = true }, (c.in_ok-push.ensures.items, refl))
