use Rattle.std.proofs.Common.{Option, ap, ◌∙◌}
use Rattle.ir_tree.specs.declared.operand.Symbol.{Symbol}
use Rattle.ir_machine.specs.declared.scalar.Base.{Base}
use Rattle.machine_code.specs.MemoryAddresses.{address_at, base_in}
use Rattle.machine_code.proofs.bases.Bases.address.Goals as goal

pub returns-in-Some : goal.returns-in-Some
returns-in-Some c = ap (λ (o : Option Base). address_at o c.args.offset) (c.in-Some.ensures ∙ ap (λ (s : Symbol). base_in c.args.self.now s) c.of.ensures)

pub returns-in-None : goal.returns-in-None
returns-in-None c = ap (λ (o : Option Base). address_at o c.args.offset) (c.in-None.ensures ∙ ap (λ (s : Symbol). base_in c.args.self.now s) c.of.ensures)
