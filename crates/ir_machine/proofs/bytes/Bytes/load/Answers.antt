use Rattle.std.proofs.Common.{◌≡◌, ℕ, take, drop, sym, ap, subst, ◌∙◌}
use Rattle.ir_tree.specs.declared.operand.Reg.{Reg}
use Rattle.ir_tree.specs.declared.operand.Reg.TheVariants.{Int}
use Rattle.ir_meaning.specs.Bytes.{read, reg_size}
use Rattle.ir_machine.specs.Bytes.{bytes_meant}
use Rattle.ir_machine.specs.Meant.{answered}
use Rattle.ir_machine.proofs.bytes.Bytes.load.Goals as goal

pub returns-in-Int-clause-value : goal.returns-in-Int-clause-value
returns-in-Int-clause-value c = λ names.
    subst (λ (r : Reg). answered names c.load_integer.result ≡ read r (take (reg_size r) (drop c.args.place (bytes_meant names c.args.self.now)))) (sym c.in-Int.is)
    (c.load_integer.ensures.value names c.in-Int.width
    ∙ ap (λ (n : ℕ). read (Int c.in-Int.width) (take n (drop c.args.place (bytes_meant names c.args.self.now)))) c.from.ensures)
