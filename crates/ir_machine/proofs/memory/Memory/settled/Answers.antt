use Rattle.std.proofs.Common.{◌≡◌, ℕ, nat_lt, nat_le, sym, ap, subst, ◌∙◌}
use Rattle.ir_tree.specs.declared.instr.Predicate.{Predicate}
use Rattle.ir_meaning.specs.Pointers as pointers
use Rattle.ir_machine.specs.Meant.{base_meant}
use Rattle.ir_machine.proofs.memory.Memory.settled.Goals as goal

pub returns-in-Eq : goal.returns-in-Eq
returns-in-Eq c = λ names memory distinct s l r f g.
    subst (λ (p : Predicate). c.equal.result ≡ pointers.settled memory p (base_meant names c.args.left.base) c.args.left.offset (base_meant names c.args.right.base) c.args.right.offset) (sym c.in-Eq.is)
    (c.equal.ensures names memory distinct s l r f g)

pub returns-in-Ne : goal.returns-in-Ne
returns-in-Ne c = λ names memory distinct s l r f g.
    subst (λ (p : Predicate). c.negated.result ≡ pointers.settled memory p (base_meant names c.args.left.base) c.args.left.offset (base_meant names c.args.right.base) c.args.right.offset) (sym c.in-Ne.is)
    (c.negated.ensures ∙ ap pointers.negated (c.equal-in-Ne.ensures names memory distinct s l r f g))

pub returns-in-Ult : goal.returns-in-Ult
returns-in-Ult c = λ names memory distinct s l r f g.
    subst (λ (p : Predicate). c.when.result ≡ pointers.settled memory p (base_meant names c.args.left.base) c.args.left.offset (base_meant names c.args.right.base) c.args.right.offset) (sym c.in-Ult.is)
    (c.when.ensures ∙ sym (c.are_ordered.ensures names memory nat_lt s l r))

pub returns-in-Ule : goal.returns-in-Ule
returns-in-Ule c = λ names memory distinct s l r f g.
    subst (λ (p : Predicate). c.when-in-Ule.result ≡ pointers.settled memory p (base_meant names c.args.left.base) c.args.left.offset (base_meant names c.args.right.base) c.args.right.offset) (sym c.in-Ule.is)
    (c.when-in-Ule.ensures ∙ sym (c.are_ordered-in-Ule.ensures names memory nat_le s l r))

pub returns-in-Ugt : goal.returns-in-Ugt
returns-in-Ugt c = λ names memory distinct s l r f g.
    subst (λ (p : Predicate). c.when-in-Ugt.result ≡ pointers.settled memory p (base_meant names c.args.left.base) c.args.left.offset (base_meant names c.args.right.base) c.args.right.offset) (sym c.in-Ugt.is)
    (c.when-in-Ugt.ensures ∙ sym (c.are_ordered-in-Ugt.ensures names memory (λ (a b : ℕ). nat_lt b a) s l r))

pub returns-in-Uge : goal.returns-in-Uge
returns-in-Uge c = λ names memory distinct s l r f g.
    subst (λ (p : Predicate). c.when-in-Uge.result ≡ pointers.settled memory p (base_meant names c.args.left.base) c.args.left.offset (base_meant names c.args.right.base) c.args.right.offset) (sym c.in-Uge.is)
    (c.when-in-Uge.ensures ∙ sym (c.are_ordered-in-Uge.ensures names memory (λ (a b : ℕ). nat_le b a) s l r))
