use Rattle.std.proofs.Common.{ℕ, ◌≤◌, sym, subst}
use Rattle.ir_tree.specs.Forms.{forms_of}
use Rattle.ir_tree.proofs.Layouts.{widest_least, widest_most}
use Rattle.ir_parse_names.proofs.expand.struct_size.Goals as goal

pub rounded-size-requires-clause-least : goal.rounded-size-requires-clause-least
rounded-size-requires-clause-least c = subst (λ (n : ℕ). 1 ≤ n) (sym c.widest.ensures) (widest_least (forms_of c.args.parts.now))

pub rounded-size-requires-clause-most : goal.rounded-size-requires-clause-most
rounded-size-requires-clause-most c = subst (λ (n : ℕ). n ≤ 8) (sym c.widest.ensures) (widest_most (forms_of c.args.parts.now) c.requires)
