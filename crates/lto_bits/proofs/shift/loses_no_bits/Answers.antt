use Rattle.std.proofs.Common.{◌∙◌, ◌-◌, ap, not}
use Rattle.std.specs.Prelude.{bit_and, nat_eq}
use Rattle.std.proofs.lemmas.Nat.{and_mask, one_shl}
use Rattle.lto_bits.proofs.Choices.{or_second}
use Rattle.lto_bits.proofs.shift.loses_no_bits.Goals as goal

pub returns-else-not-flags : goal.returns-else-not-flags
returns-else-not-flags c =
    or_second (not c.args.flags.exact) _ _ c.if-not-flags.false
    (ap (λ m. nat_eq (bit_and c.args.a (m - 1)) 0) (one_shl c.args.b 64 c.requires.shift) ∙ ap (λ m. nat_eq m 0) (and_mask c.args.a c.args.b))
