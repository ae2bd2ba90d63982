use Rattle.std.proofs.Common.{ℕ, ◌<◌, sym, subst}
use Rattle.ir_parse_names.proofs.Sizes.{count_of}
use Rattle.ir_parse_names.proofs.address.picked.Goals as goal

pub returns-then-index-parts-clause-within : goal.returns-then-index-parts-clause-within
returns-then-index-parts-clause-within c = subst (λ (n : ℕ). c.args.index.now.bits < n) (sym (count_of c.args.parts.now)) c.if-index-parts.true
