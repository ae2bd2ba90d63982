use Rattle.std.proofs.Common.{sym, subst}
use Rattle.ir_parse_names.specs.Heads.{AreHeads}
use Rattle.ir_parse_names.proofs.heads.heads_of.Goals as goal

pub find-requires : goal.find-requires
find-requires c = subst (AreHeads c.args.names.now 0) (sym c.deref_mut.ensures.value) c.each.invariant
