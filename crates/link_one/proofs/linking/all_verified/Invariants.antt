use Rattle.std.proofs.Common.{take}
use Rattle.std.specs.Prelude.{All}
use Rattle.ir_tree.specs.Wholes.{IsVerified}
use Rattle.link_one.proofs.linking.all_verified.Given as goal

abbrev pub invariant-loop-verified : goal.invariant-loop-verified
invariant-loop-verified l = All IsVerified (take l.verified-index l.modules)
