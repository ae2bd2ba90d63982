use Rattle.std.proofs.Common.{rules}
use Rattle.claim_word.proofs.Handing.{joins}
use Rattle.claim_word.proofs.claims.Claims.join.Goals as goal

pub join_seat-requires : goal.join_seat-requires
join_seat-requires c = (search rules, search rules, search rules, search rules, joins _ _ _ _ _ _ c.args.pass.now.holds_one)
