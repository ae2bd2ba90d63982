use Rattle.std.proofs.Common.{refl, arith}
use Rattle.claim_word.proofs.Opening.{begins, only_first}
use Rattle.claim_word.proofs.claims.Claims.new.Goals as goal

pub of_words-requires : goal.of_words-requires
of_words-requires c = begins _ _ _ (omega (arith, c.ranges.limit.fits)) c.requires.0 c.requires.1 refl refl refl only_first
