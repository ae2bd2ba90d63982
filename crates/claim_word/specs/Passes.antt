-- What a clause says of a pass.
use Rattle.std.specs.Prelude.{◌≡◌}
use Rattle.claim_word.specs.declared.claims.ClaimPass.{ClaimPass}
use Rattle.claim_word.specs.declared.claims.Claims.{Claims}
use Rattle.claim_word.specs.declared.view.Draws.{Draws}

-- what the pass has drawn and holds
abbrev pub draws_of : ClaimPass → Draws
draws_of p = p.seat.me.0

-- the pass draws from this word
abbrev pub IsPassOf : Claims → ClaimPass → Type 0
IsPassOf c p = (p.seat.table_id ≡ c.table.shared.table_id) × (p.seat.me.0.limit ≡ c.limit)

-- it is the same pass, of the same word
abbrev pub IsSamePass : ClaimPass → ClaimPass → Type 0
IsSamePass p q = (q.seat.table_id ≡ p.seat.table_id) × (q.seat.id ≡ p.seat.id) × (q.seat.me.0.limit ≡ p.seat.me.0.limit)
