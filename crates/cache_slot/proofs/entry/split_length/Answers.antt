use Rattle.std.proofs.Common.{◌≡◌, ◌<◌, ℕ, get_or, arith}
use Rattle.cache_slot.specs.Entry.{length_field}
use Rattle.cache_slot.proofs.Parts.{field_of_bytes, small_front}
use Rattle.cache_slot.proofs.entry.split_length.Goals as goal

pub returns-clause-some : goal.returns-clause-some
returns-clause-some c =
    let front = c.split_at.result.0.now in
    let small : (i : ℕ) → get_or front i 0 < 256 = rw c.split_at.ensures.front (small_front c.args.bytes.now 8 (λ i. omega (arith, c.type_inv.bytes i))) in
    let field : length_field c.from_be_bytes-len.result ≡ front = field_of_bytes front c.from_be_bytes-len.result c.split_at.ensures.front_len small c.from_be_bytes-len.ensures in
    rw field c.split_at.ensures.by_index.0
