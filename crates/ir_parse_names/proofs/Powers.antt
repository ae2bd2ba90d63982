-- Powers of two.
use Rattle.std.proofs.Common.{◌≡◌, ℕ, ◌-◌, ◌*◌, ◌^◌, ◌<◌}
use Rattle.ir_parse_parts.proofs.Widths as widths

pub half_pow : (w : ℕ) → 0 < w → 2 ^ w ≡ 2 * 2 ^ (w - 1)
half_pow w pos = widths.half_pow w pos
