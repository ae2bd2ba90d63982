-- The number of a width whose bits are all set.
use Rattle.std.proofs.Common.{◌≡◌, ℕ, ◌-◌, ◌%◌, ◌^◌, ◌≤◌, ◌<◌, arith}
use Rattle.std.proofs.Math.Nat.{zero-mod}
use Rattle.lto_bits.proofs.Words.{complement_mod}

pub all_ones : (w : ℕ) → w ≤ 64 → (2 ^ 64 - 1) % 2 ^ w ≡ 2 ^ w - 1
all_ones w h =
    let some : 0 < 2 ^ 64 = omega arith in
    omega (arith, complement_mod 0 w h some, zero-mod (2 ^ w))
