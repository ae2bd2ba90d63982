-- Numbers of w bits: unsigned below 2 ^ w, signed in two's complement.
use Rattle.std.specs.Prelude.{ℕ, ◌-◌, ◌/◌, ◌%◌, ◌^◌, Bool, ◌&&◌, nat_lt, if◌then◌else◌, ℤ, pos, negsuc, neg_ℤ, ◌-ℤ◌, int_lt, int_le}

-- the signed value of a number of w bits: from 2 ^ (w - 1) on it is negative
abbrev pub signed : ℕ → ℕ → ℤ
signed w a = if nat_lt a (2 ^ (w - 1)) then pos a else pos a -ℤ pos (2 ^ w)

-- the number of w bits that is this one modulo 2 ^ w
abbrev pub wrapped : ℕ → ℤ → ℕ
wrapped w (pos n) = n % 2 ^ w
wrapped w (negsuc n) = 2 ^ w - 1 - n % 2 ^ w

-- this is the signed value of a number of w bits
abbrev pub fits_signed : ℕ → ℤ → Bool
fits_signed w z = int_le (neg_ℤ (pos (2 ^ (w - 1)))) z && int_lt z (pos (2 ^ (w - 1)))

-- the arithmetic shift: a number whose sign bit is set is filled with ones from above
abbrev pub ashr_of : ℕ → ℕ → ℕ → ℕ
ashr_of w a b = if nat_lt a (2 ^ (w - 1)) then a / 2 ^ b else 2 ^ w - 1 - (2 ^ w - 1 - a) / 2 ^ b
