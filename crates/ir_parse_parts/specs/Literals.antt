-- The numbers that the literals of iN write (LangRef, "Simple Constants").
use Rattle.std.specs.Prelude.{ℕ, ◌<◌, ◌≤◌, ◌-◌, ◌^◌, ◌%◌, nat_lt, nat_le, if◌then◌else◌, Option, Some, None, List, drop}
use Rattle.ir_lex.specs.Rows.{begins}
use Rattle.ir_parse_parts.specs.Decimals.{decimal}

-- the width of iN, in bits
pub record IsWidth (width : ℕ) : Type 0 where
  pub positive : 0 < width
  pub narrow : width ≤ 64

-- a number below 2^N
abbrev pub unsigned : ℕ → ℕ → Option ℕ
unsigned width n = if nat_lt n (2 ^ width) then Some n else None

-- minus a number that is at most 2^(N-1), as bits
abbrev pub negated : ℕ → ℕ → Option ℕ
negated width n = if nat_le n (2 ^ (width - 1)) then Some ((2 ^ width - n) % 2 ^ width) else None

-- the bits of the number, or none where it is out of range
unfoldable pub literal : ℕ → List ℕ → Option ℕ
literal width text = if begins 45 text then negated width (decimal (drop 1 text)) else unsigned width (decimal text)
