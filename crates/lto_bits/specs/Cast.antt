-- Casts between widths (LLVM Language Reference, "Conversion Operations": zext, sext, trunc).
use Rattle.std.specs.Prelude.{ℕ, ◌%◌, ◌^◌, Bool, true, false}
use Rattle.lto_bits.specs.Word.{signed, wrapped}

-- `sext` where signed, `zext` where not
abbrev pub widened : Bool → ℕ → ℕ → ℕ → ℕ
widened true from to a = wrapped to (signed from a)
widened false from to a = a

-- `trunc`
abbrev pub narrowed : ℕ → ℕ → ℕ
narrowed to a = a % 2 ^ to
