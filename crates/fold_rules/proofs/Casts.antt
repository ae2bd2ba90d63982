-- A number sign-extended to 64 bits, of which then some are kept.
use Rattle.std.proofs.Common.{◌≡◌, ℕ, ◌%◌, ◌^◌, ◌≤◌, ◌<◌, true, ap, sym, ◌∙◌, arith, w64, of_z}
use Rattle.lto_bits.proofs.Words.{signed_fits, wrapped_bits, wrapped_twice}
use Rattle.lto_bits.specs.Cast.{narrowed, widened}
use Rattle.lto_bits.specs.Word.{signed}

pub sign_extended : (from to n : ℕ) → 1 ≤ from → from ≤ 64 → to ≤ 64 → n < 2 ^ from → narrowed to (widened true from 64 n) ≡ widened true from to n
sign_extended from to n some within most below =
    let fits = signed_fits from n some within below in
    let all : 64 ≤ 64 = omega arith in
    ap (λ m. m % 2 ^ to) (sym (wrapped_bits 64 (signed from n) all fits))
    ∙ wrapped_twice (of_z w64 (signed from n)) to most
    ∙ wrapped_bits to (signed from n) most fits
