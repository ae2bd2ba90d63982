use Rattle.std.proofs.Common.{◌≡◌, ◌-◌, ◌^◌, ◌≤◌, ◌∙◌, ap, arith}
use Rattle.std.proofs.lemmas.Nat.Bits.{ones_shr}
use Rattle.lto_bits.proofs.word.greatest.Goals as goal

pub returns : goal.returns
returns c =
    let within : 64 - c.args.w ≤ 64 = omega arith in
    let kept : 64 - (64 - c.args.w) ≡ c.args.w = omega (arith, c.requires.within) in
    ones_shr 64 (64 - c.args.w) within ∙ ap (λ n. 2 ^ n - 1) kept
