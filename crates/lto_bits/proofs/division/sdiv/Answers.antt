use Rattle.std.proofs.Common.{◌∙◌, ap, sym, ◌⊎◌, inl, inr, ◌≡◌, ◌-◌, ◌^◌, not, nat_eq}
use Rattle.std.specs.Prelude.{◌||◌}
use Rattle.std.proofs.lemmas.Bool.{cond-false}
use Rattle.lto_bits.specs.Word.{signed, wrapped}
use Rattle.lto_bits.specs.Operation.{arithmetic}
use Rattle.lto_bits.proofs.Choices.{same_answer}
use Rattle.lto_bits.proofs.Words.{signed_fits}
use Rattle.lto_bits.proofs.Divisions.{breaks_not, remainder_in_64, quotient_in_64, signed_quotient_fits, division_defined}
use Rattle.lto_bits.proofs.division.sdiv.Goals as goal
use Rattle.lto_bits.proofs.division.sdiv.Goals.{else-b-greatest-via-then-b-greatest+else-a-sign_bit, else-b-greatest-via-else-b-greatest}

pub returns : goal.returns
unfolding arithmetic
returns c =
    let a = c.args.a in
    let b = c.args.b in
    let w = c.args.w in
    let left = signed_fits w a c.requires.some c.requires.within c.requires.left in
    let right = signed_fits w b c.requires.some c.requires.within c.requires.right in
    let defined : (b ≡ 2 ^ w - 1 → ⊥) ⊎ (a ≡ 2 ^ (w - 1) → ⊥) =
    elim c.else-b-greatest.branch [
      | else-b-greatest-via-then-b-greatest+else-a-sign_bit v ↦ inr (λ e. v.if-a-sign_bit.false (e ∙ sym v.sign_bit.ensures))
      | else-b-greatest-via-else-b-greatest v ↦ inl (λ e. v.if-b-greatest.false (e ∙ sym c.greatest.ensures))
    ] in
    let remainder = c.wrap-remainder.ensures ∙ ap (λ z. wrapped w z) (remainder_in_64 _ _ (signed w a) (signed w b) left right c.signed-dividend.ensures c.signed-divisor.ensures) in
    let quotient = c.wrap.ensures ∙ ap (λ z. wrapped w z) (quotient_in_64 _ _ (signed w a) (signed w b) left right (signed_quotient_fits w a b c.requires.some c.requires.within c.requires.left c.requires.right defined) c.signed-dividend.ensures c.signed-divisor.ensures) in
    c.value_if.ensures
    ∙ same_answer _ _ _ _ (ap (λ r. not c.args.flags.exact || nat_eq r 0) remainder) quotient
    ∙ sym (cond-false _ _ _ (breaks_not w a b c.if-b-eq0.false defined))

pub nonzero_rem-dividend : goal.nonzero_rem-dividend
nonzero_rem-dividend c =
    let defined : (c.args.b ≡ 2 ^ c.args.w - 1 → ⊥) ⊎ (c.args.a ≡ 2 ^ (c.args.w - 1) → ⊥) =
    elim c.else-b-greatest.branch [
      | else-b-greatest-via-then-b-greatest+else-a-sign_bit v ↦ inr (λ e. v.if-a-sign_bit.false (e ∙ sym v.sign_bit.ensures))
      | else-b-greatest-via-else-b-greatest v ↦ inl (λ e. v.if-b-greatest.false (e ∙ sym c.greatest.ensures))
    ] in
    division_defined c.args.w c.args.a c.args.b _ _ c.requires.some c.requires.within c.requires.left c.requires.right c.if-b-eq0.false defined c.signed-dividend.ensures c.signed-divisor.ensures

pub nonzero_div-dividend : goal.nonzero_div-dividend
nonzero_div-dividend c =
    let defined : (c.args.b ≡ 2 ^ c.args.w - 1 → ⊥) ⊎ (c.args.a ≡ 2 ^ (c.args.w - 1) → ⊥) =
    elim c.else-b-greatest.branch [
      | else-b-greatest-via-then-b-greatest+else-a-sign_bit v ↦ inr (λ e. v.if-a-sign_bit.false (e ∙ sym v.sign_bit.ensures))
      | else-b-greatest-via-else-b-greatest v ↦ inl (λ e. v.if-b-greatest.false (e ∙ sym c.greatest.ensures))
    ] in
    division_defined c.args.w c.args.a c.args.b _ _ c.requires.some c.requires.within c.requires.left c.requires.right c.if-b-eq0.false defined c.signed-dividend.ensures c.signed-divisor.ensures
