use Rattle.std.proofs.Common.{◌≡◌, ℕ, ◌<◌, ◌^◌, List, ◌++◌, length, arith, ap, ◌∙◌, Some, refl}
use Rattle.std.proofs.lemmas.Bool.Decides.{Decides-eqb}
use Rattle.std.proofs.lemmas.Slice.Eq.{strip_prefix_is}
use Rattle.cache_slot.specs.Entry.{magic, length_field}
use Rattle.cache_slot.proofs.Parts.{lacks_key_len, lacks_text_len, differs_in_length, cut_at_key}
use Rattle.cache_slot.proofs.entry.decode.Goals.{then-body-key_len-via-then-body-key_len, then-body-key_len-via-else-body-key_len+then-body-key_len-2}
use Rattle.cache_slot.proofs.entry.decode.Goals as goal

pub returns-in_err-key_len : goal.returns-in_err-key_len
returns-in_err-key_len c =
    let is = strip_prefix_is Decides-eqb c.args.bytes.now magic (Some c.in_ok-lengths.lengths) c.in_ok-lengths.ensures.cases in
    rw c.from_residual-in_err-key_len.ensures (lacks_key_len c.args.bytes.now c.in_ok-lengths.lengths.now is (c.in_err-key_len.ensures.none.0 refl))

pub returns-in_err-text_len : goal.returns-in_err-text_len
returns-in_err-text_len c =
    let is = strip_prefix_is Decides-eqb c.args.bytes.now magic (Some c.in_ok-lengths.lengths) c.in_ok-lengths.ensures.cases in
    let lengths : c.args.bytes.now ≡ magic ++ (length_field c.in_ok-key_len.key_len ++ c.in_ok-key_len.rest.now) = is ∙ ap (λ (z : List ℕ). magic ++ z) c.in_ok-key_len.ensures.some in
    rw c.from_residual-in_err-text_len.ensures (lacks_text_len c.args.bytes.now c.in_ok-key_len.rest.now c.in_ok-key_len.key_len lengths (c.in_err-text_len.ensures.none.0 refl))

pub returns-then-body-key_len : goal.returns-then-body-key_len
returns-then-body-key_len c =
    let is = strip_prefix_is Decides-eqb c.args.bytes.now magic (Some c.in_ok-lengths.lengths) c.in_ok-lengths.ensures.cases in
    let body = c.in_ok-text_len.body.now in
    let k = c.in_ok-key_len.key_len in
    let t = c.in_ok-text_len.text_len in
    let lengths : c.args.bytes.now ≡ magic ++ (length_field k ++ (length_field t ++ body)) =
    is ∙ (ap (λ (z : List ℕ). magic ++ z) c.in_ok-key_len.ensures.some ∙ ap (λ (z : List ℕ). magic ++ (length_field k ++ z)) c.in_ok-text_len.ensures.some) in
    let small : length c.args.bytes.now < 2 ^ 64 = omega arith in
    differs_in_length c.args.bytes.now body k t (lengths, c.in_ok-key_len.ensures.range, c.in_ok-text_len.ensures.range, small) (λ same.
    elim c.then-body-key_len.branch [
      | then-body-key_len-via-then-body-key_len w ↦ omega arith
      | then-body-key_len-via-else-body-key_len+then-body-key_len-2 w ↦ omega (arith, w.if-body-key_len-2.true)
    ])

pub returns : goal.returns
returns c =
    let is = strip_prefix_is Decides-eqb c.args.bytes.now magic (Some c.in_ok-lengths.lengths) c.in_ok-lengths.ensures.cases in
    let body = c.in_ok-text_len.body.now in
    let k = c.in_ok-key_len.key_len in
    let t = c.in_ok-text_len.text_len in
    let lengths : c.args.bytes.now ≡ magic ++ (length_field k ++ (length_field t ++ body)) =
    is ∙ (ap (λ (z : List ℕ). magic ++ z) c.in_ok-key_len.ensures.some ∙ ap (λ (z : List ℕ). magic ++ (length_field k ++ z)) c.in_ok-text_len.ensures.some) in
    let small : length c.args.bytes.now < 2 ^ 64 = omega arith in
    rw (c.split_at.ensures.front, c.split_at.ensures.back) (cut_at_key c.args.bytes.now body k t (lengths, c.in_ok-key_len.ensures.range, c.in_ok-text_len.ensures.range, small) (omega arith))
