-- What a literal means as the count of an `alloca`.
use Rattle.std.proofs.Common.{◌≡◌, ℕ, max, ◌<◌, Bool, true, false, cond, ◌&&◌, not, Option, Some, None, Result, Ok, Err, ap, ◌∙◌, refl, arith}
use Rattle.ir_lex.specs.TokenKinds.{number}
use Rattle.ir_lex.specs.Tok.{Tok}
use Rattle.ir_parse_parts.specs.Alphabet.{among}
use Rattle.ir_parse_parts.specs.declared.fault.TokenFault.{TokenFault}
use Rattle.ir_parse_parts.specs.declared.fault.TokenFault.TheVariants.{Number, Limit}
use Rattle.ir_parse_parts.specs.Rules.{in_range, is_valued}
use Rattle.ir_parse_operands.specs.Addressing.{fitting}
use Rattle.ir_parse_operands.specs.AddressingAt.{passes, count_means}
use Rattle.ir_parse_parts.specs.Classes.{tokens, refusal}
use Rattle.ir_parse_operands.specs.ShapeForms.{NUMBER, counted, count_of}

abbrev pub judged : (ℕ → Bool) → Option ℕ → Result ℕ TokenFault
judged fits None = Err Number
judged fits (Some n) = cond (fits n) (Ok n) (Err Limit)

pub count_is : (fits : ℕ → Bool) (w : ℕ) (t : Tok) (o : Option ℕ) → among tokens NUMBER t ≡ true → 0 < w → counted w t.text ≡ o → count_means fits w t ≡ judged fits o
unfolding count_means is_valued
count_is fits w t o a p e =
    let same : max 1 w ≡ w = omega (arith, p) in
    let c : count_of (max 1 w) t ≡ o = ap (λ (v : ℕ). counted v t.text) same ∙ e in
    ap (λ (b : Bool). cond (b && passes fits (count_of (max 1 w) t)) (Err Limit) (cond b (in_range (fitting fits (count_of (max 1 w) t))) (Err (refusal (number t.kind))))) a
    ∙ ap (λ (x : Option ℕ). cond (passes fits x) (Err Limit) (in_range (fitting fits x))) c
    ∙ by_count o
  where
    by_test : (b : Bool) (n : ℕ) → cond (not b) (Err Limit) (in_range (cond b (Some n) None)) ≡ cond b (Ok n) (Err Limit)
    by_test true n = refl
    by_test false n = refl

    by_count : (o : Option ℕ) → cond (passes fits o) (Err Limit) (in_range (fitting fits o)) ≡ judged fits o
    by_count None = refl
    by_count (Some n) = by_test (fits n) n
