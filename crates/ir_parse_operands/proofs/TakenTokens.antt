-- What a reader of one token gives.
use Rattle.std.proofs.Common.{◌≡◌, List, [], ◌∷◌, length, Result, Ok, Err, sym, ap, ◌∙◌}
use Rattle.ir_lex.specs.Tok.{Tok}
use Rattle.ir_parse_parts.specs.declared.fault.TokenFault.{TokenFault}
use Rattle.ir_parse_parts.specs.declared.fault.TokenFault.TheVariants.{Syntax}
use Rattle.ir_parse_parts.specs.Readers.{token_at, token_means}

module _ {A : Type 0} (meaning : Tok → Result A TokenFault) where
  pub token_read : (ts rest : List Tok) (t : Tok) (a : A) → ts ≡ t ∷ rest → meaning t ≡ Ok a → token_at meaning ts ≡ Ok (a, rest)
  token_read ts rest t a e h = ap (token_at meaning) e ∙ ap (token_means t rest) h

  pub token_refused : (ts rest : List Tok) (t : Tok) (kind : TokenFault) → ts ≡ t ∷ rest → meaning t ≡ Err kind → token_at meaning ts ≡ Err (record { left = length ts; kind = kind })
  token_refused ts rest t kind e h = ap (token_at meaning) e ∙ ap (token_means t rest) h ∙ ap (λ (us : List Tok). Err (record { left = length us; kind = kind })) (sym e)

  pub no_token : (ts : List Tok) → ts ≡ [] → token_at meaning ts ≡ Err (record { left = length ts; kind = Syntax })
  no_token ts e = ap (token_at meaning) e ∙ ap (λ (us : List Tok). Err (record { left = length us; kind = Syntax })) (sym e)
