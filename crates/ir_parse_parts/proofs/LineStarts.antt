-- A line of metadata that goes on, but not with some tokens.
use Rattle.std.proofs.Common.{◌≡◌, ℕ, Bool, true, false, cond, ◌||◌, nat_eq, List, [], ◌∷◌, Result, Ok, Err, refl, sym, ap, ◌∙◌}
use Rattle.ir_lex.specs.Tok.{Tok}
use Rattle.ir_parse_parts.specs.Alphabet.{among, contains}
use Rattle.ir_parse_parts.specs.declared.fault.Fault.{Fault}
use Rattle.ir_parse_parts.specs.declared.fault.TokenFault.{TokenFault}
use Rattle.ir_parse_parts.specs.declared.fault.TokenFault.TheVariants.{Syntax}
use Rattle.ir_parse_parts.specs.Readers.{fault_at, follow, token_means, next_is}
use Rattle.ir_parse_parts.specs.Runs.{Step, bad, last, onward, run_at}
use Rattle.ir_parse_parts.specs.Classes.{tokens}
use Rattle.ir_parse_parts.specs.declared.brackets.Bracket.{Bracket}
use Rattle.ir_parse_parts.specs.Metadata.{line_step}
use Rattle.ir_parse_parts.specs.MetadataBehind.{fitting, line_goes_on}
use Rattle.ir_parse_parts.specs.MetadataBehindAt.{line_rest_at, goes_on_but_at}

-- with another token it goes on as any line does
pub goes_on_is : (apart : List ℕ) (ts : List Tok) → next_is (among tokens apart) ts ≡ false → goes_on_but_at apart ts ≡ run_at line_step [] ts
unfolding goes_on_but_at line_goes_on
goes_on_is apart [] h = refl
goes_on_is apart (t ∷ ts) h = by_step (among tokens apart t) h (line_step [] t)
  where
    by_step : (b : Bool) → b ≡ false → (s : Step (List Bracket)) → follow (token_means t ts (cond b (Err Syntax) (fitting s))) line_rest_at ≡ elim s as (λ x. Result (Unit {0} × List Tok) Fault) [ bad ↦ fault_at Syntax (t ∷ ts) | last ↦ Ok (tt, ts) | onward next ↦ run_at line_step next ts ]
    by_step true e s = absurd cc
    by_step false e bad = refl
    by_step false e last = refl
    by_step false e (onward bs) = refl

neither : (a b : Bool) → a || false ≡ false → b || false ≡ false → a || (b || false) ≡ false
neither true b p q = absurd cc
neither false b p q = q

pub none_of_two : (x y : ℕ) (ts : List Tok) → next_is (among tokens (x ∷ [])) ts ≡ false → next_is (among tokens (y ∷ [])) ts ≡ false → next_is (among tokens (x ∷ y ∷ [])) ts ≡ false
none_of_two x y [] p q = refl
none_of_two x y (t ∷ ts) p q = neither (nat_eq (tokens.class t) x) (nat_eq (tokens.class t) y) p q
