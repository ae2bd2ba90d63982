-- What readers of one token give, by what the token means.
use Rattle.std.proofs.Common.{◌≡◌, ℕ, Bool, true, false, cond, nat_eq, List, [], ◌∷◌, length, Result, Ok, Err, refl, sym, ap, subst, ◌∙◌, MatchResult, arith}
use Rattle.ir_lex.specs.declared.token_kind.TokenKind.TheVariants as kinds
use Rattle.ir_lex.specs.TokenKinds.{number}
use Rattle.ir_lex.specs.Tok.{Tok}
use Rattle.ir_tree.specs.declared.failure.Failure.{Failure}
use Rattle.ir_tree.specs.declared.failure.Failure.TheVariants as errors
use Rattle.ir_tree.specs.declared.operand.Reg.TheVariants.{Ptr}
use Rattle.ir_parse_parts.specs.Alphabet.{contains}
use Rattle.ir_parse_parts.specs.Classes.{tokens, refusal}
use Rattle.ir_parse_parts.specs.declared.fault.Fault.{Fault}
use Rattle.ir_parse_parts.specs.declared.fault.TokenFault.{TokenFault}
use Rattle.ir_parse_parts.specs.declared.fault.TokenFault.TheVariants.{Syntax}
use Rattle.ir_parse_parts.specs.declared.raw.Operand.{Operand}
use Rattle.ir_parse_parts.specs.Operands.{POINTER_OPERAND, classes_of, operand_of}
use Rattle.ir_parse_parts.specs.Readers.{Returns, token_at, token_means}
use Rattle.ir_parse_parts.specs.Rules.{in_range, is_valued}
use Rattle.ir_parse_operands.proofs.Levels.{gives_as}
use Rattle.ir_parse_operands.proofs.TakenTokens.{no_token}
use Rattle.ir_parse_bodies.specs.Calls.{marker_refusal}

-- what was taken, given back by what it means
module _ {A : Type 0} (meaning : Tok → Result A TokenFault) (left : ℕ) (ts : List Tok) (n : left ≡ length ts) where
  abbrev IsMeant : Result A TokenFault → Result A (Failure Fault) → Type 0
  IsMeant m result = MatchResult m (λ x. result ≡ Ok x) (λ kind. result ≡ Err (errors.Fault (record { left = left; kind = kind })))

  pub token_meant : (rest : List Tok) (t : Tok) (m : Result A TokenFault) (result : Result A (Failure Fault)) → ts ≡ t ∷ rest → m ≡ meaning t → IsMeant m result → Returns {Y = A × List Tok} (λ x. (x, rest)) result (token_at meaning ts)
  token_meant rest t m result e d h = gives_as {Y = A × List Tok} (λ x. (x, rest)) result (token_means t rest m) (token_at meaning ts) (ap (token_means t rest) d ∙ sym (ap (token_at meaning) e)) (by_meaning m h)
    where
      by_meaning : (m : Result A TokenFault) → IsMeant m result → Returns {Y = A × List Tok} (λ x. (x, rest)) result (token_means t rest m)
      by_meaning (Ok x) h = subst (λ (r : Result A (Failure Fault)). Returns {Y = A × List Tok} (λ y. (y, rest)) r (Ok (x, rest))) (sym h) refl
      by_meaning (Err kind) h = subst (λ (r : Result A (Failure Fault)). Returns {Y = A × List Tok} (λ y. (y, rest)) r (Err (record { left = length (t ∷ rest); kind = kind }))) (sym h) (ap (λ (m : ℕ). Err (record { left = m; kind = kind })) (sym (n ∙ ap length e)))

  pub none_meant : ts ≡ [] → token_at meaning ts ≡ Err (record { left = left; kind = Syntax })
  none_meant e = no_token meaning ts e ∙ ap (λ (m : ℕ). Err (record { left = m; kind = Syntax })) (sym n)

-- ---- callees that are no lifetime markers

abbrev unmarked_means : Tok → Result Operand TokenFault
unmarked_means = is_valued tokens marker_refusal (classes_of Ptr) (operand_of Ptr)

equal : (n m : ℕ) → nat_eq n m ≡ true → n ≡ m
equal n m e = grind arith

pub marker_means : (t : Tok) → true ≡ nat_eq (number t.kind) (number kinds.LifetimeMarker) → unmarked_means t ≡ Err Syntax
unfolding is_valued
marker_means t e = ap (λ (n : ℕ). cond (contains POINTER_OPERAND n) (in_range (operand_of Ptr t)) (Err (marker_refusal n))) (equal (number t.kind) (number kinds.LifetimeMarker) (sym e))

pub other_means : (t : Tok) → false ≡ nat_eq (number t.kind) (number kinds.LifetimeMarker) → unmarked_means t ≡ is_valued tokens refusal (classes_of Ptr) (operand_of Ptr) t
unfolding is_valued
other_means t e = ap (λ (b : Bool). cond (contains POINTER_OPERAND (number t.kind)) (in_range (operand_of Ptr t)) (Err (cond b Syntax (refusal (number t.kind))))) (sym e)
