-- Readers one behind another, grouped otherwise.
use Rattle.std.proofs.Common.{◌≡◌, Bool, List, ◌∷◌, reverse, Result, Ok, Err, refl, ◌∙◌}
use Rattle.ir_lex.specs.declared.token_kind.TokenKind.TheVariants as kinds
use Rattle.ir_lex.specs.Tok.{Tok}
use Rattle.ir_parse_parts.specs.Classes.{the_at}
use Rattle.ir_parse_parts.specs.declared.fault.Fault.{Fault}
use Rattle.ir_parse_parts.specs.Readers.{Reader, done, follow, ◌>>=◌}
use Rattle.ir_parse_parts.specs.declared.address.Level.{Level}
use Rattle.ir_parse_parts.specs.declared.raw.Operand.TheVariants as operands
use Rattle.ir_parse_parts.specs.declared.shape.Typed.{Typed}
use Rattle.ir_parse_operands.specs.ShapeFormsAt.{memory_shape_at}
use Rattle.ir_parse_operands.specs.Values.{steps}
use Rattle.ir_parse_operands.specs.ValuesAt.{address_at, address_behind_at, all_openings_at, closing_at, global_at, opened_at, opening_at, openings_at, pointer_at, stepping_at, reached_at}
use Rattle.ir_parse_operands.proofs.Choices.{goes_on}

-- one reader, and two behind it
pub grouped : {A B C : Type 0} (f : A → Reader Tok B) (g : B → Reader Tok C) (r : Result (A × List Tok) Fault) → follow r (λ a. f a >>= g) ≡ follow (follow r f) g
grouped f g (Ok x) = refl
grouped f g (Err e) = refl

pub address_is : (ts : List Tok) → address_at ts ≡ follow (all_openings_at ts) reached_at
unfolding address_at address_behind_at
address_is ts = by_first (opening_at ts)
  where
    by_inner : (first : Typed) (r : Result (List Typed × List Tok) Fault) → follow r (λ inner. reached_at (first ∷ inner)) ≡ follow (follow r (λ inner. done (first ∷ inner))) reached_at
    by_inner first (Ok x) = refl
    by_inner first (Err e) = refl

    by_first : (r : Result (Typed × List Tok) Fault) → follow r (λ first. openings_at >>= λ inner. reached_at (first ∷ inner)) ≡ follow (follow r (λ first. openings_at >>= λ inner. done (first ∷ inner))) reached_at
    by_first (Ok x) = by_inner x.0 (openings_at x.1)
    by_first (Err e) = refl

pub address_reached : (outer : List Typed) (name : Tok) (inner : List Level) (ts behind_openings behind_name after : List Tok) → all_openings_at ts ≡ Ok (outer, behind_openings) → global_at behind_openings ≡ Ok (name, behind_name) → closing_at (reverse outer) behind_name ≡ Ok (inner, after)
    → address_at ts ≡ Ok (operands.Address (steps name inner), after)
unfolding reached_at
address_reached outer name inner ts behind_openings behind_name after e f g =
    address_is ts
    ∙ goes_on reached_at (all_openings_at ts) outer behind_openings e
    ∙ goes_on (λ n. closing_at (reverse outer) >>= λ levels. done (operands.Address (steps n levels))) (global_at behind_openings) name behind_name f
    ∙ goes_on (λ levels. done (operands.Address (steps name levels))) (closing_at (reverse outer) behind_name) inner after g

pub opening_read : (ts behind_word behind_flags behind_paren after : List Tok) (inbounds : Bool) (shape : Typed) → the_at kinds.GetElementPtr ts ≡ Ok (tt, behind_word) → stepping_at behind_word ≡ Ok (inbounds, behind_flags) → the_at kinds.OpenParen behind_flags ≡ Ok (tt, behind_paren) → follow (memory_shape_at behind_paren) (λ x. the_at kinds.Comma >>= λ _. pointer_at >>= λ _. done x) ≡ Ok (shape, after)
    → opening_at ts ≡ Ok (shape, after)
unfolding opening_at opened_at
opening_read ts behind_word behind_flags behind_paren after inbounds shape d e f g =
    goes_on (λ _. opened_at) (the_at kinds.GetElementPtr ts) tt behind_word d
    ∙ goes_on (λ _. the_at kinds.OpenParen >>= λ _. memory_shape_at >>= λ x. the_at kinds.Comma >>= λ _. pointer_at >>= λ _. done x) (stepping_at behind_word) inbounds behind_flags e
    ∙ goes_on (λ _. memory_shape_at >>= λ x. the_at kinds.Comma >>= λ _. pointer_at >>= λ _. done x) (the_at kinds.OpenParen behind_flags) tt behind_paren f
    ∙ g
