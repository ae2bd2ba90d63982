-- What a block begins with, by its parts.
use Rattle.std.proofs.Common.{◌≡◌, ℕ, nat_eq, Bool, true, false, ◌||◌, List, [], ◌∷◌, ◌++◌, refl, sym, ap, ◌∙◌}
use Rattle.ir_lex.specs.declared.token_kind.TokenKind.TheVariants as kinds
use Rattle.ir_lex.specs.TokenKinds.{number}
use Rattle.ir_parse_parts.specs.Alphabet.{contains}
use Rattle.ir_parse_parts.proofs.Rules.{within_of}
use Rattle.ir_parse_operands.specs.Terminators.{ENDS}
use Rattle.ir_parse_bodies.specs.BlocksAt.{BLOCK}
use Rattle.ir_parse_bodies.specs.LinesAt.{LINE}

apart : (a b : Bool) → a || b ≡ false → (a ≡ false) × (b ≡ false)
apart true b e = absurd cc
apart false b e = (refl, e)

past : (xs ys : List ℕ) (n : ℕ) → contains xs n ≡ false → contains (xs ++ ys) n ≡ contains ys n
past [] ys n e = refl
past (x ∷ xs) ys n e =
    let d = apart (nat_eq n x) (contains xs n) e in
    ap (λ (b : Bool). b || contains (xs ++ ys) n) d.0 ∙ past xs ys n d.1

pub by_label : (n : ℕ) → true ≡ nat_eq n (number kinds.Label) → contains BLOCK n ≡ true
by_label n e = ap (λ (b : Bool). b || contains (LINE ++ ENDS) n) (sym e)

pub by_line : (n : ℕ) → contains LINE n ≡ true → contains BLOCK n ≡ true
by_line n e = within_of LINE BLOCK refl n e

pub by_end : (n : ℕ) → false ≡ nat_eq n (number kinds.Label) → contains LINE n ≡ false → contains BLOCK n ≡ contains ENDS n
by_end n d e = ap (λ (b : Bool). b || contains (LINE ++ ENDS) n) (sym d) ∙ past LINE ENDS n e
