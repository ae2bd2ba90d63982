-- A class that is one of several is in their list.
use Rattle.std.proofs.Common.{◌≡◌, ℕ, nat_eq, Bool, true, false, ◌||◌, ◌⊎◌, inl, inr, List, [], ◌∷◌, map, refl, sym, ap, subst, arith}
use Rattle.ir_lex.specs.declared.token_kind.TokenKind.{TokenKind}
use Rattle.ir_lex.specs.TokenKinds.{number}
use Rattle.ir_lex.specs.Tok.{Tok}
use Rattle.ir_parse_parts.specs.Alphabet.{contains, among}
use Rattle.ir_parse_parts.specs.Readers.{next_is}
use Rattle.ir_parse_parts.specs.Classes.{tokens, NextHead}

-- one of these, as the arm of a match has it
abbrev pub OneOf : TokenKind → List TokenKind → TokenKind → Type 0
OneOf first [] h = h ≡ first
OneOf first (g ∷ gs) h = (h ≡ first) ⊎ OneOf g gs h

same : (n : ℕ) → nat_eq n n ≡ true
same n = grind arith

or_left : (a b : Bool) → a ≡ true → a || b ≡ true
or_left true b e = refl
or_left false b e = absurd cc

or_right : (a b : Bool) → b ≡ true → a || b ≡ true
or_right true b e = refl
or_right false b e = e

here : (first h : TokenKind) (more : Bool) → h ≡ first → nat_eq (number h) (number first) || more ≡ true
here first h more e = or_left (nat_eq (number h) (number first)) more (subst (λ (x : TokenKind). nat_eq (number x) (number first) ≡ true) (sym e) (same (number first)))

pub is_in : (first : TokenKind) (others : List TokenKind) (h : TokenKind) → OneOf first others h → contains (map number (first ∷ others)) (number h) ≡ true
is_in first [] h e = here first h false e
is_in first (g ∷ gs) h (inl e) = here first h (contains (map number (g ∷ gs)) (number h)) e
is_in first (g ∷ gs) h (inr o) = or_right (nat_eq (number h) (number first)) (contains (map number (g ∷ gs)) (number h)) (is_in g gs h o)

-- whether the next token is of some classes is a matter of its class
pub next_head : (classes : List ℕ) (ts : List Tok) (h : TokenKind) → NextHead ts h → next_is (among tokens classes) ts ≡ contains classes (number h)
next_head classes [] h e = absurd e
next_head classes (t ∷ ts) h e = ap (λ (x : TokenKind). contains classes (number x)) e
