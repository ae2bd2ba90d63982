-- A text's tokens: one behind another, with blanks and comments between.
use Rattle.std.specs.Prelude.{◌≡◌, ℕ, Bool, true, false, ◌&&◌, ◌||◌, nat_eq, Result, Ok, Err, List, [], ◌∷◌, ◌++◌, length, take}
use Rattle.std.specs.Global.{Vec}
use Rattle.ir_lex.specs.declared.lexer.LexError.{LexError}
use Rattle.ir_lex.specs.declared.lexer.LexError.TheVariants as errors
use Rattle.ir_lex.specs.declared.token.Token.{Token}
use Rattle.ir_lex.specs.Blanks.{Place, place, skip, line_behind, ends_before}
use Rattle.ir_lex.specs.TokenKinds.{kind_of}
use Rattle.ir_lex.specs.Quotes.{is_zero_name}
use Rattle.ir_lex.specs.Rows.{begins, best_fit, string_len}
use Rattle.ir_lex.specs.Tok.{Tok, toks}

-- ---- tokens

-- the sigils of names, and the letter of a string that ends in no zero byte
abbrev pub is_sigil : ℕ → Bool
is_sigil b = nat_eq b 64 || (nat_eq b 37 || (nat_eq b 36 || nat_eq b 99))

-- a string that no quote closes
abbrev pub is_open : List ℕ → Bool
is_open bs = begins 34 bs && nat_eq (string_len bs) 0

-- such a string behind a sigil, where it begins
abbrev pub opens : List ℕ → Bool
opens [] = false
opens (b ∷ bs) = is_sigil b && is_open bs

-- no token stands here: a byte that begins none, a string that isn't closed, or a name that holds a zero byte
unfoldable pub is_bad : List ℕ → Bool
is_bad bs = nat_eq (best_fit bs).len 0 || (opens bs || is_zero_name (best_fit bs).form (take (best_fit bs).len bs))

-- the next token at a place, and the place behind it
pub record Next (at : Place) (t : Tok) (after : Place) : Type 0 where
  pub starts : skip false at.line at.bytes ≡ place t.line (t.text ++ after.bytes)
  pub good : is_bad (t.text ++ after.bytes) ≡ false
  pub fits : best_fit (t.text ++ after.bytes) ≡ record { form = t.form; len = length t.text }
  pub kind : t.kind ≡ kind_of t.form t.text after.bytes
  pub line : after.line ≡ line_behind t.line t.text
  pub ends : t.ends_line ≡ ends_before after.line (skip false after.line after.bytes)

-- these tokens lead from one place to another
abbrev pub Lead : Place → List Tok → Place → Type 0
Lead at [] after = at ≡ after
Lead at (t ∷ ts) after = (mid : Place) × Next at t mid × Lead mid ts after

-- these tokens stand before a place, behind which there are blanks and comments up to this line, and then these bytes
pub record Stands (bytes : List ℕ) (ts : List Tok) (line : ℕ) (here : List ℕ) : Type 0 where
  pub after : Place
  pub lead : Lead (place 1 bytes) ts after
  pub rest : skip false after.line after.bytes ≡ place line here

-- the text is these tokens
abbrev pub AreTokens : List ℕ → List Tok → Type 0
AreTokens bytes ts = (line : ℕ) × Stands bytes ts line []

-- no token stands behind these tokens, at this line, though bytes are left
abbrev pub AreTokensBefore : List ℕ → List Tok → ℕ → Type 0
AreTokensBefore bytes ts line = (first : ℕ) × (others : List ℕ) × Stands bytes ts line (first ∷ others) × (is_bad (first ∷ others) ≡ true)

-- the tokens of the whole text and the line of its end, or those before the first bad token and the line of that
abbrev pub IsLexed : List ℕ → List Tok → Bool → ℕ → Type 0
IsLexed bytes ts true line = Stands bytes ts line []
IsLexed bytes ts false line = AreTokensBefore bytes ts line

-- ---- answers

abbrev pub IfFault : LexError → (ℕ → Type 0) → Type 0
IfFault errors.NoMemory P = Unit {0}
IfFault (errors.Fault line) P = P line

-- these tokens were read, or memory ran out
abbrev pub IsTokens : List Tok → Result (Vec Token) LexError → Type 0
IsTokens ts (Ok v) = toks v.items ≡ ts
IsTokens ts (Err errors.NoMemory) = Unit {0}
IsTokens ts (Err (errors.Fault line)) = ⊥

-- a bad token at this line was found, or memory ran out
abbrev pub IsFaultAt : ℕ → Result (Vec Token) LexError → Type 0
IsFaultAt line (Ok v) = ⊥
IsFaultAt line (Err errors.NoMemory) = Unit {0}
IsFaultAt line (Err (errors.Fault here)) = here ≡ line
