-- The tokens of a text write integers in memory by their widths.
use Rattle.std.proofs.Common.{nat_eq, List, [], ◌∷◌, sym, ap, ◌∙◌}
use Rattle.std.specs.List.{AllByRecursion as Each}
use Rattle.std.proofs.lemmas.List.Elements.{All-from_recursion}
use Rattle.ir_lex.specs.Blanks.{Place, place}
use Rattle.ir_lex.specs.TokenKinds.{number}
use Rattle.ir_lex.specs.Lexing.{Lead, Next}
use Rattle.ir_lex.specs.Tok.{Tok}
use Rattle.ir_lex.specs.declared.token_kind.TokenKind.TheVariants as kinds
use Rattle.ir_parse.specs.Spelled.{FrontIsSized, TokensAreSized}
use Rattle.ir_parse.specs.Sized.{IsSized}
use Rattle.ir_parse.proofs.Words.{class_writes}

next_sized : (at : Place) (t : Tok) (after : Place) → Next at t after → IsSized t
next_sized at t after n = record { stored = λ e. (class_writes t.form t.text after.bytes).stored (ap (λ h. nat_eq (number h) (number kinds.MemoryInteger)) (sym n.kind) ∙ ap (λ m. nat_eq m (number kinds.MemoryInteger)) e) }

all_sized : (at : Place) (ts : List Tok) (after : Place) → Lead at ts after → Each IsSized ts
all_sized at [] after l = tt
all_sized at (t ∷ ts) after l = (next_sized at t l.0 l.1, all_sized l.0 ts after l.2)

pub front : FrontIsSized
front bytes ts line here s = All-from_recursion IsSized ts (all_sized (place 1 bytes) ts s.after s.lead)

pub whole : TokensAreSized
whole bytes ts h = front bytes ts h.0 [] h.1
