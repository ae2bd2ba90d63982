-- The first fault of the readers of these lines is of a kind that its token allows.
use Rattle.ir_parse.proofs.Told.{Tells, may_of, seq, nothing, alt, single, the_told, one_told, refusal_refuses, AllowedBy}
use Rattle.ir_lex.specs.declared.token_kind.TokenKind.TheVariants as kinds
use Rattle.ir_lex.specs.TokenKinds.{number}
use Rattle.ir_lex.specs.Tok.{Tok}
use Rattle.ir_parse_parts.specs.Alphabet.{among}
use Rattle.ir_parse_parts.specs.Classes.{tokens, itself, refusal}
use Rattle.ir_parse_heads.specs.Targets.{STRING, is_layout, fits_layout}
use Rattle.ir_parse_heads.specs.TargetsAt.{LAYOUT, layout_line_at, triple_line_at, target_line_at, source_line_at, comdat_line_at}
use Rattle.std.proofs.Common.{Ok, Err, Bool, true, false, cond, nat_eq, ◌≡◌, refl}
use Rattle.ir_parse_parts.specs.declared.fault.TokenFault.TheVariants.{Profile}
use Rattle.ir_lex.specs.Quotes.{content}

is_layout_allowed : (t : Tok) → AllowedBy t (is_layout t)
unfolding is_layout
is_layout_allowed t = by_class (nat_eq (number t.kind) (number kinds.Str)) refl
  where
    by_fit : (b : Bool) → nat_eq (number t.kind) (number kinds.Str) ≡ true → AllowedBy t (cond b (Ok t) (Err Profile))
    by_fit true e = tt
    by_fit false e = may_of (number kinds.Str) refl (number t.kind) e

    by_class : (b : Bool) → nat_eq (number t.kind) (number kinds.Str) ≡ b → AllowedBy t (cond b (cond (fits_layout (content t.form t.text)) (Ok t) (Err Profile)) (Err (refusal (number t.kind))))
    by_class true e = by_fit (fits_layout (content t.form t.text)) e
    by_class false e = refusal_refuses (number t.kind)

pub layout_line_told : Tells layout_line_at
unfolding layout_line_at
layout_line_told =
    seq (the_told kinds.Datalayout) (λ _. seq (the_told kinds.Equals) (λ _. seq (single is_layout is_layout_allowed) (λ layout. nothing _)))

pub triple_line_told : Tells triple_line_at
unfolding triple_line_at
triple_line_told = seq (the_told kinds.Triple) (λ _. seq (the_told kinds.Equals) (λ _. seq (one_told STRING itself) (λ triple. nothing _)))

pub target_line_told : Tells target_line_at
unfolding target_line_at
target_line_told = seq (the_told kinds.Target) (λ _. alt (among tokens LAYOUT) layout_line_told triple_line_told)

pub source_line_told : Tells source_line_at
unfolding source_line_at
source_line_told = seq (the_told kinds.SourceFilename) (λ _. seq (the_told kinds.Equals) (λ _. the_told kinds.Str))

pub comdat_line_told : Tells comdat_line_at
unfolding comdat_line_at
comdat_line_told = seq (the_told kinds.ComdatName) (λ _. seq (the_told kinds.Equals) (λ _. seq (the_told kinds.Comdat) (λ _. the_told kinds.Any)))
