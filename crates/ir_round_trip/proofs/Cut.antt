-- The tokens of a text of bytes are bytes, and those of a global's class stand for names that can be printed.
use Rattle.std.proofs.Common.{ℕ, Bool, Option, Some, None, List, [], ◌∷◌, ◌++◌, false, subst}
use Rattle.std.specs.List.{AllByRecursion as Each}
use Rattle.ir_lex.specs.Blanks.{Place, place, skip, pass, line_after}
use Rattle.ir_lex.specs.Lexing.{Lead}
use Rattle.ir_lex.specs.Tok.{Tok}
use Rattle.ir_tree.specs.Names.{AllBytes}
use Rattle.ir_round_trip.specs.PrintedLaws.{TokensAreCut}
use Rattle.ir_round_trip.specs.Tokens.{IsCut, OfBytes}
use Rattle.ir_round_trip.proofs.WithinNames.{name_fits}

front_bytes : (xs ys : List ℕ) → AllBytes (xs ++ ys) → AllBytes xs
front_bytes [] ys h = tt
front_bytes (x ∷ xs) ys h = (h.0, front_bytes xs ys h.1)

back_bytes : (xs ys : List ℕ) → AllBytes (xs ++ ys) → AllBytes ys
back_bytes [] ys h = h
back_bytes (x ∷ xs) ys h = back_bytes xs ys h.1

skip_bytes : (comment : Bool) (line : ℕ) (bs : List ℕ) → AllBytes bs → AllBytes (skip comment line bs).bytes
skip_bytes comment line [] h = tt
skip_bytes comment line (b ∷ bs) h = by (pass comment b) (λ o. skip_bytes o (line_after line b) bs h.1)
  where
    by : (o : Option Bool) → ((inside : Bool) → AllBytes (skip inside (line_after line b) bs).bytes) → AllBytes (elim o as (λ x. Place) [ None ↦ place line (b ∷ bs) | Some p ↦ skip p (line_after line b) bs ]).bytes
    by None more = h
    by (Some inside) more = more inside

all_cut : (at after : Place) (ts : List Tok) → Lead at ts after → AllBytes at.bytes → Each IsCut ts
all_cut at after [] l h = tt
all_cut at after (t ∷ ts) (mid, n, l) h =
    let there : AllBytes (t.text ++ mid.bytes) = subst (λ (p : Place). AllBytes p.bytes) n.starts (skip_bytes false at.line at.bytes h) in
    let own : OfBytes t = front_bytes t.text mid.bytes there in
    (record { bytes = own; named = name_fits t mid.bytes own n.good n.fits n.kind }, all_cut mid after ts l (back_bytes t.text mid.bytes there))

pub tokens_cut : TokensAreCut
tokens_cut bytes ts h (line, s) = all_cut (place 1 bytes) s.after ts s.lead h
