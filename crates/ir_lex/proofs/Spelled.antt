-- What is written as tokens with blanks between is read as these tokens.
use Rattle.std.proofs.Common.{◌≡◌, ℕ, suc, max, Bool, true, false, Option, Some, None, List, [], ◌∷◌, ◌++◌, length, refl, sym, ap, ◌∙◌, arith}
use Rattle.std.proofs.lemmas.Grind.{common_steps}
use Rattle.ir_lex.specs.Bytes.{has, run}
use Rattle.ir_lex.specs.Pieces.{Piece, AllBlank, AreSpelled, bytes_of, ends_at, tokens_of}
use Rattle.ir_lex.specs.declared.bytes.Set.{Set}
use Rattle.ir_lex.specs.declared.bytes.Set.TheVariants.{Digits}
use Rattle.ir_lex.specs.declared.token.TokenForm.TheVariants as forms
use Rattle.ir_lex.specs.Blanks.{Place, place, skip, pass, is_blank, ends_before, line_after, line_behind}
use Rattle.ir_lex.specs.Lexing.{Lead, AreTokens}
use Rattle.ir_lex.specs.Rows.{best_fit, fit, string_len, label_len, bare_len, name_len}
use Rattle.ir_lex.proofs.Fits.{local_fit}

-- ---- one token

abbrev pub AllIn : Set → List ℕ → Type 0
AllIn set [] = Unit {0}
AllIn set (b ∷ bs) = (has set b ≡ true) × AllIn set bs

-- the next byte is none of the set
abbrev pub Ends : Set → List ℕ → Type 0
Ends set [] = Unit {0}
Ends set (b ∷ bs) = has set b ≡ false

pub run_stops : (set : Set) (xs rest : List ℕ) → AllIn set xs → Ends set rest → run set (xs ++ rest) ≡ length xs
run_stops set [] [] a e = refl
run_stops set [] (b ∷ rest) a e = rw e refl
run_stops set (x ∷ xs) rest a e = rw (a.0, run_stops set xs rest a.1 e) refl

no_name : (d : ℕ) (bs : List ℕ) → has Digits d ≡ true → (bare_len (d ∷ bs) ≡ 0) × (string_len (d ∷ bs) ≡ 0)
unfolding has string_len
no_name d bs h = (grind arith, grind arith)

digits_named : (d : ℕ) (ds rest : List ℕ) → AllIn Digits (d ∷ ds) → Ends Digits rest → name_len ((d ∷ ds) ++ rest) ≡ suc (length ds)
unfolding name_len
digits_named d ds rest a e =
    let n = no_name d (ds ++ rest) a.0 in
    let r : run Digits ((d ∷ ds) ++ rest) ≡ suc (length ds) = run_stops Digits (d ∷ ds) rest a e in
    maxes _ _ _ (suc (length ds)) n.0 r n.1
  where
    maxes : (a b c n : ℕ) → a ≡ 0 → b ≡ n → c ≡ 0 → max a (max b c) ≡ n
    maxes a b c n e f g = omega (arith, e, f, g)

-- %N, whatever follows that is no digit
pub local_spelled : (d : ℕ) (ds rest : List ℕ) → AllIn Digits (d ∷ ds) → Ends Digits rest → best_fit (37 ∷ ((d ∷ ds) ++ rest)) ≡ fit forms.Local (suc (suc (length ds)))
unfolding best_fit label_len string_len has
local_spelled d ds rest a e = rw (local_fit ((d ∷ ds) ++ rest), digits_named d ds rest a e) (grind (arith, common_steps))

-- ---- many tokens

abbrev pub line_at_end : ℕ → List Piece → ℕ
line_at_end line [] = line
line_at_end line (p ∷ ps) = line_at_end (line_behind (line_behind line p.blank) (p.first ∷ p.others)) ps

skip_some : (comment : Bool) (line b : ℕ) (bs : List ℕ) (o : Bool) → pass comment b ≡ Some o → skip comment line (b ∷ bs) ≡ skip o (line_after line b) bs
skip_some comment line b bs o h = ap (λ (x : Option Bool). elim x as (λ y. Place) [ None ↦ record { line = line; bytes = b ∷ bs } | Some p ↦ skip p (line_after line b) bs ]) h

skip_none : (comment : Bool) (line b : ℕ) (bs : List ℕ) → pass comment b ≡ None → skip comment line (b ∷ bs) ≡ record { line = line; bytes = b ∷ bs }
skip_none comment line b bs h = ap (λ (x : Option Bool). elim x as (λ y. Place) [ None ↦ record { line = line; bytes = b ∷ bs } | Some p ↦ skip p (line_after line b) bs ]) h

pub skip_blank : (line : ℕ) (blank : List ℕ) (c : ℕ) (rest : List ℕ) → AllBlank blank → pass false c ≡ None → skip false line (blank ++ (c ∷ rest)) ≡ record { line = line_behind line blank; bytes = c ∷ rest }
skip_blank line [] c rest a e = skip_none false line c rest e
skip_blank line (b ∷ blank) c rest a e = skip_some false line b (blank ++ (c ∷ rest)) false (passed b a.0) ∙ skip_blank (line_after line b) blank c rest a.1 e
  where
    passed : (b : ℕ) → is_blank b ≡ true → pass false b ≡ Some false
    passed b h = rw h refl

skip_pieces : (line : ℕ) (ps : List Piece) → AreSpelled ps → ends_before line (skip false line (bytes_of ps)) ≡ ends_at line ps
skip_pieces line [] s = refl
skip_pieces line (p ∷ ps) s = ap (λ (x : Place). ends_before line x) (skip_blank line p.blank p.first (p.others ++ bytes_of ps) s.0 s.1)

pub spelled : (line : ℕ) (ps : List Piece) → AreSpelled ps → Lead (place line (bytes_of ps)) (tokens_of line ps) (place (line_at_end line ps) [])
spelled line [] s = refl
spelled line (p ∷ ps) s =
    let here : ℕ = line_behind line p.blank in
    let end : ℕ = line_behind here (p.first ∷ p.others) in (
      place end (bytes_of ps),
      record {
        starts = skip_blank line p.blank p.first (p.others ++ bytes_of ps) s.0 s.1;
        good = s.3;
        fits = s.2;
        kind = refl;
        line = refl;
        ends = sym (skip_pieces end ps s.4);
      },
      spelled end ps s.4,
    )

pub written : (ps : List Piece) → AreSpelled ps → AreTokens (bytes_of ps) (tokens_of 1 ps)
written ps s = (line_at_end 1 ps, record { after = place (line_at_end 1 ps) []; lead = spelled 1 ps s; rest = refl })
