-- Each text has its tokens, or a first bad one.
use Rattle.std.proofs.Common.{◌≡◌, ℕ, zero, suc, ◌-◌, ◌≤◌, ◌<◌, Bool, true, false, ◌||◌, nat_eq, List, [], ◌∷◌, ◌++◌, length, take, drop, refl, sym, ap, ◌∙◌, arith, ◌⊎◌, inl, inr, take-append-drop, length-take-le}
use Rattle.std.proofs.lemmas.List.{length-drop}
use Rattle.ir_lex.specs.TokenKinds.{kind_of}
use Rattle.ir_lex.specs.Blanks.{Place, place, skip, line_behind, ends_before}
use Rattle.ir_lex.specs.Lexing.{Lead, Next, Stands, AreTokens, AreTokensBefore, is_bad}
use Rattle.ir_lex.specs.Rows.{best_fit}
use Rattle.ir_lex.specs.Tok.{Tok}
use Rattle.ir_lex.specs.declared.rows.Fit.{Fit}
use Rattle.ir_lex.proofs.Lengths.{best_fit_le}
use Rattle.ir_lex.proofs.Order.{skip_le}

-- what the tokens from a place lead to
record Ended (at : Place) : Type 0 where
  pub tokens : List Tok
  pub after : Place
  pub lead : Lead at tokens after
  pub line : ℕ
  pub here : List ℕ
  pub rest : skip false after.line after.bytes ≡ place line here
  pub ends : (here ≡ []) ⊎ ((first : ℕ) × (others : List ℕ) × (here ≡ first ∷ others) × (is_bad here ≡ true))

good_some : (bs : List ℕ) → is_bad bs ≡ false → 0 < (best_fit bs).len
unfolding is_bad
good_some bs h = by_test (best_fit bs).len _ h
  where
    by_test : (n : ℕ) (t : Bool) → nat_eq n 0 || t ≡ false → 0 < n
    by_test zero t e = absurd cc
    by_test (suc n) t e = omega arith

next_at : (at : Place) (line : ℕ) (here : List ℕ) → skip false at.line at.bytes ≡ place line here → is_bad here ≡ false → (t : Tok) × (mid : Place) × Next at t mid × (mid.bytes ≡ drop (best_fit here).len here)
next_at at line here e good =
    let f : Fit = best_fit here in
    let whole : take f.len here ++ drop f.len here ≡ here = take-append-drop f.len here in
    let end : ℕ = line_behind line (take f.len here) in
    let after : Place = place end (drop f.len here) in
    let t : Tok = record { form = f.form; text = take f.len here; line = line; kind = kind_of f.form (take f.len here) (drop f.len here); ends_line = ends_before end (skip false end (drop f.len here)) } in (
      t,
      after,
      record {
        starts = e ∙ ap (λ (x : List ℕ). place line x) (sym whole);
        good = ap is_bad whole ∙ good;
        fits = ap best_fit whole ∙ ap (λ (n : ℕ). record { form = f.form; len = n }) (sym (length-take-le f.len here (best_fit_le here)));
        kind = refl;
        line = refl;
        ends = refl;
      },
      refl,
    )

ended : (n : ℕ) (at : Place) → length at.bytes < n → Ended at
ended zero at lt = absurd (omega (arith, lt))
ended (suc n) at lt = by_here (λ mid shorter. ended n mid shorter) (skip false at.line at.bytes).line (skip false at.line at.bytes).bytes refl
  where
    by_test : ((mid : Place) → length mid.bytes < n → Ended mid) → (line first : ℕ) (others : List ℕ) → skip false at.line at.bytes ≡ place line (first ∷ others) → (b : Bool) → is_bad (first ∷ others) ≡ b → Ended at
    by_test again line first others e true h = record { tokens = []; after = at; lead = refl; line = line; here = first ∷ others; rest = e; ends = inr (first, others, refl, h) }
    by_test again line first others e false h =
        let x = next_at at line (first ∷ others) e h in
        let left : length x.1.bytes ≡ length (first ∷ others) - (best_fit (first ∷ others)).len = ap length x.3 ∙ length-drop (best_fit (first ∷ others)).len (first ∷ others) in
        let shorter : length x.1.bytes < n = less _ _ _ _ left (good_some (first ∷ others) h) (best_fit_le (first ∷ others)) (skip_le at.line at.bytes line (first ∷ others) e) lt in
        let r = again x.1 shorter in
        record { tokens = x.0 ∷ r.tokens; after = r.after; lead = (x.1, x.2, r.lead); line = r.line; here = r.here; rest = r.rest; ends = r.ends }
      where
        less : (a len whole all : ℕ) → a ≡ whole - len → 0 < len → len ≤ whole → whole ≤ all → all < suc n → a < n
        less a len whole all e p q r s = omega arith

    by_here : ((mid : Place) → length mid.bytes < n → Ended mid) → (line : ℕ) (here : List ℕ) → skip false at.line at.bytes ≡ place line here → Ended at
    by_here again line [] e = record { tokens = []; after = at; lead = refl; line = line; here = []; rest = e; ends = inl refl }
    by_here again line (b ∷ bs) e = by_test again line b bs e (is_bad (b ∷ bs)) refl

pub every_text : (bytes : List ℕ) → ((ts : List Tok) × AreTokens bytes ts) ⊎ ((ts : List Tok) × (line : ℕ) × AreTokensBefore bytes ts line)
every_text bytes = by_end (ended (suc (length bytes)) (place 1 bytes) (omega arith))
  where
    stands : (e : Ended (place 1 bytes)) (here : List ℕ) → e.here ≡ here → Stands bytes e.tokens e.line here
    stands e here h = record { after = e.after; lead = e.lead; rest = e.rest ∙ ap (λ (x : List ℕ). place e.line x) h }

    by_end : Ended (place 1 bytes) → ((ts : List Tok) × AreTokens bytes ts) ⊎ ((ts : List Tok) × (line : ℕ) × AreTokensBefore bytes ts line)
    by_end e = elim e.ends [
      | inl h ↦ inl (e.tokens, (e.line, stands e [] h))
      | inr (first, others, h, b) ↦ inr (e.tokens, e.line, (first, others, stands e (first ∷ others) h, sym (ap is_bad h) ∙ b))
    ]
