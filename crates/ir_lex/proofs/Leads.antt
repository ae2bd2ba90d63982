-- A loop that takes one token after the other.
use Rattle.std.proofs.Common.{◌≡◌, ℕ, ◌≤◌, Bool, false, List, [], ◌∷◌, ◌++◌, length, take, drop, refl, sym, ap, subst, ◌∙◌, take-append-drop, length-take-le}
use Rattle.ir_lex.specs.Tok.{Tok}
use Rattle.ir_lex.specs.declared.rows.Fit.{Fit}
use Rattle.ir_lex.specs.declared.token_kind.TokenKind.{TokenKind}
use Rattle.ir_lex.specs.TokenKinds.{kind_of}
use Rattle.ir_lex.specs.Blanks.{Place, place, skip, line_behind, ends_before}
use Rattle.ir_lex.specs.Lexing.{Lead, Next, Stands, is_bad}
use Rattle.ir_lex.specs.Rows.{best_fit}

Lead-push : (at mid after : Place) (ts : List Tok) (t : Tok) → Lead at ts mid → Next mid t after → Lead at (ts ++ t ∷ []) after
Lead-push at mid after [] t e n = (after, subst (λ (p : Place). Next p t after) (sym e) n, refl)
Lead-push at mid after (u ∷ ts) t (p, m, l) n = (p, m, Lead-push p mid after ts t l n)

-- the token at the place where some stand, and what the blanks behind it lead to
pub goes_on : (bytes here text behind next : List ℕ) (ts : List Tok) (line end next_line : ℕ) (f : Fit) (head : TokenKind) (ends : Bool)
    → Stands bytes ts line here → f ≡ best_fit here → is_bad here ≡ false → f.len ≤ length here → text ≡ take f.len here → behind ≡ drop f.len here
    → head ≡ kind_of f.form text behind → end ≡ line_behind line text → skip false end behind ≡ place next_line next → ends ≡ ends_before end (place next_line next)
    → Stands bytes (ts ++ record { form = f.form; text = text; line = line; kind = head; ends_line = ends } ∷ []) next_line next
goes_on bytes here text behind next ts line end next_line f head ends s b good within front back h e n l =
    let whole : text ++ behind ≡ here = ap (λ (x : List ℕ). x ++ behind) front ∙ ap (λ (x : List ℕ). take f.len here ++ x) back ∙ take-append-drop f.len here in
    let len : length text ≡ f.len = ap length front ∙ length-take-le f.len here within in
    record {
      after = place end behind;
      lead = Lead-push (place 1 bytes) s.after (place end behind) ts (record { form = f.form; text = text; line = line; kind = head; ends_line = ends }) s.lead (record {
        starts = s.rest ∙ ap (λ (x : List ℕ). place line x) (sym whole);
        good = ap is_bad whole ∙ good;
        fits = ap best_fit whole ∙ sym b ∙ ap (λ (n : ℕ). record { form = f.form; len = n }) (sym len);
        kind = h;
        line = e;
        ends = l ∙ ap (λ (p : Place). ends_before end p) (sym n);
      });
      rest = n;
    }
