-- Each token is a slice of its text, in order, on the line that the line feeds before it give.
use Rattle.std.proofs.Common.{◌≡◌, ℕ, suc, ◌+◌, Bool, true, false, cond, nat_eq, Option, Some, None, List, [], ◌∷◌, ◌++◌, ◌≤◌, length, refl, sym, ap, subst, ◌∙◌, append_assoc, arith}
use Rattle.std.proofs.lemmas.List.{length-append}
use Rattle.ir_lex.specs.Blanks.{Place, place, pass, skip, line_after, line_behind}
use Rattle.ir_lex.specs.Lexing.{Lead, Next, Stands}
use Rattle.ir_lex.specs.Order.{feeds, InOrder}
use Rattle.ir_lex.specs.Tok.{Tok}

feeds-append : (xs ys : List ℕ) → feeds (xs ++ ys) ≡ feeds xs + feeds ys
feeds-append [] ys = omega arith
feeds-append (b ∷ xs) ys = by_test (nat_eq b 10) (feeds-append xs ys)
  where
    by_test : (t : Bool) → feeds (xs ++ ys) ≡ feeds xs + feeds ys → cond t (suc (feeds (xs ++ ys))) (feeds (xs ++ ys)) ≡ cond t (suc (feeds xs)) (feeds xs) + feeds ys
    by_test true h = omega (arith, h)
    by_test false h = h

after_feeds : (line b : ℕ) (bs : List ℕ) → line_after line b + feeds bs ≡ line + feeds (b ∷ bs)
after_feeds line b bs = by_test (nat_eq b 10)
  where
    by_test : (t : Bool) → cond t (suc line) line + feeds bs ≡ line + cond t (suc (feeds bs)) (feeds bs)
    by_test true = omega arith
    by_test false = refl

pub behind_feeds : (line : ℕ) (bs : List ℕ) → line_behind line bs ≡ line + feeds bs
behind_feeds line [] = omega arith
behind_feeds line (b ∷ bs) = behind_feeds (line_after line b) bs ∙ after_feeds line b bs

-- what is passed over before a place
record Passed (line : ℕ) (bytes : List ℕ) (to : Place) : Type 0 where
  pub gap : List ℕ
  pub cut : bytes ≡ gap ++ to.bytes
  pub line_is : to.line ≡ line + feeds gap

skipped : (comment : Bool) (line : ℕ) (bs : List ℕ) → Passed line bs (skip comment line bs)
skipped comment line [] = record { gap = []; cut = refl; line_is = omega arith }
skipped comment line (b ∷ bs) = by_pass (pass comment b) (λ inside. skipped inside (line_after line b) bs)
  where
    by_pass : (o : Option Bool) → ((inside : Bool) → Passed (line_after line b) bs (skip inside (line_after line b) bs)) → Passed line (b ∷ bs) (elim o as (λ x. Place) [ None ↦ place line (b ∷ bs) | Some p ↦ skip p (line_after line b) bs ])
    by_pass None again = record { gap = []; cut = refl; line_is = omega arith }
    by_pass (Some inside) again =
        let p = again inside in
        record { gap = b ∷ p.gap; cut = ap (λ (x : List ℕ). b ∷ x) p.cut; line_is = p.line_is ∙ after_feeds line b p.gap }

record Stepped (at : Place) (t : Tok) (after : Place) : Type 0 where
  pub gap : List ℕ
  pub cut : at.bytes ≡ gap ++ (t.text ++ after.bytes)
  pub line_is : t.line ≡ at.line + feeds gap
  pub after_is : after.line ≡ at.line + (feeds gap + feeds t.text)

step : (at after : Place) (t : Tok) → Next at t after → Stepped at t after
step at after t n =
    let p : Passed at.line at.bytes (place t.line (t.text ++ after.bytes)) = subst (λ (x : Place). Passed at.line at.bytes x) n.starts (skipped false at.line at.bytes) in
    record {
      gap = p.gap;
      cut = p.cut;
      line_is = p.line_is;
      after_is = omega (arith, n.line, behind_feeds t.line t.text, p.line_is);
    }

in_order : (at after : Place) (ts : List Tok) (before : ℕ) → at.line ≡ 1 + before → Lead at ts after → InOrder before at.bytes ts
in_order at after [] before e l = tt
in_order at after (t ∷ ts) before e (mid, n, l) =
    let s = step at mid t n in
    (s.gap, mid.bytes, record { slice = s.cut; line = omega (arith, s.line_is, e) }, in_order mid after ts (before + (feeds s.gap + feeds t.text)) (omega (arith, s.after_is, e)) l)

pub slices : (bytes : List ℕ) (ts : List Tok) (line : ℕ) (here : List ℕ) → Stands bytes ts line here → InOrder 0 bytes ts
slices bytes ts line here s = in_order (place 1 bytes) s.after ts 0 refl s.lead

led : (at after : Place) (ts : List Tok) → Lead at ts after → Passed at.line at.bytes after
led at after [] l = record { gap = []; cut = ap (λ (p : Place). p.bytes) l; line_is = omega (arith, ap (λ (p : Place). p.line) l) }
led at after (t ∷ ts) (mid, n, l) =
    let s = step at mid t n in
    let r = led mid after ts l in
    record {
      gap = s.gap ++ (t.text ++ r.gap);
      cut = s.cut ∙ ap (λ (x : List ℕ). s.gap ++ (t.text ++ x)) r.cut ∙ ap (λ (x : List ℕ). s.gap ++ x) (sym (append_assoc t.text r.gap after.bytes)) ∙ sym (append_assoc s.gap (t.text ++ r.gap) after.bytes);
      line_is = omega (arith, r.line_is, s.after_is, feeds-append s.gap (t.text ++ r.gap), feeds-append t.text r.gap);
    }

-- the line of a place is one more than the line feeds before it
pub line_there : (bytes : List ℕ) (ts : List Tok) (line : ℕ) (here : List ℕ) → Stands bytes ts line here → (front : List ℕ) × (bytes ≡ front ++ here) × (line ≡ 1 + feeds front)
line_there bytes ts line here s =
    let l = led (place 1 bytes) s.after ts s.lead in
    let p : Passed s.after.line s.after.bytes (place line here) = subst (λ (x : Place). Passed s.after.line s.after.bytes x) s.rest (skipped false s.after.line s.after.bytes) in
    (l.gap ++ p.gap, l.cut ∙ ap (λ (x : List ℕ). l.gap ++ x) p.cut ∙ sym (append_assoc l.gap p.gap here), omega (arith, p.line_is, l.line_is, feeds-append l.gap p.gap))

-- no more is left behind what is passed over
pub skip_le : (line : ℕ) (bytes : List ℕ) (there : ℕ) (here : List ℕ) → skip false line bytes ≡ place there here → length here ≤ length bytes
skip_le line bytes there here e =
    let p : Passed line bytes (place there here) = subst (λ (x : Place). Passed line bytes x) e (skipped false line bytes) in
    omega (arith, ap length p.cut, length-append p.gap here)
