-- No text is two lists of tokens.
use Rattle.std.proofs.Common.{◌≡◌, ℕ, true, false, List, [], ◌∷◌, ◌++◌, length, refl, sym, ap, subst, ◌∙◌, arith}
use Rattle.ir_lex.specs.declared.rows.Fit.{Fit}
use Rattle.ir_lex.specs.declared.token.TokenForm.{TokenForm}
use Rattle.ir_lex.specs.TokenKinds.{kind_of}
use Rattle.ir_lex.specs.Tok.{Tok}
use Rattle.ir_lex.specs.Blanks.{Place, place, skip, line_behind, ends_before}
use Rattle.ir_lex.specs.Lexing.{Lead, Next, is_bad, AreTokens, AreTokensBefore}
use Rattle.ir_lex.specs.Rows.{best_fit, rest_fit, label_len, number_len, word_len, name_len, meta_len, dots_len, other_len, string_len}

cut_is : {T : Type 0} (a b c d : List T) → a ++ b ≡ c ++ d → length a ≡ length c → (a ≡ c) × (b ≡ d)
cut_is [] b [] d e l = (refl, e)
cut_is [] b (u ∷ c) d e l = absurd (omega arith)
cut_is (t ∷ a) b [] d e l = absurd (omega arith)
cut_is {T} (t ∷ a) b (u ∷ c) d e l =
    let h : t ≡ u = cc in
    let r : a ++ b ≡ c ++ d = cc in
    let i = cut_is a b c d r (omega arith) in
    (ap (λ (x : List T). t ∷ x) i.0 ∙ ap (λ (x : T). x ∷ c) h, i.1)

tok_is : (t u : Tok) → t.form ≡ u.form → t.text ≡ u.text → t.line ≡ u.line → t.kind ≡ u.kind → t.ends_line ≡ u.ends_line → t ≡ u
tok_is t u k x l h e = λ i. record { form = k i; text = x i; line = l i; kind = h i; ends_line = e i }

place_is : (p q : Place) → p.line ≡ q.line → p.bytes ≡ q.bytes → p ≡ q
place_is p q l b = λ i. record { line = l i; bytes = b i }

next_once : (at after after' : Place) (t u : Tok) → Next at t after → Next at u after' → (t ≡ u) × (after ≡ after')
next_once at after after' t u n m =
    let s = sym n.starts ∙ m.starts in
    let lines : t.line ≡ u.line = ap (λ (p : Place). p.line) s in
    let whole : t.text ++ after.bytes ≡ u.text ++ after'.bytes = ap (λ (p : Place). p.bytes) s in
    let fits = sym n.fits ∙ ap best_fit whole ∙ m.fits in
    let cut = cut_is t.text after.bytes u.text after'.bytes whole (ap (λ (f : Fit). f.len) fits) in
    let behind : after ≡ after' = place_is after after' (n.line ∙ ap (λ (x : ℕ). line_behind x t.text) lines ∙ ap (λ (x : List ℕ). line_behind u.line x) cut.0 ∙ sym m.line) cut.1 in
    let ends = n.ends ∙ ap (λ (p : Place). ends_before p.line (skip false p.line p.bytes)) behind ∙ sym m.ends in
    let kinds : t.form ≡ u.form = ap (λ (f : Fit). f.form) fits in
    let heads : t.kind ≡ u.kind = n.kind ∙ ap (λ (k : TokenForm). kind_of k t.text after.bytes) kinds ∙ ap (λ (x : List ℕ). kind_of u.form x after.bytes) cut.0 ∙ ap (λ (x : List ℕ). kind_of u.form u.text x) cut.1 ∙ sym m.kind in
    (tok_is t u kinds cut.0 lines heads ends, behind)

-- where a token stands, none is bad
goes_on : (at after : Place) (t : Tok) (line : ℕ) (here : List ℕ) → Next at t after → skip false at.line at.bytes ≡ place line here → is_bad here ≡ true → ⊥
goes_on at after t line here n e b =
    let same : t.text ++ after.bytes ≡ here = ap (λ (p : Place). p.bytes) (sym n.starts ∙ e) in
    differ (sym n.good ∙ ap is_bad same ∙ b)
  where
    differ : false ≡ true → ⊥
    differ e = cc

-- at the end of a text no token stands
nothing_is_bad : is_bad [] ≡ true
unfolding is_bad best_fit rest_fit label_len number_len word_len name_len meta_len dots_len other_len string_len
nothing_is_bad = refl

-- two leads from one place of which neither can go on
same_leads : (at p q : Place) (ts us : List Tok) → ((t : Tok) (r : Place) → Next p t r → ⊥) → ((t : Tok) (r : Place) → Next q t r → ⊥) → Lead at ts p → Lead at us q → (ts ≡ us) × (p ≡ q)
same_leads at p q [] [] np nq l m = (refl, sym l ∙ m)
same_leads at p q [] (u ∷ us) np nq l (r, n, m) = absurd (np u r (subst (λ (x : Place). Next x u r) l n))
same_leads at p q (t ∷ ts) [] np nq (r, n, l) m = absurd (nq t r (subst (λ (x : Place). Next x t r) m n))
same_leads at p q (t ∷ ts) (u ∷ us) np nq (r, n, l) (s, o, m) =
    let e = next_once at r s t u n o in
    let i = same_leads s p q ts us np nq (subst (λ (x : Place). Lead x ts p) e.1 l) m in
    (ap (λ (x : List Tok). t ∷ x) i.0 ∙ ap (λ (x : Tok). x ∷ us) e.0, i.1)

pub same_list : (bytes : List ℕ) (ts us : List Tok) → AreTokens bytes ts → AreTokens bytes us → ts ≡ us
same_list bytes ts us (l, s) (m, r) = (same_leads (place 1 bytes) s.after r.after ts us (λ t q n. goes_on s.after q t l [] n s.rest nothing_is_bad) (λ t q n. goes_on r.after q t m [] n r.rest nothing_is_bad) s.lead r.lead).0

pub not_both : (bytes : List ℕ) (ts us : List Tok) (line : ℕ) → AreTokens bytes ts → AreTokensBefore bytes us line → ⊥
not_both bytes ts us line (l, s) (c, cs, r, z) =
    let e = same_leads (place 1 bytes) s.after r.after ts us (λ t q n. goes_on s.after q t l [] n s.rest nothing_is_bad) (λ t q n. goes_on r.after q t line (c ∷ cs) n r.rest z) s.lead r.lead in
    ends (ap (λ (p : Place). p.bytes) (sym s.rest ∙ ap (λ (p : Place). skip false p.line p.bytes) e.1 ∙ r.rest))
  where
    ends : [] ≡ c ∷ cs → ⊥
    ends e = cc

pub same_fault : (bytes : List ℕ) (ts us : List Tok) (line here : ℕ) → AreTokensBefore bytes ts line → AreTokensBefore bytes us here → (ts ≡ us) × (line ≡ here)
same_fault bytes ts us line here (b, bs, s, y) (c, cs, r, z) =
    let e = same_leads (place 1 bytes) s.after r.after ts us (λ t q n. goes_on s.after q t line (b ∷ bs) n s.rest y) (λ t q n. goes_on r.after q t here (c ∷ cs) n r.rest z) s.lead r.lead in
    (e.0, ap (λ (p : Place). p.line) (sym s.rest ∙ ap (λ (p : Place). skip false p.line p.bytes) e.1 ∙ r.rest))
