-- What is printed in pieces is read by a form: one lemma for each way to put forms together.
use Rattle.std.proofs.Common.{◌≡◌, ℕ, suc, true, Bool, List, [], ◌∷◌, ◌++◌, refl, sym, ap, subst, ◌∙◌, append_assoc, append-nil, inl, inr}
use Rattle.ir_lex.specs.Blanks.{line_behind}
use Rattle.ir_lex.specs.TokenKinds.{kind_of}
use Rattle.ir_lex.specs.Pieces.{Piece, ends_at}
use Rattle.ir_lex.specs.Tok.{Tok}
use Rattle.ir_parse_parts.specs.Chained.{Chain}
use Rattle.ir_parse_parts.specs.Forms as form
use Rattle.ir_parse_parts.specs.Forms.{Form}
use Rattle.ir_round_trip.specs.Texts.{line_after, tokens_before}
use Rattle.ir_round_trip.specs.Reads.{Parses}

-- ---- tokens

-- the token of a piece
abbrev token_of : ℕ → Piece → Bool → Tok
token_of line p ends = record { form = p.form; text = p.first ∷ p.others; line = line_behind line p.blank; kind = kind_of p.form (p.first ∷ p.others) []; ends_line = ends }

pub tokens_append : (behind : List Piece) (line : ℕ) (ps qs : List Piece) → tokens_before behind line (ps ++ qs) ≡ tokens_before (qs ++ behind) line ps ++ tokens_before behind (line_after line ps) qs
tokens_append behind line [] qs = refl
tokens_append behind line (p ∷ ps) qs =
    let end : ℕ = line_behind (line_behind line p.blank) (p.first ∷ p.others) in
    ap (λ (rest : List Piece). token_of line p (ends_at end rest) ∷ tokens_before behind end (ps ++ qs)) (append_assoc ps qs behind)
    ∙ ap (λ (ts : List Tok). token_of line p (ends_at end (ps ++ (qs ++ behind))) ∷ ts) (tokens_append behind end ps qs)

-- ---- one form behind another

pub then : {A B : Type 0} {g : Form Tok A} {k : A → Form Tok B} {P : A → Type 0} {Q : B → Type 0} {ps qs : List Piece}
    → Parses g P ps → ((a : A) → P a → Parses (k a) Q qs) → Parses (form.◌>>=◌ g k) Q (ps ++ qs)
unfolding form.◌>>=◌
then {ps = ps} {qs = qs} p q = record {
  value = λ behind line.
      let a = p.value (qs ++ behind) line in
      let b = (q a.0 a.2).value behind (line_after line ps) in
      (b.0, (tokens_before (qs ++ behind) line ps, tokens_before behind (line_after line ps) qs, a.0, tokens_append behind line ps qs, a.1, b.1), b.2);
}

-- the same where the first value is known
pub next : {A B : Type 0} {g : Form Tok A} {v : A} {Q : B → Type 0} {ps qs : List Piece} (k : A → Form Tok B)
    → Parses g (λ a. a ≡ v) ps → Parses (k v) Q qs → Parses (form.◌>>=◌ g k) Q (ps ++ qs)
next {Q = Q} {qs = qs} k p q = then p (λ a e. subst (λ x. Parses (k x) Q qs) (sym e) q)

-- the last pieces, behind which the second form reads none
pub last : {A B : Type 0} {g : Form Tok A} {k : A → Form Tok B} {P : A → Type 0} {Q : B → Type 0} {ps : List Piece}
    → Parses g P ps → ((a : A) → P a → Parses (k a) Q []) → Parses (form.◌>>=◌ g k) Q ps
last {g = g} {k = k} {Q = Q} {ps = ps} p q = subst (λ (all : List Piece). Parses (form.◌>>=◌ g k) Q all) (append-nil ps) (then p q)

-- no piece, for this value
pub nothing : {A : Type 0} {a : A} {P : A → Type 0} → P a → Parses (form.gives a) P []
nothing {a = a} p = record { value = λ behind line. (a, (refl, refl), p) }

-- pieces that stand in other brackets
pub regroup : {A : Type 0} {g : Form Tok A} {P : A → Type 0} (ps qs rs : List Piece) → Parses g P (ps ++ (qs ++ rs)) → Parses g P ((ps ++ qs) ++ rs)
regroup {g = g} {P = P} ps qs rs p = subst (λ (all : List Piece). Parses g P all) (sym (append_assoc ps qs rs)) p

-- a weaker property
pub known_as : {A : Type 0} {g : Form Tok A} {P : A → Type 0} {ps : List Piece} (Q : A → Type 0) → ((a : A) → P a → Q a) → Parses g P ps → Parses g Q ps
known_as Q q p = record { value = λ behind line. let a = p.value behind line in (a.0, a.1, q a.0 a.2) }

-- ---- one of two forms

pub left : {A : Type 0} {g : Form Tok A} {P : A → Type 0} {ps : List Piece} (h : Form Tok A) → Parses g P ps → Parses (form.either g h) P ps
unfolding form.either
left h p = record { value = λ behind line. let a = p.value behind line in (a.0, inl a.1, a.2) }

pub right : {A : Type 0} {h : Form Tok A} {P : A → Type 0} {ps : List Piece} (g : Form Tok A) → Parses h P ps → Parses (form.either g h) P ps
unfolding form.either
right g p = record { value = λ behind line. let a = p.value behind line in (a.0, inr a.1, a.2) }

-- ---- lists

pub no_more : {A : Type 0} {one : Form Tok A} {P : List A → Type 0} → P [] → Parses (form.Star one) P []
no_more p = record { value = λ behind line. ([], refl, p) }

pub one_more : {A : Type 0} {one : Form Tok A} {P : A → Type 0} {Q R : List A → Type 0} {ps qs : List Piece}
    → Parses one P ps → Parses (form.Star one) Q qs → ((a : A) (more : List A) → P a → Q more → R (a ∷ more)) → Parses (form.Star one) R (ps ++ qs)
one_more {ps = ps} {qs = qs} p q r = record {
  value = λ behind line.
      let a = p.value (qs ++ behind) line in
      let b = q.value behind (line_after line ps) in
      (a.0 ∷ b.0, (tokens_before (qs ++ behind) line ps, tokens_before behind (line_after line ps) qs, tokens_append behind line ps qs, a.1, b.1), r a.0 b.0 a.2 b.2);
}

pub no_more_within : {A : Type 0} {one : Form Tok A} {P : List A → Type 0} (room : ℕ) → P [] → Parses (form.Many one room) P []
no_more_within room p = record { value = λ behind line. ([], refl, p) }

pub one_more_within : {A : Type 0} {one : Form Tok A} {P : A → Type 0} {Q R : List A → Type 0} {ps qs : List Piece} (room : ℕ)
    → Parses one P ps → Parses (form.Many one room) Q qs → ((a : A) (more : List A) → P a → Q more → R (a ∷ more)) → Parses (form.Many one (suc room)) R (ps ++ qs)
one_more_within {ps = ps} {qs = qs} room p q r = record {
  value = λ behind line.
      let a = p.value (qs ++ behind) line in
      let b = q.value behind (line_after line ps) in
      (a.0 ∷ b.0, (tokens_before (qs ++ behind) line ps, tokens_before behind (line_after line ps) qs, tokens_append behind line ps qs, a.1, b.1), r a.0 b.0 a.2 b.2);
}

-- ---- lists whose pieces leave a state

module _ {S A : Type 0} (final : S → Bool) (piece : S → Form Tok (A × S)) where
  pub chain_ends : (s : S) {P : List A → Type 0} → final s ≡ true → P [] → Parses (Chain final piece s) P []
  chain_ends s e p = record { value = λ behind line. ([], (e, refl), p) }

  pub chain_goes_on : (s next : S) {P : A → Type 0} {Q R : List A → Type 0} {ps qs : List Piece}
      → Parses (piece s) (λ x. P x.0 × (x.1 ≡ next)) ps → Parses (Chain final piece next) Q qs → ((a : A) (more : List A) → P a → Q more → R (a ∷ more)) → Parses (Chain final piece s) R (ps ++ qs)
  chain_goes_on s next {ps = ps} {qs = qs} p q r = record {
    value = λ behind line.
        let a = p.value (qs ++ behind) line in
        let b = q.value behind (line_after line ps) in
        let here : List Tok = tokens_before (qs ++ behind) line ps in
        (a.0.0 ∷ b.0, (here, tokens_before behind (line_after line ps) qs, next, tokens_append behind line ps qs, subst (λ (s' : S). piece s here (a.0.0, s')) a.2.1 a.1, b.1), r a.0.0 b.0 a.2.0 b.2);
  }
