-- Pieces that leave a state, so many at most, are read one behind another.
use Rattle.std.proofs.Common.{◌≡◌, ℕ, suc, List, [], ◌∷◌, ◌++◌, refl, subst}
use Rattle.ir_parse_bodies.specs.Successive.{Successive}
use Rattle.ir_lex.specs.Pieces.{Piece}
use Rattle.ir_lex.specs.Tok.{Tok}
use Rattle.ir_parse_parts.specs.Forms.{Form}
use Rattle.ir_round_trip.specs.Texts.{line_after, tokens_before}
use Rattle.ir_round_trip.specs.Reads.{Parses}
use Rattle.ir_round_trip.proofs.Composed.{tokens_append}

module _ {S A : Type 0} (piece : S → Form Tok (A × S)) where
  pub no_more_pieces : (room : ℕ) (s : S) {P : List A → Type 0} → P [] → Parses (Successive piece room s) P []
  no_more_pieces room s p = record { value = λ behind line. ([], refl, p) }

  pub one_more_piece : (room : ℕ) (s next : S) {P : A → Type 0} {Q R : List A → Type 0} {ps qs : List Piece}
      → Parses (piece s) (λ x. P x.0 × (x.1 ≡ next)) ps → Parses (Successive piece room next) Q qs → ((a : A) (more : List A) → P a → Q more → R (a ∷ more)) → Parses (Successive piece (suc room) s) R (ps ++ qs)
  one_more_piece room s next {ps = ps} {qs = qs} p q r = record {
    value = λ behind line.
        let a = p.value (qs ++ behind) line in
        let b = q.value behind (line_after line ps) in
        let here : List Tok = tokens_before (qs ++ behind) line ps in
        (a.0.0 ∷ b.0, (here, tokens_before behind (line_after line ps) qs, next, tokens_append behind line ps qs, subst (λ (t : S). piece s here (a.0.0, t)) a.2.1 a.1, b.1), r a.0.0 b.0 a.2.0 b.2);
  }
