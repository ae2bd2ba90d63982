-- Members of a structure one behind another, as a loop reads them: it knows whether one more comes.
use Rattle.std.proofs.Common.{◌≡◌, ◌≤◌, ◌<◌, nat_eq, Bool, true, false, not, cond, ◌||◌, List, [], ◌∷◌, ◌++◌, length, Option, Some, None, Result, Ok, Err, refl, sym, ap, subst, ◌∙◌, arith}
use Rattle.ir_lex.specs.declared.token_kind.TokenKind.TheVariants as kinds
use Rattle.ir_lex.specs.TokenKinds.{number}
use Rattle.std.specs.Option.{MatchOption}
use Rattle.std.proofs.lemmas.Bool.{false≢true}
use Rattle.ir_lex.specs.declared.token.Token.{Token}
use Rattle.ir_lex.specs.Tok.{Tok, tok}
use Rattle.ir_parse_parts.specs.Alphabet.{among}
use Rattle.ir_parse_parts.specs.Chained.{chain_at}
use Rattle.ir_parse_parts.specs.declared.fault.Fault.{Fault}
use Rattle.ir_tree.specs.declared.failure.Failure.TheVariants as errors
use Rattle.ir_parse_parts.specs.Readers.{Reader, done, folded, follow, ◌>>=◌, next_is}
use Rattle.ir_parse_parts.specs.Rules.{is_class}
use Rattle.ir_parse_parts.specs.Classes.{tokens, the_at}
use Rattle.ir_parse_parts.specs.declared.shape.Typed.{Typed}
use Rattle.ir_parse_parts.specs.MetadataAt.{COMMA}
use Rattle.ir_parse_parts.specs.Shapes.{Written}
use Rattle.ir_parse_parts.proofs.ChainLoops.{chain_on, chain_none}
use Rattle.ir_parse_parts.proofs.Composed.{reads_is}
use Rattle.ir_parse_parts.proofs.Stars.{behind, collected}
use Rattle.ir_parse_operands.specs.declared.extents.Extent.{Extent}
use Rattle.ir_parse_operands.specs.Extents.{extent_of, grown, no_bytes}
use Rattle.ir_parse_operands.specs.ShapeForms.{anywhere}
use Rattle.ir_parse_operands.specs.ShapeFormsAt.{CLOSE_BRACE, begins, comma_at, further_at, inner_at, members_on_at}
use Rattle.ir_parse_operands.proofs.Additions.{chain_fails}

-- a comma that comes is taken
comma_here : (t : Tok) (ts : List Tok) → among tokens COMMA t ≡ true → the_at kinds.Comma (t ∷ ts) ≡ Ok (tt, ts)
unfolding is_class
comma_here t ts h = by_class (nat_eq (number t.kind) (number kinds.Comma)) refl h
  where
    by_class : (b : Bool) → nat_eq (number t.kind) (number kinds.Comma) ≡ b → b || false ≡ true → the_at kinds.Comma (t ∷ ts) ≡ Ok (tt, ts)
    by_class true e d = rw e refl
    by_class false e d = absurd cc

comma_comes : (t : Tok) (ts : List Tok) → among tokens COMMA t ≡ true → comma_at (t ∷ ts) ≡ Ok (true, ts)
comma_comes t ts h = rw h (ap (λ (r : Result (Unit {0} × List Tok) Fault). follow r (λ _. done true)) (comma_here t ts h))

pub comma_taken : (ts rest : List Tok) (taken : Option Token) → next_is (among tokens COMMA) ts ≡ true → MatchOption taken ((ts ≡ []) × (rest ≡ [])) (λ t. ts ≡ tok t ∷ rest) → comma_at ts ≡ Ok (true, rest)
comma_taken ts rest None h e = absurd (false≢true (sym (ap (next_is (among tokens COMMA)) e.0) ∙ h))
comma_taken ts rest (Some t) h e = ap comma_at e ∙ comma_comes (tok t) rest (sym (ap (next_is (among tokens COMMA)) e) ∙ h)

comma_doesnt : (t : Tok) (ts : List Tok) → among tokens COMMA t ≡ false → comma_at (t ∷ ts) ≡ Ok (false, t ∷ ts)
comma_doesnt t ts h = rw h refl

-- by whether a comma comes
by_comma : (P : Bool → List Tok → Type 0) (ts : List Tok) (more : Bool) (after : List Tok) → comma_at ts ≡ Ok (more, after) → (next_is (among tokens COMMA) ts ≡ false → P false ts) → ((t : Tok) (us : List Tok) → ts ≡ t ∷ us → among tokens COMMA t ≡ true → P true us) → P more after
by_comma P [] more after e none some = let d = reads_is false more [] after e in subst (λ (b : Bool). P b after) d.0 (subst (P false) d.1 (none refl))
by_comma P (t ∷ us) more after e none some = by_test (among tokens COMMA t) refl
  where
    by_test : (b : Bool) → among tokens COMMA t ≡ b → P more after
    by_test true h = let d = reads_is true more us after (sym (comma_comes t us h) ∙ e) in subst (λ (b : Bool). P b after) d.0 (subst (P true) d.1 (some t us refl h))
    by_test false h = let d = reads_is false more (t ∷ us) after (sym (comma_doesnt t us h) ∙ e) in subst (λ (b : Bool). P b after) d.0 (subst (P false) d.1 (none h))

pub no_longer : (ts : List Tok) (more : Bool) (after : List Tok) → comma_at ts ≡ Ok (more, after) → length after ≤ length ts
no_longer ts more after e = by_comma (λ b us. length us ≤ length ts) ts more after e (λ h. omega arith) (λ t us d h. subst (λ (l : List Tok). length us ≤ length l) (sym d) (omega arith))

module _ (packed : Bool) (part : Extent → Reader Tok Typed) where
  -- those that are still to be read, where one more comes and where none does
  abbrev pub rest_at : Bool → Extent → Reader Tok (List Written)
  rest_at true s = members_on_at packed part s
  rest_at false s = done []

  pub rest_first : (ts : List Tok) → folded behind [] (rest_at (not (next_is (among tokens CLOSE_BRACE) ts)) no_bytes ts) ≡ inner_at packed part ts
  unfolding inner_at
  rest_first ts = collected (rest_at (not (next_is (among tokens CLOSE_BRACE) ts)) no_bytes ts) ∙ by_token ts
    where
      by_token : (ts : List Tok) → rest_at (not (next_is (among tokens CLOSE_BRACE) ts)) no_bytes ts ≡ inner_at packed part ts
      by_token [] = refl
      by_token (t ∷ ts) = by_test (among tokens CLOSE_BRACE t)
        where
          by_test : (b : Bool) → rest_at (not b) no_bytes (t ∷ ts) ≡ cond b (done [] (t ∷ ts)) (members_on_at packed part no_bytes (t ∷ ts))
          by_test true = refl
          by_test false = refl

  joined : (front : List Written) (a : Written) (r : Result (List Written × List Tok) Fault) → folded behind front (follow r (λ more. done (a ∷ more))) ≡ folded behind (front ++ a ∷ []) r
  joined front a (Ok x) = refl
  joined front a (Err e) = refl

  -- a member, and the extent up to it
  abbrev grown_by : Extent → Result (Typed × List Tok) Fault → Result ((Written × Extent) × List Tok) Fault
  grown_by s r = follow r (λ p. done (p.shape, grown packed s (extent_of p.shape)))

  module _ (shorter : (s : Extent) (ts rest : List Tok) (x : Written × Extent) → further_at packed part s ts ≡ Ok (x, rest) → length rest < length ts) where
    -- the further ones, once a comma is taken
    chained : (front : List Written) (s : Extent) (ts : List Tok) (more : Bool) (after : List Tok) → comma_at ts ≡ Ok (more, after) → folded behind front (chain_at anywhere begins (further_at packed part) s ts) ≡ folded behind front (rest_at more s after)
    unfolding further_at
    chained front s ts more after e = by_comma (λ b us. folded behind front (chain_at anywhere begins (further_at packed part) s ts) ≡ folded behind front (rest_at b s us)) ts more after e (λ h. chain_none anywhere begins (further_at packed part) shorter behind front s ts _ (ap not h) refl) (λ t us d h. subst (λ (l : List Tok). folded behind front (chain_at anywhere begins (further_at packed part) s l) ≡ folded behind front (members_on_at packed part s us)) (sym d) (by_member t us h (part s us) refl))
      where
        read : (t : Tok) (us : List Tok) → among tokens COMMA t ≡ true → further_at packed part s (t ∷ us) ≡ grown_by s (part s us)
        read t us h = ap (λ (r : Result (Unit {0} × List Tok) Fault). follow r (λ _. part s >>= λ p. done (p.shape, grown packed s (extent_of p.shape)))) (comma_here t us h)

        by_member : (t : Tok) (us : List Tok) → among tokens COMMA t ≡ true → (r : Result (Typed × List Tok) Fault) → part s us ≡ r → folded behind front (chain_at anywhere begins (further_at packed part) s (t ∷ us)) ≡ folded behind front (follow r (λ p. chain_at anywhere begins (further_at packed part) (grown packed s (extent_of p.shape)) >>= λ more. done (p.shape ∷ more)))
        by_member t us h (Ok x) d =
            sym (chain_on anywhere begins (further_at packed part) shorter behind front s (t ∷ us) (x.0.shape, grown packed s (extent_of x.0.shape)) x.1 _ (ap not h) (read t us h ∙ ap (grown_by s) d) refl)
            ∙ sym (joined front x.0.shape (chain_at anywhere begins (further_at packed part) (grown packed s (extent_of x.0.shape)) x.1))
        by_member t us h (Err f) d = chain_fails anywhere begins (further_at packed part) behind (errors.Fault f) front s (t ∷ us) _ (ap not h) (read t us h ∙ ap (grown_by s) d) refl

    -- and behind one that was read
    pub rest_on : (front : List Written) (s : Extent) (ts mid : List Tok) (p : Typed) (more : Bool) (after : List Tok) (total : Result (List Written × List Tok) Fault) → part s ts ≡ Ok (p, mid) → comma_at mid ≡ Ok (more, after) → folded behind front (rest_at true s ts) ≡ total → folded behind (front ++ p.shape ∷ []) (rest_at more (grown packed s (extent_of p.shape)) after) ≡ total
    rest_on front s ts mid p more after total h e so_far =
        sym (chained (front ++ p.shape ∷ []) (grown packed s (extent_of p.shape)) mid more after e)
        ∙ sym (joined front p.shape (chain_at anywhere begins (further_at packed part) (grown packed s (extent_of p.shape)) mid))
        ∙ sym (ap (λ (r : Result (Typed × List Tok) Fault). folded behind front (follow r (λ p. chain_at anywhere begins (further_at packed part) (grown packed s (extent_of p.shape)) >>= λ more. done (p.shape ∷ more)))) h)
        ∙ so_far
