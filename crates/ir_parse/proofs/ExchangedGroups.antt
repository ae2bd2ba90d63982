-- Groups in brackets tell nothing of a token that is left out in some places: it may stand in them.
use Rattle.std.proofs.Common.{◌≡◌, true, subst, Option, Some, None, List, [], ◌∷◌, ◌++◌, length, Result, refl, sym, ap, ◌∙◌, arith}
use Rattle.std.proofs.lemmas.List.{length-append}
use Rattle.ir_lex.specs.TokenKinds.{number}
use Rattle.ir_lex.specs.Tok.{Tok}
use Rattle.ir_lex.specs.declared.token_kind.TokenKind.TheVariants as kinds
use Rattle.ir_lex.specs.declared.token_kind.TokenKind.{TokenKind}
use Rattle.ir_parse_parts.proofs.Closings.{closing_lawful}
use Rattle.ir_parse_parts.proofs.Composed.{cut_is, reads, reads_is, widened, wrong_is}
use Rattle.ir_parse_parts.proofs.Rules.{within_of}
use Rattle.ir_parse_parts.specs.Alphabet.{among, contains}
use Rattle.ir_parse_parts.specs.Balanced as balanced
use Rattle.ir_parse_parts.specs.Balanced.{Closing, closing_at, HaveClosers, moved}
use Rattle.ir_parse_parts.specs.Readers.{fault_at}
use Rattle.ir_parse_parts.specs.Rules.{Rule}
use Rattle.ir_parse_parts.specs.declared.fault.Fault.{Fault}
use Rattle.ir_parse_parts.specs.declared.fault.TokenFault.TheVariants.{Syntax}
use Rattle.ir_parse_parts.specs.declared.fault.TokenFault.{TokenFault}
use Rattle.ir_parse_parts.specs.Brackets.{brackets, opening, move_of, group, group_at}
use Rattle.ir_parse_parts.specs.Classes.{tokens, the, the_at}
use Rattle.ir_parse_parts.specs.declared.brackets.Bracket.TheVariants.{Paren, Square, Curly}
use Rattle.ir_parse_parts.specs.declared.brackets.Bracket.{Bracket}
use Rattle.ir_parse_parts.proofs.GroupRules.{EVERY, closer, closer_real, every_class, number_stays}
use Rattle.ir_parse_operands.specs.ShapeForms.{OPEN_ANGLE}
use Rattle.ir_parse.proofs.Exchanged.{Exchanges, STEADY, TELLING, anywhere, differ, is_angled, seq}
use Rattle.ir_parse.proofs.ExchangedWords.{open_brace_exchanged, open_bracket_exchanged, open_paren_exchanged}

closes_it : (b : Bracket) (bs : List Bracket) → moved brackets (move_of (closer b).kind) b bs ≡ Some bs
closes_it Paren bs = refl
closes_it Square bs = refl
closes_it Curly bs = refl

have_closers : HaveClosers brackets tokens
have_closers = record { closer = closer; closes_it = closes_it; real = closer_real; number_stays = λ t e. number_stays t.kind e }

closing_rule : (bs : List Bracket) → Rule tokens (Closing brackets bs) (Closing brackets bs) (closing_at brackets bs) EVERY [] (balanced.none_open bs)
closing_rule [] = record { law = widened tokens (among tokens EVERY) (among tokens []) (closing_lawful tokens brackets have_closers []) (λ t e. every_class t.kind) (λ t e. e) }
closing_rule (b ∷ bs) = record { law = widened tokens (among tokens EVERY) (among tokens []) (closing_lawful tokens brackets have_closers (b ∷ bs)) (λ t e. every_class t.kind) (λ t e. e) }

-- no bracket is left out
pub steady_stays : (h : TokenKind) → contains STEADY (number h) ≡ true → move_of h ≡ balanced.stays
steady_stays kinds.OpenParen e = absurd cc
steady_stays kinds.OpenBracket e = absurd cc
steady_stays kinds.OpenBrace e = absurd cc
steady_stays kinds.CloseParen e = absurd cc
steady_stays kinds.CloseBracket e = absurd cc
steady_stays kinds.CloseBrace e = absurd cc
steady_stays h e = refl

pub telling_stays : (h : TokenKind) → contains TELLING (number h) ≡ true → move_of h ≡ balanced.stays
telling_stays h e = steady_stays h (within_of TELLING STEADY refl (number h) e)

-- a fault at a token is none behind it
not_behind : (bs : List Bracket) (t : Tok) (rest : List Tok) (k : TokenFault) → closing_at brackets bs rest ≡ fault_at k (t ∷ rest) → ⊥
not_behind bs t rest k d =
    let v = (closing_rule bs).law.viable rest (record { left = length (t ∷ rest); kind = k }) d in
    omega (arith, ap length v.whole, length-append v.front v.rest, v.here)

abbrev read : Option (List Bracket) → Tok → List Tok → Result (Unit {0} × List Tok) Fault
read o t ts = elim o as (λ x. Result (Unit {0} × List Tok) Fault) [ None ↦ fault_at Syntax (t ∷ ts) | Some stack ↦ closing_at brackets stack ts ]

stays_open : (t : Tok) (b : Bracket) (bs : List Bracket) → move_of t.kind ≡ balanced.stays → moved brackets (move_of t.kind) b bs ≡ Some (b ∷ bs)
stays_open t b bs e = ap (λ (m : balanced.Move Bracket). moved brackets m b bs) e

never_closing : (bs : List Bracket) (front : List Tok) (t : Tok) (rest : List Tok) (k : TokenFault) → closing_at brackets bs (front ++ t ∷ rest) ≡ fault_at k (t ∷ rest) → move_of t.kind ≡ balanced.stays → ⊥
never_closing [] front t rest k d e = cc
never_closing (b ∷ bs) [] t rest k d e = not_behind (b ∷ bs) t rest k (ap (λ (o : Option (List Bracket)). read o t rest) (sym (stays_open t b bs e)) ∙ d)
never_closing (b ∷ bs) (v ∷ front) t rest k d e = by_moved (λ stack d'. never_closing stack front t rest k d' e) (moved brackets (move_of v.kind) b bs) d
  where
    Again : Type 0
    Again = (stack : List Bracket) → closing_at brackets stack (front ++ t ∷ rest) ≡ fault_at k (t ∷ rest) → ⊥

    by_moved : Again → (o : Option (List Bracket)) → read o v (front ++ t ∷ rest) ≡ fault_at k (t ∷ rest) → ⊥
    by_moved again None d = omega (arith, ap (λ (x : Fault). x.left) (wrong_is (record { left = length (v ∷ (front ++ t ∷ rest)); kind = Syntax }) (record { left = length (t ∷ rest); kind = k }) d), length-append front (t ∷ rest))
    by_moved again (Some stack) d = again stack d

-- `<` closes none
angle_stays : (h : TokenKind) → contains OPEN_ANGLE (number h) ≡ true → move_of h ≡ balanced.stays
angle_stays kinds.OpenAngle e = refl
angle_stays h e = absurd (differ e)

-- what is open stays so where nothing is read
still_open : (b : Bracket) (bs : List Bracket) (rest : List Tok) → closing_at brackets (b ∷ bs) rest ≡ reads tt rest → ⊥
still_open b bs rest d =
    let s = (closing_rule (b ∷ bs)).law.sound rest rest tt d in
    differ ((closing_rule (b ∷ bs)).law.nothing tt (subst (λ (ts : List Tok). Closing brackets (b ∷ bs) ts tt) (cut_is s.0 rest [] rest (sym s.1) refl).0 s.2))

closed_group : (b : Bracket) (bs : List Bracket) (front rest : List Tok) → closing_at brackets (b ∷ bs) (front ++ rest) ≡ reads tt rest → is_angled front ≡ true → ⊥
closed_group b bs [] rest d q = differ q
closed_group b bs (v ∷ []) rest d q = still_open b bs rest (ap (λ (o : Option (List Bracket)). read o v rest) (sym (stays_open v b bs (angle_stays v.kind q))) ∙ d)
closed_group b bs (v ∷ w ∷ front) rest d q = by_moved (λ c cs d'. closed_group c cs (w ∷ front) rest d' q) (moved brackets (move_of v.kind) b bs) d
  where
    Again : Type 0
    Again = (c : Bracket) (cs : List Bracket) → closing_at brackets (c ∷ cs) (w ∷ (front ++ rest)) ≡ reads tt rest → ⊥

    by_moved : Again → (o : Option (List Bracket)) → read o v (w ∷ (front ++ rest)) ≡ reads tt rest → ⊥
    by_moved again None d = cc
    by_moved again (Some []) d = omega (arith, ap length (reads_is tt tt (w ∷ (front ++ rest)) rest d).1, length-append front rest)
    by_moved again (Some (c ∷ cs)) d = again c cs d

closing_exchanged : (b : Bracket) → Exchanges (Closing brackets (b ∷ [])) (closing_at brackets (b ∷ []))
closing_exchanged b = anywhere (closing_rule (b ∷ [])) (λ front t rest k d i. never_closing (b ∷ []) front t rest k d (steady_stays t.kind i)) (λ front rest a d q. absurd (closed_group b [] front rest d q))

group_with : (b : Bracket) → Exchanges (the (opening b)) (the_at (opening b)) → Exchanges (group b) (group_at b)
unfolding group group_at
group_with b open_one = seq open_one (λ _. closing_exchanged b)

pub group_exchanged : (b : Bracket) → Exchanges (group b) (group_at b)
group_exchanged Paren = group_with Paren open_paren_exchanged
group_exchanged Square = group_with Square open_bracket_exchanged
group_exchanged Curly = group_with Curly open_brace_exchanged
