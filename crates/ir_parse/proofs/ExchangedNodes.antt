-- The readers of metadata tell a token that is left out in some places against the syntax, where it may not stand.
use Rattle.std.proofs.Common.{◌≡◌, Bool, true, false, cond, ◌&&◌, List, [], ◌∷◌, ◌++◌, length, Result, Ok, refl, sym, ap, ◌∙◌, arith, ℕ}
use Rattle.std.proofs.lemmas.List.{length-append}
use Rattle.std.specs.Prelude.{codes}
use Rattle.ir_lex.specs.Tok.{Tok}
use Rattle.ir_lex.specs.declared.token_kind.TokenKind.TheVariants as kinds
use Rattle.ir_lex.specs.declared.token.TokenForm.TheVariants as forms
use Rattle.ir_parse_parts.proofs.Composed.{wrong_is, reads}
use Rattle.ir_parse_parts.specs.Alphabet.{among, contains}
use Rattle.ir_parse_parts.specs.Balanced.{Move, none_open, stays}
use Rattle.ir_parse_parts.specs.Readers.{fault_at, done, follow, ◌>>=◌, many_at}
use Rattle.ir_parse_parts.specs.Runs.{Run, Step, bad, last, onward, run_at}
use Rattle.ir_parse_parts.specs.declared.fault.Fault.{Fault}
use Rattle.ir_parse_parts.specs.declared.fault.TokenFault.TheVariants.{Syntax}
use Rattle.ir_parse_parts.specs.declared.fault.TokenFault.{TokenFault}
use Rattle.ir_parse_parts.specs.Brackets.{move_of}
use Rattle.ir_parse_parts.specs.Classes.{one_of, one_of_at, tokens}
use Rattle.ir_parse_parts.specs.Metadata.{META, node, attached, attachment, attachments, ended_by, ends_line, line_step, open_behind, rest_of_line, metadata_line}
use Rattle.ir_parse_parts.specs.MetadataAt.{PAREN, CURLY, NAMED, COMMA, node_at, attached_at, attachment_at, attachments_at, rest_of_line_at, metadata_line_at}
use Rattle.ir_parse_parts.specs.declared.brackets.Bracket.TheVariants.{Paren, Curly}
use Rattle.ir_parse_parts.specs.declared.brackets.Bracket.{Bracket}
use Rattle.ir_parse_parts.proofs.Nodes.{attachment_rule, line_rule}
use Rattle.ir_parse_parts.proofs.Singles.{meta_real, sample}
use Rattle.ir_parse_parts.specs.Lawful.{ends}
use Rattle.ir_parse.proofs.Exchanged.{Exchanges, OutcomeAt, Swaps, alt, anywhere, ends_anywhere, loosely, maybe, nothing, nowhere, seq, seq_loosely, star, taken, is_target, target_is}
use Rattle.ir_parse.proofs.ExchangedGroups.{group_exchanged, steady_stays}
use Rattle.ir_parse.proofs.ExchangedTokens.{one_sample}
use Rattle.ir_parse.proofs.ExchangedWords.{bang_exchanged, comma_exchanged, meta_exchanged}

meta_one : Exchanges (one_of META ends_line) (one_of_at META ends_line)
meta_one = one_sample META ends_line (sample forms.Meta kinds.Meta (codes "!a")) refl meta_real refl

pub node_exchanged : Exchanges node node_at
unfolding node node_at
node_exchanged = alt NAMED refl (seq meta_exchanged (λ _. seq (maybe PAREN refl (group_exchanged Paren)) (λ _. nothing tt))) (seq bang_exchanged (λ _. alt CURLY refl (group_exchanged Curly) (group_exchanged Paren)))

pub attached_exchanged : Exchanges attached attached_at
unfolding attached attached_at
attached_exchanged = seq meta_one (λ _. node_exchanged)

pub attachment_exchanged : Exchanges attachment attachment_at
unfolding attachment attachment_at
attachment_exchanged = seq comma_exchanged (λ _. attached_exchanged)

pub attachments_exchanged : Exchanges attachments attachments_at
unfolding attachments attachments_at
attachments_exchanged = seq (star COMMA refl attachment_exchanged (taken attachment_rule)) (λ _. nothing tt)

-- at `target` there are none
pub no_attachments : (t : Tok) (rest : List Tok) → is_target t.kind ≡ true → attachments_at (t ∷ rest) ≡ reads tt (t ∷ rest)
unfolding attachments_at
no_attachments t rest e = ap (λ (n : ℕ). follow (cond (contains COMMA n) ((attachment_at >>= λ a. many_at (among tokens COMMA) attachment_at (length rest) >>= λ more. done (a ∷ more)) (t ∷ rest)) (reads [] (t ∷ rest))) (λ _. done tt)) (target_is t.kind e)

-- a fault at a token is none behind it
not_behind : (bs : List Bracket) (t : Tok) (rest : List Tok) (k : TokenFault) → run_at line_step bs rest ≡ fault_at k (t ∷ rest) → ⊥
not_behind bs t rest k d =
    let v = (line_rule bs).law.viable rest (record { left = length (t ∷ rest); kind = k }) d in
    omega (arith, ap length v.whole, length-append v.front v.rest, v.here)

abbrev read : Step (List Bracket) → Tok → List Tok → Result (Unit {0} × List Tok) Fault
read p t ts = elim p as (λ x. Result (Unit {0} × List Tok) Fault) [ bad ↦ fault_at Syntax (t ∷ ts) | last ↦ Ok (tt, ts) | onward next ↦ run_at line_step next ts ]

abbrev step_last : Unit {0} → Step (List Bracket)
step_last u = last

stays_fits : (ends : Bool) (bs : List Bracket) → ended_by ends (onward bs) ≡ bad → ⊥
stays_fits ends bs = by_test (ends && none_open bs)
  where
    by_test : (b : Bool) → cond b (step_last tt) (onward bs) ≡ bad → ⊥
    by_test true e = cc
    by_test false e = cc

pub stays_in_line : (bs : List Bracket) (t : Tok) → move_of t.kind ≡ stays → line_step bs t ≡ bad → ⊥
stays_in_line bs t e d = stays_fits t.ends_line bs (ap (λ (m : Move Bracket). ended_by t.ends_line (open_behind m bs)) (sym e) ∙ d)

never_run : (bs : List Bracket) (front : List Tok) (t : Tok) (rest : List Tok) (k : TokenFault) → run_at line_step bs (front ++ t ∷ rest) ≡ fault_at k (t ∷ rest) → move_of t.kind ≡ stays → ⊥
never_run bs [] t rest k d e = by_step (line_step bs t) refl d
  where
    by_step : (p : Step (List Bracket)) → line_step bs t ≡ p → read p t rest ≡ fault_at k (t ∷ rest) → ⊥
    by_step bad q d = stays_in_line bs t e q
    by_step last q d = cc
    by_step (onward next) q d = not_behind next t rest k d
never_run bs (v ∷ front) t rest k d e = by_step (λ next d'. never_run next front t rest k d' e) (line_step bs v) d
  where
    Again : Type 0
    Again = (next : List Bracket) → run_at line_step next (front ++ t ∷ rest) ≡ fault_at k (t ∷ rest) → ⊥

    by_step : Again → (p : Step (List Bracket)) → read p v (front ++ t ∷ rest) ≡ fault_at k (t ∷ rest) → ⊥
    by_step again bad d = omega (arith, ap (λ (x : Fault). x.left) (wrong_is (record { left = length (v ∷ (front ++ t ∷ rest)); kind = Syntax }) (record { left = length (t ∷ rest); kind = k }) d), length-append front (t ∷ rest))
    by_step again last d = cc
    by_step again (onward next) d = again next d

pub line_exchanged : (bs : List Bracket) → Swaps false true nowhere (Run line_step bs) (run_at line_step bs)
line_exchanged bs = anywhere (line_rule bs) (λ front t rest k d i. never_run bs front t rest k d (steady_stays t.kind i)) (λ front rest a d q. refl)

-- also behind `<`
pub line_after : (bs : List Bracket) (t : Tok) (rest : List Tok) (o : Result (Unit {0}) TokenFault) → run_at line_step bs (t ∷ rest) ≡ ends o (t ∷ rest) → OutcomeAt false nowhere (Run line_step bs) (run_at line_step bs) true [] t.kind o
line_after bs t rest o d = ends_anywhere (line_rule bs) (λ front t rest k d i. never_run bs front t rest k d (steady_stays t.kind i)) true [] t rest o d

pub rest_of_line_exchanged : (ends : Bool) → Swaps false true nowhere (rest_of_line ends) (rest_of_line_at ends)
rest_of_line_exchanged true = loosely (nothing tt)
rest_of_line_exchanged false = line_exchanged []

pub metadata_line_exchanged : Swaps false true nowhere metadata_line metadata_line_at
unfolding metadata_line metadata_line_at
metadata_line_exchanged = seq_loosely meta_one rest_of_line_exchanged
