-- The readers of metadata that may stand behind a declaration tell a token that is left out in some places against the syntax.
use Rattle.std.proofs.Common.{◌∷◌, Result, ◌≡◌, ℕ, Bool, true, false, cond, List, [], Ok, Err, refl}
use Rattle.std.specs.Prelude.{codes}
use Rattle.ir_lex.specs.TokenKinds.{number}
use Rattle.ir_lex.specs.Tok.{Tok}
use Rattle.ir_lex.specs.declared.token_kind.TokenKind.TheVariants as kinds
use Rattle.ir_lex.specs.declared.token.TokenForm.TheVariants as forms
use Rattle.ir_parse_parts.proofs.Rules.{apart_from}
use Rattle.ir_parse_parts.specs.Alphabet.{among, contains}
use Rattle.ir_parse_parts.specs.Forms as form
use Rattle.ir_parse_parts.specs.Forms.{Form}
use Rattle.ir_parse_parts.specs.Lawful.{ends}
use Rattle.ir_parse_parts.specs.Readers.{Reader, ◌>>=◌, token_at}
use Rattle.ir_parse_parts.specs.Rules.{disjoint}
use Rattle.ir_parse_parts.specs.Runs.{Step, bad, last, onward}
use Rattle.ir_parse_parts.specs.declared.fault.TokenFault.TheVariants.{Syntax}
use Rattle.ir_parse_parts.specs.declared.fault.TokenFault.{TokenFault}
use Rattle.ir_parse_parts.specs.Classes.{tokens}
use Rattle.ir_parse_parts.specs.Metadata.{META, ends_line, line_step}
use Rattle.ir_parse_parts.specs.MetadataAt.{PAREN, CURLY, NAMED}
use Rattle.ir_parse_parts.specs.MetadataBehind.{BANG, BRACES, fitting, line_goes_on, line_rest, goes_on_but, named_node, line_end_or, behind_mark, marked, node_yet, node_or_line, behind_name, metadata_behind}
use Rattle.ir_parse_parts.specs.MetadataBehindAt.{line_rest_at, goes_on_but_at, named_node_at, line_end_or_at, behind_mark_at, marked_at, node_yet_at, node_or_line_at, behind_name_at, metadata_behind_at}
use Rattle.ir_parse_parts.specs.declared.brackets.Bracket.TheVariants.{Paren, Curly}
use Rattle.ir_parse_parts.specs.declared.brackets.Bracket.{Bracket}
use Rattle.ir_parse_parts.proofs.Singles.{bang_real, meta_real, number_real, sample}
use Rattle.ir_parse.proofs.Exchanged.{Exchanges, OutcomeAt, Swaps, TELLING, alt_loosely, differ, loosely, maybe, nothing, nothing_after, nowhere, seq, seq_by, seq_loosely, value_loosely}
use Rattle.ir_parse.proofs.ExchangedGroups.{group_exchanged, telling_stays}
use Rattle.ir_parse.proofs.ExchangedNodes.{line_after, line_exchanged, stays_in_line}
use Rattle.ir_parse.proofs.ExchangedTokens.{elsewhere_sample, one_sample}
use Rattle.ir_parse.proofs.ExchangedWords.{meta_exchanged}

-- what goes on a line may be any token but some, and closes no bracket
goes_on_never : (apart : List ℕ) → disjoint apart TELLING ≡ true → (t : Tok) (k : TokenFault) → line_goes_on apart t ≡ Err k → contains TELLING (number t.kind) ≡ true → ⊥
unfolding line_goes_on
goes_on_never apart d t k e i = by_test (among tokens apart t) refl e
  where
    by_step : (p : Step (List Bracket)) → line_step [] t ≡ p → fitting p ≡ Err k → ⊥
    by_step bad q e = stays_in_line [] t (telling_stays t.kind i) q
    by_step last q e = cc
    by_step (onward bs) q e = cc

    by_test : (b : Bool) → among tokens apart t ≡ b → cond b (Err Syntax) (fitting (line_step [] t)) ≡ Err k → ⊥
    by_test true p e = apart_from apart TELLING d (number t.kind) p i
    by_test false p e = by_step (line_step [] t) refl e

abbrev one : Tok
one = sample forms.Number kinds.Number (codes "1")

one_goes_on : line_goes_on META one ≡ Ok (onward [])
unfolding line_goes_on
one_goes_on = refl

one_goes_behind : line_goes_on BRACES one ≡ Ok (onward [])
unfolding line_goes_on
one_goes_behind = refl

first_plainly : Swaps false true nowhere (form.token (line_goes_on META)) (token_at (line_goes_on META))
first_plainly = elsewhere_sample (line_goes_on META) (goes_on_never META refl) one (onward []) one_goes_on number_real

first_without : Swaps false true nowhere (form.token (line_goes_on BRACES)) (token_at (line_goes_on BRACES))
first_without = elsewhere_sample (line_goes_on BRACES) (goes_on_never BRACES refl) one (onward []) one_goes_behind number_real

pub line_rest_exchanged : (s : Step (List Bracket)) → Swaps false true nowhere (line_rest s) (line_rest_at s)
line_rest_exchanged bad = loosely (nothing tt)
line_rest_exchanged last = loosely (nothing tt)
line_rest_exchanged (onward bs) = line_exchanged bs

line_rest_after : (s : Step (List Bracket)) (t : Tok) (rest : List Tok) (o : Result (Unit {0}) TokenFault) → line_rest_at s (t ∷ rest) ≡ ends o (t ∷ rest) → OutcomeAt false nowhere (line_rest s) (line_rest_at s) true [] t.kind o
line_rest_after bad t rest o d = nothing_after tt t rest o d
line_rest_after last t rest o d = nothing_after tt t rest o d
line_rest_after (onward bs) t rest o d = line_after bs t rest o d

-- a token, and the rest of its line
with_rest : {wide : Form Tok (Step (List Bracket))} {f : Reader Tok (Step (List Bracket))} → Swaps false true nowhere wide f → Swaps false true nowhere (form.◌>>=◌ wide line_rest) (f >>= line_rest_at)
with_rest law = seq_by false true nowhere law line_rest_exchanged (λ e. e) (λ e a b w. refl) (λ e. refl) (λ e s t rest o d. line_rest_after s t rest o d) (λ front v. v) (λ one two a s v. v) (λ e. absurd (differ e))

pub goes_on_plainly_exchanged : Swaps false true nowhere (goes_on_but META) (goes_on_but_at META)
unfolding goes_on_but goes_on_but_at
goes_on_plainly_exchanged = with_rest first_plainly

pub goes_on_without_group_exchanged : Swaps false true nowhere (goes_on_but BRACES) (goes_on_but_at BRACES)
unfolding goes_on_but goes_on_but_at
goes_on_without_group_exchanged = with_rest first_without

pub named_node_exchanged : Exchanges named_node named_node_at
unfolding named_node named_node_at
named_node_exchanged = seq meta_exchanged (λ _. seq (maybe PAREN refl (group_exchanged Paren)) (λ _. nothing _))

pub line_end_or_exchanged : (ends : Bool) → Swaps false true nowhere (line_end_or BRACES ends) (line_end_or_at BRACES ends)
line_end_or_exchanged true = loosely (nothing _)
line_end_or_exchanged false = value_loosely _ goes_on_without_group_exchanged

pub behind_mark_exchanged : (ends : Bool) → Swaps false true nowhere (behind_mark ends) (behind_mark_at ends)
unfolding behind_mark behind_mark_at
behind_mark_exchanged ends = alt_loosely CURLY refl (loosely (seq (group_exchanged Curly) (λ _. nothing _))) (alt_loosely PAREN refl (loosely (seq (group_exchanged Paren) (λ _. nothing _))) (line_end_or_exchanged ends))

pub marked_exchanged : Swaps false true nowhere marked marked_at
unfolding marked marked_at
marked_exchanged = seq_loosely (one_sample BANG ends_line (sample forms.Meta kinds.Bang (codes "!")) refl bang_real refl) behind_mark_exchanged

pub node_yet_exchanged : Swaps false true nowhere node_yet node_yet_at
unfolding node_yet node_yet_at
node_yet_exchanged = alt_loosely NAMED refl (loosely named_node_exchanged) marked_exchanged

pub node_or_line_exchanged : Swaps false true nowhere node_or_line node_or_line_at
unfolding node_or_line node_or_line_at
node_or_line_exchanged = alt_loosely NAMED refl (loosely named_node_exchanged) (alt_loosely BANG refl marked_exchanged (value_loosely _ goes_on_plainly_exchanged))

pub behind_name_exchanged : (ends : Bool) → Swaps false true nowhere (behind_name ends) (behind_name_at ends)
behind_name_exchanged true = loosely (nothing _)
behind_name_exchanged false = node_or_line_exchanged

pub metadata_behind_exchanged : Swaps false true nowhere metadata_behind metadata_behind_at
unfolding metadata_behind metadata_behind_at
metadata_behind_exchanged = seq_loosely (one_sample META ends_line (sample forms.Meta kinds.Meta (codes "!a")) refl meta_real refl) behind_name_exchanged
