-- The first fault of the readers of metadata behind a declaration's head is of a kind that its token allows.
use Rattle.ir_parse.proofs.Told.{Tells, line_step_fits, run_line_told, seq, nothing, alt, maybe, single, the_told, one_told, AllowedBy, never_among, group_told}
use Rattle.std.specs.Prelude.{ℕ, Bool, true, false, List, []}
use Rattle.ir_lex.specs.declared.token_kind.TokenKind.TheVariants as kinds
use Rattle.ir_lex.specs.Tok.{Tok}
use Rattle.ir_parse_parts.specs.Alphabet.{among}
use Rattle.ir_parse_parts.specs.Runs.{Step, bad, last, onward}
use Rattle.ir_parse_parts.specs.Classes.{tokens}
use Rattle.ir_parse_parts.specs.declared.brackets.Bracket.{Bracket}
use Rattle.ir_parse_parts.specs.declared.brackets.Bracket.TheVariants.{Paren, Curly}
use Rattle.ir_parse_parts.specs.Metadata.{META, ends_line, line_step}
use Rattle.ir_parse_parts.specs.MetadataAt.{PAREN, CURLY, NAMED}
use Rattle.ir_parse_parts.specs.MetadataBehind.{BANG, BRACES, line_goes_on, fitting}
use Rattle.ir_parse_parts.specs.MetadataBehindAt.{line_rest_at, goes_on_but_at, named_node_at, line_end_or_at, behind_mark_at, marked_at, node_yet_at, node_or_line_at, behind_name_at, metadata_behind_at}
use Rattle.ir_parse_parts.specs.Rules.{disjoint}
use Rattle.std.proofs.Common.{Err, cond, true, false, Bool, ◌≡◌, refl}
use Rattle.ir_parse_parts.specs.declared.fault.TokenFault.TheVariants.{Syntax}
use Rattle.ir_parse.specs.Refusals.{REFUSED_EVERYWHERE}

pub line_rest_told : (s : Step (List Bracket)) → Tells (line_rest_at s)
line_rest_told bad = nothing _
line_rest_told last = nothing _
line_rest_told (onward bs) = run_line_told bs

line_goes_on_allowed : (apart : List ℕ) → disjoint apart REFUSED_EVERYWHERE ≡ true → (t : Tok) → AllowedBy t (line_goes_on apart t)
unfolding line_goes_on
line_goes_on_allowed apart d t = by_test (among tokens apart t) refl
  where
    by_step : (p : Step (List Bracket)) → line_step [] t ≡ p → AllowedBy t (fitting p)
    by_step bad e = line_step_fits [] t e
    by_step last e = tt
    by_step (onward bs) e = tt

    by_test : (b : Bool) → among tokens apart t ≡ b → AllowedBy t (cond b (Err Syntax) (fitting (line_step [] t)))
    by_test true p = never_among apart d t p
    by_test false p = by_step (line_step [] t) refl

pub goes_on_but_told : (apart : List ℕ) → disjoint apart REFUSED_EVERYWHERE ≡ true → Tells (goes_on_but_at apart)
unfolding goes_on_but_at
goes_on_but_told apart d = seq (single (line_goes_on apart) (line_goes_on_allowed apart d)) (λ s. line_rest_told s)

pub named_node_told : Tells named_node_at
unfolding named_node_at
named_node_told = seq (the_told kinds.Meta) (λ _. seq (maybe (among tokens PAREN) (group_told Paren)) (λ _. nothing _))

pub line_end_or_told : (apart : List ℕ) → disjoint apart REFUSED_EVERYWHERE ≡ true → (ends : Bool) → Tells (line_end_or_at apart ends)
line_end_or_told apart d true = nothing _
line_end_or_told apart d false = seq (goes_on_but_told apart d) (λ _. nothing _)

pub behind_mark_told : (ends : Bool) → Tells (behind_mark_at ends)
unfolding behind_mark_at
behind_mark_told ends = alt (among tokens CURLY) (seq (group_told Curly) (λ _. nothing _)) (alt (among tokens PAREN) (seq (group_told Paren) (λ _. nothing _)) (line_end_or_told BRACES refl ends))

pub marked_told : Tells marked_at
unfolding marked_at
marked_told = seq (one_told BANG ends_line) (λ ends. behind_mark_told ends)

pub node_yet_told : Tells node_yet_at
unfolding node_yet_at
node_yet_told = alt (among tokens NAMED) named_node_told marked_told

pub node_or_line_told : Tells node_or_line_at
unfolding node_or_line_at
node_or_line_told = alt (among tokens NAMED) named_node_told (alt (among tokens BANG) marked_told (seq (goes_on_but_told META refl) (λ _. nothing _)))

pub behind_name_told : (x0 : Bool) → Tells (behind_name_at x0)
behind_name_told true = nothing _
behind_name_told false = node_or_line_told

pub metadata_behind_told : Tells metadata_behind_at
unfolding metadata_behind_at
metadata_behind_told = seq (one_told META ends_line) (λ ends. behind_name_told ends)
