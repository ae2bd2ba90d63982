-- The readers of blocks and definitions tell a token that is left out in some places where one that it stands for goes on.
use Rattle.std.proofs.Common.{◌≡◌, ℕ, zero, suc, ◌-◌, Option, Some, None, List, [], ◌∷◌, ◌++◌, length, Ok, refl, sym, ap, subst, ◌∙◌, append_assoc, inl, inr, true, false}
use Rattle.std.proofs.lemmas.List.{append-nil}
use Rattle.std.specs.List.{fold}
use Rattle.std.specs.Prelude.{codes}
use Rattle.ir_lex.specs.Tok.{Tok}
use Rattle.ir_lex.specs.declared.token_kind.TokenKind.TheVariants as kinds
use Rattle.ir_lex.specs.declared.token.TokenForm.TheVariants as forms
use Rattle.ir_parse_parts.specs.Chained.{Chain}
use Rattle.ir_parse_parts.specs.Forms as form
use Rattle.ir_parse_parts.specs.Forms.{Form}
use Rattle.ir_parse_parts.specs.Readers.{Reader, ◌>>=◌}
use Rattle.ir_parse_parts.specs.Rules.{in_range, is_valued}
use Rattle.ir_parse_operands.specs.Addressing.{any_slots}
use Rattle.ir_parse_parts.specs.Classes.{tokens, refusal, the, the_at}
use Rattle.ir_parse_parts.specs.Operands.{named}
use Rattle.ir_parse_heads.specs.declared.function_heads.Role.TheVariants as roles
use Rattle.ir_parse_operands.specs.ShapeForms.{any_shape}
use Rattle.ir_parse_parts.specs.declared.raw.Block.{Block}
use Rattle.ir_parse_parts.specs.declared.raw.WrittenLine.{WrittenLine}
use Rattle.ir_parse_parts.proofs.Singles.{sample}
use Rattle.ir_parse_bodies.specs.Blocks.{LABEL, any_label, any_local, keep, lines, block_of, block_behind, block, any_lines, any_block_behind, any_block, at_will, blocks, any_blocks, FURTHER_BLOCKS, INSTRUCTIONS, definition, any_definition}
use Rattle.ir_parse_bodies.specs.BlocksAt.{BLOCK, label_at, lines_at, block_behind_at, block_at, further_blocks_at, blocks_behind_at, blocks_at, definition_at}
use Rattle.ir_parse_bodies.specs.Lines.{line}
use Rattle.ir_parse_bodies.specs.LinesAt.{LINE}
use Rattle.ir_parse_bodies.proofs.LineRules.{any_name}
use Rattle.ir_parse_bodies.proofs.Samples.{label_real, define_word_rule}
use Rattle.ir_parse.specs.NamedCalls.{before_named_callee, in_block, in_blocks, in_definition, in_lines}
use Rattle.ir_parse.proofs.Exchanged.{Exchanges, Swapping, alt_by, barred, nothing, placed_none, recast, seq, seq_by, seq_closing, seq_closing_to, seq_from, seq_to, up_to_words, with_value}
use Rattle.ir_parse.proofs.ExchangedAttributes.{definition_attributes_exchanged}
use Rattle.ir_parse.proofs.ExchangedFunctionHeads.{head_exchanged}
use Rattle.ir_parse.proofs.ExchangedLines.{line_exchanged}
use Rattle.ir_parse.proofs.ExchangedTerminators.{terminator_exchanged, terminator_closes}
use Rattle.ir_parse.proofs.ExchangedTokens.{plain_class, valued_sample, refused_class}
use Rattle.ir_parse.proofs.ExchangedWords.{close_brace_exchanged, open_brace_exchanged}

define_word_exchanged : Exchanges (the kinds.Define) (the_at kinds.Define)
define_word_exchanged = plain_class kinds.Define define_word_rule refl

abbrev zero_label : Tok
zero_label = sample forms.Label kinds.Label (codes "0:")

zero_named : named zero_label ≡ Some zero_label
unfolding named
zero_named = refl

zero_is : is_valued tokens refusal LABEL named zero_label ≡ Ok zero_label
unfolding is_valued
zero_is = ap in_range zero_named

label_exchanged : Exchanges any_label label_at
label_exchanged = recast (λ ts a s. any_name LABEL ts a s) (valued_sample LABEL named zero_label zero_label zero_is label_real refl)

abbrev any_line : Form Tok (Option WrittenLine)
any_line = line any_local any_slots any_shape

first_line : (front : List Tok) → before_named_callee front tt → in_lines front tt
unfolding in_lines form.◌>>=◌
first_line front v = ([], front, [], refl, refl, v)

behind_line : (one two : List Tok) (l : Option WrittenLine) → any_line one l → in_lines two tt → in_lines (one ++ two) tt
unfolding in_lines form.◌>>=◌
behind_line one two l s (p, q, ls, e, r, v) = (one ++ p, q, l ∷ ls, ap (λ (ts : List Tok). one ++ ts) e ∙ sym (append_assoc one p q), (one, p, refl, s, r), v)

pub lines_exchanged : (room : ℕ) → Swapping true in_lines (any_lines room) (lines_at room)
unfolding lines any_lines lines_at
lines_exchanged room = with_value (λ ls. (fold keep [] ls, room - length ls)) (up_to_words in_lines LINE refl refl first_line behind_line line_exchanged room)

pub block_behind_exchanged : (room : ℕ) (name : Option Tok) → Swapping false in_lines (any_block_behind room name) (block_behind_at room name)
unfolding block_behind any_block_behind block_behind_at
block_behind_exchanged room name = seq_closing (lines_exchanged room) (λ ls. seq terminator_exchanged (λ e. nothing (block_of name ls.0 e, ls.1))) (λ ls t rest q. terminator_closes _ t rest q)

labelled : (front : List Tok) → form.◌>>=◌ any_label (λ _. in_lines) front tt → in_block front tt
unfolding in_block form.◌>>=◌ form.either
labelled front (one, two, l, e, s, v) = (one, two, Some l, e, inl (one, [], l, sym (append-nil one), s, (refl, refl)), v)

unlabelled : (front : List Tok) → in_lines front tt → in_block front tt
unfolding in_block form.◌>>=◌ form.either
unlabelled front v = ([], front, None, refl, inr (refl, refl), v)

pub block_exchanged : (room : ℕ) → Swapping false in_block (any_block room) (block_at room)
unfolding block any_block block_at
block_exchanged room = alt_by in_block LABEL (inl refl) (seq_to label_exchanged (λ l. block_behind_exchanged room (Some l))) (block_behind_exchanged room None) labelled unlabelled

-- ---- blocks one behind another

none_is : (room : ℕ) (ts : List Tok) (bs : List Block) → form.gives [] ts bs → Chain at_will any_block room ts bs
none_is room ts bs n = subst (λ (x : List Block). Chain at_will any_block room ts x) (sym n.1) (refl, n.0)

more_is : (room : ℕ) (ts : List Tok) (bs : List Block) → form.either (form.◌>>=◌ (any_block room) (λ x. form.◌>>=◌ (Chain at_will any_block x.1) (λ more. form.gives (x.0 ∷ more)))) (form.gives []) ts bs → Chain at_will any_block room ts bs
unfolding form.either form.◌>>=◌
more_is room ts bs (inl (p, q, x, e, s, (q', r, l, e', s', n))) =
    let whole : ts ≡ p ++ q' = e ∙ ap (λ (y : List Tok). p ++ y) (e' ∙ ap (λ (y : List Tok). q' ++ y) n.0 ∙ append-nil q') in
    subst (λ (y : List Block). Chain at_will any_block room ts y) (sym n.1) (p, q', x.1, whole, s, s')
more_is room ts bs (inr n) = none_is room ts bs n

first_block : (room : ℕ) (front : List Tok) → in_block front tt → in_blocks room front tt
unfolding in_blocks form.◌>>=◌
first_block room front v = ([], front, [], refl, (refl, refl), v)

behind_block : (room : ℕ) (one two : List Tok) (x : Block × ℕ) → any_block room one x → in_blocks x.1 two tt → in_blocks room (one ++ two) tt
unfolding in_blocks form.◌>>=◌
behind_block room one two x s (p, q, bs, e, r, v) = (one ++ p, q, x.0 ∷ bs, ap (λ (ts : List Tok). one ++ ts) e ∙ sym (append_assoc one p q), (one, p, x.1, refl, s, r), v)

-- a block, and more behind it
block_and : {B : Type 0} (room : ℕ) {wide : Block × ℕ → Form Tok B} {h : Block × ℕ → Reader Tok B} → ((x : Block × ℕ) → Swapping false (in_blocks x.1) (wide x) (h x)) → Swapping false (in_blocks room) (form.◌>>=◌ (any_block room) wide) (block_at room >>= h)
block_and room laws = seq_by false false (in_blocks room) (block_exchanged room) laws (λ e. e) (λ e a b w. e) (λ e. e) (λ e. absurd cc) (first_block room) (behind_block room) (λ e. absurd cc)

further_blocks_exchanged : (further room : ℕ) → Swapping false (in_blocks room) (Chain at_will any_block room) (further_blocks_at further room)
further_blocks_exchanged zero room = placed_none (recast (none_is room) (barred BLOCK refl (nothing [])))
further_blocks_exchanged (suc further) room = recast (more_is room) (alt_by (in_blocks room) BLOCK (inl refl) (block_and room (λ x. seq_from (further_blocks_exchanged further x.1) (λ more. nothing (x.0 ∷ more)))) (nothing []) (λ front v. v) (λ front v. absurd v))

pub blocks_exchanged : (further instructions : ℕ) → Swapping false (in_blocks instructions) (any_blocks instructions) (blocks_at further instructions)
unfolding blocks any_blocks blocks_at blocks_behind_at
blocks_exchanged further instructions = block_and instructions (λ first. seq_from (further_blocks_exchanged further first.1) (λ more. nothing (first.0 ∷ more)))

pub definition_exchanged : (room : ℕ) → Swapping false in_definition any_definition (definition_at room)
unfolding definition any_definition definition_at in_definition
definition_exchanged room = seq_to define_word_exchanged (λ _. seq_to (head_exchanged roles.Definition room) (λ h. seq_closing_to definition_attributes_exchanged (λ k. seq_to open_brace_exchanged (λ _. seq_from (blocks_exchanged FURTHER_BLOCKS INSTRUCTIONS) (λ bs. seq close_brace_exchanged (λ _. nothing _)))) (λ k t rest q. refused_class _ kinds.OpenBrace refl t rest q)))
