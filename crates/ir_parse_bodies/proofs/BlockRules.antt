-- The readers of blocks and definitions read them.
use Rattle.std.proofs.Common.{◌≡◌, ℕ, ◌-◌, nat_eq, Bool, true, false, ◌||◌, ◌⊎◌, inl, inr, Option, Some, None, List, [], ◌∷◌, ◌++◌, length, refl, sym, ap, arith}
use Rattle.std.specs.Prelude.{codes}
use Rattle.std.specs.List.{fold}
use Rattle.std.proofs.lemmas.List.{append-nil}
use Rattle.ir_lex.specs.declared.token_kind.TokenKind.TheVariants as kinds
use Rattle.ir_lex.specs.declared.token.TokenForm.TheVariants as forms
use Rattle.ir_lex.specs.TokenKinds.{number}
use Rattle.ir_lex.specs.Tok.{Tok}
use Rattle.ir_parse_parts.specs.Alphabet.{among, contains}
use Rattle.ir_parse_parts.specs.Chained.{Chain}
use Rattle.ir_parse_parts.specs.Forms as form
use Rattle.ir_parse_parts.specs.Forms.{Form, Star}
use Rattle.ir_parse_parts.specs.Rules.{Rule, Opens, IsWithin}
use Rattle.ir_parse_parts.proofs.Composed.{widened, with_wide}
use Rattle.ir_parse_parts.proofs.Rules as rules
use Rattle.ir_parse_parts.proofs.Rules.{apart_from, contains-append}
use Rattle.ir_parse_operands.specs.Addressing.{any_slots}
use Rattle.ir_parse_parts.specs.Classes.{tokens, NUMERALS, refusal, the, itself}
use Rattle.ir_parse_heads.specs.declared.function_heads.Role.TheVariants as roles
use Rattle.ir_parse_parts.specs.Operands.{named}
use Rattle.ir_parse_operands.specs.ShapeForms.{any_shape}
use Rattle.ir_parse_operands.specs.Terminators.{ENDS}
use Rattle.ir_parse_heads.proofs.AttributeRules.{definition_attributes_rule}
use Rattle.ir_parse_heads.proofs.FunctionHeadRules.{head_rule}
use Rattle.ir_parse_parts.proofs.Singles.{sample, not_number, not_limit, the_opens, one_opens, open_brace_rule, close_brace_rule}
use Rattle.ir_parse_operands.proofs.TerminatorRules.{terminator_rule, terminator_opens}
use Rattle.ir_parse_bodies.specs.Blocks.{LABEL, label, any_label, any_local, keep, lines, block_of, block_behind, block, any_lines, any_block_behind, any_block, at_will, blocks, any_blocks, FURTHER_BLOCKS, INSTRUCTIONS, definition, any_definition}
use Rattle.ir_parse_bodies.specs.BlocksAt.{BLOCK, DEFINE, label_at, lines_at, block_behind_at, block_at, further_blocks_at, blocks_behind_at, blocks_at, definition_at}
use Rattle.ir_parse_bodies.specs.Lines.{line}
use Rattle.ir_parse_bodies.specs.LinesAt.{LINE}
use Rattle.ir_parse_bodies.specs.Successive.{Successive}
use Rattle.ir_parse_bodies.proofs.CallRules.{BEHIND_CALL}
use Rattle.ir_parse_bodies.proofs.LineRules.{any_name, same_name, line_rule, line_opens}
use Rattle.ir_parse_bodies.proofs.Samples.{define_word_rule, label_real}
use Rattle.ir_parse_bodies.proofs.SuccessiveRules.{successive_lawful}

-- ---- labels

abbrev zero_label : Tok
zero_label = sample forms.Label kinds.Label (codes "0:")

zero_named : named zero_label ≡ Some zero_label
unfolding named
zero_named = refl

only : (n m : ℕ) → nat_eq n m || false ≡ true → n ≡ m
only n m h = by_value (nat_eq n m) refl h
  where
    equal : (n m : ℕ) → nat_eq n m ≡ true → n ≡ m
    equal n m e = grind arith

    by_value : (b : Bool) → nat_eq n m ≡ b → b || false ≡ true → n ≡ m
    by_value true e p = equal n m e
    by_value false e p = absurd cc

written_label_rule : Rule tokens label label label_at LABEL [] false
written_label_rule = rules.valued_rule tokens refusal not_number not_limit LABEL named within zero_label zero_label refl zero_named label_real
  where
    within : (t : Tok) → among tokens LABEL t ≡ true → named t ≡ None → IsWithin tokens LABEL named t
    within t p q =
        let e : number t.kind ≡ number kinds.Label = only (number t.kind) (number kinds.Label) p in
        record { writes = ap (contains NUMERALS) e; other = zero_label; means = zero_label; alike = sym e; has = zero_named; real = label_real }

label_rule : Rule tokens label any_label label_at LABEL [] false
label_rule = record { law = with_wide tokens written_label_rule.law (λ ts a s. any_name LABEL ts a s) (rules.any_broad tokens refusal LABEL named itself same_name refl) }

-- ---- blocks

lines_rule : (room : ℕ) → Rule tokens (lines room) (any_lines room) (lines_at room) LINE (BEHIND_CALL ++ LINE) true
unfolding lines any_lines lines_at
lines_rule room = rules.seq tokens (rules.many tokens LINE room line_rule line_opens refl refl) (λ ls. rules.nothing tokens (fold keep [] ls, room - length ls)) refl

-- what may go on behind a block
abbrev pub BEHIND_BLOCK : List ℕ
BEHIND_BLOCK = number kinds.OpenParen ∷ number kinds.Comma ∷ []

block_behind_rule : (room : ℕ) (name : Option Tok) → Rule tokens (block_behind room name) (any_block_behind room name) (block_behind_at room name) (LINE ++ ENDS) BEHIND_BLOCK false
unfolding block_behind any_block_behind block_behind_at
block_behind_rule room name = rules.seq tokens (lines_rule room) (λ ls. rules.seq tokens terminator_rule (λ e. rules.nothing tokens (block_of name ls.0 e, ls.1)) refl) refl

block_rule : (room : ℕ) → Rule tokens (block room) (any_block room) (block_at room) BLOCK BEHIND_BLOCK false
unfolding block any_block block_at
block_rule room = rules.broader tokens BLOCK BEHIND_BLOCK (rules.alt tokens LABEL (rules.seq tokens label_rule (λ l. block_behind_rule room (Some l)) refl) (block_behind_rule room None) refl refl) refl refl

-- ---- what begins a block

stars_open : Opens tokens LINE (Star (line any_local any_slots any_shape))
stars_open t h = let o = line_opens t h in (o.0, o.1 ∷ [], (t ∷ o.0, [], sym (append-nil (t ∷ o.0)), o.2, refl), o.3)

lines_open : (room : ℕ) → Opens tokens LINE (any_lines room)
unfolding any_lines
lines_open room = rules.opens_seq tokens LINE (Star (line any_local any_slots any_shape)) stars_open (λ ls. rules.nothing tokens (fold keep [] ls, room - length ls))

line_begins : (room : ℕ) (name : Option Tok) → Opens tokens LINE (any_block_behind room name)
unfolding any_block_behind
line_begins room name = rules.opens_seq tokens LINE (any_lines room) (lines_open room) (λ ls. rules.seq tokens terminator_rule (λ e. rules.nothing tokens (block_of name ls.0 e, ls.1)) refl)

end_begins : (room : ℕ) (name : Option Tok) → Opens tokens ENDS (any_block_behind room name)
unfolding any_block_behind any_lines form.◌>>=◌
end_begins room name t h =
    let o = terminator_opens t h in
    (o.0, (block_of name [] o.1, room - 0), ([], t ∷ o.0, ([], room - 0), refl, ([], [], [], refl, refl, (refl, refl)), (t ∷ o.0, [], o.1, sym (append-nil (t ∷ o.0)), o.2, (refl, refl))), o.3)

either_begins : {A : Type 0} (xs ys : List ℕ) (wide : Form Tok A) → Opens tokens xs wide → Opens tokens ys wide → Opens tokens (xs ++ ys) wide
unfolding form.either
either_begins xs ys wide one other t h = let o = rules.opens_either tokens xs ys wide wide one other t h in (o.0, o.1, elim o.2 [ inl s ↦ s | inr s ↦ s ], o.3)

block_opens : (room : ℕ) → Opens tokens BLOCK (any_block room)
unfolding any_block
block_opens room = rules.opens_either tokens LABEL (LINE ++ ENDS) _ _ (rules.opens_seq tokens LABEL any_label (one_opens LABEL itself) (λ l. block_behind_rule room (Some l))) (either_begins LINE ENDS (any_block_behind room None) (line_begins room None) (end_begins room None))

-- ---- blocks one behind another

or_parts : (a b : Bool) → a || b ≡ true → (a ≡ true) ⊎ (b ≡ true)
or_parts true b h = inl refl
or_parts false b h = inr h

further_blocks_rule : (further room : ℕ) → Rule tokens (Successive block further room) (Chain at_will any_block room) (further_blocks_at further room) BLOCK (BEHIND_BLOCK ++ BLOCK) true
further_blocks_rule further room = record {
  law = widened tokens (among tokens BLOCK) (among tokens (BEHIND_BLOCK ++ BLOCK))
      (successive_lawful tokens at_will (λ s. refl) block any_block block_at (among tokens BLOCK) (among tokens BLOCK) (among tokens BEHIND_BLOCK) (λ s. (block_rule s).law) (λ t u n m. ap (contains BLOCK) (sym m)) (λ t d. d)
      (λ t p q. apart_from BEHIND_BLOCK BLOCK refl (number t.kind) p q) block_opens further room)
      (λ t d. d) (λ t d. contains-append BEHIND_BLOCK BLOCK (number t.kind) (or_parts _ _ d));
}

blocks_rule : (further instructions : ℕ) → Rule tokens (blocks further instructions) (any_blocks instructions) (blocks_at further instructions) BLOCK (BEHIND_BLOCK ++ BLOCK) false
unfolding blocks any_blocks blocks_at blocks_behind_at
blocks_rule further instructions = rules.broader tokens BLOCK (BEHIND_BLOCK ++ BLOCK) (rules.seq tokens (block_rule instructions) (λ first. rules.seq tokens (further_blocks_rule further first.1) (λ more. rules.nothing tokens (first.0 ∷ more)) refl) refl) refl refl

-- ---- definitions

pub definition_rule : (room : ℕ) → Rule tokens (definition room) any_definition (definition_at room) DEFINE [] false
unfolding definition any_definition definition_at
definition_rule room =
    rules.seq tokens define_word_rule
    (λ _. rules.seq tokens (head_rule roles.Definition room)
    (λ h. rules.seq tokens definition_attributes_rule
    (λ k. rules.seq tokens open_brace_rule (λ _. rules.seq tokens (blocks_rule FURTHER_BLOCKS INSTRUCTIONS) (λ bs. rules.seq tokens close_brace_rule (λ _. rules.nothing tokens _) refl) refl) refl)
    refl) refl) refl

pub definition_opens : Opens tokens DEFINE any_definition
unfolding any_definition
definition_opens = rules.opens_seq tokens DEFINE (the kinds.Define) (the_opens kinds.Define)
    (λ _. rules.seq tokens (head_rule roles.Definition 0)
    (λ h. rules.seq tokens definition_attributes_rule
    (λ k. rules.seq tokens open_brace_rule (λ _. rules.seq tokens (blocks_rule FURTHER_BLOCKS INSTRUCTIONS) (λ bs. rules.seq tokens close_brace_rule (λ _. rules.nothing tokens _) refl) refl) refl)
    refl) refl)
