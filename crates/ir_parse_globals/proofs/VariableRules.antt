-- The readers of variables read them.
use Rattle.std.proofs.Common.{◌≡◌, ℕ, Bool, true, false, cond, Option, None, Some, List, [], ◌∷◌, ◌++◌, Result, Ok, Err, refl, ap, ◌∙◌, sym}
use Rattle.std.specs.Prelude.{codes}
use Rattle.ir_lex.specs.Bytes.{has}
use Rattle.ir_lex.specs.declared.token_kind.TokenKind.TheVariants as kinds
use Rattle.ir_lex.specs.declared.token.TokenForm.TheVariants as forms
use Rattle.ir_lex.specs.TokenKinds.{number, kind_of, word_kind, listed_kind, words_6}
use Rattle.ir_lex.specs.Lexing.{is_bad}
use Rattle.ir_lex.specs.Quotes.{is_zero_name}
use Rattle.ir_lex.specs.Rows.{best_fit, rest_fit, label_len, number_len, word_len, name_len, meta_len, dots_len, other_len, string_len}
use Rattle.ir_lex.specs.Tok.{Tok}
use Rattle.ir_tree.specs.declared.function.Linkage.{Linkage}
use Rattle.ir_tree.specs.declared.operand.Reg.{Reg}
use Rattle.ir_parse_parts.specs.Alphabet.{among}
use Rattle.ir_parse_parts.specs.Forms as form
use Rattle.ir_parse_parts.specs.Readers as reader
use Rattle.ir_parse_parts.specs.declared.fault.TokenFault.{TokenFault}
use Rattle.ir_parse_parts.specs.Rules.{Rule, Opens, in_range, is_among, is_class, is_valued}
use Rattle.ir_parse_parts.proofs.Composed.{with_wide}
use Rattle.ir_parse_parts.proofs.Rules as rules
use Rattle.ir_parse_parts.specs.Classes.{tokens, IsReal, the, the_at, one_of, one_of_at, itself}
use Rattle.ir_parse_heads.specs.FunctionHeads.{LINKAGES, linkage_word, QUALIFIERS, nothing_of, name_refusal}
use Rattle.ir_parse_operands.specs.AlignmentsAt.{ALIGN}
use Rattle.ir_parse_parts.specs.MetadataAt.{COMMA, PAREN}
use Rattle.ir_parse_parts.specs.Operands.{global_named}
use Rattle.ir_parse_operands.specs.ShapeForms.{any_shape, memory_shape}
use Rattle.ir_parse_parts.proofs.Alignments.{alignment_rule}
use Rattle.ir_parse_heads.proofs.FunctionHeadRules.{external_real, hidden_real, named_rule}
use Rattle.ir_parse_parts.proofs.Nodes.{attached_rule}
use Rattle.ir_parse_parts.proofs.OperandRules.{global_is}
use Rattle.ir_parse_operands.proofs.ShapeRules.{SHAPE, memory_shape_rule}
use Rattle.ir_parse_parts.proofs.Singles.{sample, word, the_rule, the_opens, one_rule, one_opens, comma_rule, equals_rule, open_paren_rule, close_paren_rule, align_rule}
use Rattle.ir_parse_globals.specs.Initialisers.{scalar_of}
use Rattle.ir_parse_globals.specs.Variables.{NAMES, variable_name, any_variable_name, qualifiers, linked, KINDS, is_constant, is_declared, value, comdat_name, in_comdat, aligned, marked, further, tail, behind_kind, variable_line}
use Rattle.ir_parse_globals.specs.VariablesAt.{variable_name_at, qualifiers_at, linked_at, value_at, comdat_name_at, in_comdat_at, aligned_at, marked_at, COMDAT, further_at, tail_at, behind_kind_at, variable_line_at}
use Rattle.ir_parse_globals.proofs.InitialiserRules.{INITIALISER, initialiser_rule}

-- ---- before the shape

abbrev good : Tok → Result Tok TokenFault
good x = Ok x

-- a name that has a number in range is a name
pub any_name : (ts : List Tok) (a : Tok) → variable_name ts a → any_variable_name ts a
unfolding is_valued is_among
any_name [] a s = absurd s
any_name (t ∷ []) a s = by_test (among tokens NAMES t) s
  where
    by_name : (o : Option Tok) → global_named t ≡ o → in_range o ≡ good a → good t ≡ good a
    by_name None q e = absurd cc
    by_name (Some u) q e = ap good (global_is t.kind t u q) ∙ e

    by_test : (b : Bool) → cond b (in_range (global_named t)) (Err (name_refusal (number t.kind))) ≡ good a → cond b (good t) (Err (name_refusal (number t.kind))) ≡ good a
    by_test true e = by_name (global_named t) refl e
    by_test false e = absurd cc
any_name (t ∷ u ∷ ts) a s = absurd s

variable_name_rule : Rule tokens variable_name any_variable_name variable_name_at NAMES [] false
variable_name_rule = record { law = with_wide tokens (named_rule NAMES refl).law any_name (rules.any_broad tokens name_refusal NAMES global_named itself (λ t u q. sym (global_is t.kind t u q)) refl) }

linkage_word_rule : Rule tokens (one_of LINKAGES linkage_word) (one_of LINKAGES linkage_word) (one_of_at LINKAGES linkage_word) LINKAGES [] false
linkage_word_rule = one_rule LINKAGES linkage_word (word kinds.External (codes "external")) refl external_real

pub qualifier_word_rule : Rule tokens (one_of QUALIFIERS nothing_of) (one_of QUALIFIERS nothing_of) (one_of_at QUALIFIERS nothing_of) QUALIFIERS [] false
qualifier_word_rule = one_rule QUALIFIERS nothing_of (word kinds.Visibility (codes "hidden")) refl hidden_real

qualifiers_rule : Rule tokens qualifiers qualifiers qualifiers_at QUALIFIERS QUALIFIERS true
unfolding qualifiers qualifiers_at
qualifiers_rule = rules.seq tokens (rules.star tokens QUALIFIERS qualifier_word_rule (one_opens QUALIFIERS nothing_of) refl refl) (λ _. rules.nothing tokens tt) refl

-- what may stand before `global` or `constant`
abbrev pub LINKED : List ℕ
LINKED = LINKAGES ++ QUALIFIERS

linked_rule : Rule tokens linked linked linked_at LINKED LINKED true
unfolding linked linked_at
linked_rule = rules.wider tokens LINKED LINKED (rules.seq tokens (rules.maybe tokens LINKAGES linkage_word_rule refl) (λ l. rules.seq tokens qualifiers_rule (λ _. rules.nothing tokens l) refl) refl) refl refl

pub constant_real : IsReal (word kinds.GlobalVariable (codes "global"))
unfolding best_fit rest_fit label_len number_len word_len name_len meta_len dots_len other_len string_len has is_bad is_zero_name kind_of word_kind listed_kind words_6
constant_real = record { behind = []; some = refl; fits = refl; good = refl; class = refl }

kind_rule : Rule tokens (one_of KINDS is_constant) (one_of KINDS is_constant) (one_of_at KINDS is_constant) KINDS [] false
kind_rule = one_rule KINDS is_constant (word kinds.GlobalVariable (codes "global")) refl constant_real

-- ---- behind the shape

value_rule : (declared : Bool) (scalar : Option Reg) → Rule tokens (value memory_shape declared scalar) (value any_shape declared scalar) (value_at declared scalar) INITIALISER [] true
value_rule true scalar = rules.wider tokens INITIALISER [] (rules.nothing tokens None) refl refl
value_rule false scalar = rules.wider tokens INITIALISER [] (rules.seq tokens (initialiser_rule scalar) (λ _. rules.nothing tokens _) refl) refl refl

pub comdat_real : IsReal (word kinds.Comdat (codes "comdat"))
unfolding best_fit rest_fit label_len number_len word_len name_len meta_len dots_len other_len string_len has is_bad is_zero_name kind_of word_kind listed_kind words_6
comdat_real = record { behind = []; some = refl; fits = refl; good = refl; class = refl }

comdat_rule : Rule tokens (the kinds.Comdat) (the kinds.Comdat) (the_at kinds.Comdat) COMDAT [] false
unfolding is_class
comdat_rule = the_rule kinds.Comdat (word kinds.Comdat (codes "comdat")) refl comdat_real

pub named_comdat_real : IsReal (sample forms.Comdat kinds.ComdatName (codes "$a"))
unfolding best_fit rest_fit label_len number_len word_len name_len meta_len dots_len other_len string_len has is_bad is_zero_name kind_of
named_comdat_real = record { behind = []; some = refl; fits = refl; good = refl; class = refl }

named_comdat_rule : Rule tokens (the kinds.ComdatName) (the kinds.ComdatName) (the_at kinds.ComdatName) (number kinds.ComdatName ∷ []) [] false
unfolding is_class
named_comdat_rule = the_rule kinds.ComdatName (sample forms.Comdat kinds.ComdatName (codes "$a")) refl named_comdat_real

comdat_name_rule : Rule tokens comdat_name comdat_name comdat_name_at PAREN [] false
unfolding comdat_name comdat_name_at
comdat_name_rule = rules.seq tokens open_paren_rule (λ _. rules.seq tokens named_comdat_rule (λ _. close_paren_rule) refl) refl

in_comdat_rule : Rule tokens in_comdat in_comdat in_comdat_at COMDAT PAREN false
unfolding in_comdat in_comdat_at
in_comdat_rule = rules.broader tokens COMDAT PAREN (rules.seq tokens comdat_rule (λ _. rules.seq tokens (rules.maybe tokens PAREN comdat_name_rule refl) (λ _. rules.nothing tokens _) refl) refl) refl refl

aligned_rule : Rule tokens aligned aligned aligned_at ALIGN [] false
unfolding aligned aligned_at
aligned_rule = rules.seq tokens align_rule (λ _. rules.seq tokens alignment_rule (λ _. rules.nothing tokens _) refl) refl

marked_rule : Rule tokens marked marked marked_at (number kinds.Meta ∷ number kinds.Bang ∷ []) PAREN false
unfolding marked marked_at
marked_rule = rules.seq tokens attached_rule (λ _. rules.nothing tokens _) refl

-- what stands behind a comma
abbrev FURTHER : List ℕ
FURTHER = number kinds.Comdat ∷ number kinds.Align ∷ number kinds.Meta ∷ number kinds.Bang ∷ []

further_choice_rule : Rule tokens (form.either in_comdat (form.either aligned marked)) (form.either in_comdat (form.either aligned marked)) (reader.pick (among tokens COMDAT) in_comdat_at (reader.pick (among tokens ALIGN) aligned_at marked_at)) FURTHER PAREN false
further_choice_rule = rules.broader tokens FURTHER PAREN (rules.alt tokens COMDAT in_comdat_rule (rules.alt tokens ALIGN aligned_rule marked_rule refl refl) refl refl) refl refl

pub further_rule : Rule tokens further further further_at COMMA PAREN false
unfolding further further_at
further_rule = rules.seq tokens comma_rule (λ _. further_choice_rule) refl

further_opens : Opens tokens COMMA further
unfolding further
further_opens = rules.opens_seq tokens COMMA (the kinds.Comma) (the_opens kinds.Comma) (λ _. further_choice_rule)

-- what may go on behind a variable
abbrev pub AFTER : List ℕ
AFTER = number kinds.OpenParen ∷ number kinds.Comma ∷ []

tail_rule : Rule tokens tail tail tail_at COMMA AFTER true
unfolding tail tail_at
tail_rule = rules.seq tokens (rules.star tokens COMMA further_rule further_opens refl refl) (λ _. rules.nothing tokens _) refl

-- ---- variables

behind_kind_rule : (name : Tok) (l : Option Linkage) (constant : Bool) → Rule tokens (behind_kind memory_shape name l constant) (behind_kind any_shape name l constant) (behind_kind_at name l constant) SHAPE AFTER false
unfolding behind_kind behind_kind_at
behind_kind_rule name l constant = rules.seq tokens memory_shape_rule (λ typed. rules.seq tokens (value_rule (is_declared l) (scalar_of typed.shape)) (λ _. rules.seq tokens tail_rule (λ _. rules.nothing tokens _) refl) refl) refl

pub variable_line_rule : Rule tokens (variable_line variable_name memory_shape) (variable_line any_variable_name any_shape) variable_line_at NAMES AFTER false
unfolding variable_line variable_line_at
variable_line_rule = rules.seq tokens variable_name_rule (λ name. rules.seq tokens equals_rule (λ _. rules.seq tokens linked_rule (λ l. rules.seq tokens kind_rule (λ constant. behind_kind_rule name l constant) refl) refl) refl) refl

pub variable_line_opens : Opens tokens NAMES (variable_line any_variable_name any_shape)
unfolding variable_line
variable_line_opens = rules.opens_seq tokens NAMES any_variable_name (rules.opens_among tokens name_refusal NAMES itself) (λ name. rules.seq tokens equals_rule (λ _. rules.seq tokens linked_rule (λ l. rules.seq tokens kind_rule (λ constant. behind_kind_rule name l constant) refl) refl) refl)
