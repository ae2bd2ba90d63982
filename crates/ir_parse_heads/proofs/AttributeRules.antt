-- The readers of attributes read them.
use Rattle.std.proofs.Common.{◌≡◌, ℕ, Bool, true, false, ◌&&◌, ◌||◌, not, arith, nat_eq, cond, Some, None, List, [], ◌∷◌, ◌++◌, Result, Ok, Err, refl, sym, ap, subst}
use Rattle.std.specs.Prelude.{codes}
use Rattle.std.specs.List.{fold}
use Rattle.ir_lex.specs.Bytes.{has}
use Rattle.ir_lex.specs.declared.token_kind.TokenKind.TheVariants as kinds
use Rattle.ir_lex.specs.declared.token.TokenForm.TheVariants as forms
use Rattle.ir_lex.specs.TokenKinds.{number, kind_of, word_kind, listed_kind, words_1}
use Rattle.ir_lex.specs.Lexing.{is_bad}
use Rattle.ir_lex.specs.Quotes.{is_zero_name}
use Rattle.ir_lex.specs.Rows.{begins, best_fit, rest_fit, label_len, number_len, word_len, name_len, meta_len, dots_len, other_len, string_len}
use Rattle.ir_lex.specs.Tok.{Tok}
use Rattle.ir_parse_parts.specs.Alphabet.{contains, among, is_number}
use Rattle.ir_parse_parts.specs.declared.fault.TokenFault.{TokenFault}
use Rattle.ir_parse_parts.specs.declared.fault.TokenFault.TheVariants.{Syntax, Profile, Number, Limit}
use Rattle.ir_parse_parts.specs.Forms as form
use Rattle.ir_parse_parts.specs.Lawful.{SameRefusal}
use Rattle.ir_parse_parts.specs.Readers as reader
use Rattle.ir_parse_parts.specs.Readers.{token_at}
use Rattle.ir_parse_parts.specs.Rules.{Rule, Opens, IsWithin}
use Rattle.ir_parse_parts.proofs.Composed.{token_lawful}
use Rattle.ir_parse_parts.proofs.Rules as rules
use Rattle.ir_parse_parts.specs.Operands.{group_named}
use Rattle.ir_parse_heads.specs.Attributes.{group_name, WORDS, CALL_WORDS, GROUP_WORDS, GROUP, word_kept, aligned, parameter_attribute, parameter_attributes, word_tail, word_attribute, string_value, string_attribute, function_attribute, group_attribute, call_attribute, call_attributes, head_alignment, head_attribute, attached_attribute, definition_attribute, definition_attributes, grouped, attribute_group, with_attribute, none_kept, group_item}
use Rattle.ir_parse_heads.specs.AttributesAt.{group_name_at, NUMBER, EQUALS, STRING, ALIGN, PARAMETER_WORD, PARAMETER_GROUP, PARAMETER, CALL, HEAD, DEFINITION, aligned_at, parameter_attribute_at, parameter_attributes_at, word_tail_at, word_attribute_at, string_value_at, string_attribute_at, function_attribute_at, group_attribute_at, call_attribute_at, call_attributes_at, head_alignment_at, head_attribute_at, attached_attribute_at, definition_attribute_at, definition_attributes_at, GROUPED, grouped_at, attribute_group_at}
use Rattle.ir_parse_parts.specs.Classes.{tokens, IsReal, NUMERALS, refusal, the, one_of}
use Rattle.ir_parse_parts.specs.Decimals.{ALIGNMENTS, decimal, alignment_of, is_alignment}
use Rattle.ir_parse_parts.specs.Metadata.{META, attached}
use Rattle.ir_parse_parts.specs.MetadataAt.{PAREN}
use Rattle.ir_parse_heads.specs.declared.attributes.Attribute.TheVariants.{Dropped, Group}
use Rattle.ir_parse_parts.specs.declared.brackets.Bracket.TheVariants.{Paren}
use Rattle.ir_parse_parts.proofs.Alignments.{alignment_rule}
use Rattle.ir_parse_parts.proofs.GroupRules.{group_rule}
use Rattle.ir_parse_parts.proofs.Nodes.{attached_rule, attached_opens}
use Rattle.ir_parse_parts.proofs.Singles.{sample, word, not_number, not_limit, the_opens, one_rule, one_opens, number_real, number_rule, equals_rule, open_brace_rule, close_brace_rule, attributes_rule, string_rule, align_rule, parameter_word_rule, parameter_group_rule, group_name_real}

-- ---- of parameters

pub aligned_rule : Rule tokens aligned aligned aligned_at (number kinds.Number ∷ number kinds.OpenParen ∷ []) [] false
unfolding aligned aligned_at
aligned_rule = rules.alt tokens NUMBER (rules.seq tokens alignment_rule (λ _. rules.nothing tokens tt) refl) (group_rule Paren) refl refl

pub parameter_attribute_rule : Rule tokens parameter_attribute parameter_attribute parameter_attribute_at PARAMETER [] false
unfolding parameter_attribute parameter_attribute_at
parameter_attribute_rule =
    rules.alt tokens PARAMETER_WORD parameter_word_rule
    (rules.alt tokens PARAMETER_GROUP (rules.seq tokens parameter_group_rule (λ _. group_rule Paren) refl) (rules.seq tokens align_rule (λ _. aligned_rule) refl) refl refl) refl refl

pub parameter_attribute_opens : Opens tokens PARAMETER parameter_attribute
unfolding parameter_attribute
parameter_attribute_opens =
    rules.opens_either tokens PARAMETER_WORD (number kinds.ParameterGroup ∷ number kinds.Align ∷ []) _ _ (the_opens kinds.ParameterWord)
    (rules.opens_either tokens PARAMETER_GROUP ALIGN _ _ (rules.opens_seq tokens PARAMETER_GROUP (the kinds.ParameterGroup) (the_opens kinds.ParameterGroup) (λ _. group_rule Paren)) (rules.opens_seq tokens ALIGN (the kinds.Align) (the_opens kinds.Align) (λ _. aligned_rule)))

pub parameter_attributes_rule : Rule tokens parameter_attributes parameter_attributes parameter_attributes_at PARAMETER PARAMETER true
unfolding parameter_attributes parameter_attributes_at
parameter_attributes_rule = rules.seq tokens (rules.star tokens PARAMETER parameter_attribute_rule parameter_attribute_opens refl refl) (λ _. rules.nothing tokens tt) refl

-- ---- of functions and calls

-- what may stand behind a word
abbrev pub BEHIND_WORD : List ℕ
BEHIND_WORD = number kinds.OpenParen ∷ number kinds.Equals ∷ []

pub word_tail_rule : Rule tokens word_tail word_tail word_tail_at BEHIND_WORD BEHIND_WORD true
unfolding word_tail word_tail_at
word_tail_rule = rules.wider tokens _ _ (rules.alt tokens PAREN (group_rule Paren) (rules.alt tokens EQUALS (rules.seq tokens equals_rule (λ _. number_rule) refl) (rules.nothing tokens tt) refl refl) refl refl) refl refl

plain : Tok
plain = word kinds.Word (codes "a")

plain_real : IsReal plain
unfolding plain best_fit rest_fit label_len number_len word_len name_len meta_len dots_len other_len string_len has is_bad is_zero_name kind_of word_kind listed_kind words_1
plain_real = record { behind = []; some = refl; fits = refl; good = refl; class = refl }

pub word_attribute_rule : (words : List ℕ) → contains words (number kinds.Word) ≡ true → Rule tokens (word_attribute words) (word_attribute words) (word_attribute_at words) (words ++ []) BEHIND_WORD false
unfolding word_attribute word_attribute_at plain
word_attribute_rule words h = rules.seq tokens (one_rule words word_kept plain h plain_real) (λ kept. rules.seq tokens word_tail_rule (λ _. rules.nothing tokens kept) refl) refl

string_value_rule : Rule tokens string_value string_value string_value_at EQUALS [] false
unfolding string_value string_value_at
string_value_rule = rules.seq tokens equals_rule (λ _. string_rule) refl

string_tail_rule : Rule tokens (form.◌>>=◌ (form.optional string_value) (λ _. form.gives Dropped)) (form.◌>>=◌ (form.optional string_value) (λ _. form.gives Dropped)) (reader.◌>>=◌ (reader.optional_at (among tokens EQUALS) string_value_at) (λ _. reader.done Dropped)) EQUALS EQUALS true
string_tail_rule = rules.seq tokens (rules.maybe tokens EQUALS string_value_rule refl) (λ _. rules.nothing tokens Dropped) refl

string_attribute_rule : Rule tokens string_attribute string_attribute string_attribute_at STRING EQUALS false
unfolding string_attribute string_attribute_at
string_attribute_rule = rules.seq tokens string_rule (λ _. string_tail_rule) refl

call_word_rule : Rule tokens (function_attribute CALL_WORDS) (function_attribute CALL_WORDS) (function_attribute_at CALL_WORDS) (number kinds.Str ∷ CALL_WORDS) (number kinds.Equals ∷ BEHIND_WORD) false
unfolding function_attribute function_attribute_at
call_word_rule = rules.alt tokens STRING string_attribute_rule (word_attribute_rule CALL_WORDS refl) refl refl

head_word_rule : Rule tokens (function_attribute WORDS) (function_attribute WORDS) (function_attribute_at WORDS) (number kinds.Str ∷ WORDS) (number kinds.Equals ∷ BEHIND_WORD) false
unfolding function_attribute function_attribute_at
head_word_rule = rules.alt tokens STRING string_attribute_rule (word_attribute_rule WORDS refl) refl refl

pub grouped_attribute_rule : Rule tokens (function_attribute GROUP_WORDS) (function_attribute GROUP_WORDS) (function_attribute_at GROUP_WORDS) (number kinds.Str ∷ GROUP_WORDS) (number kinds.Equals ∷ BEHIND_WORD) false
unfolding function_attribute function_attribute_at
grouped_attribute_rule = rules.alt tokens STRING string_attribute_rule (word_attribute_rule GROUP_WORDS refl) refl refl

abbrev zero_group : Tok
zero_group = sample forms.Group kinds.Group (codes "#0")

zero_named : group_named zero_group ≡ Some zero_group
unfolding group_named
zero_named = refl

group_name_rule : Rule tokens group_name group_name group_name_at GROUP [] false
group_name_rule = rules.valued_rule tokens refusal not_number not_limit GROUP group_named within zero_group zero_group refl zero_named group_name_real
  where
    only : (n m : ℕ) → nat_eq n m || false ≡ true → n ≡ m
    only n m h = by_value (nat_eq n m) refl h
      where
        equal : (n m : ℕ) → nat_eq n m ≡ true → n ≡ m
        equal n m e = grind arith

        by_value : (b : Bool) → nat_eq n m ≡ b → b || false ≡ true → n ≡ m
        by_value true e p = equal n m e
        by_value false e p = absurd cc

    within : (t : Tok) → among tokens GROUP t ≡ true → group_named t ≡ None → IsWithin tokens GROUP group_named t
    within t p q =
        let e : number t.kind ≡ number kinds.Group = only (number t.kind) (number kinds.Group) p in
        record { writes = ap (contains NUMERALS) e; other = zero_group; means = zero_group; alike = sym e; has = zero_named; real = group_name_real }

group_attribute_rule : Rule tokens group_attribute group_attribute group_attribute_at GROUP [] false
unfolding group_attribute group_attribute_at
group_attribute_rule = rules.seq tokens group_name_rule (λ _. rules.nothing tokens _) refl

-- ---- behind the arguments of a call

pub call_attribute_rule : Rule tokens call_attribute call_attribute call_attribute_at CALL (number kinds.Equals ∷ BEHIND_WORD) false
unfolding call_attribute call_attribute_at
call_attribute_rule = rules.alt tokens GROUP group_attribute_rule call_word_rule refl refl

pub call_attributes_rule : Rule tokens call_attributes call_attributes call_attributes_at CALL ((number kinds.Equals ∷ BEHIND_WORD) ++ CALL) true
unfolding call_attributes call_attributes_at
call_attributes_rule = rules.seq tokens (rules.any_number tokens CALL call_attribute_rule refl refl) (λ _. rules.nothing tokens tt) refl

-- ---- behind the head of a function

abbrev BEHIND_ALIGN : List ℕ
BEHIND_ALIGN = number kinds.Number ∷ BEHIND_WORD

alignment_tail_rule : Rule tokens (form.either (form.◌>>=◌ (form.token is_alignment) (λ _. form.gives tt)) word_tail) (form.either (form.◌>>=◌ (form.token is_alignment) (λ _. form.gives tt)) word_tail) (reader.pick (among tokens NUMBER) (reader.◌>>=◌ (token_at is_alignment) (λ _. reader.done tt)) word_tail_at) BEHIND_ALIGN BEHIND_ALIGN true
alignment_tail_rule = rules.wider tokens _ _ (rules.alt tokens NUMBER (rules.seq tokens alignment_rule (λ _. rules.nothing tokens tt) refl) word_tail_rule refl refl) refl refl

head_alignment_rule : Rule tokens head_alignment head_alignment head_alignment_at ALIGN BEHIND_ALIGN false
unfolding head_alignment head_alignment_at
head_alignment_rule = rules.seq tokens align_rule (λ _. rules.seq tokens alignment_tail_rule (λ _. rules.nothing tokens Dropped) refl) refl

-- what may stand behind an attribute
abbrev pub BEHIND_ATTRIBUTE : List ℕ
BEHIND_ATTRIBUTE = BEHIND_ALIGN ++ number kinds.Equals ∷ BEHIND_WORD

pub head_attribute_rule : Rule tokens head_attribute head_attribute head_attribute_at HEAD BEHIND_ATTRIBUTE false
unfolding head_attribute head_attribute_at
head_attribute_rule = rules.alt tokens GROUP group_attribute_rule (rules.alt tokens ALIGN head_alignment_rule head_word_rule refl refl) refl refl

attached_attribute_rule : Rule tokens attached_attribute attached_attribute attached_attribute_at META PAREN false
unfolding attached_attribute attached_attribute_at
attached_attribute_rule = rules.seq tokens attached_rule (λ _. rules.nothing tokens Dropped) refl

pub definition_attribute_rule : Rule tokens definition_attribute definition_attribute definition_attribute_at DEFINITION (PAREN ++ BEHIND_ATTRIBUTE) false
unfolding definition_attribute definition_attribute_at
definition_attribute_rule = rules.alt tokens META attached_attribute_rule head_attribute_rule refl refl

pub definition_attributes_rule : Rule tokens definition_attributes definition_attributes definition_attributes_at DEFINITION ((PAREN ++ BEHIND_ATTRIBUTE) ++ DEFINITION) true
unfolding definition_attributes definition_attributes_at
definition_attributes_rule = rules.seq tokens (rules.any_number tokens DEFINITION definition_attribute_rule refl refl) (λ all. rules.nothing tokens (fold with_attribute none_kept all)) refl

-- ---- groups

grouped_rule : Rule tokens grouped grouped grouped_at GROUPED ((number kinds.Equals ∷ BEHIND_WORD) ++ GROUPED) true
unfolding grouped grouped_at
grouped_rule = rules.seq tokens (rules.any_number tokens GROUPED grouped_attribute_rule refl refl) (λ all. rules.nothing tokens (fold with_attribute none_kept all)) refl

pub attribute_group_rule : Rule tokens attribute_group attribute_group attribute_group_at (number kinds.Attributes ∷ []) [] false
unfolding attribute_group attribute_group_at
attribute_group_rule =
    rules.seq tokens attributes_rule (λ _. rules.seq tokens group_name_rule (λ name. rules.seq tokens equals_rule (λ _. rules.seq tokens open_brace_rule (λ _. rules.seq tokens grouped_rule (λ kept. rules.seq tokens close_brace_rule (λ _. rules.nothing tokens (group_item name kept)) refl) refl) refl) refl) refl) refl
