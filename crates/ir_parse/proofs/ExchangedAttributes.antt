-- The readers of attributes tell a token that is left out in some places against the syntax.
use Rattle.std.proofs.Common.{◌≡◌, ℕ, Bool, true, false, cond, nat_eq, ◌&&◌, ◌||◌, not, Some, List, [], ◌∷◌, Result, Ok, Err, refl, ap, subst}
use Rattle.std.specs.List.{fold}
use Rattle.std.specs.Prelude.{codes}
use Rattle.ir_lex.specs.TokenKinds.{number}
use Rattle.ir_lex.specs.Rows.{begins}
use Rattle.ir_lex.specs.Tok.{Tok}
use Rattle.ir_lex.specs.declared.token_kind.TokenKind.TheVariants as kinds
use Rattle.ir_lex.specs.declared.token.TokenForm.TheVariants as forms
use Rattle.ir_parse_parts.specs.Alphabet.{contains, among}
use Rattle.ir_parse_parts.specs.Forms as form
use Rattle.ir_parse_parts.specs.Lawful.{IsBound}
use Rattle.ir_parse_parts.specs.Readers as reader
use Rattle.ir_parse_parts.specs.Readers.{token_at}
use Rattle.ir_parse_parts.specs.Rules.{in_range, is_among, is_valued}
use Rattle.ir_parse_parts.specs.declared.fault.TokenFault.TheVariants.{Number}
use Rattle.ir_parse_parts.specs.declared.fault.TokenFault.{TokenFault}
use Rattle.ir_parse_heads.specs.Attributes.{group_name, WORDS, CALL_WORDS, GROUP_WORDS, GROUP, word_kept, aligned, parameter_attribute, parameter_attributes, word_tail, word_attribute, string_value, string_attribute, function_attribute, group_attribute, call_attribute, call_attributes, head_alignment, head_attribute, attached_attribute, definition_attribute, definition_attributes, grouped, attribute_group, with_attribute, none_kept, group_item}
use Rattle.ir_parse_heads.specs.AttributesAt.{group_name_at, NUMBER, EQUALS, STRING, ALIGN, PARAMETER_WORD, PARAMETER_GROUP, PARAMETER, CALL, DEFINITION, aligned_at, parameter_attribute_at, parameter_attributes_at, word_tail_at, word_attribute_at, string_value_at, string_attribute_at, function_attribute_at, group_attribute_at, call_attribute_at, call_attributes_at, head_alignment_at, head_attribute_at, attached_attribute_at, definition_attribute_at, definition_attributes_at, GROUPED, grouped_at, attribute_group_at}
use Rattle.ir_parse_parts.specs.Classes.{tokens, refusal}
use Rattle.ir_parse_parts.specs.Decimals.{ALIGNMENTS, alignment_of, decimal, is_alignment}
use Rattle.ir_parse_parts.specs.Metadata.{META}
use Rattle.ir_parse_parts.specs.MetadataAt.{PAREN}
use Rattle.ir_parse_parts.specs.Operands.{group_named}
use Rattle.ir_parse_heads.specs.declared.attributes.Attribute.TheVariants.{Dropped}
use Rattle.ir_parse_parts.specs.declared.brackets.Bracket.TheVariants.{Paren}
use Rattle.ir_parse_parts.proofs.Alignments.{alignment_rule}
use Rattle.ir_parse_heads.proofs.AttributeRules.{call_attribute_rule, definition_attribute_rule, grouped_attribute_rule, parameter_attribute_rule}
use Rattle.ir_parse_parts.proofs.Singles.{group_name_real, sample}
use Rattle.ir_parse.proofs.Exchanged.{Exchanges, alt, goes_alone, maybe, nothing, seq, star, star_words, taken, Exchanging, seq_closing, with_value}
use Rattle.ir_parse.proofs.ExchangedGroups.{group_exchanged}
use Rattle.ir_parse.proofs.ExchangedNodes.{attached_exchanged}
use Rattle.ir_parse.proofs.ExchangedTokens.{a_word, a_word_real, of_token, refuses_angle, says_plainly, valued_sample, word_one, worded, refused_class}
use Rattle.ir_parse.proofs.ExchangedWords.{align_exchanged, attributes_exchanged, close_brace_exchanged, equals_exchanged, number_exchanged, open_brace_exchanged, parameter_group_exchanged, parameter_word_exchanged, string_exchanged}

abbrev zero_group : Tok
zero_group = sample forms.Group kinds.Group (codes "#0")

abbrev fault : TokenFault → Result ℕ TokenFault
fault k = Err k

alignment_outside : (t : Tok) → among tokens NUMBER t ≡ false → is_alignment t ≡ Err (refusal (number t.kind))
unfolding is_alignment alignment_of
alignment_outside t p = by_class (nat_eq (number t.kind) (number kinds.Number)) p
  where
    by_class : (b : Bool) → b || false ≡ false → cond b (cond (contains ALIGNMENTS (decimal t.text) && not (begins 45 t.text)) (Ok (decimal t.text)) (fault Number)) (fault (refusal (number t.kind))) ≡ fault (refusal (number t.kind))
    by_class true p = absurd cc
    by_class false p = refl

alignment_inside : (t : Tok) → among tokens NUMBER t ≡ true → (k : TokenFault) → is_alignment t ≡ Err k → IsBound k
unfolding is_alignment alignment_of
alignment_inside t p k d = by_class (nat_eq (number t.kind) (number kinds.Number)) p d
  where
    number_is : (k : TokenFault) → fault Number ≡ fault k → Number ≡ k
    number_is k e = cc

    by_fit : (b : Bool) → cond b (Ok (decimal t.text)) (fault Number) ≡ fault k → IsBound k
    by_fit true d = absurd cc
    by_fit false d = subst IsBound (number_is k d) tt

    by_class : (b : Bool) → b || false ≡ true → cond b (cond (contains ALIGNMENTS (decimal t.text) && not (begins 45 t.text)) (Ok (decimal t.text)) (fault Number)) (fault (refusal (number t.kind))) ≡ fault k → IsBound k
    by_class true p d = by_fit (contains ALIGNMENTS (decimal t.text) && not (begins 45 t.text)) d
    by_class false p d = absurd cc

pub alignment_exchanged : Exchanges (form.token is_alignment) (token_at is_alignment)
alignment_exchanged = of_token is_alignment alignment_rule (refuses_angle is_alignment NUMBER refusal alignment_outside refl) (says_plainly (form.token is_alignment) is_alignment NUMBER alignment_inside alignment_outside refl)

pub aligned_exchanged : Exchanges aligned aligned_at
unfolding aligned aligned_at
aligned_exchanged = alt NUMBER refl (seq alignment_exchanged (λ _. nothing tt)) (group_exchanged Paren)

pub parameter_attribute_exchanged : Exchanges parameter_attribute parameter_attribute_at
unfolding parameter_attribute parameter_attribute_at
parameter_attribute_exchanged = alt PARAMETER_WORD refl parameter_word_exchanged (alt PARAMETER_GROUP refl (seq parameter_group_exchanged (λ _. group_exchanged Paren)) (seq align_exchanged (λ _. aligned_exchanged)))

pub parameter_attributes_exchanged : Exchanges parameter_attributes parameter_attributes_at
unfolding parameter_attributes parameter_attributes_at
parameter_attributes_exchanged = seq (star PARAMETER refl parameter_attribute_exchanged (taken parameter_attribute_rule)) (λ _. nothing tt)

pub word_tail_exchanged : Exchanges word_tail word_tail_at
unfolding word_tail word_tail_at
word_tail_exchanged = alt PAREN refl (group_exchanged Paren) (alt EQUALS refl (seq equals_exchanged (λ _. number_exchanged)) (nothing tt))

pub word_attribute_exchanged : (words : List ℕ) → worded words ≡ true → Exchanges (word_attribute words) (word_attribute_at words)
unfolding word_attribute word_attribute_at
word_attribute_exchanged words h = seq (word_one words word_kept h) (λ kept. seq word_tail_exchanged (λ _. nothing kept))

pub string_value_exchanged : Exchanges string_value string_value_at
unfolding string_value string_value_at
string_value_exchanged = seq equals_exchanged (λ _. string_exchanged)

pub string_tail_exchanged : Exchanges (form.◌>>=◌ (form.optional string_value) (λ _. form.gives Dropped)) (reader.◌>>=◌ (reader.optional_at (among tokens EQUALS) string_value_at) (λ _. reader.done Dropped))
string_tail_exchanged = seq (maybe EQUALS refl string_value_exchanged) (λ _. nothing Dropped)

pub string_attribute_exchanged : Exchanges string_attribute string_attribute_at
unfolding string_attribute string_attribute_at
string_attribute_exchanged = seq string_exchanged (λ _. string_tail_exchanged)

pub call_word_exchanged : Exchanges (function_attribute CALL_WORDS) (function_attribute_at CALL_WORDS)
unfolding function_attribute function_attribute_at
call_word_exchanged = alt STRING refl string_attribute_exchanged (word_attribute_exchanged CALL_WORDS refl)

pub head_word_exchanged : Exchanges (function_attribute WORDS) (function_attribute_at WORDS)
unfolding function_attribute function_attribute_at
head_word_exchanged = alt STRING refl string_attribute_exchanged (word_attribute_exchanged WORDS refl)

pub grouped_attribute_exchanged : Exchanges (function_attribute GROUP_WORDS) (function_attribute_at GROUP_WORDS)
unfolding function_attribute function_attribute_at
grouped_attribute_exchanged = alt STRING refl string_attribute_exchanged (word_attribute_exchanged GROUP_WORDS refl)

zero_named : group_named zero_group ≡ Some zero_group
unfolding group_named
zero_named = refl

zero_is : is_valued tokens refusal GROUP group_named zero_group ≡ Ok zero_group
unfolding is_valued
zero_is = ap in_range zero_named

pub group_name_exchanged : Exchanges group_name group_name_at
group_name_exchanged = valued_sample GROUP group_named zero_group zero_group zero_is group_name_real refl

pub group_attribute_exchanged : Exchanges group_attribute group_attribute_at
unfolding group_attribute group_attribute_at
group_attribute_exchanged = seq group_name_exchanged (λ _. nothing _)

pub call_attribute_exchanged : Exchanges call_attribute call_attribute_at
unfolding call_attribute call_attribute_at
call_attribute_exchanged = alt GROUP refl group_attribute_exchanged call_word_exchanged

word_called : call_attribute_at (a_word ∷ []) ≡ Ok (Dropped, [])
unfolding call_attribute_at function_attribute_at word_attribute_at word_tail_at is_among
word_called = refl

pub call_attributes_exchanged : Exchanging true call_attributes call_attributes_at
unfolding call_attributes call_attributes_at
call_attributes_exchanged = with_value (λ _. tt) (star_words CALL refl a_word refl (goes_alone call_attribute_exchanged a_word a_word_real Dropped word_called) refl call_attribute_exchanged (taken call_attribute_rule))

pub alignment_tail_exchanged : Exchanges (form.either (form.◌>>=◌ (form.token is_alignment) (λ _. form.gives tt)) word_tail) (reader.pick (among tokens NUMBER) (reader.◌>>=◌ (token_at is_alignment) (λ _. reader.done tt)) word_tail_at)
alignment_tail_exchanged = alt NUMBER refl (seq alignment_exchanged (λ _. nothing tt)) word_tail_exchanged

pub head_alignment_exchanged : Exchanges head_alignment head_alignment_at
unfolding head_alignment head_alignment_at
head_alignment_exchanged = seq align_exchanged (λ _. seq alignment_tail_exchanged (λ _. nothing Dropped))

pub head_attribute_exchanged : Exchanges head_attribute head_attribute_at
unfolding head_attribute head_attribute_at
head_attribute_exchanged = alt GROUP refl group_attribute_exchanged (alt ALIGN refl head_alignment_exchanged head_word_exchanged)

pub attached_attribute_exchanged : Exchanges attached_attribute attached_attribute_at
unfolding attached_attribute attached_attribute_at
attached_attribute_exchanged = seq attached_exchanged (λ _. nothing Dropped)

pub definition_attribute_exchanged : Exchanges definition_attribute definition_attribute_at
unfolding definition_attribute definition_attribute_at
definition_attribute_exchanged = alt META refl attached_attribute_exchanged head_attribute_exchanged

word_behind_head : definition_attribute_at (a_word ∷ []) ≡ Ok (Dropped, [])
unfolding definition_attribute_at head_attribute_at function_attribute_at word_attribute_at word_tail_at is_among
word_behind_head = refl

pub definition_attributes_exchanged : Exchanging true definition_attributes definition_attributes_at
unfolding definition_attributes definition_attributes_at
definition_attributes_exchanged = with_value (λ all. (fold with_attribute none_kept all)) (star_words DEFINITION refl a_word refl (goes_alone definition_attribute_exchanged a_word a_word_real Dropped word_behind_head) refl definition_attribute_exchanged (taken definition_attribute_rule))

word_grouped : function_attribute_at GROUP_WORDS (a_word ∷ []) ≡ Ok (Dropped, [])
unfolding function_attribute_at word_attribute_at word_tail_at is_among
word_grouped = refl

pub grouped_exchanged : Exchanging true grouped grouped_at
unfolding grouped grouped_at
grouped_exchanged = with_value (λ all. (fold with_attribute none_kept all)) (star_words GROUPED refl a_word refl (goes_alone grouped_attribute_exchanged a_word a_word_real Dropped word_grouped) refl grouped_attribute_exchanged (taken grouped_attribute_rule))

pub attribute_group_exchanged : Exchanges attribute_group attribute_group_at
unfolding attribute_group attribute_group_at
attribute_group_exchanged = seq attributes_exchanged (λ _. seq group_name_exchanged (λ name. seq equals_exchanged (λ _. seq open_brace_exchanged (λ _. seq_closing grouped_exchanged (λ kept. seq close_brace_exchanged (λ _. nothing (group_item name kept))) (λ kept t rest q. refused_class _ kinds.CloseBrace refl t rest q)))))
