-- The readers of heads of functions read them.
use Rattle.std.proofs.Common.{◌≡◌, ℕ, Bool, true, false, cond, Option, Some, None, List, [], ◌∷◌, ◌++◌, Result, refl, sym, ap}
use Rattle.std.specs.Prelude.{codes}
use Rattle.ir_lex.specs.Bytes.{has}
use Rattle.ir_lex.specs.declared.token_kind.TokenKind.TheVariants as kinds
use Rattle.ir_lex.specs.declared.token.TokenForm.TheVariants as forms
use Rattle.ir_lex.specs.TokenKinds.{number, kind_of, word_kind, listed_kind, words_6, words_8, global_kind, name_kind, is_numbered}
use Rattle.ir_lex.specs.Lexing.{is_bad}
use Rattle.ir_lex.specs.Quotes.{is_zero_name, content, unescaped}
use Rattle.ir_lex.specs.Rows.{best_fit, rest_fit, label_len, number_len, word_len, name_len, meta_len, dots_len, other_len, string_len}
use Rattle.ir_lex.specs.Tok.{Tok}
use Rattle.ir_tree.specs.declared.function.Linkage.{Linkage}
use Rattle.ir_tree.specs.declared.function.Linkage.TheVariants as linkages
use Rattle.ir_parse_parts.specs.Alphabet.{contains, among}
use Rattle.ir_parse_parts.specs.Chained.{Chain, chain_at}
use Rattle.ir_parse_parts.specs.declared.fault.TokenFault.{TokenFault}
use Rattle.ir_parse_parts.specs.declared.fault.TokenFault.TheVariants.{Profile, Number, Limit}
use Rattle.ir_parse_parts.specs.Forms as form
use Rattle.ir_parse_parts.specs.Readers as reader
use Rattle.ir_parse_parts.specs.Rules.{Rule, Opens, is_class, is_valued, subset}
use Rattle.ir_parse_parts.proofs.Chains.{chain_lawful}
use Rattle.ir_parse_parts.proofs.Rules as rules
use Rattle.ir_parse_parts.proofs.Rules.{apart_from, within_of}
use Rattle.ir_parse_heads.specs.Attributes.{parameter_attribute}
use Rattle.ir_parse_heads.specs.AttributesAt.{PARAMETER, parameter_attribute_at}
use Rattle.ir_parse_parts.specs.Classes.{tokens, IsReal, refusal, the, one_of, one_of_at}
use Rattle.ir_parse_heads.specs.declared.function_heads.Role.{Role}
use Rattle.ir_parse_heads.specs.declared.function_heads.Role.TheVariants as roles
use Rattle.ir_parse_heads.specs.FunctionHeads.{LINKAGES, linkages_of, linkage_word, QUALIFIERS, nothing_of, linking, qualifying, leading, at_will, prefix, is_local, GLOBAL, NUMBERED, names_of, name_refusal, function_name, param, further_param, some_params, end_of_none, listed_params, params, any_some_params, any_listed_params, any_params, head, any_head}
use Rattle.ir_parse_heads.specs.FunctionHeadsAt.{QUALIFYING, LEADING, linking_at, qualifier_at, qualifying_at, leading_at, begins_leading, prefix_at, function_name_at, param_at, further_param_at, params_behind_at, some_params_at, end_of_none_at, listed_params_at, params_at, head_at}
use Rattle.ir_parse_parts.specs.MetadataAt.{COMMA}
use Rattle.ir_parse_parts.specs.Operands.{REG, LOCAL, RESULT, global_named, type_refusal}
use Rattle.ir_parse_heads.proofs.AttributeRules.{parameter_attribute_rule, parameter_attributes_rule}
use Rattle.ir_parse_parts.proofs.OperandRules.{type_not_number, type_not_limit, reg_rule, result_rule, local_rule, global_within}
use Rattle.ir_parse_parts.proofs.Singles.{sample, word, mark, not_number, not_limit, the_opens, one_rule, comma_rule, open_paren_rule, close_paren_rule, close_paren_real}

-- ---- before the result

pub external_real : IsReal (word kinds.External (codes "external"))
unfolding best_fit rest_fit label_len number_len word_len name_len meta_len dots_len other_len string_len has is_bad is_zero_name kind_of word_kind listed_kind words_8
external_real = record { behind = []; some = refl; fits = refl; good = refl; class = refl }

pub hidden_real : IsReal (word kinds.Visibility (codes "hidden"))
unfolding best_fit rest_fit label_len number_len word_len name_len meta_len dots_len other_len string_len has is_bad is_zero_name kind_of word_kind listed_kind words_6
hidden_real = record { behind = []; some = refl; fits = refl; good = refl; class = refl }

is_external : (role : Role) → among tokens (linkages_of role) (word kinds.External (codes "external")) ≡ true
is_external roles.Declaration = refl
is_external roles.Definition = refl

linkage_rule : (role : Role) → Rule tokens (one_of (linkages_of role) linkage_word) (one_of (linkages_of role) linkage_word) (one_of_at (linkages_of role) linkage_word) (linkages_of role) [] false
linkage_rule role = one_rule (linkages_of role) linkage_word (word kinds.External (codes "external")) (is_external role) external_real

linking_rule : (role : Role) → Rule tokens (linking role) (linking role) (linking_at role) (linkages_of role ++ []) [] false
unfolding linking linking_at
linking_rule role = rules.seq tokens (linkage_rule role) (λ _. rules.nothing tokens _) refl

pub qualifier_rule : Rule tokens (form.either (one_of QUALIFIERS nothing_of) parameter_attribute) (form.either (one_of QUALIFIERS nothing_of) parameter_attribute) qualifier_at QUALIFYING [] false
unfolding qualifier_at
qualifier_rule = rules.alt tokens QUALIFIERS (one_rule QUALIFIERS nothing_of (word kinds.Visibility (codes "hidden")) refl hidden_real) parameter_attribute_rule refl refl

qualifying_rule : (linked : Bool) → Rule tokens (qualifying linked) (qualifying linked) (qualifying_at linked) QUALIFYING [] false
unfolding qualifying qualifying_at
qualifying_rule linked = rules.seq tokens qualifier_rule (λ _. rules.nothing tokens _) refl

pub leading_rule : (role : Role) (linked : Bool) → Rule tokens (leading role linked) (leading role linked) (leading_at role linked) (LEADING role linked) [] false
leading_rule role true = qualifying_rule true
leading_rule roles.Declaration false = rules.broader tokens _ [] (rules.alt tokens (linkages_of roles.Declaration) (linking_rule roles.Declaration) (qualifying_rule false) refl refl) refl refl
leading_rule roles.Definition false = rules.broader tokens _ [] (rules.alt tokens (linkages_of roles.Definition) (linking_rule roles.Definition) (qualifying_rule false) refl refl) refl refl

fewer : (role : Role) (linked : Bool) → subset (LEADING role linked) (LEADING role false) ≡ true
fewer roles.Declaration true = refl
fewer roles.Declaration false = refl
fewer roles.Definition true = refl
fewer roles.Definition false = refl

all_leading_rule : (role : Role) → Rule tokens (Chain at_will (leading role) false) (Chain at_will (leading role) false) (chain_at at_will (begins_leading role) (leading_at role) false) (LEADING role false) (LEADING role false) true
all_leading_rule role = record {
  law = chain_lawful tokens at_will (begins_leading role) (begins_leading role) (λ _. among tokens []) (among tokens (LEADING role false)) (leading role) (leading role) (leading_at role) (λ s. (leading_rule role s).law) (λ s t u n m. ap (contains (LEADING role s)) (sym m)) (λ s t d e. e)
      (λ s next front a g t p q. apart_from [] (LEADING role next) refl (number t.kind) p q)
      (λ s t p. within_of [] (LEADING role false) refl (number t.kind) p)
      (λ s t d p. within_of (LEADING role s) (LEADING role false) (fewer role s) (number t.kind) p)
      (λ s. ([], [], (refl, refl), tt)) false;
}

pub prefix_rule : (role : Role) → Rule tokens (prefix role) (prefix role) (prefix_at role) (LEADING role false) (LEADING role false) true
unfolding prefix prefix_at
prefix_rule roles.Declaration = rules.broader tokens _ _ (rules.seq tokens (all_leading_rule roles.Declaration) (λ _. rules.nothing tokens _) refl) refl refl
prefix_rule roles.Definition = rules.broader tokens _ _ (rules.seq tokens (all_leading_rule roles.Definition) (λ _. rules.nothing tokens _) refl) refl refl

-- ---- names

pub global_real : IsReal (sample forms.Global kinds.Global (codes "@a"))
unfolding best_fit rest_fit label_len number_len word_len name_len meta_len dots_len other_len string_len has is_bad is_zero_name kind_of global_kind name_kind content unescaped
global_real = record { behind = []; some = refl; fits = refl; good = refl; class = refl }

abbrev by_numbered : Bool → TokenFault → TokenFault
by_numbered b k = cond b Profile k

neither : (b : Bool) (k l : TokenFault) → (Profile ≡ l → ⊥) → (k ≡ l → ⊥) → by_numbered b k ≡ l → ⊥
neither true k l p q e = p e
neither false k l p q e = q e

pub name_not_number : (n : ℕ) → name_refusal n ≡ Number → ⊥
name_not_number n e = neither (contains NUMBERED n) (refusal n) Number (λ x. cc) (not_number n) e

pub name_not_limit : (n : ℕ) → name_refusal n ≡ Limit → ⊥
name_not_limit n e = neither (contains NUMBERED n) (refusal n) Limit (λ x. cc) (not_limit n) e

-- what may name a function
abbrev pub NAMES : List ℕ
NAMES = number kinds.LifetimeMarker ∷ NUMBERED ++ GLOBAL

abbrev is_name : List ℕ → Tok → Result Tok TokenFault
is_name classes = is_valued tokens name_refusal classes global_named

pub named_rule : (classes : List ℕ) → among tokens classes (sample forms.Global kinds.Global (codes "@a")) ≡ true → Rule tokens (form.token (is_name classes)) (form.token (is_name classes)) (reader.token_at (is_name classes)) classes [] false
named_rule classes e = rules.valued_rule tokens name_refusal name_not_number name_not_limit classes global_named (λ t p q. global_within classes t.kind t refl q) (sample forms.Global kinds.Global (codes "@a")) (sample forms.Global kinds.Global (codes "@a")) e refl global_real

pub function_name_rule : (role : Role) (l : Linkage) → Rule tokens (function_name role l) (function_name role l) (function_name_at role l) NAMES [] false
function_name_rule roles.Declaration l = rules.broader tokens NAMES [] (named_rule (number kinds.LifetimeMarker ∷ GLOBAL) refl) refl refl
function_name_rule roles.Definition l = by_local (is_local l)
  where
    by_local : (b : Bool) → Rule tokens (form.token (is_name (cond b (NUMBERED ++ GLOBAL) GLOBAL))) (form.token (is_name (cond b (NUMBERED ++ GLOBAL) GLOBAL))) (reader.token_at (is_name (cond b (NUMBERED ++ GLOBAL) GLOBAL))) NAMES [] false
    by_local true = rules.broader tokens NAMES [] (named_rule (NUMBERED ++ GLOBAL) refl) refl refl
    by_local false = rules.broader tokens NAMES [] (named_rule GLOBAL refl) refl refl

-- ---- parameters

-- what may go on behind a parameter
abbrev pub BEHIND_PARAM : List ℕ
BEHIND_PARAM = PARAMETER ++ LOCAL

pub param_rule : Rule tokens param param param_at REG BEHIND_PARAM false
unfolding param param_at
param_rule = rules.broader tokens REG BEHIND_PARAM (rules.seq tokens reg_rule (λ r. rules.seq tokens parameter_attributes_rule (λ _. rules.seq tokens (rules.maybe tokens LOCAL local_rule refl) (λ _. rules.nothing tokens _) refl) refl) refl) refl refl

pub further_param_rule : Rule tokens further_param further_param further_param_at COMMA BEHIND_PARAM false
unfolding further_param further_param_at
further_param_rule = rules.seq tokens comma_rule (λ _. param_rule) refl

further_param_opens : Opens tokens COMMA further_param
unfolding further_param
further_param_opens = rules.opens_seq tokens COMMA (the kinds.Comma) (the_opens kinds.Comma) (λ _. param_rule)

some_params_rule : (room : ℕ) → Rule tokens (some_params room) any_some_params (some_params_at room) REG (BEHIND_PARAM ++ COMMA) false
unfolding some_params any_some_params some_params_at params_behind_at
some_params_rule room = rules.broader tokens REG (BEHIND_PARAM ++ COMMA) (rules.seq tokens param_rule (λ _. rules.seq tokens (rules.many tokens COMMA room further_param_rule further_param_opens refl refl) (λ _. rules.nothing tokens _) refl) refl) refl refl

end_of_none_rule : Rule tokens end_of_none end_of_none end_of_none_at (number kinds.CloseParen ∷ []) [] false
unfolding is_class
end_of_none_rule = rules.class_rule tokens type_refusal type_not_number type_not_limit (number kinds.CloseParen) (mark kinds.CloseParen (codes ")")) refl close_paren_real

pub listed_params_rule : (room : ℕ) → Rule tokens (listed_params room) any_listed_params (listed_params_at room) (number kinds.CloseParen ∷ REG) [] false
unfolding listed_params any_listed_params listed_params_at
listed_params_rule room = rules.broader tokens _ [] (rules.alt tokens REG (rules.seq tokens (some_params_rule room) (λ _. rules.seq tokens close_paren_rule (λ _. rules.nothing tokens _) refl) refl) (rules.seq tokens end_of_none_rule (λ _. rules.nothing tokens _) refl) refl refl) refl refl

pub params_rule : (room : ℕ) → Rule tokens (params room) any_params (params_at room) (number kinds.OpenParen ∷ []) [] false
unfolding params any_params params_at
params_rule room = rules.seq tokens open_paren_rule (λ _. listed_params_rule room) refl

-- ---- heads

-- what a head may begin with
abbrev pub HEADED : Role → List ℕ
HEADED role = LEADING role false ++ RESULT

pub head_rule : (role : Role) (room : ℕ) → Rule tokens (head role room) (any_head role) (head_at role room) (HEADED role) [] false
unfolding head any_head head_at
head_rule roles.Declaration room = rules.broader tokens _ [] (rules.seq tokens (prefix_rule roles.Declaration) (λ l. rules.seq tokens result_rule (λ r. rules.seq tokens (function_name_rule roles.Declaration l) (λ _. rules.seq tokens (params_rule room) (λ _. rules.nothing tokens _) refl) refl) refl) refl) refl refl
head_rule roles.Definition room = rules.broader tokens _ [] (rules.seq tokens (prefix_rule roles.Definition) (λ l. rules.seq tokens result_rule (λ r. rules.seq tokens (function_name_rule roles.Definition l) (λ _. rules.seq tokens (params_rule room) (λ _. rules.nothing tokens _) refl) refl) refl) refl) refl refl
