-- The readers of heads of functions tell a token that is left out in some places where one that it stands for goes on.
use Rattle.std.proofs.Common.{◌≡◌, ℕ, Bool, true, false, cond, List, [], ◌∷◌, ◌++◌, Result, refl}
use Rattle.std.specs.Prelude.{codes}
use Rattle.ir_lex.specs.TokenKinds.{number}
use Rattle.ir_lex.specs.Tok.{Tok}
use Rattle.ir_lex.specs.declared.token_kind.TokenKind.TheVariants as kinds
use Rattle.ir_lex.specs.declared.token.TokenForm.TheVariants as forms
use Rattle.ir_tree.specs.declared.function.Linkage.{Linkage}
use Rattle.ir_parse_parts.specs.Alphabet.{among}
use Rattle.ir_parse_parts.specs.Chained.{Chain, chain_at}
use Rattle.ir_parse_parts.specs.Forms as form
use Rattle.ir_parse_parts.specs.Readers.{token_at}
use Rattle.ir_parse_parts.specs.Rules.{is_valued}
use Rattle.ir_parse_parts.specs.declared.fault.TokenFault.{TokenFault}
use Rattle.ir_parse_heads.specs.Attributes.{parameter_attribute}
use Rattle.ir_parse_parts.specs.Classes.{tokens, one_of, one_of_at}
use Rattle.ir_parse_heads.specs.FunctionHeads.{linkages_of, linkage_word, QUALIFIERS, nothing_of, linking, qualifying, leading, at_will, prefix, is_local, GLOBAL, NUMBERED, function_name, param, further_param, some_params, params, any_some_params, any_listed_params, any_params, head, any_head, name_refusal}
use Rattle.ir_parse_heads.specs.FunctionHeadsAt.{LEADING, linking_at, qualifier_at, qualifying_at, leading_at, begins_leading, prefix_at, function_name_at, param_at, further_param_at, params_behind_at, some_params_at, listed_params_at, params_at, head_at}
use Rattle.ir_parse_parts.specs.MetadataAt.{COMMA}
use Rattle.ir_parse_parts.specs.Operands.{LOCAL, global_named, reg_of}
use Rattle.ir_parse_parts.specs.OperandsAt.{reg_at}
use Rattle.ir_parse_heads.specs.declared.function_heads.Role.TheVariants as roles
use Rattle.ir_parse_heads.specs.declared.function_heads.Role.{Role}
use Rattle.ir_parse_heads.proofs.FunctionHeadRules.{leading_rule, named_rule, global_real, external_real, hidden_real}
use Rattle.ir_parse_parts.proofs.Singles.{sample, word}
use Rattle.ir_parse.proofs.Exchanged.{Exchanges, alt, fair, maybe, nothing, seq, taken, up_to}
use Rattle.ir_parse.proofs.ExchangedAttributes.{parameter_attribute_exchanged, parameter_attributes_exchanged}
use Rattle.ir_parse.proofs.ExchangedChains.{chain}
use Rattle.ir_parse.proofs.ExchangedOperands.{local_exchanged, reg_exchanged, result_exchanged}
use Rattle.ir_parse.proofs.ExchangedTokens.{name_valued, one_sample, plain_names}
use Rattle.ir_parse.proofs.ExchangedTypes.{Types, listed_exchanged as typed_list, type_told, types_first}
use Rattle.ir_parse.proofs.ExchangedWords.{close_paren_exchanged, comma_exchanged, open_paren_exchanged}

pub linkage_exchanged : (role : Role) → Exchanges (one_of (linkages_of role) linkage_word) (one_of_at (linkages_of role) linkage_word)
linkage_exchanged roles.Declaration = one_sample (linkages_of roles.Declaration) linkage_word (word kinds.External (codes "external")) refl external_real refl
linkage_exchanged roles.Definition = one_sample (linkages_of roles.Definition) linkage_word (word kinds.External (codes "external")) refl external_real refl

pub linking_exchanged : (role : Role) → Exchanges (linking role) (linking_at role)
unfolding linking linking_at
linking_exchanged role = seq (linkage_exchanged role) (λ _. nothing _)

pub qualifier_exchanged : Exchanges (form.either (one_of QUALIFIERS nothing_of) parameter_attribute) qualifier_at
unfolding qualifier_at
qualifier_exchanged = alt QUALIFIERS refl (one_sample QUALIFIERS nothing_of (word kinds.Visibility (codes "hidden")) refl hidden_real refl) parameter_attribute_exchanged

pub qualifying_exchanged : (linked : Bool) → Exchanges (qualifying linked) (qualifying_at linked)
unfolding qualifying qualifying_at
qualifying_exchanged linked = seq qualifier_exchanged (λ _. nothing _)

pub leading_exchanged : (role : Role) (linked : Bool) → Exchanges (leading role linked) (leading_at role linked)
leading_exchanged role true = qualifying_exchanged true
leading_exchanged roles.Declaration false = alt (linkages_of roles.Declaration) refl (linking_exchanged roles.Declaration) (qualifying_exchanged false)
leading_exchanged roles.Definition false = alt (linkages_of roles.Definition) refl (linking_exchanged roles.Definition) (qualifying_exchanged false)

leading_fair : (role : Role) (linked : Bool) → fair (LEADING role linked) ≡ true
leading_fair roles.Declaration true = refl
leading_fair roles.Declaration false = refl
leading_fair roles.Definition true = refl
leading_fair roles.Definition false = refl

pub all_leading_exchanged : (role : Role) → Exchanges (Chain at_will (leading role) false) (chain_at at_will (begins_leading role) (leading_at role) false)
all_leading_exchanged role = chain at_will (LEADING role) (leading role) (leading_at role) (leading_exchanged role) (λ s x q. taken (leading_rule role s) x q) (λ _. ([], [], (refl, refl), tt)) (λ s e. leading_fair role s) false

pub prefix_exchanged : (role : Role) → Exchanges (prefix role) (prefix_at role)
unfolding prefix prefix_at
prefix_exchanged roles.Declaration = seq (all_leading_exchanged roles.Declaration) (λ _. nothing _)
prefix_exchanged roles.Definition = seq (all_leading_exchanged roles.Definition) (λ _. nothing _)

abbrev is_name : List ℕ → Tok → Result Tok TokenFault
is_name classes = is_valued tokens name_refusal classes global_named

abbrev a_global : Tok
a_global = sample forms.Global kinds.Global (codes "@a")

named_exchanged : (classes : List ℕ) → among tokens classes a_global ≡ true → plain_names classes ≡ true → Exchanges (form.token (is_name classes)) (token_at (is_name classes))
named_exchanged classes e p = name_valued classes global_named (named_rule classes e) p a_global a_global refl e refl global_real

pub function_name_exchanged : (role : Role) (l : Linkage) → Exchanges (function_name role l) (function_name_at role l)
function_name_exchanged roles.Declaration l = named_exchanged (number kinds.LifetimeMarker ∷ GLOBAL) refl refl
function_name_exchanged roles.Definition l = by_local (is_local l)
  where
    by_local : (b : Bool) → Exchanges (form.token (is_name (cond b (NUMBERED ++ GLOBAL) GLOBAL))) (token_at (is_name (cond b (NUMBERED ++ GLOBAL) GLOBAL)))
    by_local true = named_exchanged (NUMBERED ++ GLOBAL) refl refl
    by_local false = named_exchanged GLOBAL refl refl

pub param_exchanged : Exchanges param param_at
unfolding param param_at
param_exchanged = seq reg_exchanged (λ r. seq parameter_attributes_exchanged (λ _. seq (maybe LOCAL refl local_exchanged) (λ _. nothing _)))

pub further_param_exchanged : Exchanges further_param further_param_at
unfolding further_param further_param_at
further_param_exchanged = seq comma_exchanged (λ _. param_exchanged)

pub some_params_exchanged : (room : ℕ) → Exchanges any_some_params (some_params_at room)
unfolding some_params any_some_params some_params_at params_behind_at
some_params_exchanged room = seq param_exchanged (λ _. seq (up_to COMMA refl further_param_exchanged room) (λ _. nothing _))

param_types : Types param_at
unfolding param_at
param_types = types_first reg_at (type_told reg_of) _

some_params_types : (room : ℕ) → Types (some_params_at room)
unfolding some_params_at
some_params_types room = types_first param_at param_types _

pub listed_params_exchanged : (room : ℕ) → Exchanges any_listed_params (listed_params_at room)
unfolding any_listed_params listed_params_at
listed_params_exchanged room = typed_list kinds.CloseParen refl close_paren_exchanged [] (seq (some_params_exchanged room) (λ ps. seq close_paren_exchanged (λ _. nothing ps))) (types_first (some_params_at room) (some_params_types room) _)

pub params_exchanged : (room : ℕ) → Exchanges any_params (params_at room)
unfolding params any_params params_at
params_exchanged room = seq open_paren_exchanged (λ _. listed_params_exchanged room)

pub head_exchanged : (role : Role) (room : ℕ) → Exchanges (any_head role) (head_at role room)
unfolding head any_head head_at
head_exchanged roles.Declaration room = seq (prefix_exchanged roles.Declaration) (λ l. seq result_exchanged (λ r. seq (function_name_exchanged roles.Declaration l) (λ _. seq (params_exchanged room) (λ _. nothing _))))
head_exchanged roles.Definition room = seq (prefix_exchanged roles.Definition) (λ l. seq result_exchanged (λ r. seq (function_name_exchanged roles.Definition l) (λ _. seq (params_exchanged room) (λ _. nothing _))))
