-- The first fault of the readers of heads of functions is of a kind that its token allows.
use Rattle.ir_parse.proofs.Told.{Tells, takes_of, seq, nothing, alt, many, maybe, class, valued, chain, the_told, one_told, type_refusal_refuses, name_refusal_refuses}
use Rattle.std.specs.Prelude.{ℕ, Bool, true, false, List, [], ◌∷◌, ◌++◌}
use Rattle.ir_lex.specs.declared.token_kind.TokenKind.TheVariants as kinds
use Rattle.ir_lex.specs.TokenKinds.{number}
use Rattle.ir_tree.specs.declared.function.Linkage.{Linkage}
use Rattle.ir_parse_parts.specs.Alphabet.{among}
use Rattle.ir_parse.proofs.ToldAttributes.{parameter_attribute_told, parameter_attributes_told}
use Rattle.ir_parse_parts.specs.Classes.{tokens}
use Rattle.ir_parse_heads.specs.FunctionHeads.{linkages_of, linkage_word, QUALIFIERS, nothing_of, at_will, names_of, name_refusal, NUMBERED, GLOBAL, is_local}
use Rattle.ir_parse_parts.specs.MetadataAt.{COMMA}
use Rattle.ir_parse_parts.specs.Operands.{REG, LOCAL, global_named, type_refusal}
use Rattle.ir_parse.proofs.ToldOperands.{reg_told, result_told, local_told}
use Rattle.ir_parse_heads.specs.declared.function_heads.Role.{Role}
use Rattle.ir_parse_parts.specs.declared.raw.Param.{Param}
use Rattle.ir_parse_heads.specs.FunctionHeadsAt.{linking_at, qualifier_at, qualifying_at, leading_at, begins_leading, prefix_at, function_name_at, param_at, further_param_at, params_behind_at, some_params_at, end_of_none_at, listed_params_at, params_at, head_at}
use Rattle.ir_parse_heads.proofs.FunctionHeadRules.{leading_rule}
use Rattle.ir_parse_parts.specs.Rules.{disjoint}
use Rattle.std.proofs.Common.{Bool, true, false, cond, ◌≡◌, refl}
use Rattle.ir_parse_heads.specs.declared.function_heads.Role.TheVariants as roles
use Rattle.ir_parse.specs.Refusals.{REFUSED_EVERYWHERE}

pub linking_told : (role : Role) → Tells (linking_at role)
unfolding linking_at
linking_told role = seq (one_told (linkages_of role) linkage_word) (λ l. nothing _)

pub qualifier_told : Tells qualifier_at
unfolding qualifier_at
qualifier_told = alt (among tokens QUALIFIERS) (one_told QUALIFIERS nothing_of) parameter_attribute_told

pub qualifying_told : (linked : Bool) → Tells (qualifying_at linked)
unfolding qualifying_at
qualifying_told linked = seq qualifier_told (λ _. nothing _)

pub leading_told : (role : Role) → (x1 : Bool) → Tells (leading_at role x1)
leading_told role true = qualifying_told true
leading_told role false = alt (among tokens (linkages_of role)) (linking_told role) (qualifying_told false)

pub prefix_told : (role : Role) → Tells (prefix_at role)
unfolding prefix_at
prefix_told role = seq (chain at_will (begins_leading role) (λ s. leading_told role s) (λ s. takes_of (leading_rule role s)) false) (λ all. nothing _)

names_of_apart : (role : Role) (l : Linkage) → disjoint (names_of role l) REFUSED_EVERYWHERE ≡ true
names_of_apart roles.Declaration l = refl
names_of_apart roles.Definition l = by_test (is_local l)
  where
    by_test : (b : Bool) → disjoint (cond b (NUMBERED ++ GLOBAL) GLOBAL) REFUSED_EVERYWHERE ≡ true
    by_test true = refl
    by_test false = refl

pub function_name_told : (role : Role) → (l : Linkage) → Tells (function_name_at role l)
function_name_told role l = valued name_refusal name_refusal_refuses (names_of role l) (names_of_apart role l) global_named

pub param_told : Tells param_at
unfolding param_at
param_told = seq reg_told (λ r. seq parameter_attributes_told (λ _. seq (maybe (among tokens LOCAL) local_told) (λ name. nothing _)))

pub further_param_told : Tells further_param_at
unfolding further_param_at
further_param_told = seq (the_told kinds.Comma) (λ _. param_told)

pub params_behind_told : (room : ℕ) → (front : List Param) → Tells (params_behind_at room front)
unfolding params_behind_at
params_behind_told room front = seq (many COMMA refl further_param_told room) (λ more. nothing _)

pub some_params_told : (room : ℕ) → Tells (some_params_at room)
unfolding some_params_at
some_params_told room = seq param_told (λ first. params_behind_told room (first ∷ []))

pub end_of_none_told : Tells end_of_none_at
end_of_none_told = class type_refusal type_refusal_refuses (number kinds.CloseParen)

pub listed_params_told : (room : ℕ) → Tells (listed_params_at room)
unfolding listed_params_at
listed_params_told room =
    alt (among tokens REG) (seq (some_params_told room) (λ ps. seq (the_told kinds.CloseParen) (λ _. nothing _))) (seq end_of_none_told (λ _. nothing _))

pub params_told : (room : ℕ) → Tells (params_at room)
unfolding params_at
params_told room = seq (the_told kinds.OpenParen) (λ _. listed_params_told room)

pub head_told : (role : Role) → (room : ℕ) → Tells (head_at role room)
unfolding head_at
head_told role room =
    seq (prefix_told role) (λ l. seq result_told (λ r. seq (function_name_told role l) (λ name. seq (params_told room) (λ ps. nothing _))))
