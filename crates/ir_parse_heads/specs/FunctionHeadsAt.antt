-- What the readers of heads of functions give.
use Rattle.std.specs.Prelude.{ℕ, Bool, true, false, Option, Some, None, List, [], ◌∷◌, ◌++◌}
use Rattle.std.specs.List.{fold}
use Rattle.ir_lex.specs.declared.token_kind.TokenKind.TheVariants as kinds
use Rattle.ir_lex.specs.TokenKinds.{number}
use Rattle.ir_lex.specs.Tok.{Tok}
use Rattle.ir_tree.specs.declared.function.Linkage.{Linkage}
use Rattle.ir_tree.specs.declared.function.Linkage.TheVariants as linkages
use Rattle.ir_parse_parts.specs.Alphabet.{among}
use Rattle.ir_parse_parts.specs.Chained.{chain_at}
use Rattle.ir_parse_parts.specs.Readers.{Reader, ◌>>=◌, done, pick, many_at, optional_at, token_at}
use Rattle.ir_parse_parts.specs.Rules.{is_class, is_valued}
use Rattle.ir_parse_heads.specs.AttributesAt.{PARAMETER, parameter_attribute_at, parameter_attributes_at}
use Rattle.ir_parse_parts.specs.Classes.{tokens, the_at, one_of_at}
use Rattle.ir_parse_heads.specs.FunctionHeads.{linkages_of, linkage_word, QUALIFIERS, nothing_of, at_will, with_linkage, names_of, name_refusal, head_of}
use Rattle.ir_parse_parts.specs.MetadataAt.{COMMA}
use Rattle.ir_parse_parts.specs.Operands.{REG, LOCAL, global_named, type_refusal}
use Rattle.ir_parse_parts.specs.OperandsAt.{reg_at, result_at, local_at}
use Rattle.ir_parse_heads.specs.declared.function_heads.Role.{Role}
use Rattle.ir_parse_parts.specs.declared.raw.FunctionHeader.{FunctionHeader}
use Rattle.ir_parse_parts.specs.declared.raw.Param.{Param}

abbrev pub QUALIFYING : List ℕ
QUALIFYING = QUALIFIERS ++ PARAMETER

-- what may stand before the result, with a linkage before or not
abbrev pub LEADING : Role → Bool → List ℕ
LEADING role true = QUALIFYING
LEADING role false = linkages_of role ++ QUALIFYING

unfoldable pub linking_at : Role → Reader Tok (Option Linkage × Bool)
linking_at role = do
  l ← one_of_at (linkages_of role) linkage_word
  done (Some l, true)

unfoldable pub qualifier_at : Reader Tok (Unit {0})
qualifier_at = pick (among tokens QUALIFIERS) (one_of_at QUALIFIERS nothing_of) parameter_attribute_at

unfoldable pub qualifying_at : Bool → Reader Tok (Option Linkage × Bool)
qualifying_at linked = do
  _ ← qualifier_at
  done (None, linked)

abbrev pub leading_at : Role → Bool → Reader Tok (Option Linkage × Bool)
leading_at role true = qualifying_at true
leading_at role false = pick (among tokens (linkages_of role)) (linking_at role) (qualifying_at false)

abbrev pub begins_leading : Role → Bool → Tok → Bool
begins_leading role linked = among tokens (LEADING role linked)

unfoldable pub prefix_at : Role → Reader Tok Linkage
prefix_at role = do
  all ← chain_at at_will (begins_leading role) (leading_at role) false
  done (fold with_linkage linkages.External all)

abbrev pub function_name_at : Role → Linkage → Reader Tok Tok
function_name_at role l = token_at (is_valued tokens name_refusal (names_of role l) global_named)

unfoldable pub param_at : Reader Tok Param
param_at = do
  r ← reg_at
  _ ← parameter_attributes_at
  name ← optional_at (among tokens LOCAL) local_at
  done (record { reg = r; name = name })

unfoldable pub further_param_at : Reader Tok Param
further_param_at = do
  _ ← the_at kinds.Comma
  param_at

-- those behind some
unfoldable pub params_behind_at : ℕ → List Param → Reader Tok (List Param)
params_behind_at room front = do
  more ← many_at (among tokens COMMA) further_param_at room
  done (front ++ more)

unfoldable pub some_params_at : ℕ → Reader Tok (List Param)
some_params_at room = do
  first ← param_at
  params_behind_at room (first ∷ [])

abbrev pub end_of_none_at : Reader Tok (Unit {0})
end_of_none_at = token_at (is_class tokens type_refusal (number kinds.CloseParen))

unfoldable pub listed_params_at : ℕ → Reader Tok (List Param)
listed_params_at room = pick (among tokens REG)
    (do
      ps ← some_params_at room
      _ ← the_at kinds.CloseParen
      done ps)
    (do
      _ ← end_of_none_at
      done [])

unfoldable pub params_at : ℕ → Reader Tok (List Param)
params_at room = do
  _ ← the_at kinds.OpenParen
  listed_params_at room

unfoldable pub head_at : Role → ℕ → Reader Tok FunctionHeader
head_at role room = do
  l ← prefix_at role
  r ← result_at
  name ← function_name_at role l
  ps ← params_at room
  done (head_of l r name ps)
