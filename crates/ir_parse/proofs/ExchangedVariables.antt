-- The readers of variables tell a token that is left out in some places where one that it stands for goes on.
use Rattle.std.proofs.Common.{Bool, true, false, Option, None, refl}
use Rattle.std.specs.Prelude.{codes}
use Rattle.ir_lex.specs.Tok.{Tok}
use Rattle.ir_lex.specs.declared.token_kind.TokenKind.TheVariants as kinds
use Rattle.ir_lex.specs.declared.token.TokenForm.TheVariants as forms
use Rattle.ir_tree.specs.declared.function.Linkage.{Linkage}
use Rattle.ir_tree.specs.declared.operand.Reg.{Reg}
use Rattle.ir_parse_parts.specs.Alphabet.{among}
use Rattle.ir_parse_parts.specs.Forms as form
use Rattle.ir_parse_parts.specs.Readers as reader
use Rattle.ir_parse_parts.specs.Readers.{pick}
use Rattle.ir_parse_parts.specs.Rules.{is_class}
use Rattle.ir_parse_parts.specs.Classes.{tokens, the, the_at, one_of, one_of_at}
use Rattle.ir_parse_heads.specs.FunctionHeads.{LINKAGES, linkage_word, QUALIFIERS, nothing_of}
use Rattle.ir_parse_operands.specs.AlignmentsAt.{ALIGN}
use Rattle.ir_parse_parts.specs.MetadataAt.{COMMA, PAREN}
use Rattle.ir_parse_parts.specs.Operands.{global_named}
use Rattle.ir_parse_operands.specs.ShapeForms.{any_shape}
use Rattle.ir_parse_heads.proofs.FunctionHeadRules.{external_real, named_rule, global_real}
use Rattle.ir_parse_parts.proofs.Singles.{sample, word, the_rule}
use Rattle.ir_parse_globals.specs.Initialisers.{scalar_of}
use Rattle.ir_parse_globals.specs.Variables.{NAMES, any_variable_name, qualifiers, linked, KINDS, is_constant, is_declared, value, comdat_name, in_comdat, aligned, marked, further, tail, behind_kind, variable_line}
use Rattle.ir_parse_globals.specs.VariablesAt.{variable_name_at, qualifiers_at, linked_at, value_at, comdat_name_at, in_comdat_at, aligned_at, marked_at, COMDAT, further_at, tail_at, behind_kind_at, variable_line_at}
use Rattle.ir_parse_globals.proofs.VariableRules.{any_name, comdat_real, constant_real, further_rule, named_comdat_real, qualifier_word_rule}
use Rattle.ir_parse.proofs.Exchanged.{Exchanges, alt, maybe, nothing, recast, seq, star, taken}
use Rattle.ir_parse.proofs.ExchangedAttributes.{alignment_exchanged}
use Rattle.ir_parse.proofs.ExchangedInitialisers.{initialiser_exchanged}
use Rattle.ir_parse.proofs.ExchangedNodes.{attached_exchanged}
use Rattle.ir_parse.proofs.ExchangedShapes.{memory_shape_exchanged}
use Rattle.ir_parse.proofs.ExchangedTokens.{name_valued, one_sample, plain_class, plain_one}
use Rattle.ir_parse.proofs.ExchangedWords.{align_exchanged, close_paren_exchanged, comma_exchanged, equals_exchanged, open_paren_exchanged}

abbrev a_global : Tok
a_global = sample forms.Global kinds.Global (codes "@a")

pub variable_name_exchanged : Exchanges any_variable_name variable_name_at
variable_name_exchanged = recast any_name (name_valued NAMES global_named (named_rule NAMES refl) refl a_global a_global refl refl refl global_real)

pub linkage_word_exchanged : Exchanges (one_of LINKAGES linkage_word) (one_of_at LINKAGES linkage_word)
linkage_word_exchanged = one_sample LINKAGES linkage_word (word kinds.External (codes "external")) refl external_real refl

pub qualifier_word_exchanged : Exchanges (one_of QUALIFIERS nothing_of) (one_of_at QUALIFIERS nothing_of)
qualifier_word_exchanged = plain_one QUALIFIERS nothing_of qualifier_word_rule refl

pub qualifiers_exchanged : Exchanges qualifiers qualifiers_at
unfolding qualifiers qualifiers_at
qualifiers_exchanged = seq (star QUALIFIERS refl qualifier_word_exchanged (taken qualifier_word_rule)) (λ _. nothing tt)

pub linked_exchanged : Exchanges linked linked_at
unfolding linked linked_at
linked_exchanged = seq (maybe LINKAGES refl linkage_word_exchanged) (λ l. seq qualifiers_exchanged (λ _. nothing l))

pub kind_exchanged : Exchanges (one_of KINDS is_constant) (one_of_at KINDS is_constant)
kind_exchanged = one_sample KINDS is_constant (word kinds.GlobalVariable (codes "global")) refl constant_real refl

pub value_exchanged : (declared : Bool) (scalar : Option Reg) → Exchanges (value any_shape declared scalar) (value_at declared scalar)
value_exchanged true scalar = nothing None
value_exchanged false scalar = seq (initialiser_exchanged scalar) (λ _. nothing _)

pub comdat_exchanged : Exchanges (the kinds.Comdat) (the_at kinds.Comdat)
unfolding is_class
comdat_exchanged = plain_class kinds.Comdat (the_rule kinds.Comdat (word kinds.Comdat (codes "comdat")) refl comdat_real) refl

pub named_comdat_exchanged : Exchanges (the kinds.ComdatName) (the_at kinds.ComdatName)
unfolding is_class
named_comdat_exchanged = plain_class kinds.ComdatName (the_rule kinds.ComdatName (sample forms.Comdat kinds.ComdatName (codes "$a")) refl named_comdat_real) refl

pub comdat_name_exchanged : Exchanges comdat_name comdat_name_at
unfolding comdat_name comdat_name_at
comdat_name_exchanged = seq open_paren_exchanged (λ _. seq named_comdat_exchanged (λ _. close_paren_exchanged))

pub in_comdat_exchanged : Exchanges in_comdat in_comdat_at
unfolding in_comdat in_comdat_at
in_comdat_exchanged = seq comdat_exchanged (λ _. seq (maybe PAREN refl comdat_name_exchanged) (λ _. nothing _))

pub aligned_exchanged : Exchanges aligned aligned_at
unfolding aligned aligned_at
aligned_exchanged = seq align_exchanged (λ _. seq alignment_exchanged (λ _. nothing _))

pub marked_exchanged : Exchanges marked marked_at
unfolding marked marked_at
marked_exchanged = seq attached_exchanged (λ _. nothing _)

pub further_choice_exchanged : Exchanges (form.either in_comdat (form.either aligned marked)) (reader.pick (among tokens COMDAT) in_comdat_at (reader.pick (among tokens ALIGN) aligned_at marked_at))
further_choice_exchanged = alt COMDAT refl in_comdat_exchanged (alt ALIGN refl aligned_exchanged marked_exchanged)

pub further_exchanged : Exchanges further further_at
unfolding further further_at
further_exchanged = seq comma_exchanged (λ _. further_choice_exchanged)

pub tail_exchanged : Exchanges tail tail_at
unfolding tail tail_at
tail_exchanged = seq (star COMMA refl further_exchanged (taken further_rule)) (λ _. nothing _)

pub behind_kind_exchanged : (name : Tok) (l : Option Linkage) (constant : Bool) → Exchanges (behind_kind any_shape name l constant) (behind_kind_at name l constant)
unfolding behind_kind behind_kind_at
behind_kind_exchanged name l constant = seq memory_shape_exchanged (λ typed. seq (value_exchanged (is_declared l) (scalar_of typed.shape)) (λ _. seq tail_exchanged (λ _. nothing _)))

pub variable_line_exchanged : Exchanges (variable_line any_variable_name any_shape) variable_line_at
unfolding variable_line variable_line_at
variable_line_exchanged = seq variable_name_exchanged (λ name. seq equals_exchanged (λ _. seq linked_exchanged (λ l. seq kind_exchanged (λ constant. behind_kind_exchanged name l constant))))
