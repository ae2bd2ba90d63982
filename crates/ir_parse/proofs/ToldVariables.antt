-- The first fault of the readers of variables is of a kind that its token allows.
use Rattle.ir_parse.proofs.Told.{Tells, seq, nothing, alt, star, maybe, single, valued, the_told, one_told, name_refusal_refuses, is_alignment_allowed}
use Rattle.std.specs.Prelude.{Bool, true, false, Option}
use Rattle.ir_lex.specs.declared.token_kind.TokenKind.TheVariants as kinds
use Rattle.ir_lex.specs.Tok.{Tok}
use Rattle.ir_tree.specs.declared.function.Linkage.{Linkage}
use Rattle.ir_tree.specs.declared.operand.Reg.{Reg}
use Rattle.ir_parse_parts.specs.Alphabet.{among}
use Rattle.ir_parse_parts.specs.Classes.{tokens}
use Rattle.ir_parse_parts.specs.Decimals.{is_alignment}
use Rattle.ir_parse_heads.specs.FunctionHeads.{LINKAGES, linkage_word, QUALIFIERS, nothing_of, name_refusal}
use Rattle.ir_parse_operands.specs.AlignmentsAt.{ALIGN}
use Rattle.ir_parse_parts.specs.MetadataAt.{COMMA, PAREN}
use Rattle.ir_parse.proofs.ToldMetadata.{attached_told}
use Rattle.ir_parse_parts.specs.Operands.{global_named}
use Rattle.ir_parse.proofs.ToldShapeForms.{memory_shape_told}
use Rattle.ir_parse_globals.specs.Initialisers.{scalar_of}
use Rattle.ir_parse.proofs.ToldInitialisers.{initialiser_told}
use Rattle.ir_parse_globals.specs.Variables.{NAMES, KINDS, is_constant, is_declared}
use Rattle.ir_parse_globals.specs.VariablesAt.{variable_name_at, linkage_at, qualifiers_at, linked_at, value_at, comdat_name_at, in_comdat_at, aligned_at, marked_at, COMDAT, further_at, tail_at, behind_kind_at, variable_line_at}
use Rattle.std.proofs.Common.{refl}

pub variable_name_told : Tells variable_name_at
variable_name_told = valued name_refusal name_refusal_refuses NAMES refl global_named

pub linkage_told : Tells linkage_at
linkage_told = maybe (among tokens LINKAGES) (one_told LINKAGES linkage_word)

pub qualifiers_told : Tells qualifiers_at
unfolding qualifiers_at
qualifiers_told = seq (star QUALIFIERS refl (one_told QUALIFIERS nothing_of)) (λ _. nothing _)

pub linked_told : Tells linked_at
unfolding linked_at
linked_told = seq linkage_told (λ l. seq qualifiers_told (λ _. nothing _))

pub value_told : (x0 : Bool) → (scalar : Option Reg) → Tells (value_at x0 scalar)
value_told true scalar = nothing _
value_told false scalar = seq (initialiser_told scalar) (λ i. nothing _)

pub comdat_name_told : Tells comdat_name_at
unfolding comdat_name_at
comdat_name_told = seq (the_told kinds.OpenParen) (λ _. seq (the_told kinds.ComdatName) (λ _. the_told kinds.CloseParen))

pub in_comdat_told : Tells in_comdat_at
unfolding in_comdat_at
in_comdat_told = seq (the_told kinds.Comdat) (λ _. seq (maybe (among tokens PAREN) comdat_name_told) (λ _. nothing _))

pub aligned_told : Tells aligned_at
unfolding aligned_at
aligned_told = seq (the_told kinds.Align) (λ _. seq (single is_alignment is_alignment_allowed) (λ n. nothing _))

pub marked_told : Tells marked_at
unfolding marked_at
marked_told = seq attached_told (λ _. nothing _)

pub further_told : Tells further_at
unfolding further_at
further_told = seq (the_told kinds.Comma) (λ _. alt (among tokens COMDAT) in_comdat_told (alt (among tokens ALIGN) aligned_told marked_told))

pub tail_told : Tells tail_at
unfolding tail_at
tail_told = seq (star COMMA refl further_told) (λ all. nothing _)

pub behind_kind_told : (name : Tok) → (l : Option Linkage) → (constant : Bool) → Tells (behind_kind_at name l constant)
unfolding behind_kind_at
behind_kind_told name l constant =
    seq memory_shape_told (λ typed. seq (value_told (is_declared l) (scalar_of typed.shape)) (λ init. seq tail_told (λ align. nothing _)))

pub variable_line_told : Tells variable_line_at
unfolding variable_line_at
variable_line_told =
    seq variable_name_told (λ name. seq (the_told kinds.Equals) (λ _. seq linked_told (λ l. seq (one_told KINDS is_constant) (λ constant. behind_kind_told name l constant))))
