-- The first fault of the readers of operands is of a kind that its token allows.
use Rattle.ir_parse.proofs.Told.{Tells, seq, nothing, alt, star, class, valued, the_told, one_told, refusal_refuses, type_refusal_refuses}
use Rattle.std.specs.Prelude.{ℕ, List, [], ◌∷◌, reverse}
use Rattle.ir_lex.specs.declared.token_kind.TokenKind.TheVariants as kinds
use Rattle.ir_lex.specs.TokenKinds.{number}
use Rattle.ir_tree.specs.declared.operand.Reg.{Reg}
use Rattle.ir_parse_parts.specs.Alphabet.{among}
use Rattle.ir_parse_parts.specs.Ahead.{STEPPING}
use Rattle.ir_parse_parts.specs.Classes.{tokens, refusal}
use Rattle.ir_parse_parts.specs.declared.shape.Typed.{Typed}
use Rattle.ir_parse_parts.specs.MetadataAt.{COMMA}
use Rattle.ir_parse_parts.specs.Operands.{type_refusal, global_named}
use Rattle.ir_parse.proofs.ToldOperands.{reg_told, integer_told, simple_told}
use Rattle.ir_parse.proofs.ToldShapeForms.{memory_shape_told}
use Rattle.ir_parse_operands.specs.Values.{is_inbounds, NUMBER, index_of, GLOBAL}
use Rattle.ir_parse_operands.specs.ValuesAt.{ADDRESS, pointer_at, stepping_at, index_number_at, index_at, indices_at, closing_one_at, closing_at, opened_at, opening_at, openings_at, global_at, reached_at, address_behind_at, address_at, operand_at, argument_at}
use Rattle.std.proofs.Common.{refl}

pub pointer_told : Tells pointer_at
pointer_told = class type_refusal type_refusal_refuses (number kinds.Ptr)

pub stepping_told : Tells stepping_at
unfolding stepping_at
stepping_told = seq (star STEPPING refl (one_told STEPPING is_inbounds)) (λ flags. nothing _)

pub index_number_told : (w : ℕ) → Tells (index_number_at w)
index_number_told w = valued refusal refusal_refuses NUMBER refl (index_of w)

pub index_told : Tells index_at
unfolding index_at
index_told = seq (the_told kinds.Comma) (λ _. seq integer_told (λ w. index_number_told w))

pub indices_told : Tells indices_at
indices_told = star COMMA refl index_told

pub closing_one_told : (typed : Typed) → Tells (closing_one_at typed)
unfolding closing_one_at
closing_one_told typed = seq indices_told (λ indices. seq (the_told kinds.CloseParen) (λ _. nothing _))

pub closing_told : (x0 : List Typed) → Tells (closing_at x0)
closing_told [] = nothing _
closing_told (typed ∷ outer) = seq (closing_one_told typed) (λ one. seq (closing_told outer) (λ more. nothing _))

pub opened_told : Tells opened_at
unfolding opened_at
opened_told =
    seq stepping_told (λ _. seq (the_told kinds.OpenParen) (λ _. seq memory_shape_told (λ typed. seq (the_told kinds.Comma) (λ _. seq pointer_told (λ _. nothing _)))))

pub opening_told : Tells opening_at
unfolding opening_at
opening_told = seq (the_told kinds.GetElementPtr) (λ _. opened_told)

pub openings_told : Tells openings_at
openings_told = star ADDRESS refl opening_told

pub global_told : Tells global_at
global_told = valued refusal refusal_refuses GLOBAL refl global_named

pub reached_told : (outer : List Typed) → Tells (reached_at outer)
unfolding reached_at
reached_told outer = seq global_told (λ name. seq (closing_told (reverse outer)) (λ levels. nothing _))

pub address_behind_told : (first : Typed) → Tells (address_behind_at first)
unfolding address_behind_at
address_behind_told first = seq openings_told (λ inner. reached_told (first ∷ inner))

pub address_told : Tells address_at
unfolding address_at
address_told = seq opening_told (λ first. address_behind_told first)

pub operand_told : (r : Reg) → Tells (operand_at r)
unfolding operand_at
operand_told r = alt (among tokens ADDRESS) address_told (simple_told r)

pub argument_told : Tells argument_at
unfolding argument_at
argument_told = seq reg_told (λ r. seq (operand_told r) (λ v. nothing _))
