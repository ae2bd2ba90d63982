-- The first fault of the readers of type definitions is of a kind that its token allows.
use Rattle.ir_parse.proofs.Told.{Tells, seq, nothing, alt, the_told}
use Rattle.ir_lex.specs.declared.token_kind.TokenKind.TheVariants as kinds
use Rattle.ir_parse_parts.specs.Alphabet.{among}
use Rattle.ir_parse_parts.specs.Classes.{tokens}
use Rattle.ir_parse.proofs.ToldOperands.{local_told}
use Rattle.ir_parse.proofs.ToldShapeForms.{memory_shape_told}
use Rattle.ir_parse_globals.specs.TypeDefinitionsAt.{OPAQUE, defined_at, type_line_at}

pub defined_told : Tells defined_at
unfolding defined_at
defined_told = alt (among tokens OPAQUE) (seq (the_told kinds.Opaque) (λ _. nothing _)) (seq memory_shape_told (λ typed. nothing _))

pub type_line_told : Tells type_line_at
unfolding type_line_at
type_line_told = seq local_told (λ name. seq (the_told kinds.Equals) (λ _. seq (the_told kinds.Type) (λ _. seq defined_told (λ typed. nothing _))))
