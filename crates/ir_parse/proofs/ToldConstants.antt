-- The first fault of the readers of constants is of a kind that its token allows.
use Rattle.ir_parse.proofs.Told.{Tells, seq, nothing, alt, valued, refusal_refuses}
use Rattle.std.specs.Prelude.{Option}
use Rattle.ir_tree.specs.declared.operand.Reg.{Reg}
use Rattle.ir_parse_parts.specs.Alphabet.{among}
use Rattle.ir_parse_parts.specs.Classes.{tokens, refusal}
use Rattle.ir_parse_operands.specs.ValuesAt.{ADDRESS}
use Rattle.ir_parse.proofs.ToldValues.{address_told}
use Rattle.ir_parse_globals.specs.Constants.{CONSTANTS, constant_of}
use Rattle.ir_parse_globals.specs.ConstantsAt.{single_at, constant_at}
use Rattle.std.proofs.Common.{refl}

pub single_told : (scalar : Option Reg) → Tells (single_at scalar)
single_told scalar = valued refusal refusal_refuses CONSTANTS refl (constant_of scalar)

pub constant_told : (scalar : Option Reg) → Tells (constant_at scalar)
unfolding constant_at
constant_told scalar = alt (among tokens ADDRESS) (seq address_told (λ v. nothing _)) (single_told scalar)
