-- The readers of constants tell a token that is left out in some places against the syntax.
use Rattle.std.proofs.Common.{◌≡◌, Option, Ok, refl}
use Rattle.std.specs.Prelude.{codes}
use Rattle.ir_lex.specs.Tok.{Tok}
use Rattle.ir_lex.specs.declared.token_kind.TokenKind.TheVariants as kinds
use Rattle.ir_tree.specs.declared.operand.Reg.{Reg}
use Rattle.ir_parse_parts.specs.Rules.{is_valued}
use Rattle.ir_parse_parts.specs.Classes.{tokens, refusal}
use Rattle.ir_parse_operands.specs.ShapeForms.{any_shape}
use Rattle.ir_parse_operands.specs.ValuesAt.{ADDRESS}
use Rattle.ir_parse_parts.specs.declared.raw.Operand.TheVariants as operands
use Rattle.ir_parse_parts.proofs.Singles.{word}
use Rattle.ir_parse_parts.proofs.Words.{null_real}
use Rattle.ir_parse_globals.specs.Constants.{CONSTANTS, plain, constant_of, single, constant}
use Rattle.ir_parse_globals.specs.ConstantsAt.{single_at, constant_at}
use Rattle.ir_parse.proofs.Exchanged.{Exchanges, alt, nothing, seq}
use Rattle.ir_parse.proofs.ExchangedTokens.{valued_sample}
use Rattle.ir_parse.proofs.ExchangedValues.{address_exchanged}

abbrev null_token : Tok
null_token = word kinds.Null (codes "null")

null_is : (scalar : Option Reg) → is_valued tokens refusal CONSTANTS (constant_of scalar) null_token ≡ Ok (plain operands.Null)
unfolding is_valued
null_is scalar = refl

pub single_exchanged : (scalar : Option Reg) → Exchanges (single scalar) (single_at scalar)
single_exchanged scalar = valued_sample CONSTANTS (constant_of scalar) null_token (plain operands.Null) (null_is scalar) null_real refl

pub constant_exchanged : (scalar : Option Reg) → Exchanges (constant any_shape scalar) (constant_at scalar)
unfolding constant constant_at
constant_exchanged scalar = alt ADDRESS refl (seq address_exchanged (λ _. nothing _)) (single_exchanged scalar)
