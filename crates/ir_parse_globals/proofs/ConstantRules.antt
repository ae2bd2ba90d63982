-- The readers of constants read them.
use Rattle.std.proofs.Common.{◌≡◌, ℕ, Bool, true, false, cond, Option, Some, None, option_map, List, [], ◌∷◌, refl, sym, ap}
use Rattle.std.specs.Prelude.{codes}
use Rattle.ir_lex.specs.declared.token_kind.TokenKind.{TokenKind}
use Rattle.ir_lex.specs.declared.token_kind.TokenKind.TheVariants as kinds
use Rattle.ir_lex.specs.declared.token.TokenForm.TheVariants as forms
use Rattle.ir_lex.specs.TokenKinds.{number}
use Rattle.ir_lex.specs.Tok.{Tok}
use Rattle.ir_tree.specs.declared.operand.Reg.{Reg}
use Rattle.ir_tree.specs.declared.operand.Reg.TheVariants.{Int, Ptr}
use Rattle.ir_parse_parts.specs.Alphabet.{contains}
use Rattle.ir_parse_parts.specs.Rules.{Rule, IsWithin}
use Rattle.ir_parse_parts.proofs.Rules as rules
use Rattle.ir_parse_parts.specs.Classes.{tokens, refusal, NUMERALS}
use Rattle.ir_parse_parts.specs.declared.raw.Operand.TheVariants as operands
use Rattle.ir_parse_parts.specs.Literals.{literal}
use Rattle.ir_parse_operands.specs.ShapeForms.{any_shape, memory_shape}
use Rattle.ir_parse_operands.specs.ValuesAt.{ADDRESS}
use Rattle.ir_parse_parts.proofs.OperandRules.{zero_below, zero_global, zero_global_named, numbered_real, definition_real}
use Rattle.ir_parse_parts.proofs.Singles.{sample, word, not_number, not_limit}
use Rattle.ir_parse_operands.proofs.ValueRules.{address_rule}
use Rattle.ir_parse_parts.proofs.Words.{null_real, zero_real}
use Rattle.ir_parse_globals.specs.Constants.{CONSTANTS, plain, constant_by, constant_of, single, constant}
use Rattle.ir_parse_globals.specs.ConstantsAt.{single_at, constant_at}

abbrev zero : Tok
zero = sample forms.Number kinds.Number (codes "0")

zero_fits : (w : ℕ) → constant_of (Some (Int w)) zero ≡ Some (plain (operands.Number w 0))
unfolding literal
zero_fits w = ap (λ (b : Bool). option_map (λ (bits : ℕ). plain (operands.Number w bits)) (cond b (Some 0) None)) (zero_below w)

-- only literals of integers can be out of range
constant_within : (scalar : Option Reg) (h : TokenKind) (t : Tok) → t.kind ≡ h → contains CONSTANTS (number h) ≡ true → constant_by h scalar t ≡ None → IsWithin tokens CONSTANTS (constant_of scalar) t
constant_within (Some (Int w)) kinds.Number t e p q = record { writes = ap (λ (x : TokenKind). contains NUMERALS (number x)) e; other = zero; means = plain (operands.Number w 0); alike = sym (ap number e); has = zero_fits w; real = zero_real }
constant_within (Some Ptr) kinds.Number t e p q = absurd cc
constant_within None kinds.Number t e p q = absurd cc
constant_within scalar kinds.NumberedGlobal t e p q = record { writes = ap (λ (x : TokenKind). contains NUMERALS (number x)) e; other = zero_global kinds.NumberedGlobal; means = plain (operands.Global (zero_global kinds.NumberedGlobal)); alike = sym (ap number e); has = ap (option_map (λ (name : Tok). plain (operands.Global name))) (zero_global_named kinds.NumberedGlobal); real = numbered_real }
constant_within scalar kinds.NumberedDefinition t e p q = record { writes = ap (λ (x : TokenKind). contains NUMERALS (number x)) e; other = zero_global kinds.NumberedDefinition; means = plain (operands.Global (zero_global kinds.NumberedDefinition)); alike = sym (ap number e); has = ap (option_map (λ (name : Tok). plain (operands.Global name))) (zero_global_named kinds.NumberedDefinition); real = definition_real }
constant_within scalar h t e p q = absurd cc

single_rule : (scalar : Option Reg) → Rule tokens (single scalar) (single scalar) (single_at scalar) CONSTANTS [] false
single_rule scalar = rules.valued_rule tokens refusal not_number not_limit CONSTANTS (constant_of scalar) (λ t p q. constant_within scalar t.kind t refl p q) (word kinds.Null (codes "null")) (plain operands.Null) refl refl null_real

-- what a constant begins with
abbrev pub CONSTANT : List ℕ
CONSTANT = number kinds.GetElementPtr ∷ CONSTANTS

pub constant_rule : (scalar : Option Reg) → Rule tokens (constant memory_shape scalar) (constant any_shape scalar) (constant_at scalar) CONSTANT [] false
unfolding constant constant_at
constant_rule scalar = rules.alt tokens ADDRESS (rules.seq tokens address_rule (λ _. rules.nothing tokens _) refl) (single_rule scalar) refl refl
