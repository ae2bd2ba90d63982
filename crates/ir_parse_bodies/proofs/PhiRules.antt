-- The readers of phis read them.
use Rattle.std.proofs.Common.{ℕ, Bool, true, false, List, [], ◌∷◌, refl, sym, ap}
use Rattle.ir_lex.specs.declared.token_kind.TokenKind.TheVariants as kinds
use Rattle.ir_lex.specs.TokenKinds.{number}
use Rattle.ir_tree.specs.declared.operand.Reg.{Reg}
use Rattle.ir_parse_parts.specs.Alphabet.{among, contains}
use Rattle.ir_parse_parts.specs.Chained.{Chain, chain_at}
use Rattle.ir_parse_parts.specs.Rules.{Rule}
use Rattle.ir_parse_parts.proofs.Chains.{chain_lawful}
use Rattle.ir_parse_parts.proofs.Rules as rules
use Rattle.ir_parse_parts.proofs.Rules.{apart_from, within_of}
use Rattle.ir_parse_parts.specs.Classes.{tokens}
use Rattle.ir_parse_parts.specs.declared.raw.Incoming.{Incoming}
use Rattle.ir_parse_parts.specs.Metadata.{META}
use Rattle.ir_parse_parts.specs.MetadataAt.{COMMA, PAREN}
use Rattle.ir_parse_parts.specs.Operands.{REG}
use Rattle.ir_parse_operands.specs.Adding.{anywhere}
use Rattle.ir_parse_bodies.specs.Phis.{incoming, attaching, entering, behind_comma, further, entries, phi_of, phi}
use Rattle.ir_parse_bodies.specs.PhisAt.{begins, incoming_at, attaching_at, entering_at, behind_comma_at, further_at, entries_at, phi_of_at, phi_at}
use Rattle.ir_parse_operands.specs.ShapeForms.{any_shape, memory_shape}
use Rattle.ir_parse_parts.proofs.Nodes.{attached_rule}
use Rattle.ir_parse_parts.proofs.OperandRules.{reg_rule, local_rule}
use Rattle.ir_parse_parts.proofs.Singles.{comma_rule, open_bracket_rule, close_bracket_rule}
use Rattle.ir_parse_operands.proofs.ValueRules.{operand_rule}

abbrev pub BRACKET : List ℕ
BRACKET = number kinds.OpenBracket ∷ []

pub incoming_rule : (r : Reg) → Rule tokens (incoming memory_shape r) (incoming any_shape r) (incoming_at r) BRACKET [] false
unfolding incoming incoming_at
incoming_rule r = rules.seq tokens open_bracket_rule (λ _. rules.seq tokens (operand_rule r) (λ _. rules.seq tokens comma_rule (λ _. rules.seq tokens local_rule (λ _. rules.seq tokens close_bracket_rule (λ _. rules.nothing tokens _) refl) refl) refl) refl) refl

attaching_rule : Rule tokens attaching attaching attaching_at META PAREN false
unfolding attaching attaching_at
attaching_rule = rules.seq tokens attached_rule (λ _. rules.nothing tokens _) refl

entering_rule : (r : Reg) → Rule tokens (entering memory_shape r) (entering any_shape r) (entering_at r) BRACKET [] false
unfolding entering entering_at
entering_rule r = rules.seq tokens (incoming_rule r) (λ _. rules.nothing tokens _) refl

abbrev ENTRY : List ℕ
ENTRY = number kinds.Meta ∷ number kinds.Bang ∷ number kinds.OpenBracket ∷ []

behind_comma_rule : (r : Reg) (s : Bool) → Rule tokens (behind_comma memory_shape r s) (behind_comma any_shape r s) (behind_comma_at r s) ENTRY PAREN false
behind_comma_rule r true = rules.broader tokens ENTRY PAREN attaching_rule refl refl
behind_comma_rule r false = rules.broader tokens ENTRY PAREN (rules.alt tokens META attaching_rule (entering_rule r) refl refl) refl refl

pub further_rule : (r : Reg) (s : Bool) → Rule tokens (further memory_shape r s) (further any_shape r s) (further_at r s) COMMA PAREN false
unfolding further further_at
further_rule r s = rules.seq tokens comma_rule (λ _. behind_comma_rule r s) refl

abbrev AFTER : List ℕ
AFTER = number kinds.OpenParen ∷ number kinds.Comma ∷ []

more_rule : (r : Reg) → Rule tokens (Chain anywhere (further memory_shape r) false) (Chain anywhere (further any_shape r) false) (chain_at anywhere begins (further_at r) false) COMMA AFTER true
more_rule r = record {
  law = chain_lawful tokens anywhere begins begins (λ _. among tokens PAREN) (among tokens AFTER) (further memory_shape r) (further any_shape r) (further_at r) (λ s. (further_rule r s).law) (λ s t u n m. ap (contains COMMA) (sym m)) (λ s t d e. e)
      (λ s next front a g t p q. apart_from PAREN COMMA refl (number t.kind) p q)
      (λ s t p. within_of PAREN AFTER refl (number t.kind) p)
      (λ s t d p. within_of COMMA AFTER refl (number t.kind) p)
      (λ s. ([], [], (refl, refl), tt)) false;
}

pub entries_rule : (r : Reg) (first : Incoming) → Rule tokens (entries memory_shape r first) (entries any_shape r first) (entries_at r first) COMMA AFTER true
unfolding entries entries_at
entries_rule r first = rules.seq tokens (more_rule r) (λ _. rules.nothing tokens _) refl

phi_of_rule : (r : Reg) → Rule tokens (phi_of memory_shape r) (phi_of any_shape r) (phi_of_at r) BRACKET AFTER false
unfolding phi_of phi_of_at
phi_of_rule r = rules.seq tokens (incoming_rule r) (λ first. rules.seq tokens (entries_rule r first) (λ _. rules.nothing tokens _) refl) refl

pub phi_rule : Rule tokens (phi memory_shape) (phi any_shape) phi_at REG AFTER false
unfolding phi phi_at
phi_rule = rules.seq tokens reg_rule phi_of_rule refl
