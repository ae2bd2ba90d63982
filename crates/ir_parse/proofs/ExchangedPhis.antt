-- The readers of phis tell a token that is left out in some places where one that it stands for goes on.
use Rattle.std.proofs.Common.{Bool, true, false, Option, [], refl}
use Rattle.ir_lex.specs.TokenKinds.{number}
use Rattle.ir_lex.specs.declared.token_kind.TokenKind.TheVariants as kinds
use Rattle.ir_tree.specs.declared.operand.Reg.{Reg}
use Rattle.ir_parse_parts.specs.Chained.{Chain, chain_at}
use Rattle.ir_parse_parts.specs.Rules.{is_class}
use Rattle.ir_parse_parts.specs.Classes.{tokens, refusal}
use Rattle.ir_parse_parts.specs.Metadata.{META}
use Rattle.ir_parse_parts.specs.MetadataAt.{COMMA}
use Rattle.ir_parse_operands.specs.Adding as adding
use Rattle.ir_parse_bodies.specs.Phis.{incoming, attaching, entering, behind_comma, further, entries, phi_of, phi}
use Rattle.ir_parse_bodies.specs.PhisAt.{begins, incoming_at, attaching_at, entering_at, behind_comma_at, further_at, entries_at, phi_of_at, phi_at}
use Rattle.ir_parse_operands.specs.ShapeForms.{any_shape}
use Rattle.ir_parse_parts.specs.declared.raw.Incoming.{Incoming}
use Rattle.ir_parse.proofs.Exchanged.{Exchanges, alt, nothing, seq, token_begins}
use Rattle.ir_parse.proofs.ExchangedChains.{chain}
use Rattle.ir_parse.proofs.ExchangedNodes.{attached_exchanged}
use Rattle.ir_parse.proofs.ExchangedOperands.{local_exchanged, reg_exchanged}
use Rattle.ir_parse.proofs.ExchangedValues.{operand_exchanged}
use Rattle.ir_parse.proofs.ExchangedWords.{close_bracket_exchanged, comma_exchanged, open_bracket_exchanged}

pub incoming_exchanged : (r : Reg) → Exchanges (incoming any_shape r) (incoming_at r)
unfolding incoming incoming_at
incoming_exchanged r = seq open_bracket_exchanged (λ _. seq (operand_exchanged r) (λ _. seq comma_exchanged (λ _. seq local_exchanged (λ _. seq close_bracket_exchanged (λ _. nothing _)))))

pub attaching_exchanged : Exchanges attaching attaching_at
unfolding attaching attaching_at
attaching_exchanged = seq attached_exchanged (λ _. nothing _)

pub entering_exchanged : (r : Reg) → Exchanges (entering any_shape r) (entering_at r)
unfolding entering entering_at
entering_exchanged r = seq (incoming_exchanged r) (λ _. nothing _)

pub behind_comma_exchanged : (r : Reg) (s : Bool) → Exchanges (behind_comma any_shape r s) (behind_comma_at r s)
behind_comma_exchanged r true = attaching_exchanged
behind_comma_exchanged r false = alt META refl attaching_exchanged (entering_exchanged r)

pub further_exchanged : (r : Reg) (s : Bool) → Exchanges (further any_shape r s) (further_at r s)
unfolding further further_at
further_exchanged r s = seq comma_exchanged (λ _. behind_comma_exchanged r s)

further_some : (r : Reg) (s : Bool) (x : Option Incoming × Bool) → further any_shape r s [] x → ⊥
unfolding further
further_some r s x q = token_begins (is_class tokens refusal (number kinds.Comma)) _ x q

pub more_exchanged : (r : Reg) → Exchanges (Chain adding.anywhere (further any_shape r) false) (chain_at adding.anywhere begins (further_at r) false)
more_exchanged r = chain adding.anywhere (λ _. COMMA) (further any_shape r) (further_at r) (further_exchanged r) (further_some r) (λ _. ([], [], (refl, refl), tt)) (λ _ _. refl) false

pub entries_exchanged : (r : Reg) (first : Incoming) → Exchanges (entries any_shape r first) (entries_at r first)
unfolding entries entries_at
entries_exchanged r first = seq (more_exchanged r) (λ _. nothing _)

pub phi_of_exchanged : (r : Reg) → Exchanges (phi_of any_shape r) (phi_of_at r)
unfolding phi_of phi_of_at
phi_of_exchanged r = seq (incoming_exchanged r) (λ first. seq (entries_exchanged r first) (λ _. nothing _))

pub phi_exchanged : Exchanges (phi any_shape) phi_at
unfolding phi phi_at
phi_exchanged = seq reg_exchanged phi_of_exchanged
