-- The first fault of the readers of phis is of a kind that its token allows.
use Rattle.ir_parse.proofs.Told.{Tells, takes_of, seq, nothing, alt, chain, the_told}
use Rattle.std.specs.Prelude.{Bool, true, false}
use Rattle.ir_lex.specs.declared.token_kind.TokenKind.TheVariants as kinds
use Rattle.ir_tree.specs.declared.operand.Reg.{Reg}
use Rattle.ir_parse_parts.specs.Alphabet.{among}
use Rattle.ir_parse_parts.specs.Classes.{tokens}
use Rattle.ir_parse_parts.specs.declared.raw.Incoming.{Incoming}
use Rattle.ir_parse_parts.specs.Metadata.{META}
use Rattle.ir_parse.proofs.ToldMetadata.{attached_told}
use Rattle.ir_parse.proofs.ToldOperands.{reg_told, local_told}
use Rattle.ir_parse.proofs.ToldValues.{operand_told}
use Rattle.ir_parse_operands.specs.Adding.{anywhere}
use Rattle.ir_parse_bodies.specs.PhisAt.{incoming_at, attaching_at, entering_at, behind_comma_at, further_at, begins, entries_at, phi_of_at, phi_at}
use Rattle.ir_parse_bodies.proofs.PhiRules.{further_rule}

pub incoming_told : (r : Reg) → Tells (incoming_at r)
unfolding incoming_at
incoming_told r =
    seq (the_told kinds.OpenBracket) (λ _. seq (operand_told r) (λ v. seq (the_told kinds.Comma) (λ _. seq local_told (λ from. seq (the_told kinds.CloseBracket) (λ _. nothing _)))))

pub attaching_told : Tells attaching_at
unfolding attaching_at
attaching_told = seq attached_told (λ _. nothing _)

pub entering_told : (r : Reg) → Tells (entering_at r)
unfolding entering_at
entering_told r = seq (incoming_told r) (λ i. nothing _)

pub behind_comma_told : (r : Reg) → (x1 : Bool) → Tells (behind_comma_at r x1)
behind_comma_told r true = attaching_told
behind_comma_told r false = alt (among tokens META) attaching_told (entering_told r)

pub further_told : (r : Reg) → (s : Bool) → Tells (further_at r s)
unfolding further_at
further_told r s = seq (the_told kinds.Comma) (λ _. behind_comma_told r s)

pub entries_told : (r : Reg) → (first : Incoming) → Tells (entries_at r first)
unfolding entries_at
entries_told r first = seq (chain anywhere begins (λ s. further_told r s) (λ s. takes_of (further_rule r s)) false) (λ more. nothing _)

pub phi_of_told : (r : Reg) → Tells (phi_of_at r)
unfolding phi_of_at
phi_of_told r = seq (incoming_told r) (λ first. seq (entries_told r first) (λ is. nothing _))

pub phi_told : Tells phi_at
unfolding phi_at
phi_told = seq reg_told (λ r. phi_of_told r)
