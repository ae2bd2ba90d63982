-- Phis that the grammar spells.
use Rattle.std.proofs.Common.{Bool, true, false, [], ◌∷◌, Option, refl}
use Rattle.std.specs.List.{AllByRecursion as Each}
use Rattle.std.specs.Prelude.{IfSome}
use Rattle.std.proofs.lemmas.List.Elements.{All-from_recursion}
use Rattle.ir_lex.specs.Tok.{Tok}
use Rattle.ir_parse_bodies.specs.Phis.{attaching, behind_comma, entering, entries, further, incoming, keep, phi, phi_of}
use Rattle.ir_parse_operands.specs.ShapeForms.{memory_shape}
use Rattle.ir_parse_parts.specs.declared.raw.Incoming.{Incoming}
use Rattle.ir_tree.specs.Formed.{IsReg}
use Rattle.ir_tree.specs.declared.operand.Reg.{Reg}
use Rattle.ir_parse.specs.Written.{OperandWritten}
use Rattle.ir_parse.proofs.Instructions.{Named}
use Rattle.ir_parse.proofs.Means.{Means, chain_means, either_means, follow, kept_means, nothing, skip}
use Rattle.ir_parse.proofs.Operands.{operand_written, reg_written}

abbrev EntryWritten : Incoming → Type 0
EntryWritten i = OperandWritten i.value

attaching_written : Means attaching (λ x. IfSome x.0 EntryWritten)
unfolding attaching
attaching_written = skip _ (λ _. nothing tt)

module _ (r : Reg) (is_reg : IsReg r) where
  incoming_written : Means (incoming memory_shape r) EntryWritten
  unfolding incoming
  incoming_written = skip _ (λ _. follow (operand_written memory_shape r is_reg) (λ v h. skip _ (λ _. skip _ (λ from. skip _ (λ _. nothing h)))))

  entering_written : Means (entering memory_shape r) (λ x. IfSome x.0 EntryWritten)
  unfolding entering
  entering_written = follow incoming_written (λ i h. nothing h)

  behind_comma_written : (s : Bool) → Means (behind_comma memory_shape r s) (λ x. IfSome x.0 EntryWritten)
  behind_comma_written true = attaching_written
  behind_comma_written false = either_means attaching_written entering_written

  further_written : (s : Bool) → Means (further memory_shape r s) (λ x. IfSome x.0 EntryWritten)
  unfolding further
  further_written s = skip _ (λ _. behind_comma_written s)

  entries_written : (first : Incoming) → EntryWritten first → Means (entries memory_shape r first) (Each EntryWritten)
  unfolding entries
  entries_written first h =
      follow (chain_means {P = λ o. IfSome o EntryWritten} false further_written) (λ more g. nothing (kept_means EntryWritten keep (λ _. refl) (λ _ _. refl) (first ∷ []) more (h, tt) g))

  phi_of_written : (name : Option Tok) → Means (phi_of memory_shape r) (Named name)
  unfolding phi_of
  phi_of_written name = follow incoming_written (λ first h. follow (entries_written first h) (λ all g. nothing ((is_reg, All-from_recursion EntryWritten all g), tt)))

pub phi_written : (name : Option Tok) → Means (phi memory_shape) (Named name)
unfolding phi
phi_written name = follow reg_written (λ r h. phi_of_written r h name)
