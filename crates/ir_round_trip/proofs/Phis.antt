-- What stands behind the word `phi` is read (LangRef, "phi Instruction").
use Rattle.std.proofs.Common.{false, List, [], ◌∷◌, ◌++◌, refl, sym, subst}
use Rattle.std.specs.List.{AllByRecursion as Each}
use Rattle.ir_print.specs.Instructions as printed
use Rattle.ir_print.specs.Tokens.{space}
use Rattle.ir_print.specs.Types.{register}
use Rattle.ir_parse_bodies.specs.Phis.{incoming, entering, further, keep, entries, phi_of, phi}
use Rattle.ir_parse_operands.specs.Adding.{anywhere}
use Rattle.ir_parse_operands.specs.ShapeForms.{memory_shape}
use Rattle.ir_tree.specs.Formed.{IsReg}
use Rattle.ir_tree.specs.declared.instr.Incoming.{Incoming}
use Rattle.ir_tree.specs.declared.instr.Instr.TheVariants.{Phi}
use Rattle.ir_tree.specs.declared.operand.Reg.{Reg}
use Rattle.ir_parse_parts.specs.Chained.{Chain}
use Rattle.ir_round_trip.specs.PartsPrinted.{Paired, IsIncoming, IsInstr}
use Rattle.ir_round_trip.specs.PartsReadable.{IncomingReadable}
use Rattle.ir_round_trip.specs.Reads.{Parses}
use Rattle.ir_round_trip.proofs.Composed.{then, next, last, nothing, right, chain_ends, chain_goes_on}
use Rattle.ir_round_trip.proofs.Kept.{Kept, kept_none, kept_more, kept_behind}
use Rattle.ir_round_trip.proofs.PrintedNames.{local_read}
use Rattle.ir_round_trip.proofs.PartsOperands.{operand_read}
use Rattle.ir_round_trip.proofs.Types.{register_read}
use Rattle.ir_round_trip.proofs.Words.{comma_read, open_bracket_read, close_bracket_read}

incoming_read : (reg : Reg) (i : Incoming) → IncomingReadable reg i → Parses (incoming memory_shape reg) (IsIncoming i) (printed.incoming i)
unfolding incoming
incoming_read reg i h =
    then (open_bracket_read space) (λ a u. then (operand_read space reg i.value h.0) (λ v p. then comma_read (λ b w. then (local_read space i.from h.1) (λ from q. last (close_bracket_read space) (λ c x. nothing (p, q))))))

further_read : (reg : Reg) (is : List Incoming) → Each (IncomingReadable reg) is → Parses (Chain anywhere (further memory_shape reg) false) (Kept IsIncoming is) (printed.further_incoming is)
unfolding further entering
further_read reg [] h = chain_ends anywhere (further memory_shape reg) false refl (kept_none IsIncoming)
further_read reg (i ∷ is) h = chain_goes_on anywhere (further memory_shape reg) false false (then comma_read (λ b u. right _ (last (incoming_read reg i h.0) (λ r p. nothing ((r, refl, p), refl))))) (further_read reg is h.1) (λ o more p q. kept_more IsIncoming p q)

-- a phi has an entry at least
pub phi_read : (reg : Reg) (first : Incoming) (is : List Incoming) → IsReg reg → IncomingReadable reg first → Each (IncomingReadable reg) is → Parses (phi memory_shape) (IsInstr (Phi reg (first ∷ is))) (register space reg ++ printed.all_incoming (first ∷ is))
unfolding phi phi_of entries
phi_read reg first is r h hs =
    next _ (register_read space reg r) (then (incoming_read reg first h) (λ i p. last (last (further_read reg is hs) (λ more k. nothing {P = Paired IsIncoming (first ∷ is)} (subst (Paired IsIncoming (first ∷ is)) (sym (kept_behind IsIncoming keep (λ front a. refl) (i ∷ []) k)) (p, k.paired)))) (λ all q. nothing (refl, q))))
