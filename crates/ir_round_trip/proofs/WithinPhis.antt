-- Phis that the grammar spells: there is an entry, and constants are of the phi's type.
use Rattle.std.proofs.Common.{Bool, true, false, List, [], ◌∷◌, ◌++◌, Option, Some, None, refl}
use Rattle.std.specs.List.{AllByRecursion as Each, fold}
use Rattle.std.specs.Prelude.{IfSome}
use Rattle.ir_parse_bodies.specs.Phis.{attaching, behind_comma, entering, entries, further, incoming, keep, phi, phi_of}
use Rattle.ir_parse_operands.specs.ShapeForms.{memory_shape}
use Rattle.ir_parse_parts.specs.declared.raw.Incoming.{Incoming}
use Rattle.ir_tree.specs.declared.operand.Reg.{Reg}
use Rattle.ir_round_trip.specs.Spelled.{HasIncoming, IncomingSpelled, InstrSpelled}
use Rattle.ir_round_trip.proofs.Means.{Means, chain_means, either_means, follow, kept_means, nothing, skip}
use Rattle.ir_round_trip.proofs.WithinOperands.{operand_spelled}

kept_some : (front : List Incoming) (all : List (Option Incoming)) → HasIncoming front → HasIncoming (fold keep front all)
kept_some front [] h = h
kept_some front (None ∷ all) h = kept_some front all h
kept_some (i ∷ front) (Some j ∷ all) h = kept_some (i ∷ (front ++ j ∷ [])) all tt
kept_some [] (Some j ∷ all) h = absurd h

module _ (r : Reg) where
  incoming_spelled : Means (incoming memory_shape r) (IncomingSpelled r)
  unfolding incoming
  incoming_spelled = skip _ (λ _. follow (operand_spelled r) (λ v h. skip _ (λ _. skip _ (λ from. skip _ (λ _. nothing h)))))

  attaching_spelled : Means attaching (λ x. IfSome x.0 (IncomingSpelled r))
  unfolding attaching
  attaching_spelled = skip _ (λ _. nothing tt)

  entering_spelled : Means (entering memory_shape r) (λ x. IfSome x.0 (IncomingSpelled r))
  unfolding entering
  entering_spelled = follow incoming_spelled (λ i h. nothing h)

  behind_comma_spelled : (s : Bool) → Means (behind_comma memory_shape r s) (λ x. IfSome x.0 (IncomingSpelled r))
  behind_comma_spelled true = attaching_spelled
  behind_comma_spelled false = either_means attaching_spelled entering_spelled

  further_spelled : (s : Bool) → Means (further memory_shape r s) (λ x. IfSome x.0 (IncomingSpelled r))
  unfolding further
  further_spelled s = skip _ (λ _. behind_comma_spelled s)

  abbrev Entries : List Incoming → Type 0
  Entries is = HasIncoming is × Each (IncomingSpelled r) is

  entries_spelled : (first : Incoming) → IncomingSpelled r first → Means (entries memory_shape r first) Entries
  unfolding entries
  entries_spelled first h =
      follow (chain_means {P = λ o. IfSome o (IncomingSpelled r)} false further_spelled) (λ more g.
      nothing (kept_some (first ∷ []) more tt, kept_means (IncomingSpelled r) keep (λ _. refl) (λ _ _. refl) (first ∷ []) more (h, tt) g))

  phi_of_spelled : Means (phi_of memory_shape r) InstrSpelled
  unfolding phi_of
  phi_of_spelled = follow incoming_spelled (λ first h. follow (entries_spelled first h) (λ is g. nothing g))

pub phi_spelled : Means (phi memory_shape) InstrSpelled
unfolding phi
phi_spelled = skip _ (λ r. phi_of_spelled r)
