use Rattle.std.proofs.Common.{rules, sym, ◌∷◌, [], subst, List, Option, Some, ◌≡◌, arith}
use Rattle.std.proofs.lemmas.Grind.{common_steps}
use Rattle.cache_slot.proofs.Steps.{begins}
use Rattle.atomic_table.specs.Table.{opening}
use Rattle.cache_slot.specs.Rule.{TurnRule}
use Rattle.cache_slot.specs.Views.{opening_sight}
use Rattle.cache_slot.proofs.lock.TicketLock.new.Goals as goal

pub new-requires : goal.new-requires
new-requires g c = let b = begins g.T.Logged.log c.args.value c.requires in
    let is : c.push.new.self.items ≡ Some c.args.value ∷ [] = first_of (search rules, grind (arith, common_steps)) in
    subst (λ (l : List (Option g.row.T.Denot)). TurnRule g.T.Logged.log (opening (0 ∷ 0 ∷ 0 ∷ []) l opening_sight)) (sym is) b
