use Rattle.std.proofs.Common.{rules, ℕ, ◌∷◌, Some, Option, List, sym, ap, ◌∙◌}
use Rattle.atomic_table.specs.Table.{rest}
use Rattle.cache_slot.specs.Rule.{held_log}
use Rattle.cache_slot.proofs.Steps.{counts, serves}
use Rattle.cache_slot.proofs.lock.TicketLock.give.Goals as goal

pub fetch_add-requires : goal.fetch_add-requires
fetch_add-requires g c =
    let turn = c.requires.turn in
    let put = c.exchange-old.ensures.3 in
    let held = ap (λ m. m.1) put ∙ ap (λ (l : List (ℕ × Option g.row.T.Denot)). (0, Some c.args.value) ∷ l) (ap rest turn.3.1) in
    (search rules, search rules, counts g.T.Logged.log _ _ _ _ turn.0 turn.1 turn.2 c.args.value (ap (λ m. m.0.stage) put ∙ turn.3.0) held turn.4 (sym turn.5) c.requires.small)

pub fetch_add-requires-2 : goal.fetch_add-requires-2
fetch_add-requires-2 g c =
    let turn = c.requires.turn in
    let put = c.exchange-old.ensures.3 in
    let held = ap (λ m. m.1) put ∙ ap (λ (l : List (ℕ × Option g.row.T.Denot)). (0, Some c.args.value) ∷ l) (ap rest turn.3.1) in
    let now = c.fetch_add.ensures.2 in (
      search rules,
      search rules,
      serves g.T.Logged.log _ _ _ _ c.args.value c.args.self.now.wide.1 (ap (λ d. d.stage) now.0) (now.1 ∙ held)
          (sym (ap (λ d. d.seen) now.0 ∙ ap (held_log g.T.Logged.log) held)),
    )
