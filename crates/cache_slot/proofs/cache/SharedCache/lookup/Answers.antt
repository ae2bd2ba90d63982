use Rattle.std.proofs.Common.{◌≡◌, ◌∙◌, List, arith, length, length-append, ap, subst, sym}
use mathlib.Core.List.{IsPrefix}
use Rattle.std.specs.Prelude.{OnErr}
use Rattle.cache_slot.specs.declared.record.Record.{Record}
use Rattle.cache_slot.proofs.Turning.{look_more, look_known, prefix_of}
use Rattle.cache_slot.proofs.cache.SharedCache.lookup.Goals as goal

pub take-shelf-requires : goal.take-shelf-requires
take-shelf-requires g c = (c.requires, c.args.pass.now.idle.1, c.args.pass.now.idle.0)

pub give-requires-clause-table : goal.give-requires-clause-table
give-requires-clause-table g c = c.take-shelf.ensures.place.0 ∙ c.requires

pub give-requires-clause-turn : goal.give-requires-clause-turn
give-requires-clause-turn g c =
    let took = c.take-shelf.ensures.taken in
    let more = look_more c.look-answer.result _ _ _ _ c.args.key.now c.take-shelf.result.records.history.items c.look-answer.new.self.records.history.items c.look-answer.ensures.found c.look-answer.ensures.err in
    let l = ap length more.1 in
    let len = length-append c.take-shelf.result.records.history.items more.0 in
    let before = c.count-before.ensures.result in
    let after = c.count.ensures.result in
    (took.0, c.take-shelf.result.records.history.items, more.0, (ap (λ m. m.0.stage) took.1, ap (λ m. m.1) took.1), sym more.1, omega arith)

pub returns-clause-pass : goal.returns-clause-pass
returns-clause-pass g c = c.give.ensures.place.0 ∙ c.take-shelf.ensures.place.0 ∙ c.requires

pub returns-clause-turn : goal.returns-clause-turn
returns-clause-turn g c =
    let turns = ap (λ m. m.0.turns) c.give.ensures.given ∙ ap (λ m. m.0.turns) c.take-shelf.ensures.taken.1 in
    let before = ap (λ m. m.0.before) c.give.ensures.given ∙ ap (λ m. m.0.before) c.take-shelf.ensures.taken.1 in
    (omega (arith, turns, c.take-shelf.ensures.left), subst (λ (rs : List Record). IsPrefix c.args.pass.now.place.seat.me.0.seen rs) (sym before) c.take-shelf.ensures.seen)

pub returns-clause-err : goal.returns-clause-err
returns-clause-err g c =
    let before = ap (λ m. m.0.before) c.give.ensures.given ∙ ap (λ m. m.0.before) c.take-shelf.ensures.taken.1 in
    let seen = ap (λ m. m.0.seen) c.give.ensures.given in
    subst (λ (z : List Record × List Record). OnErr c.look-answer.result (z.1 ≡ z.0)) (λ i. (sym before i, sym seen i)) c.look-answer.ensures.err

pub returns-clause-seen : goal.returns-clause-seen
returns-clause-seen g c =
    prefix_of _ c.take-shelf.result.records.history.items c.look-answer.new.self.records.history.items _ (ap (λ m. m.0.seen) c.give.ensures.given) c.take-shelf.ensures.seen
    (look_more c.look-answer.result _ _ _ _ c.args.key.now c.take-shelf.result.records.history.items c.look-answer.new.self.records.history.items c.look-answer.ensures.found c.look-answer.ensures.err)

pub returns-clause-known : goal.returns-clause-known
returns-clause-known g c =
    look_known c.look-answer.result _ _ _ _ c.args.key.now c.take-shelf.result.records.history.items c.look-answer.new.self.records.history.items _ c.take-shelf.ensures.seen c.look-answer.ensures.found
