use Rattle.std.proofs.Common.{◌≡◌, ◌∙◌, List, arith, length, length-append, ap, subst, sym}
use mathlib.Core.List.{IsPrefix}
use Rattle.std.specs.Prelude.{IfOk, OnErr}
use Rattle.cache_slot.specs.declared.record.Record.{Record}
use Rattle.cache_slot.specs.Found.{Stored}
use Rattle.cache_slot.proofs.Turning.{keep_more, keep_known, err_records, prefix_of}
use Rattle.cache_slot.proofs.cache.SharedCache.store.Goals as goal

pub take-shelf-requires : goal.take-shelf-requires
take-shelf-requires g c = (c.requires.pass, c.args.pass.now.idle.1, c.args.pass.now.idle.0)

pub keep-answer-requires-clause-key : goal.keep-answer-requires-clause-key
keep-answer-requires-clause-key g c = c.requires.key

pub keep-answer-requires-clause-made : goal.keep-answer-requires-clause-made
keep-answer-requires-clause-made g c = c.requires.made

pub give-requires-clause-table : goal.give-requires-clause-table
give-requires-clause-table g c = c.take-shelf.ensures.place.0 ∙ c.requires.pass

pub give-requires-clause-turn : goal.give-requires-clause-turn
give-requires-clause-turn g c =
    let took = c.take-shelf.ensures.taken in
    let more = keep_more c.keep-answer.result g.S.Setting.dir c.args.key.now c.args.text.now c.take-shelf.result.records.history.items c.keep-answer.new.self.records.history.items c.keep-answer.ensures.stored (err_records c.keep-answer.result _ _ _ _ c.keep-answer.ensures.err) in
    let l = ap length more.1 in
    let len = length-append c.take-shelf.result.records.history.items more.0 in
    let before = c.count-before.ensures.result in
    let after = c.count.ensures.result in
    (took.0, c.take-shelf.result.records.history.items, more.0, (ap (λ m. m.0.stage) took.1, ap (λ m. m.1) took.1), sym more.1, omega arith)

pub returns-clause-pass : goal.returns-clause-pass
returns-clause-pass g c = c.give.ensures.place.0 ∙ c.take-shelf.ensures.place.0 ∙ c.requires.pass

pub returns-clause-turn : goal.returns-clause-turn
returns-clause-turn g c =
    let turns = ap (λ m. m.0.turns) c.give.ensures.given ∙ ap (λ m. m.0.turns) c.take-shelf.ensures.taken.1 in
    let before = ap (λ m. m.0.before) c.give.ensures.given ∙ ap (λ m. m.0.before) c.take-shelf.ensures.taken.1 in
    (omega (arith, turns, c.take-shelf.ensures.left), subst (λ (rs : List Record). IsPrefix c.args.pass.now.place.seat.me.0.seen rs) (sym before) c.take-shelf.ensures.seen)

pub returns-clause-stored : goal.returns-clause-stored
returns-clause-stored g c =
    let before = ap (λ m. m.0.before) c.give.ensures.given ∙ ap (λ m. m.0.before) c.take-shelf.ensures.taken.1 in
    let seen = ap (λ m. m.0.seen) c.give.ensures.given in
    subst (λ (z : List Record × List Record). IfOk c.keep-answer.result (Stored g.S.Setting.dir c.args.key.now c.args.text.now z.0 z.1)) (λ i. (sym before i, sym seen i)) c.keep-answer.ensures.stored

pub returns-clause-err : goal.returns-clause-err
returns-clause-err g c =
    let before = ap (λ m. m.0.before) c.give.ensures.given ∙ ap (λ m. m.0.before) c.take-shelf.ensures.taken.1 in
    let seen = ap (λ m. m.0.seen) c.give.ensures.given in
    subst (λ (z : List Record × List Record). OnErr c.keep-answer.result (z.1 ≡ z.0)) (λ i. (sym before i, sym seen i)) (err_records c.keep-answer.result _ _ _ _ c.keep-answer.ensures.err)

pub returns-clause-seen : goal.returns-clause-seen
returns-clause-seen g c =
    prefix_of _ c.take-shelf.result.records.history.items c.keep-answer.new.self.records.history.items _ (ap (λ m. m.0.seen) c.give.ensures.given) c.take-shelf.ensures.seen
    (keep_more c.keep-answer.result g.S.Setting.dir c.args.key.now c.args.text.now c.take-shelf.result.records.history.items c.keep-answer.new.self.records.history.items c.keep-answer.ensures.stored (err_records c.keep-answer.result _ _ _ _ c.keep-answer.ensures.err))

pub returns-clause-known : goal.returns-clause-known
returns-clause-known g c =
    keep_known c.keep-answer.result g.S.Setting.dir c.args.key.now c.args.text.now c.take-shelf.result.records.history.items c.keep-answer.new.self.records.history.items _ (ap (λ m. m.0.seen) c.give.ensures.given) c.keep-answer.ensures.stored
