use Rattle.std.proofs.Common.{◌≡◌, arith, rules}
use Rattle.std.specs.Prelude.{nat_eq, Some, None}
use Rattle.std.specs.HashMap as map
use Rattle.ir_verify.proofs.Firsts.{firsts_same, firsts_new, firsts_differ, firsts_agree}
use Rattle.ir_verify.proofs.Keys.{got_read}
use Rattle.ir_verify.proofs.phis.entries_agree.Goals as goal
use Rattle.ir_verify.proofs.phis.entries_agree.Goals.{in-Some+else-ne, in-None+in_ok-insert-in-None}

pub returns-then-ne : goal.returns-then-ne
returns-then-ne c =
    let has : map.get nat_eq c.loop-number.first c.index-entries-number.result.from ≡ Some c.in-Some.before = search rules in
    let before = c.loop-number.invariant.known c.index-entries-number.result.from c.in-Some.before has in
    let apart : c.index-entries-before.result.value ≡ c.index-entries-number.result.value → ⊥ = search rules in
    let here = got_read c.args.entries.now c.loop-number.number c.index-entries-number.result c.loop-number-test.true c.index-entries-number.is in
    let at = got_read c.args.entries.now c.in-Some.before c.index-entries-before.result (omega (arith, before.1, c.loop-number-test.true)) c.index-entries-before.is in (
      λ e. absurd (cc e),
      λ agree. absurd (firsts_differ (map.get nat_eq c.loop-number.first) c.args.entries.now c.loop-number.number c.index-entries-number.result here c.loop-number.invariant c.in-Some.before c.index-entries-before.result has at apart agree),
    )

pub loop-number-preserved : goal.loop-number-preserved
loop-number-preserved c =
    let here = got_read c.args.entries.now c.loop-number.number c.index-entries-number.result c.loop-number-test.true c.index-entries-number.is in
    elim c.match-known.branch [
      | in-Some+else-ne w ↦ (
          let has : map.get nat_eq c.loop-number.first c.index-entries-number.result.from ≡ Some w.in-Some.before = search rules in
          let before = c.loop-number.invariant.known c.index-entries-number.result.from w.in-Some.before has in
          let same : w.index-entries-before.result.value ≡ c.index-entries-number.result.value = search rules in
          let at = got_read c.args.entries.now w.in-Some.before w.index-entries-before.result (omega (arith, before.1, c.loop-number-test.true)) w.index-entries-before.is in
          rw w.first-is (firsts_same (map.get nat_eq c.loop-number.first) c.args.entries.now c.loop-number.number c.index-entries-number.result here c.loop-number.invariant w.in-Some.before w.index-entries-before.result has at same))
      | in-None+in_ok-insert-in-None w ↦ (
          let none : map.get nat_eq c.loop-number.first c.index-entries-number.result.from ≡ None = search rules in
          rw w.first-is (firsts_new (map.get nat_eq c.loop-number.first) c.args.entries.now c.loop-number.number c.index-entries-number.result here c.loop-number.invariant (map.get nat_eq w.insert.new.self) w.in_ok-insert-in-None.ensures.updates.0 none))
    ]

pub returns : goal.returns
returns c = (λ e. firsts_agree (map.get nat_eq c.loop-number.first) c.args.entries.now c.loop-number.number (omega arith) c.loop-number.invariant, λ h. search rules)
