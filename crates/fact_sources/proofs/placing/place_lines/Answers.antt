use Rattle.std.proofs.Common.{ℕ, ◌+◌, drop, sym, subst, BTreeMap}
use Rattle.std.specs.BTreeMap.{get}
use Rattle.std.specs.Ordering.{nat_cmp}
use Rattle.ir_tree.specs.Flow.{holds, results}
use Rattle.fact_sources.proofs.Placed.{Places, line_gives, one_more}
use Rattle.fact_sources.proofs.Stepping.{cut_at}
use Rattle.fact_sources.proofs.placing.place_lines.Goals as goal
use Rattle.fact_sources.proofs.placing.place_lines.Goals.{in-Some+in_ok-insert, in_default}

pub loop-line-preserved : goal.loop-line-preserved
loop-line-preserved c =
    let lines = c.args.lines.now in
    let i = c.loop-line.line-index in
    let line = c.line-item.result in
    let first = get nat_cmp c.args.places.now in
    let cut = cut_at lines i line c.loop-line-test.true c.line-item.is in
    elim c.match-line.branch [
      | in-Some+in_ok-insert w ↦
          subst (λ (m : BTreeMap ℕ ℕ). Places (get nat_cmp m) first c.args.place (λ x. holds (results lines) x)) (sym w.places-is)
          (one_more first (get nat_cmp c.loop-line.places) (get nat_cmp w.insert.new.self) c.args.place w.in-Some.local (λ x. holds (results lines) x)
          (line_gives lines i w.in-Some.local line (drop (i + 1) lines) cut w.in-Some.is) w.in_ok-insert.ensures.updates.0 c.loop-line.invariant)
      | in_default w ↦ subst (λ (m : BTreeMap ℕ ℕ). Places (get nat_cmp m) first c.args.place (λ x. holds (results lines) x)) (sym w.places-is) c.loop-line.invariant
    ]
