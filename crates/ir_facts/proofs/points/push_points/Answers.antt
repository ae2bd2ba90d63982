use Rattle.std.proofs.Common.{◌<◌, refl, ◌+◌, ◌++◌, Bool, List, [], add-one, drop, length, arith, ap, ◌∙◌, ◌≡◌, ℕ, sym, subst}
use Rattle.std.proofs.lemmas.List.{get_or_default}
use Rattle.ir_tree.specs.declared.instr.Line.{Line}
use Rattle.ir_flow.specs.Narrowing.{marked}
use Rattle.lto_sets.specs.Sets.{contains}
use Rattle.ir_facts.specs.FactFlow.{opened, flow_points}
use Rattle.ir_facts.specs.Points.{line_points}
use Rattle.ir_facts.proofs.Walking.{points_pushed}
use Rattle.fact_sources.proofs.Stepping.{cut_at, walked}
use Rattle.ir_facts.proofs.points.push_points.Goals as goal

pub loop-place-preserved : goal.loop-place-preserved
loop-place-preserved c =
    let x = c.args.local in
    let v = c.args.value.now in
    let blocks = c.args.blocks.now in
    let rows = c.args.rows.now in
    let place = c.loop-place.place in
    let block = c.index-blocks-place.result in
    let start = c.opened-start.result in
    let old = c.loop-place.marks.items in
    let inside : place < length rows = omega (arith, c.requires.long, c.loop-place-test.true) in
    let row = c.index-rows-place.is ∙ get_or_default rows place c.index-rows-place.result [] inside in
    points_pushed x v (marked rows) place (place + 1) block (drop (place + 1) blocks) (drop place blocks) start old c.push_line_points.new.marks.items
    (cut_at blocks place block c.loop-place-test.true c.index-blocks-place.is) (add-one place)
    (c.opened-start.ensures
    ∙ (λ i. opened x v (c.as_slice.ensures i) ((c.has.ensures ∙ ap (λ (r : List Bool). contains r 0) row) i) ((c.has-in-loop-place.ensures ∙ ap (λ (r : List Bool). contains r 1) row) i)))
    (c.in_ok-push_line_points.ensures ∙ ap (λ (ls : List Line). old ++ line_points x v ls start) c.as_slice-in-loop-place.ensures)
    ∙ c.loop-place.invariant

pub returns : goal.returns
returns c =
    walked (flow_points c.args.local c.args.value.now (marked c.args.rows.now) c.loop-place.place) c.args.blocks.now c.loop-place.place c.loop-place.marks.items refl c.loop-place-test.false
    ∙ c.loop-place.invariant

pub has-requires : goal.has-requires
has-requires c =
    let rows = c.args.rows.now in
    let place = c.loop-place.place in
    let inside : place < length rows = omega (arith, c.requires.long, c.loop-place-test.true) in
    let long : length c.index-rows-place.result ≡ 2 = ap length (c.index-rows-place.is ∙ get_or_default rows place c.index-rows-place.result [] inside) ∙ c.requires.sized place inside in
    subst (λ (n : ℕ). 0 < n) (sym long) (omega arith)

pub has-requires-in-loop-place : goal.has-requires-in-loop-place
has-requires-in-loop-place c =
    let rows = c.args.rows.now in
    let place = c.loop-place.place in
    let inside : place < length rows = omega (arith, c.requires.long, c.loop-place-test.true) in
    let long : length c.index-rows-place.result ≡ 2 = ap length (c.index-rows-place.is ∙ get_or_default rows place c.index-rows-place.result [] inside) ∙ c.requires.sized place inside in
    subst (λ (n : ℕ). 1 < n) (sym long) (omega arith)
