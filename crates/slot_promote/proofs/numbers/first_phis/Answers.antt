use Rattle.std.proofs.Common.{◌≡◌, ℕ, ◌+◌, true, false, Option, Some, None, length, Vec, Global, sym, ◌∙◌, ap}
use Rattle.std.proofs.lemmas.List.{length_push}
use Rattle.ir_flow.specs.Graph.{row}
use Rattle.slot_promote.specs.Promoted.{takes}
use Rattle.slot_promote.proofs.Loops.{first_more, free_more, phi_here}
use Rattle.slot_promote.proofs.numbers.first_phis.Goals.{then-takes+in_ok-push+in-Some, else-takes+in_ok-push-2}
use Rattle.slot_promote.proofs.numbers.first_phis.Goals as goal

pub loop-place-preserved : goal.loop-place-preserved
loop-place-preserved c =
    let place = c.loop-place.place in
    let before = c.loop-place.invariant in
    let taken : takes place (row c.args.edges.now place) ≡ c.takes.result = ap (takes place) (sym c.of.ensures) ∙ sym c.takes.ensures in
    elim c.if-takes.branch [
      | then-takes+in_ok-push+in-Some w ↦
          let pushed = ap (λ (v : Vec (Option ℕ) Global). v.items) w.firsts-is ∙ w.in_ok-push.ensures.items in
          record {
            length = ap length pushed ∙ length_push c.loop-place.firsts.items (Some c.loop-place.free) ∙ ap (λ (n : ℕ). n + 1) before.length;
            free = free_more (row c.args.edges.now) c.args.slots c.args.next place c.loop-place.free c.if-takes.free true (taken ∙ w.if-takes.true) before.free (w.free-is ∙ w.in-Some.ensures.1);
            firsts =
                first_more (row c.args.edges.now) c.args.slots c.args.next place c.loop-place.firsts.items c.if-takes.firsts.items (Some c.loop-place.free) before.length
                (phi_here (row c.args.edges.now) c.args.slots c.args.next place c.loop-place.free true (taken ∙ w.if-takes.true) before.free) pushed before.firsts;
          }
      | else-takes+in_ok-push-2 w ↦
          let pushed = ap (λ (v : Vec (Option ℕ) Global). v.items) w.firsts-is ∙ w.in_ok-push-2.ensures.items in
          record {
            length = ap length pushed ∙ length_push c.loop-place.firsts.items None ∙ ap (λ (n : ℕ). n + 1) before.length;
            free = free_more (row c.args.edges.now) c.args.slots c.args.next place c.loop-place.free c.if-takes.free false (taken ∙ w.if-takes.false) before.free w.free-is;
            firsts =
                first_more (row c.args.edges.now) c.args.slots c.args.next place c.loop-place.firsts.items c.if-takes.firsts.items None before.length
                (phi_here (row c.args.edges.now) c.args.slots c.args.next place c.loop-place.free false (taken ∙ w.if-takes.false) before.free) pushed before.firsts;
          }
    ]
