use Rattle.std.proofs.Common.{◌∙◌, ◌+◌, Some, option_map, sym, ap, subst}
use Rattle.std.specs.Option.{is_some}
use Rattle.combined_index.specs.Best.{IsBest}
use Rattle.combined_index.specs.LiveMarks.{IsUnexportedAt}
use Rattle.combined_index.proofs.Lacking.{got, root-step}
use Rattle.combined_index.proofs.least.least_unexported.Goals as goal

pub loop-place-preserved : goal.loop-place-preserved
loop-place-preserved c =
    subst (IsBest (IsUnexportedAt c.args.index.now c.args.roots.now) (c.loop-place.place + 1)) (sym c.lesser_if-best.ensures)
    (root-step c.args.index.now c.args.roots.now c.loop-place.place (option_map (λ f. (f.name.now, f.place)) c.loop-place.best) c.as_slice-name.result.now
    (got c.args.roots.now c.loop-place.place c.index-roots-place.result c.loop-place-test.true ∙ ap Some (sym (c.as_slice-name.ensures ∙ c.index-roots-place.is)))
    c.is_none-lacking.result (ap is_some (sym c.exported.ensures) ∙ c.is_none-lacking.ensures) c.loop-place.invariant)
