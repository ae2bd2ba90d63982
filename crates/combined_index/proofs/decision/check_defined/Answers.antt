use Rattle.std.proofs.Common.{◌∙◌, ℕ, List, Some, length, sym, ap, subst}
use Rattle.combined_index.specs.Best.{IsBest}
use Rattle.combined_index.specs.LiveMarks.{IsLackingAt}
use Rattle.combined_index.proofs.decision.check_defined.Goals as goal

pub returns : goal.returns
returns c = (
  c.in-Some.found.place,
  subst (λ (name : List ℕ). IsBest (IsLackingAt c.args.index.now c.args.live.now) (length c.args.index.now.symbols) (Some (name, c.in-Some.found.place))) (sym c.in_ok-name.ensures)
      c.in-Some.ensures.best,
  sym c.in-Some-first_referring.ensures ∙ ap Some (sym c.in-Ok.ensures.1),
)

pub unreachable-requires : goal.unreachable-requires
unreachable-requires c = c.requires.referred c.in-Some.found.place c.in-Some.found.name.now c.in-Some.ensures.best.1 (sym c.in_default-first_referring.ensures)
