use Rattle.std.proofs.Common.{◌∙◌, ◌++◌, ℕ, List, ap, ap₂}
use Rattle.importer.specs.Tables.{values}
use Rattle.link_one.specs.Units.{shown}
use Rattle.link_one.proofs.task_unit.offers_of.Goals as goal

pub returns : goal.returns
returns c =
    c.in_ok-push_copies.ensures
    ∙ ap₂ (λ (a b : List (List ℕ)). a ++ b)
    (c.in_ok-push_shown.ensures ∙ ap (λ (l : List (List ℕ)). l ++ shown (values c.args.globals.now)) c.new-names.ensures ∙ ap shown c.requires)
    c.deref.ensures.value
