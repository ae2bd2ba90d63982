use Rattle.std.proofs.Common.{nat_eq, List, ℕ, sym, ◌∙◌, ap}
use Rattle.std.specs.HashSet.{contains}
use Rattle.std.specs.List.{list_any}
use Rattle.fact_sources.proofs.NoneNamed.{empty_list}
use Rattle.fact_sources.proofs.NoneResting.{none_rest}
use Rattle.fact_sources.proofs.unreached.resting.Goals as goal

pub returns-then-none : goal.returns-then-none
returns-then-none c =
    let set = c.args.set.now in
    let none = empty_list set.keys (c.is_empty-none.ensures.0 c.if-none.true) in
    c.new.ensures.items ∙ sym (none_rest (contains nat_eq set) (λ x. ap (λ (ks : List ℕ). list_any (nat_eq x) ks) none) c.args.found.now)
