use Rattle.std.proofs.Common.{◌∙◌, ◌||◌, Bool, List, length, ap}
use Rattle.lto_sets.specs.Sets.{contains}
use Rattle.thin_link.specs.Chains.{is_own}
use Rattle.thin_link.proofs.Planned.{none_in}
use Rattle.thin_link.proofs.Rising.{sorted_imports}
use Rattle.thin_link.proofs.levels.imports.Goals as goal

pub levels-requires-clause-own : goal.levels-requires-clause-own
levels-requires-clause-own c = λ n.
    c.note_own.ensures.noted n
    ∙ ap (λ (b : Bool). b || is_own c.args.definitions.now n) (ap (λ (s : List Bool). contains s n) c.in_ok-clear.ensures.empty ∙ none_in (length c.args.seen.now) n)

pub returns : goal.returns
returns c = (
  c.in_ok-found.ensures.0 ∙ c.note_own.ensures.len ∙ c.clear.ensures.len,
  sorted_imports c.args.index.now c.args.live.now c.args.limit c.args.definitions.now c.in_ok-found.found.items c.sort_unstable.new.self.items c.sort_unstable.ensures.permutation
      c.sort_unstable.ensures.sorted c.in_ok-found.ensures.1,
)
