use Rattle.std.proofs.Common.{◌≡◌, ◌<◌, ℕ, [], length, slice_index_or}
use Rattle.thin_link.specs.Plans.{Imports, definitions_at}
use Rattle.thin_link.specs.Views.{rows}
use Rattle.thin_link.proofs.planning.plan.Given as goal

abbrev pub invariant-loop-definitions : goal.invariant-loop-definitions
invariant-loop-definitions l = record {
  size : length l.seen ≡ length l.index.symbols;
  modules : length l.lists.items ≡ l.definitions-index;
  imports : (m : ℕ) → m < l.definitions-index → Imports l.index l.live l.limit (definitions_at l.index m) (slice_index_or (rows l.lists.items) m []);
}
