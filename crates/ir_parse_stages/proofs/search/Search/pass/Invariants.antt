use Rattle.std.proofs.Common.{ℕ}
use Rattle.ir_parse_stages.specs.Searching.{IsPassing}
use Rattle.ir_parse_names.specs.Walks.{Graph as Rows}
use Rattle.ir_parse_stages.proofs.search.Search.pass.Given as goal

abbrev pub invariant-each : goal.invariant-each
invariant-each l =
    (graph : Rows) (head : ℕ) → IsPassing graph l.start l.fn.self.found.items l.fn.self.seen.items head l.row 0 → IsPassing graph l.start l.self.found.items l.self.seen.items head l.row l.place-index
