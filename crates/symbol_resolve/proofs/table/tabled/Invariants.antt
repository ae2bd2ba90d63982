use Rattle.std.proofs.Common.{◌≡◌, ◌++◌, drop, List}
use Rattle.symbol_resolve.specs.Listed.{Tabled}
use Rattle.symbol_resolve.specs.Mentions.{Mention, mentions, mentions_from}
use Rattle.symbol_resolve.proofs.table.tabled.Given as goal

abbrev pub invariant-loop-verified : goal.invariant-loop-verified
invariant-loop-verified l =
    (done : List Mention) × (done ++ mentions_from l.number (drop l.verified-index l.modules) ≡ mentions l.modules) × Tabled done l.table.entries
