use Rattle.std.proofs.Common.{◌≡◌, ◌++◌, drop, List}
use Rattle.std.specs.List.{flat_map}
use Rattle.symbol_resolve.specs.Listed.{Tabled}
use Rattle.symbol_resolve.specs.Mentions.{Mention, mention}
use Rattle.symbol_resolve.proofs.table.note_globals.Given as goal

abbrev pub invariant-loop-global : goal.invariant-loop-global
invariant-loop-global l =
    (ms : List Mention) → Tabled ms l.fn.table.entries
    → (done : List Mention) × (done ++ flat_map (mention l.number) (drop l.global-index l.globals) ≡ ms ++ flat_map (mention l.number) l.globals) × Tabled done l.table.entries
