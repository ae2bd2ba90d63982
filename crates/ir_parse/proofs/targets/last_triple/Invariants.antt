use Rattle.std.proofs.Common.{◌≡◌, None, drop}
use Rattle.std.specs.Prelude.{filter_map, option_copied}
use Rattle.ir_parse.specs.Targets.{last_or, triple_string}
use Rattle.ir_parse.proofs.targets.last_triple.Given as goal

abbrev pub invariant-each : goal.invariant-each
invariant-each l = last_or (option_copied l.last) (filter_map triple_string (drop l.item-index l.items)) ≡ last_or None (filter_map triple_string l.items)
