use Rattle.std.proofs.Common.{◌≡◌, ◌++◌, drop, map, Some}
use Rattle.clap.specs.Walk.{texts}
use Rattle.lto_words.specs.Values.{decimal}
use Rattle.lto_words.proofs.list.all_decimals.Given as goal

abbrev pub invariant-loop-part : goal.invariant-loop-part
invariant-loop-part l = map (λ d. Some d) l.numbers ++ map decimal (texts (drop l.part-index l.parts)) ≡ map decimal (texts l.parts)
