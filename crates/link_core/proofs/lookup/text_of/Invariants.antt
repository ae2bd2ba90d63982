use Rattle.std.proofs.Common.{◌≡◌, drop}
use Rattle.link_core.specs.Machine.{text_of}
use Rattle.link_core.proofs.lookup.text_of.Given as goal

-- the pairs so far have another key
abbrev pub invariant-loop-pair : goal.invariant-loop-pair
invariant-loop-pair l = text_of l.key l.pairs ≡ text_of l.key (drop l.pair-index l.pairs)
