use Rattle.std.proofs.Common.{◌≡◌, drop, fold}
use Rattle.clap.specs.Walk.{texts}
use Rattle.lto_words.specs.Values.{once, with_name}
use Rattle.lto_words.proofs.list.once.Given as goal

abbrev pub invariant-loop-part : goal.invariant-loop-part
invariant-loop-part l = fold with_name (texts l.seen.keys) (texts (drop l.part-index l.parts)) ≡ once (texts l.parts)
