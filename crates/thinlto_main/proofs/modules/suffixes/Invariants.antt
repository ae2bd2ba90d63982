use Rattle.std.proofs.Common.{◌≡◌, take}
use Rattle.thinlto_main.specs.Linking.{suffixes_of}
use Rattle.thinlto_main.proofs.modules.suffixes.Given as goal

abbrev pub invariant-loop-bytes : goal.invariant-loop-bytes
invariant-loop-bytes l = l.suffixes ≡ suffixes_of (take l.bytes-index l.given)
