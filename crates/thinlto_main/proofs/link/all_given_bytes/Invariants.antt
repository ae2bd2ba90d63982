use Rattle.std.proofs.Common.{All, take}
use Rattle.ir_tree.specs.Names.{AllBytes}
use Rattle.thinlto_main.specs.Modules.{bytes_of}
use Rattle.thinlto_main.proofs.link.all_given_bytes.Given as goal

abbrev pub invariant-loop-bytes : goal.invariant-loop-bytes
invariant-loop-bytes l = All (λ given. AllBytes (bytes_of given)) (take l.bytes-index l.given)
