use Rattle.std.proofs.Common.{All, take}
use Rattle.ir_tree.specs.Names.{AllBytes}
use Rattle.link_one.proofs.writable.all_names.Given as goal

abbrev pub invariant-loop-name : goal.invariant-loop-name
invariant-loop-name l = All AllBytes (take l.name-index l.names)
