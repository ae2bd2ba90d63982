use Rattle.std.proofs.Common.{◌≡◌, take, map}
use Rattle.link_core.specs.Machine.{opened}
use Rattle.link_core.specs.Views.{parts_of}
use Rattle.link_core.proofs.machine.Core.start.Given as goal

abbrev pub invariant-loop-link : goal.invariant-loop-link
invariant-loop-link l = l.opened.items ≡ map opened (map parts_of (take l.link-index l.links))
