-- The core's fields as the state that they stand for.
use Rattle.std.specs.Prelude.{ℕ, List}
use Rattle.link_core.specs.declared.event.CoreLink.{CoreLink}
use Rattle.link_core.specs.declared.link.Link.TheInside as link
use Rattle.link_core.specs.Machine.{LinkState}

abbrev pub link_of : link.Inside → LinkState
link_of l = record { keys = l.keys.items; next = l.next; phases = l.phases.items; results = l.results.items }

-- the keys and the number of workers
abbrev pub parts_of : CoreLink → List (List ℕ) × ℕ
parts_of c = (c.keys.items, c.workers)
