-- The core: links whose workers claim, look up, compile and keep, over one list of entries and one disk.
-- Here w is a core, l its link number j, i a worker of the link, and k the number of a key.
use Rattle.std.specs.Prelude.{ℕ, zero, suc, ◌+◌, Bool, if◌then◌else◌, nat_lt, List, [], ◌∷◌, ◌++◌, length, slice_set, slice_get, Option, Some, None, is_some, replicate, map}
use Rattle.std.specs.Str.{bytes_eq}
use Rattle.link_core.specs.declared.event.DiskPair.{DiskPair}
use Rattle.link_core.specs.declared.event.Phase.{Phase}
use Rattle.link_core.specs.declared.event.Phase.TheVariants.{Idle, Claimed, Missed, Made, Ended}
use Rattle.link_core.specs.declared.event.Act.{Act}
use Rattle.link_core.specs.declared.event.Act.TheVariants.{Claim, Look, Compile, Keep}
use Rattle.link_core.specs.declared.event.Event.{Event}

-- one link: its keys by number, its next number, a phase for each worker, and results by number
pub record LinkState : Type 0 where
  pub keys : List (List ℕ)
  pub next : ℕ
  pub phases : List Phase
  pub results : List (Option (List ℕ))

pub record CoreState : Type 0 where
  pub entries : List DiskPair
  pub disk : List DiskPair
  pub links : List LinkState

-- the text of the first pair of the key
abbrev pub text_of : List ℕ → List DiskPair → Option (List ℕ)
text_of key [] = None
text_of key (p ∷ ps) = if bytes_eq p.key key then Some p.text else text_of key ps

abbrev pub key_at : List (List ℕ) → ℕ → List ℕ
key_at [] k = []
key_at (x ∷ xs) zero = x
key_at (x ∷ xs) (suc k) = key_at xs k

abbrev pub or_else : Option (List ℕ) → Option (List ℕ) → Option (List ℕ)
or_else (Some t) o = Some t
or_else None o = o

-- what a look-up finds: an entry, or else what the disk gives
abbrev pub found : List DiskPair → List DiskPair → List ℕ → Bool → Option (List ℕ)
found entries disk key given = or_else (text_of key entries) (if given then text_of key disk else None)

-- the phase of a worker that draws the next of n numbers: it has that number, or meets the end
abbrev pub drawn : ℕ → ℕ → Phase
drawn next n = if nat_lt next n then Claimed next else Ended

-- the worker i draws the next number
abbrev pub claimed : LinkState → ℕ → LinkState
claimed l i = record l { next = l.next + 1; phases = slice_set l.phases i (drawn l.next (length l.keys)) }

abbrev pub moved : LinkState → ℕ → Phase → LinkState
moved l i p = record l { phases = slice_set l.phases i p }

-- the text is result k, and the worker i is idle
abbrev pub settled : LinkState → ℕ → ℕ → List ℕ → LinkState
settled l i k t = record l { phases = slice_set l.phases i Idle; results = slice_set l.results k (Some t) }

abbrev pub looked : LinkState → ℕ → ℕ → Option (List ℕ) → LinkState
looked l i k (Some t) = settled l i k t
looked l i k None = moved l i (Missed k)

abbrev pub pair : List ℕ → List ℕ → DiskPair
pair key text = record { key = key; text = text }

-- the pair is appended where the key is not in the list
abbrev pub with_entry : List DiskPair → List ℕ → List ℕ → List DiskPair
with_entry entries key text = if is_some (text_of key entries) then entries else entries ++ pair key text ∷ []

-- the newest pair of a disk stands first
abbrev pub saved : List DiskPair → List ℕ → List ℕ → Bool → List DiskPair
saved disk key text taken = if taken then pair key text ∷ disk else disk

-- the core after an act of the worker i of the link j, in this phase, if the act is enabled
abbrev pub acted : CoreState → ℕ → LinkState → ℕ → Phase → Act → Option CoreState
acted w j l i Idle Claim = Some (record w { links = slice_set w.links j (claimed l i) })
acted w j l i (Claimed k) (Look given) = Some (record w { links = slice_set w.links j (looked l i k (found w.entries w.disk (key_at l.keys k) given)) })
acted w j l i (Missed k) (Compile text) = Some (record w { links = slice_set w.links j (moved l i (Made k text)) })
acted w j l i (Made k text) (Keep taken) =
    Some (record {
      entries = with_entry w.entries (key_at l.keys k) text;
      disk = saved w.disk (key_at l.keys k) text taken;
      links = slice_set w.links j (settled l i k text);
    })
acted w j l i _ _ = None

abbrev pub phase_then : CoreState → ℕ → LinkState → ℕ → Act → Option Phase → Option CoreState
phase_then w j l i act None = None
phase_then w j l i act (Some p) = acted w j l i p act

abbrev pub link_then : CoreState → Event → Option LinkState → Option CoreState
link_then w e None = None
link_then w e (Some l) = phase_then w e.link l e.worker e.act (slice_get l.phases e.worker)

-- the core after an event, if it is enabled
abbrev pub stepped : CoreState → Event → Option CoreState
stepped w e = link_then w e (slice_get w.links e.link)

abbrev pub results_of : Option LinkState → Option (List (Option (List ℕ)))
results_of None = None
results_of (Some l) = Some l.results

-- the results of the link j
abbrev pub results_at : CoreState → ℕ → Option (List (Option (List ℕ)))
results_at w j = results_of (slice_get w.links j)

abbrev pub core_or : CoreState → Option CoreState → CoreState
core_or w None = w
core_or w (Some v) = v

-- a list of events, of which those that are not enabled change nothing
abbrev pub run : CoreState → List Event → CoreState
run w [] = w
run w (e ∷ es) = run (core_or w (stepped w e)) es

-- a link with these keys and so many workers
abbrev pub opened : List (List ℕ) × ℕ → LinkState
opened c = record { keys = c.0; next = 0; phases = replicate c.1 Idle; results = replicate (length c.0) None }

abbrev pub start : List (List (List ℕ) × ℕ) → List DiskPair → CoreState
start links disk = record { entries = []; disk = disk; links = map opened links }
