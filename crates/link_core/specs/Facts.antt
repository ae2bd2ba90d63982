-- What holds after every list of events.
use Rattle.std.specs.Prelude.{◌≡◌, ℕ, zero, suc, ◌+◌, ◌<◌, ◌≤◌, ◌==◌, if◌then◌else◌, List, [], ◌∷◌, length, min, slice_get, sum_by, Option, Some, None}
use Rattle.link_core.specs.declared.event.DiskPair.{DiskPair}
use Rattle.link_core.specs.declared.event.Phase.{Phase}
use Rattle.link_core.specs.declared.event.Phase.TheVariants.{Idle, Claimed, Missed, Made, Ended}
use Rattle.link_core.specs.declared.event.Act.{Act}
use Rattle.link_core.specs.declared.event.Act.TheVariants.{Compile}
use Rattle.link_core.specs.declared.event.Event.{Event}
use Rattle.link_core.specs.Machine.{LinkState, CoreState, key_at, text_of, stepped, core_or, run, start}

-- 1 where the worker has the number k
abbrev pub has_number : ℕ → Phase → ℕ
has_number k Idle = 0
has_number k (Claimed j) = if j == k then 1 else 0
has_number k (Missed j) = if j == k then 1 else 0
has_number k (Made j text) = if j == k then 1 else 0
has_number k Ended = 0

abbrev pub one_if : Option (List ℕ) → ℕ
one_if None = 0
one_if (Some t) = 1

-- 1 where there is a result at k
abbrev pub has_result : ℕ → List (Option (List ℕ)) → ℕ
has_result k [] = 0
has_result zero (r ∷ rs) = one_if r
has_result (suc k) (r ∷ rs) = has_result k rs

-- t is 1 where k is below m, and else 0
abbrev pub OnceBelow : ℕ → ℕ → ℕ → Type 0
OnceBelow m k t = (k < m → t ≡ 1) × (m ≤ k → t ≡ 0)

-- `made_of key text`: the text is what a back end makes of the task that the key spells
module _ (made_of : List ℕ → List ℕ → Type 0) where
  pub record IsGoodLink (l : LinkState) : Type 0 where
    pub sized : length l.results ≡ length l.keys
    -- each number below the count of keys that was claimed is in just one place, and no other is in any
    pub places : (k : ℕ) → OnceBelow (min l.next (length l.keys)) k (sum_by (has_number k) l.phases + has_result k l.results)
    pub compiled : (i k : ℕ) (t : List ℕ) → slice_get l.phases i ≡ Some (Made k t) → made_of (key_at l.keys k) t
    pub made : (k : ℕ) (t : List ℕ) → slice_get l.results k ≡ Some (Some t) → made_of (key_at l.keys k) t
    pub past_end : (i : ℕ) → slice_get l.phases i ≡ Some Ended → length l.keys ≤ l.next

  -- each text is made of the task that its key spells
  abbrev pub AllHonest : List DiskPair → Type 0
  AllHonest [] = Unit {0}
  AllHonest (p ∷ ps) = made_of p.key p.text × AllHonest ps

  -- no two pairs have one key
  abbrev pub Distinct : List DiskPair → Type 0
  Distinct [] = Unit {0}
  Distinct (p ∷ ps) = (text_of p.key ps ≡ None) × Distinct ps

  pub record IsGood (w : CoreState) : Type 0 where
    pub honest : AllHonest w.entries
    pub disk : AllHonest w.disk
    pub distinct : Distinct w.entries
    pub links : (j : ℕ) (l : LinkState) → slice_get w.links j ≡ Some l → IsGoodLink l

  -- a text that is compiled is made of the task that the worker's key spells
  abbrev pub HonestAct : LinkState → Phase → Act → Type 0
  HonestAct l (Missed k) (Compile text) = made_of (key_at l.keys k) text
  HonestAct l _ _ = Unit {0}

  -- what the event compiles is made of the task that its key spells
  abbrev pub CompilesHonestly : CoreState → Event → Type 0
  CompilesHonestly w e = (l : LinkState) (p : Phase) → slice_get w.links e.link ≡ Some l → slice_get l.phases e.worker ≡ Some p → HonestAct l p e.act

  abbrev pub HonestRun : CoreState → List Event → Type 0
  HonestRun w [] = Unit {0}
  HonestRun w (e ∷ es) = CompilesHonestly w e × HonestRun (core_or w (stepped w e)) es

  -- a core is good at its start
  abbrev pub StartsGood : Type 0
  StartsGood = (links : List (List (List ℕ) × ℕ)) (disk : List DiskPair) → AllHonest disk → IsGood (start links disk)

  -- no event undoes it
  abbrev pub StaysGood : Type 0
  StaysGood = (w : CoreState) (events : List Event) → IsGood w → HonestRun w events → IsGood (run w events)

  -- so it holds after every list of events
  abbrev pub EveryRunIsGood : Type 0
  EveryRunIsGood = (links : List (List (List ℕ) × ℕ)) (disk : List DiskPair) (events : List Event) → AllHonest disk → HonestRun (start links disk) events → IsGood (run (start links disk) events)

  -- where a link has a worker and all its workers have ended, all its results are there
  abbrev pub AllResultsAreThere : Type 0
  AllResultsAreThere =
      (l : LinkState) → IsGoodLink l → 0 < length l.phases → ((i : ℕ) (p : Phase) → slice_get l.phases i ≡ Some p → p ≡ Ended)
      → (k : ℕ) → k < length l.keys → has_result k l.results ≡ 1
