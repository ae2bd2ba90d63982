-- A run of modules.
use Rattle.std.specs.Prelude.{◌⊎◌, ℕ, List, [], ◌∷◌}
use Rattle.ir_tree.specs.declared.module.Module.{Module}
use Rattle.lto_fault.specs.declared.refusal.Refusal.{Refusal}
use Rattle.lto_outside.specs.Seen.{FilesSeen}
use Rattle.lto_words.specs.declared.list.Decimal.{Decimal}
use Rattle.merge_meaning.specs.Merged.{merged}
use Rattle.thin_link.specs.Refusing.{IsRefused}
use Rattle.run_program.specs.Causes.{Causes}
use Rattle.thinlto_main.specs.Modules.{AreRead, deciding}
use Rattle.run_program.specs.Merged.{merged_causes}
use Rattle.run_program.specs.Runs.{Said}
use Rattle.run_program.specs.Streams.{Notes, Streams}

-- the files are read as modules, which are linked with the root as their export; and this holds of them
pub record OfModules (read : List Module → Type 0) (root : List ℕ) (names : List (List ℕ)) (P : List Module → Type 0) : Type 0 where
  pub ms : List Module
  pub is : read ms
  pub linked : (why : Refusal) → IsRefused names ms (root ∷ []) why → ⊥
  pub so : P ms

-- The answers of a run of modules that are read so. Those that come before it are as they are of modules that are linked, and
-- then nothing was read or printed.
abbrev pub running_by : (List Module → Type 0) → Causes → List ℕ → List Decimal → ℕ → List (List ℕ) → Streams → Causes
running_by read before root args steps names t = record before {
  done = OfModules read root names (λ ms. (merged_causes root args steps names t ms).done);
  unread = λ name. (before.unread name × t.unused) ⊎ OfModules read root names (λ ms. (merged_causes root args steps names t ms).unread name);
  refused = λ file at kind. before.refused file at kind × t.unused;
  unlinked = λ why. before.unlinked why × t.unused;
  unfit = λ name. OfModules read root names (λ ms. (merged_causes root args steps names t ms).unfit name);
  unwritten = λ name. OfModules read root names (λ ms. (merged_causes root args steps names t ms).unwritten name);
  unreturned = λ why. OfModules read root names (λ ms. (merged_causes root args steps names t ms).unreturned why);
  memory = (before.memory × t.unused) ⊎ OfModules read root names (λ ms. (merged_causes root args steps names t ms).memory);
}

abbrev pub running : List ℕ → List Decimal → ℕ → List (List ℕ) → FilesSeen → Streams → Causes
running root args steps names files t = running_by (AreRead names files.did) (deciding (root ∷ []) names files) root args steps names t

-- what is said where it returned
abbrev pub SaysReturned : (List Module → Type 0) → List ℕ → List Decimal → ℕ → List (List ℕ) → Streams → Notes → Type 0
SaysReturned read root args steps names t notes = OfModules read root names (λ ms. Said (merged ms) root args steps t notes)
