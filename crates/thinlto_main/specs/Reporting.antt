-- The report of an index.
use Rattle.std.specs.Prelude.{◌≡◌, ℕ, Bool, false, List, Option}
use Rattle.std.specs.List.{AllZip}
use Rattle.ir_tree.specs.declared.module.Module.{Module}
use Rattle.lto_fault.specs.Pushing.{Pushes}
use Rattle.thin_link.specs.Linking.{IsIndexReport}
use Rattle.thinlto_main.specs.Modules.{AreFetched, IsRead}
use Rattle.run_program.specs.Streams.{OUTPUT}
use Rattle.thinlto_main.specs.Seen.{Seen}

-- the report of the thin link of what these bytes are read as
pub record IsReportOf (exports names : List (List ℕ)) (limit : ℕ) (given : List (Option (List ℕ))) (text : List ℕ) : Type 0 where
  pub ms : List Module
  pub read : AllZip IsRead given ms
  pub is : IsIndexReport names ms exports limit text

-- every report of these bytes is this text
abbrev pub IsOnlyReportOf : List (List ℕ) → List (List ℕ) → ℕ → List (Option (List ℕ)) → List ℕ → Type 0
IsOnlyReportOf exports names limit given text = (other : List ℕ) → IsReportOf exports names limit given other → other ≡ text

-- All files were fetched, with no other calls, and their report was pushed, or a front of it up to a fault of the output. No
-- other text is a report of these bytes.
pub record DidReport (exports names : List (List ℕ)) (limit : ℕ) (s : Seen) (done : Bool) : Type 0 where
  pub given : List (Option (List ℕ))
  pub text : List ℕ
  pub fetched : AreFetched names given s.files.did
  pub is_report : IsReportOf exports names limit given text
  pub only : IsOnlyReportOf exports names limit given text
  pub sent : Pushes s.out text done

pub record ReportCannotWrite (exports names : List (List ℕ)) (limit : ℕ) (s : Seen) (name : List ℕ) : Type 0 where
  pub named : name ≡ OUTPUT
  pub did_report : DidReport exports names limit s false
