-- What is seen of files and streams over a run of calls.
use Rattle.std.specs.Prelude.{ℕ, List, Option}
use Rattle.lto_outside.specs.Calls.{Call}
use Rattle.lto_outside.specs.Store.{Store}

-- of files: the calls, what was held before, what is held now, and the counts of faults
pub record FilesSeen : Type 1 where
  pub did : List Call → Type 0
  pub held : Option Store
  pub holds : Option Store
  pub faults : ℕ
  pub faults_now : ℕ

abbrev pub files_seen : {F : Type 0} → (F → List Call → F → Type 0) → (F → Option Store) → (F → ℕ) → F → F → FilesSeen
files_seen did held faults old new = record {
  did = λ calls. did old calls new;
  held = held old;
  holds = held new;
  faults = faults old;
  faults_now = faults new;
}

-- of a stream: what was left or sent before, what is now, and the counts of faults
pub record StreamSeen : Type 0 where
  pub told : Option (List ℕ)
  pub told_now : Option (List ℕ)
  pub faults : ℕ
  pub faults_now : ℕ

abbrev pub stream_seen : {S : Type 0} → (S → Option (List ℕ)) → (S → ℕ) → S → S → StreamSeen
stream_seen told faults old new = record {
  told = told old;
  told_now = told new;
  faults = faults old;
  faults_now = faults new;
}
