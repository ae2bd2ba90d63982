-- The run of the modules of files.
use Rattle.std.proofs.Common.{ℕ, List, [], ◌∷◌, OnOk, Result, Ok, Err, inl, inr}
use Rattle.ir_tree.specs.declared.module.Module.{Module}
use Rattle.lto_fault.specs.declared.refusal.Refusal.{Refusal}
use Rattle.lto_fault.specs.Pushing.{Hears}
use Rattle.lto_fault.specs.Returned.{returned_text}
use Rattle.lto_fault.specs.declared.returned.Returned as line
use Rattle.lto_outside.specs.Seen.{FilesSeen}
use Rattle.lto_words.specs.declared.list.Decimal.{Decimal}
use Rattle.thin_link.specs.Refusing.{IsRefused}
use Rattle.run_program.specs.Causes.{never}
use Rattle.merge_meaning.specs.Merged.{merged}
use Rattle.thinlto_main.specs.Linking.{HasThinLink}
use Rattle.thinlto_main.specs.Modules.{AreRead, reading}
use Rattle.thinlto_main.specs.Running.{OfModules, SaysReturned, running}
use Rattle.run_program.specs.Merged.{merged_causes}
use Rattle.run_program.specs.Runs.{ReturnsSo, Said}
use Rattle.run_program.specs.Streams.{Notes, Streams}
use Rattle.run_program.proofs.Causes.{Implies}
use Rattle.thinlto_main.proofs.Reading.{fetched_no_put}
use Rattle.thinlto_main.proofs.Unlinked.{thin_is_not_refused}

-- modules that have a thin link are refused none
pub thin_links : {A : Type 0} (names exports : List (List ℕ)) (ms : List Module) (limit : ℕ) (r : Result A Refusal) → OnOk r (HasThinLink ms exports limit) → OnOk r ((why : Refusal) → IsRefused names ms exports why → ⊥)
thin_links names exports ms limit (Ok x) thin = λ why refused. thin_is_not_refused names exports ms limit why thin refused
thin_links names exports ms limit (Err e) thin = tt

-- ---- answers

module _ (root : List ℕ) (args : List Decimal) (steps : ℕ) (names : List (List ℕ)) (files : FilesSeen) (t : Streams) where
  -- why modules aren't read is why there is no run
  pub reading_runs : t.unused → Implies (reading names files) (running root args steps names files t)
  reading_runs unused = record {
    done = λ x. absurd x;
    usage = λ x. x;
    unread = λ name x. inl (x, unused);
    refused = λ file at kind x. (x, unused);
    unlinked = λ why x. absurd x;
    unfit = λ name x. absurd x;
    unwritten = λ name x. absurd x;
    unreturned = λ why x. absurd x;
    memory = λ x. inl (x, unused);
  }

  -- and why they aren't linked
  pub unlinked_runs : (ms : List Module) → AreRead names files.did ms → t.unused → Implies (record never { unlinked = IsRefused names ms (root ∷ []); memory = Unit {0} }) (running root args steps names files t)
  unlinked_runs ms r unused = record {
    done = λ x. absurd x;
    usage = λ x. x;
    unread = λ name x. absurd x;
    refused = λ file at kind x. absurd x;
    unlinked = λ why x. (record { ms = ms; read = r; refused = x }, unused);
    unfit = λ name x. absurd x;
    unwritten = λ name x. absurd x;
    unreturned = λ why x. absurd x;
    memory = λ x. inl (fetched_no_put names r.given files.did r.fetched, unused);
  }

  module _ (ms : List Module) (read : AreRead names files.did ms) (linked : (why : Refusal) → IsRefused names ms (root ∷ []) why → ⊥) where
    pub of_modules : (P : List Module → Type 0) → P ms → OfModules (AreRead names files.did) root names P
    of_modules P so = record { ms = ms; is = read; linked = linked; so = so }

    -- what the run of the modules answers is answered
    pub merged_runs : Implies (merged_causes root args steps names t ms) (running root args steps names files t)
    merged_runs = record {
      done = λ x. of_modules (λ ns. (merged_causes root args steps names t ns).done) x;
      usage = λ x. x;
      unread = λ name x. inr (of_modules (λ ns. (merged_causes root args steps names t ns).unread name) x);
      refused = λ file at kind x. absurd x;
      unlinked = λ why x. absurd x;
      unfit = λ name x. of_modules (λ ns. (merged_causes root args steps names t ns).unfit name) x;
      unwritten = λ name x. of_modules (λ ns. (merged_causes root args steps names t ns).unwritten name) x;
      unreturned = λ why x. of_modules (λ ns. (merged_causes root args steps names t ns).unreturned why) x;
      memory = λ x. inr (of_modules (λ ns. (merged_causes root args steps names t ns).memory) x);
    }

    -- and what it returned is said
    pub merged_says : (notes : Notes) (r : line.Returned) → ReturnsSo (merged ms) root args steps t r → Hears notes.stream (returned_text r) → SaysReturned (AreRead names files.did) root args steps names t notes
    merged_says notes r returns hears = of_modules (λ ns. Said (merged ns) root args steps t notes) (record { value = r; returns = returns; hears = hears })
