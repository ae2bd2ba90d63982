-- What a cache leaves of its disk.
use mathlib.Core.Logic.{∥∥₁_map}
use Rattle.std.proofs.Common.{◌≢◌, ℕ, List, Option, Some, None, refl}
use Rattle.cache_slot.specs.Files.{file_of}
use Rattle.cache_slot.specs.Records.{NoEntryOf}
use Rattle.cache_slot.specs.Shelved.{DiskTold, IsShelved}
use Rattle.cache_slot.specs.declared.record.Record.{Record}
use Rattle.lto_outside.specs.DiskStore.{DiskStore}
use Rattle.thinlto_main.specs.Keys.{DiskKept, OthersKept}

module _ (fits : List ℕ → List ℕ → Type 0) (IsKey : List ℕ → Type 0) (dir : Option (List ℕ)) where
  -- an entry has a key, so where no key has the name no entry has it
  told_others : (old new : Option DiskStore) (rs : List Record) → ((name : List ℕ) → ((key : List ℕ) → IsKey key → file_of key ≢ name) → NoEntryOf name rs) → DiskTold dir old new rs → OthersKept IsKey dir old new
  told_others None new rs none t = tt
  told_others (Some old) None rs none t = t
  told_others (Some old) (Some new) rs none t = λ d name apart. t.others d name (λ here. none name (apart here))

  pub shelved_kept : (faults later : ℕ) (old new : Option DiskStore) (rs : List Record) → IsShelved fits IsKey dir faults old later new rs → DiskKept fits IsKey dir old new
  shelved_kept faults later old new rs s = record {
    honest = s.honest;
    others = told_others old new rs (λ name apart key text failed before behind here. apart key (s.named key text failed before behind here)) s.told;
  }

  same_others : (held : Option DiskStore) → OthersKept IsKey dir held held
  same_others None = tt
  same_others (Some held) = λ d name apart. refl

  -- as it was
  pub same_kept : (held : Option DiskStore) → DiskKept fits IsKey dir held held
  same_kept held = record { honest = λ h. h; others = same_others held }

  -- more keys leave less
  wider_others : (IsMore : List ℕ → Type 0) → ((key : List ℕ) → IsKey key → IsMore key) → (old new : Option DiskStore) → OthersKept IsKey dir old new → OthersKept IsMore dir old new
  wider_others IsMore more None new o = tt
  wider_others IsMore more (Some old) None o = o
  wider_others IsMore more (Some old) (Some new) o = λ d name apart. o d name (λ here key is. apart here key (more key is))

  pub wider_kept : (IsMore : List ℕ → Type 0) → ((key : List ℕ) → IsKey key → IsMore key) → (old new : Option DiskStore) → ∥ DiskKept fits IsKey dir old new ∥₁ → ∥ DiskKept fits IsMore dir old new ∥₁
  wider_kept IsMore more old new kept = ∥∥₁_map kept (λ k. record { honest = k.honest; others = wider_others IsMore more old new k.others })
