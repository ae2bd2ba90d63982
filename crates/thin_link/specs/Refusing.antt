-- Why modules have no thin link.
use Rattle.std.specs.Prelude.{◌≡◌, ◌⊎◌, ℕ, List, [], slice_index_or}
use Rattle.ir_tree.specs.declared.module.Module.{Module}
use Rattle.symbol_resolve.specs.Clashes.{Clashes, NoClash}
use Rattle.symbol_resolve.specs.declared.clash.Clash.{Clash}
use Rattle.symbol_resolve.specs.declared.clash.Clash.TheVariants as clash
use Rattle.ir_tree.specs.declared.target_line.TargetLine.{TargetLine}
use Rattle.combined_index.specs.Combined.{Combined}
use Rattle.combined_index.specs.Liveness.{Refuses}
use Rattle.combined_index.specs.declared.refused.Refused.{Refused}
use Rattle.combined_index.specs.declared.refused.Refused.TheVariants as lack
use Rattle.lto_fault.specs.declared.refusal.Refusal.{Refusal}
use Rattle.lto_fault.specs.declared.refusal.Refusal.TheVariants as refusal
use Rattle.thin_link.specs.Linking.{IsIndex}

-- ---- how it is told: modules by the names of their files

abbrev pub file : List (List ℕ) → ℕ → List ℕ
file files k = slice_index_or files k []

abbrev pub clash_refusal : List (List ℕ) → Clash → Refusal
clash_refusal files (clash.TargetClash line a b) = refusal.TargetClash line (file files a) (file files b)
clash_refusal files (clash.DuplicateSymbol name a b) = refusal.DuplicateSymbol name (file files a) (file files b)
clash_refusal files (clash.KindClash name f v) = refusal.KindClash name (file files f) (file files v)

abbrev pub lack_refusal : List (List ℕ) → Refused → Refusal
lack_refusal files (lack.Undefined name k) = refusal.UndefinedSymbol name (file files k)
lack_refusal files (lack.NoExport name) = refusal.NoExport name

-- ---- when it comes

-- the modules can't be linked with one another
pub record IsClash (files : List (List ℕ)) (ms : List Module) (why : Refusal) : Type 0 where
  pub clash : Clash
  pub clashes : Clashes ms clash
  pub told : why ≡ clash_refusal files clash

-- they can, but their link lacks a definition
pub record IsLack (files : List (List ℕ)) (ms : List Module) (exports : List (List ℕ)) (why : Refusal) : Type 0 where
  pub resolved : NoClash ms
  pub index : Combined
  pub combined : IsIndex ms index
  pub lack : Refused
  pub lacks : Refuses index exports lack
  pub told : why ≡ lack_refusal files lack

abbrev pub IsRefused : List (List ℕ) → List Module → List (List ℕ) → Refusal → Type 0
IsRefused files ms exports why = IsClash files ms why ⊎ IsLack files ms exports why
