-- Why modules aren't linked.
use Rattle.std.specs.Prelude.{◌≡◌, ◌⊎◌, ℕ, Bool, List, Option}
use Rattle.ir_tree.specs.declared.module.Module.{Module}
use Rattle.symbol_resolve.specs.Clashes.{IsLeast}
use Rattle.combined_index.specs.Combined.{Combined}
use Rattle.combined_index.specs.Finals.{IsTaken, NoneTaken, final_names}
use Rattle.lto_fault.specs.declared.refusal.Refusal.{Refusal}
use Rattle.lto_fault.specs.declared.refusal.Refusal.TheVariants.{NameTaken}
use Rattle.thin_link.specs.Linking.{IsThinLink}
use Rattle.thin_link.specs.Refusing.{IsRefused}

-- two symbols have one of these final names; of such names the least is told
pub record IsLeastTaken (names : List (Option (List ℕ))) (why : Refusal) : Type 0 where
  pub name : List ℕ
  pub least : IsLeast (IsTaken names) name
  pub told : why ≡ NameTaken name

-- the modules have a thin link, and two live symbols have one final name
pub record IsNameTaken (exports : List (List ℕ)) (limit : ℕ) (suffixes : List (List ℕ)) (ms : List Module) (why : Refusal) : Type 0 where
  pub index : Combined
  pub live : List Bool
  pub imports : List (List ℕ)
  pub thin : IsThinLink ms exports limit index live imports
  pub taken : IsLeastTaken (final_names suffixes index.symbols live) why

-- the modules of these files have no thin link, or no names in it
abbrev pub IsUnlinked : List (List ℕ) → List (List ℕ) → ℕ → List (List ℕ) → List Module → Refusal → Type 0
IsUnlinked files exports limit suffixes ms why = IsRefused files ms exports why ⊎ IsNameTaken exports limit suffixes ms why

-- they have both
pub record CanBeLinked (exports : List (List ℕ)) (limit : ℕ) (suffixes : List (List ℕ)) (ms : List Module) : Type 0 where
  pub index : Combined
  pub live : List Bool
  pub imports : List (List ℕ)
  pub thin : IsThinLink ms exports limit index live imports
  pub named : NoneTaken (final_names suffixes index.symbols live)
