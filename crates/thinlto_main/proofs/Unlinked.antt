-- The refusals of links.
use Rattle.std.proofs.Common.{◌≡◌, ◌≢◌, ℕ, List, Result, Ok, Err, inl, inr, sym, subst}
use Rattle.std.specs.Prelude.{IfErr}
use Rattle.ir_tree.specs.declared.module.Module.{Module}
use Rattle.combined_index.specs.declared.refused.Refused.{Refused as Lack}
use Rattle.combined_index.specs.declared.refused.Refused.TheVariants as lack
use Rattle.lto_fault.specs.declared.refusal.Refusal.{Refusal}
use Rattle.lto_fault.specs.declared.refusal.Refusal.TheVariants.{Usage, ReadFault, Refused, TargetClash, DuplicateSymbol, KindClash, UndefinedSymbol, NoExport, NameTaken, BadArguments, WriteFault, NoMemory, Undefined, Uninit, OutOfSteps}
use Rattle.symbol_resolve.specs.declared.clash.Clash.{Clash}
use Rattle.symbol_resolve.specs.declared.clash.Clash.TheVariants as clash
use Rattle.link_one.specs.Refusing.{IsUnlinked}
use Rattle.thin_link.specs.Refusing.{IsRefused, clash_refusal, lack_refusal}
use Rattle.thin_link.proofs.Apart.{decided_not_refused}
use Rattle.run_program.specs.Causes.{Because, Causes}
use Rattle.thinlto_main.specs.Linking.{HasThinLink}

-- it is one of those that tell why modules have no thin link
module _ (files exports : List (List ℕ)) (ms : List Module) (k : Causes) (tells : (why : Refusal) → IsRefused files ms exports why → k.unlinked why) where
  by_clash : (why : Refusal) (c : Clash) → why ≡ clash_refusal files c → IsRefused files ms exports why → Because k why
  by_clash why (clash.TargetClash line a b) is h = subst (λ w. IsRefused files ms exports w → Because k w) (sym is) (tells (clash_refusal files (clash.TargetClash line a b))) h
  by_clash why (clash.DuplicateSymbol name a b) is h = subst (λ w. IsRefused files ms exports w → Because k w) (sym is) (tells (clash_refusal files (clash.DuplicateSymbol name a b))) h
  by_clash why (clash.KindClash name f v) is h = subst (λ w. IsRefused files ms exports w → Because k w) (sym is) (tells (clash_refusal files (clash.KindClash name f v))) h

  by_lack : (why : Refusal) (l : Lack) → why ≡ lack_refusal files l → IsRefused files ms exports why → Because k why
  by_lack why (lack.Undefined name m) is h = subst (λ w. IsRefused files ms exports w → Because k w) (sym is) (tells (lack_refusal files (lack.Undefined name m))) h
  by_lack why (lack.NoExport name) is h = subst (λ w. IsRefused files ms exports w → Because k w) (sym is) (tells (lack_refusal files (lack.NoExport name))) h

  pub by_refusal : (why : Refusal) → IsRefused files ms exports why → Because k why
  by_refusal why (inl c) = by_clash why c.clash c.told (inl c)
  by_refusal why (inr l) = by_lack why l.lack l.told (inr l)

-- a link tells beside these that a name is taken
pub by_unlinked : (files exports : List (List ℕ)) (limit : ℕ) (suffixes : List (List ℕ)) (ms : List Module) (k : Causes) → ((why : Refusal) → IsUnlinked files exports limit suffixes ms why → k.unlinked why)
    → (why : Refusal) → IsUnlinked files exports limit suffixes ms why → Because k why
by_unlinked files exports limit suffixes ms k tells why (inl refused) = by_refusal files exports ms k (λ w r. tells w (inl r)) why refused
by_unlinked files exports limit suffixes ms k tells why (inr taken) =
    subst (λ w. Because k w) (sym taken.taken.told) (tells (NameTaken taken.taken.name) (subst (λ w. IsUnlinked files exports limit suffixes ms w) taken.taken.told (inr taken)))

-- or memory ran out
module _ (k : Causes) (P : Refusal → Type 0) (tells : (why : Refusal) → P why → Because k why) where
  pub unlinked_because : (why : Refusal) → (why ≢ NoMemory → P why) → k.memory → Because k why
  unlinked_because NoMemory h memory = memory
  unlinked_because Usage h memory = tells Usage (h (λ e. let no : ⊥ = cc in no))
  unlinked_because (ReadFault name) h memory = tells (ReadFault name) (h (λ e. let no : ⊥ = cc in no))
  unlinked_because (Refused file line kind) h memory = tells (Refused file line kind) (h (λ e. let no : ⊥ = cc in no))
  unlinked_because (TargetClash target first second) h memory = tells (TargetClash target first second) (h (λ e. let no : ⊥ = cc in no))
  unlinked_because (DuplicateSymbol name first second) h memory = tells (DuplicateSymbol name first second) (h (λ e. let no : ⊥ = cc in no))
  unlinked_because (KindClash name function variable) h memory = tells (KindClash name function variable) (h (λ e. let no : ⊥ = cc in no))
  unlinked_because (UndefinedSymbol name file) h memory = tells (UndefinedSymbol name file) (h (λ e. let no : ⊥ = cc in no))
  unlinked_because (NoExport name) h memory = tells (NoExport name) (h (λ e. let no : ⊥ = cc in no))
  unlinked_because (NameTaken name) h memory = tells (NameTaken name) (h (λ e. let no : ⊥ = cc in no))
  unlinked_because (BadArguments name) h memory = tells (BadArguments name) (h (λ e. let no : ⊥ = cc in no))
  unlinked_because (WriteFault name) h memory = tells (WriteFault name) (h (λ e. let no : ⊥ = cc in no))
  unlinked_because (Undefined function file instruction cause) h memory = tells (Undefined function file instruction cause) (h (λ e. let no : ⊥ = cc in no))
  unlinked_because (Uninit function file instruction) h memory = tells (Uninit function file instruction) (h (λ e. let no : ⊥ = cc in no))
  unlinked_because (OutOfSteps steps) h memory = tells (OutOfSteps steps) (h (λ e. let no : ⊥ = cc in no))

  pub if_unlinked_because : {A : Type 0} → (r : Result A Refusal) → IfErr r (λ why. why ≢ NoMemory → P why) → k.memory → IfErr r (Because k)
  if_unlinked_because (Ok x) h memory = tt
  if_unlinked_because (Err why) h memory = unlinked_because why h memory

-- modules that have a thin link aren't refused one
pub thin_is_not_refused : (files exports : List (List ℕ)) (ms : List Module) (limit : ℕ) (why : Refusal) → HasThinLink ms exports limit → IsRefused files ms exports why → ⊥
thin_is_not_refused files exports ms limit why thin refused = decided_not_refused files exports ms limit thin.index thin.live thin.imports why thin.is refused
