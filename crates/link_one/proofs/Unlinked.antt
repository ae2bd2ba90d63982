-- Modules that can be linked aren't refused, and those that are have one refusal.
use Rattle.std.proofs.Common.{◌≡◌, ◌∙◌, inl, inr, ℕ, Bool, List, Option, ap, sym, subst}
use Rattle.ir_tree.specs.declared.module.Module.{Module}
use Rattle.symbol_resolve.specs.Clashes.{IsLeast}
use Rattle.combined_index.specs.Combined.{Combined}
use Rattle.lto_fault.specs.declared.refusal.Refusal.{Refusal}
use Rattle.lto_fault.specs.declared.refusal.Refusal.TheVariants.{NameTaken}
use Rattle.combined_index.specs.Finals.{IsTaken, final_names}
use Rattle.thin_link.specs.Laws.{DecisionsAreOne, RefusalIsOne, ThinLinkIsNotRefused}
use Rattle.thin_link.specs.Linking.{IsThinLink}
use Rattle.link_one.specs.LinkedLaws.{UnlinkedIsNotLinked, UnlinkedIsOne}
use Rattle.link_one.specs.Refusing.{CanBeLinked, IsNameTaken}
use Rattle.thin_link.proofs.Clashing.{one_least}

module _ (one : DecisionsAreOne) (exports : List (List ℕ)) (limit : ℕ) (suffixes : List (List ℕ)) (ms : List Module) where
  -- what is decided is one, and so are the final names
  same_names : (index other : Combined) (live marks : List Bool) (imports lists : List (List ℕ)) → IsThinLink ms exports limit index live imports → IsThinLink ms exports limit other marks lists
      → final_names suffixes other.symbols marks ≡ final_names suffixes index.symbols live
  same_names index other live marks imports lists a b =
      let same = one ms exports limit index other live marks imports lists a b in
      ap (λ (c : Combined). final_names suffixes c.symbols marks) same.0 ∙ ap (λ (ls : List Bool). final_names suffixes index.symbols ls) same.1

  not_taken : (why : Refusal) → CanBeLinked exports limit suffixes ms → IsNameTaken exports limit suffixes ms why → ⊥
  not_taken why can taken =
      can.named taken.taken.name (subst (λ (ns : List (Option (List ℕ))). IsTaken ns taken.taken.name) (same_names can.index taken.index can.live taken.live can.imports taken.imports can.thin taken.thin) taken.taken.least.one)

  one_taken : (why other : Refusal) → IsNameTaken exports limit suffixes ms why → IsNameTaken exports limit suffixes ms other → why ≡ other
  one_taken why other a b =
      let least : IsLeast (IsTaken (final_names suffixes a.index.symbols a.live)) b.taken.name =
      subst (λ (ns : List (Option (List ℕ))). IsLeast (IsTaken ns) b.taken.name) (same_names a.index b.index a.live b.live a.imports b.imports a.thin b.thin) b.taken.least in
      a.taken.told ∙ ap NameTaken (one_least (IsTaken (final_names suffixes a.index.symbols a.live)) a.taken.name b.taken.name a.taken.least least) ∙ sym b.taken.told

pub unlinked_not_linked : ThinLinkIsNotRefused → DecisionsAreOne → UnlinkedIsNotLinked
unlinked_not_linked apart one files exports limit suffixes ms why can (inl refused) = apart files exports ms limit can.index can.live can.imports why can.thin refused
unlinked_not_linked apart one files exports limit suffixes ms why can (inr taken) = not_taken one exports limit suffixes ms why can taken

pub unlinked_one : ThinLinkIsNotRefused → RefusalIsOne → DecisionsAreOne → UnlinkedIsOne
unlinked_one apart refusal one files exports limit suffixes ms why other (inl a) (inl b) = refusal files exports ms why other a b
unlinked_one apart refusal one files exports limit suffixes ms why other (inl a) (inr b) = absurd (apart files exports ms limit b.index b.live b.imports why b.thin a)
unlinked_one apart refusal one files exports limit suffixes ms why other (inr a) (inl b) = absurd (apart files exports ms limit a.index a.live a.imports other a.thin b)
unlinked_one apart refusal one files exports limit suffixes ms why other (inr a) (inr b) = one_taken one exports limit suffixes ms why other a b
