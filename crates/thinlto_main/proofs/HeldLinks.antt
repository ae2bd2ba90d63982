-- What files hold is modules that are linked, or that can't be, or one that isn't read: one of the three, in one way.
use Rattle.std.proofs.Common.{ℕ, ◌≡◌, List, map, subst}
use Rattle.ir_tree.specs.declared.module.Module.{Module}
use Rattle.link_one.specs.Laws.{AcceptedIsNotRefused, AcceptedIsOne}
use Rattle.link_one.specs.LinkedLaws.{UnlinkedIsOne}
use Rattle.link_one.specs.Refusing.{IsUnlinked}
use Rattle.combined_index.specs.Suffixes.{suffix_of}
use Rattle.lto_fault.specs.declared.kind.RefusalKind.{RefusalKind}
use Rattle.lto_fault.specs.declared.refusal.Refusal.{Refusal}
use Rattle.lto_outside.specs.Store.{Store}
use Rattle.lto_words.specs.declared.request.LinkOptions.{LinkOptions}
use Rattle.thinlto_main.specs.Holding.{HoldFirstBad, HoldLinkable, HoldModules, HoldUnlinkable}
use Rattle.thinlto_main.proofs.Held.{hold_modules, none_bad, one_inputs, one_list}

module _ (held : Store) (options : LinkOptions) (names : List (List ℕ)) where
  pub linkable_bad : AcceptedIsNotRefused → (file : List ℕ) (line : ℕ) (kind : RefusalKind) → HoldLinkable options names held → HoldFirstBad held names file line kind → ⊥
  linkable_bad apart file line kind l bad =
      none_bad held apart names l.ms file line kind (hold_modules held names l.inputs l.ms l.modules.there l.modules.accepted) bad

  pub unlinkable_bad : AcceptedIsNotRefused → (why : Refusal) (file : List ℕ) (line : ℕ) (kind : RefusalKind) → HoldUnlinkable options names held why → HoldFirstBad held names file line kind → ⊥
  unlinkable_bad apart why file line kind u bad =
      none_bad held apart names u.ms file line kind (hold_modules held names u.inputs u.ms u.modules.there u.modules.accepted) bad

  -- what is held is one list of modules from one list of bytes
  moved_unlinked : AcceptedIsOne → (why : Refusal) (inputs : List (List ℕ)) (ms : List Module) → HoldModules held names inputs ms → (u : HoldUnlinkable options names held why)
      → IsUnlinked names options.exports options.import_limit (map suffix_of inputs) ms why
  moved_unlinked accepted why inputs ms h u =
      let same : u.inputs ≡ inputs = one_inputs held names u.inputs inputs u.modules.there h.there in
      let modules : u.ms ≡ ms = one_list held accepted names u.ms ms (hold_modules held names u.inputs u.ms u.modules.there u.modules.accepted) (hold_modules held names inputs ms h.there h.accepted) in
      subst (λ (l : List Module). IsUnlinked names options.exports options.import_limit (map suffix_of inputs) l why) modules
      (subst (λ (bs : List (List ℕ)). IsUnlinked names options.exports options.import_limit (map suffix_of bs) u.ms why) same u.unlinked)

  pub linkable_unlinkable : AcceptedIsOne → (why : Refusal) → HoldLinkable options names held → HoldUnlinkable options names held why → ⊥
  linkable_unlinkable accepted why l u = l.linked why (moved_unlinked accepted why l.inputs l.ms l.modules u)

  pub one_unlinkable : AcceptedIsOne → UnlinkedIsOne → (why other : Refusal) → HoldUnlinkable options names held why → HoldUnlinkable options names held other → other ≡ why
  one_unlinkable accepted law why other a b =
      law names options.exports options.import_limit (map suffix_of a.inputs) a.ms other why (moved_unlinked accepted other a.inputs a.ms a.modules b) a.unlinked
