-- What files that tell hold, and what a link of them puts.
use Rattle.std.specs.Prelude.{◌≡◌, ◌⊎◌, ◌<◌, ◌≤◌, ◌^◌, ℕ, List, [], ◌∷◌, length, map, Option, Some, None, IfSome, ⊤}
use Rattle.std.specs.List.{AllZip}
use Rattle.ir_tree.specs.declared.module.Module.{Module}
use Rattle.lto_outside.specs.Seen.{FilesSeen}
use Rattle.lto_outside.specs.Store.{Store}
use Rattle.lto_fault.specs.declared.kind.RefusalKind.{RefusalKind}
use Rattle.ir_tree.specs.declared.fault_kind.FaultKind.TheVariants.{Limit}
use Rattle.lto_fault.specs.declared.kind.RefusalKind.TheVariants.{Unread}
use Rattle.lto_fault.specs.declared.refusal.Refusal.{Refusal}
use Rattle.link_one.specs.Accepted.{Accepts, Refuses}
use Rattle.link_one.specs.Linking.{IsLinkOf, IsOnlyLinkOf}
use Rattle.link_one.specs.Refusing.{IsUnlinked}
use Rattle.lto_words.specs.declared.request.LinkOptions.{LinkOptions}
use Rattle.combined_index.specs.Suffixes.{suffix_of}
use Rattle.thin_link.specs.Refusing.{IsRefused}

-- ---- what a file holds

-- 16 MiB at most, which are read as this sound module
pub record HoldsModule (held : Store) (name : List ℕ) (m : Module) : Type 0 where
  pub bytes : List ℕ
  pub here : held name ≡ Some bytes
  pub short : length bytes ≤ 2 ^ 24
  pub accepted : Accepts bytes m

-- bytes past 16 MiB, which is told of line 0, or such as are read as no sound module within the limits
abbrev pub AreBad : List ℕ → ℕ → RefusalKind → Type 0
AreBad bytes line kind = ((2 ^ 24 < length bytes) × (line ≡ 0) × (kind ≡ Unread Limit)) ⊎ ((length bytes ≤ 2 ^ 24) × Refuses bytes line kind)

pub record HoldsBad (held : Store) (name : List ℕ) (line : ℕ) (kind : RefusalKind) : Type 0 where
  pub bytes : List ℕ
  pub here : held name ≡ Some bytes
  pub fault : AreBad bytes line kind

-- of these files the first that holds no module, and why
abbrev pub HoldFirstBad : Store → List (List ℕ) → List ℕ → ℕ → RefusalKind → Type 0
HoldFirstBad held [] file line kind = ⊥
HoldFirstBad held (name ∷ names) file line kind =
    ((file ≡ name) × HoldsBad held name line kind) ⊎ (((m : Module) × HoldsModule held name m) × HoldFirstBad held names file line kind)

-- these bytes, 16 MiB at most
abbrev pub Holds : Store → List ℕ → List ℕ → Type 0
Holds held name bytes = (held name ≡ Some bytes) × (length bytes ≤ 2 ^ 24)

-- these bytes, which are read as these modules
pub record HoldModules (held : Store) (names inputs : List (List ℕ)) (ms : List Module) : Type 0 where
  pub there : AllZip (Holds held) names inputs
  pub accepted : AllZip Accepts inputs ms

-- they hold modules that can't be linked
pub record HoldUnlinkable (options : LinkOptions) (names : List (List ℕ)) (held : Store) (why : Refusal) : Type 0 where
  pub inputs : List (List ℕ)
  pub ms : List Module
  pub modules : HoldModules held names inputs ms
  pub unlinked : IsUnlinked names options.exports options.import_limit (map suffix_of inputs) ms why

-- they hold modules that nothing keeps from being linked
pub record HoldLinkable (options : LinkOptions) (names : List (List ℕ)) (held : Store) : Type 0 where
  pub inputs : List (List ℕ)
  pub ms : List Module
  pub modules : HoldModules held names inputs ms
  pub linked : (why : Refusal) → IsUnlinked names options.exports options.import_limit (map suffix_of inputs) ms why → ⊥

-- they hold modules that have no thin link
pub record HoldUnlinked (exports names : List (List ℕ)) (held : Store) (why : Refusal) : Type 0 where
  pub ms : List Module
  pub modules : AllZip (HoldsModule held) names ms
  pub refused : IsRefused names ms exports why

-- these modules, in order
abbrev pub Held : List (List ℕ) → FilesSeen → List Module → Type 0
Held names files ms = IfSome files.held (λ held. AllZip (HoldsModule held) names ms)

-- ---- what a link did to them

-- the text is what a link makes of what these files hold, and no other is
pub record HoldMade (options : LinkOptions) (names : List (List ℕ)) (held : Store) (text : List ℕ) : Type 0 where
  pub inputs : List (List ℕ)
  pub there : AllZip (Holds held) names inputs
  pub is_link : IsLinkOf options.exports options.import_limit options.inline_limit inputs text
  pub only : IsOnlyLinkOf options.exports options.import_limit options.inline_limit inputs text

-- they hold what a link makes of these files, where the cache is trusted, or a front of it, and else what they held
pub record HoldLink (put : Store → Store → List ℕ → List ℕ → Type 0) (options : LinkOptions) (out : List ℕ) (names : List (List ℕ)) (trusted : Type 0) (old new : Store) : Type 0 where
  pub linkable : HoldLinkable options names old
  pub text : List ℕ
  pub made : trusted → ∥ HoldMade options names old text ∥₁
  pub put_there : put old new out text

abbrev pub LinkHeld : (Store → Store → List ℕ → List ℕ → Type 0) → LinkOptions → List ℕ → List (List ℕ) → (trusted : Type 0) → Option Store → Option Store → Type 0
LinkHeld put options out names trusted None new = ⊤
LinkHeld put options out names trusted (Some old) None = ⊥
LinkHeld put options out names trusted (Some old) (Some new) = HoldLink put options out names trusted old new
