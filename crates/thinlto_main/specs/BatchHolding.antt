-- What files that tell hold of a batch, and what a batch puts.
use Rattle.std.specs.Prelude.{◌≡◌, ◌⊎◌, ◌<◌, ◌≤◌, ◌^◌, ℕ, List, [], ◌∷◌, length, take, slice_get, Option, Some, None, if◌then◌else◌, ⊤}
use Rattle.std.specs.List.{AllByRecursion, AllZip}
use Rattle.std.specs.Str.{bytes_eq}
use Rattle.lto_fault.specs.declared.kind.RefusalKind.{RefusalKind}
use Rattle.ir_tree.specs.declared.fault_kind.FaultKind.TheVariants.{Limit}
use Rattle.lto_fault.specs.declared.kind.RefusalKind.TheVariants.{BadLine, Unread}
use Rattle.lto_fault.specs.declared.refusal.Refusal.{Refusal}
use Rattle.lto_outside.specs.Store.{HasPart, Store}
use Rattle.lto_words.specs.declared.request.LinkOptions.{LinkOptions}
use Rattle.lto_words.specs.Listing.{FirstBadLine, IsList}
use Rattle.lto_words.specs.declared.listing.ListedLink.{ListedLink}
use Rattle.thinlto_main.specs.Holding.{HoldFirstBad, HoldLinkable, HoldMade, HoldUnlinkable, Holds}

-- ---- the list file

-- its bytes, 16 MiB at most, list these links
pub record HoldsList (held : Store) (list : List ℕ) (links : List ListedLink) : Type 0 where
  pub bytes : List ℕ
  pub there : Holds held list bytes
  pub is : IsList bytes links

-- bytes past 16 MiB, which is told of line 0, or the number of the first line that is no link
abbrev pub AreBadLines : List ℕ → ℕ → RefusalKind → Type 0
AreBadLines bytes line kind = ((2 ^ 24 < length bytes) × (line ≡ 0) × (kind ≡ Unread Limit)) ⊎ ((length bytes ≤ 2 ^ 24) × FirstBadLine bytes line × (kind ≡ BadLine))

pub record HoldsBadList (held : Store) (list : List ℕ) (line : ℕ) (kind : RefusalKind) : Type 0 where
  pub bytes : List ℕ
  pub here : held list ≡ Some bytes
  pub fault : AreBadLines bytes line kind

-- ---- the files of its links

-- of these links this holds of one, and those before it can be linked
abbrev pub FirstHeld : LinkOptions → Store → (ListedLink → Type 0) → List ListedLink → Type 0
FirstHeld options held P [] = ⊥
FirstHeld options held P (link ∷ links) = P link ⊎ (HoldLinkable options link.files held × FirstHeld options held P links)

-- the list is read, and this holds of one of its links, before which all can be linked
pub record HoldStop (options : LinkOptions) (list : List ℕ) (held : Store) (P : ListedLink → Type 0) : Type 0 where
  pub links : List ListedLink
  pub listed : HoldsList held list links
  pub first : FirstHeld options held P links

-- the first that is bad: the list, or one of the files of its links
abbrev pub HoldBatchBad : LinkOptions → List ℕ → Store → List ℕ → ℕ → RefusalKind → Type 0
HoldBatchBad options list held file line kind = ((file ≡ list) × HoldsBadList held list line kind) ⊎ HoldStop options list held (λ link. HoldFirstBad held link.files file line kind)

-- the first link that can't be linked
abbrev pub HoldBatchUnlinkable : LinkOptions → List ℕ → Store → Refusal → Type 0
HoldBatchUnlinkable options list held why = HoldStop options list held (λ link. HoldUnlinkable options link.files held why)

-- all can be linked
pub record CanBatch (options : LinkOptions) (list : List ℕ) (held : Store) : Type 0 where
  pub links : List ListedLink
  pub listed : HoldsList held list links
  pub each : AllByRecursion (λ link. HoldLinkable options link.files held) links

-- ---- what was put

-- what this name holds where it held this and then the links' texts were put: of those put there the last
abbrev pub put_over : List ListedLink → List (List ℕ) → List ℕ → Option (List ℕ) → Option (List ℕ)
put_over [] texts name was = was
put_over (link ∷ links) [] name was = was
put_over (link ∷ links) (text ∷ texts) name was = put_over links texts name (if bytes_eq link.out name then Some text else was)

-- each link's file holds its text, of two of one file the later's, and all other files are as they were
abbrev pub HavePut : Store → Store → List ListedLink → List (List ℕ) → Type 0
HavePut old new links texts = (name : List ℕ) → new name ≡ put_over links texts name (old name)

-- so are those before one, whose file, which has this name, is as it then was or holds a front of its text
pub record HavePart (name : List ℕ) (old new : Store) (links : List ListedLink) (texts : List (List ℕ)) : Type 0 where
  pub at : ℕ
  pub link : ListedLink
  pub text : List ℕ
  pub of_link : slice_get links at ≡ Some link
  pub of_text : slice_get texts at ≡ Some text
  pub named : name ≡ link.out
  pub next : Store
  pub before : HavePut old next (take at links) (take at texts)
  pub part : HasPart next new link.out text

-- the list is read, each link can be made, its text is what a link makes of its files, where the cache is trusted, and all were put so
pub record HoldBatch (put : Store → Store → List ListedLink → List (List ℕ) → Type 0) (options : LinkOptions) (list : List ℕ) (trusted : Type 0) (old new : Store) : Type 0 where
  pub links : List ListedLink
  pub listed : HoldsList old list links
  pub each : AllByRecursion (λ link. HoldLinkable options link.files old) links
  pub texts : List (List ℕ)
  pub made : AllZip (λ link text. trusted → ∥ HoldMade options link.files old text ∥₁) links texts
  pub put_there : put old new links texts

abbrev pub BatchHeld : (Store → Store → List ListedLink → List (List ℕ) → Type 0) → LinkOptions → List ℕ → (trusted : Type 0) → Option Store → Option Store → Type 0
BatchHeld put options list trusted None new = ⊤
BatchHeld put options list trusted (Some old) None = ⊥
BatchHeld put options list trusted (Some old) (Some new) = HoldBatch put options list trusted old new
