-- A batch of links: its list file is fetched and judged, then all files of all links are fetched, then each link is made, and then
-- each is put.
use Rattle.std.specs.Prelude.{◌≡◌, ◌≤◌, ◌^◌, ◌⊎◌, ℕ, List, [], ◌∷◌, ◌++◌, length, Option, Some, None, Ok}
use Rattle.std.specs.List.{AllZip}
use Rattle.lto_fault.specs.declared.kind.RefusalKind.{RefusalKind}
use Rattle.ir_tree.specs.declared.fault_kind.FaultKind.TheVariants.{Limit}
use Rattle.lto_fault.specs.declared.kind.RefusalKind.TheVariants.{BadLine, Unread}
use Rattle.lto_fault.specs.declared.refusal.Refusal.{Refusal}
use Rattle.lto_outside.specs.Calls.{Call, DidNoPut, Fetched}
use Rattle.lto_outside.specs.Cause.{Rose}
use Rattle.lto_outside.specs.Seen.{FilesSeen}
use Rattle.lto_words.specs.declared.request.LinkOptions.{LinkOptions}
use Rattle.lto_words.specs.Fetching.{FetchFailed, fetch_call, fetch_calls}
use Rattle.lto_words.specs.Links.{GivenFor, PutFailed, all_files, all_given, puts}
use Rattle.lto_words.specs.Listing.{FirstBadLine, IsList}
use Rattle.lto_words.specs.declared.listing.ListedLink.{ListedLink}
use Rattle.run_program.specs.Causes.{Causes, never}
use Rattle.thinlto_main.specs.Linking.{IsLinkable, IsMadeIf, IsUnlinkable}
use Rattle.thinlto_main.specs.Modules.{CannotFetch, FirstBad}

-- ---- the list file

-- it was fetched, with no other calls, and lists these links
pub record HasListed (list : List ℕ) (links : List ListedLink) (did : List Call → Type 0) : Type 0 where
  pub bytes : List ℕ
  pub short : length bytes ≤ 2 ^ 24
  pub is : IsList bytes links
  pub calls : did (Fetched list (Ok bytes) ∷ [])

-- too many bytes, which is told of line 0, or the number of the first line that is no link
abbrev pub IsBadList : Option (List ℕ) → ℕ → RefusalKind → Type 0
IsBadList None line kind = (line ≡ 0) × (kind ≡ Unread Limit)
IsBadList (Some bytes) line kind = (length bytes ≤ 2 ^ 24) × FirstBadLine bytes line × (kind ≡ BadLine)

-- it alone was fetched, and is bad
pub record ListIsBad (list : List ℕ) (files : FilesSeen) (file : List ℕ) (line : ℕ) (kind : RefusalKind) : Type 0 where
  pub named : file ≡ list
  pub given : Option (List ℕ)
  pub calls : files.did (fetch_call list given ∷ [])
  pub bad : IsBadList given line kind

-- why there are no links
abbrev pub listing : List ℕ → FilesSeen → Causes
listing list files = record never {
  unread = CannotFetch (list ∷ []) files;
  refused = ListIsBad list files;
  memory = DidNoPut files.did;
}

-- ---- the files of its links

-- it was fetched, and then all files of its links; and behind these calls this was done
pub record AreGiven (list : List ℕ) (links : List ListedLink) (given : List (List (Option (List ℕ)))) (did : List Call → Type 0) : Type 0 where
  pub bytes : List ℕ
  pub short : length bytes ≤ 2 ^ 24
  pub is : IsList bytes links
  pub each : AllZip GivenFor links given
  pub calls : did (Fetched list (Ok bytes) ∷ fetch_calls (all_files links) (all_given given))

-- it was fetched, and one of these files can't be
pub record LinksCannotFetch (list : List ℕ) (files : FilesSeen) (name : List ℕ) : Type 0 where
  pub bytes : List ℕ
  pub links : List ListedLink
  pub is : IsList bytes links
  pub failed : FetchFailed (λ calls. files.did (Fetched list (Ok bytes) ∷ calls)) (all_files links) name
  pub rose : Rose files.faults files.faults_now

-- of these links, and what their files gave, this holds of one, and those before it can be linked
abbrev pub FirstLink : LinkOptions → (ListedLink → List (Option (List ℕ)) → Type 0) → List ListedLink → List (List (Option (List ℕ))) → Type 0
FirstLink options P [] given = ⊥
FirstLink options P (link ∷ links) [] = ⊥
FirstLink options P (link ∷ links) (given ∷ rest) = P link given ⊎ (IsLinkable options link.files given × FirstLink options P links rest)

-- all were fetched, and this holds of one, before which all can be linked
pub record LinkStops (options : LinkOptions) (list : List ℕ) (files : FilesSeen) (P : ListedLink → List (Option (List ℕ)) → Type 0) : Type 0 where
  pub links : List ListedLink
  pub given : List (List (Option (List ℕ)))
  pub fetched : AreGiven list links given files.did
  pub first : FirstLink options P links given

-- one of its files isn't read, and is the first of them
abbrev pub LinkCannotRead : LinkOptions → List ℕ → FilesSeen → List ℕ → ℕ → RefusalKind → Type 0
LinkCannotRead options list files file line kind = LinkStops options list files (λ link given. FirstBad link.files given file line kind)

-- or all are read, and can't be linked
abbrev pub LinkIsRefused : LinkOptions → List ℕ → FilesSeen → Refusal → Type 0
LinkIsRefused options list files why = LinkStops options list files (λ link given. IsUnlinkable options link.files given why)

-- ---- all links

-- nothing keeps the modules of any from being linked
abbrev pub AreLinkable : LinkOptions → List ListedLink → List (List (Option (List ℕ))) → Type 0
AreLinkable options = AllZip (λ link given. IsLinkable options link.files given)

-- each was made, and then each was put; there were no other calls
pub record DidBatch (options : LinkOptions) (list : List ℕ) (trusted : Type 0) (files : FilesSeen) : Type 0 where
  pub links : List ListedLink
  pub given : List (List (Option (List ℕ)))
  pub texts : List (List ℕ)
  pub fetched : AreGiven list links given (λ calls. files.did (calls ++ puts links texts))
  pub linkable : AreLinkable options links given
  pub made : AllZip (IsMadeIf trusted options) given texts

-- each was made, and the put of this one failed, behind those before it
pub record BatchCannotWrite (options : LinkOptions) (list : List ℕ) (trusted : Type 0) (files : FilesSeen) (name : List ℕ) : Type 0 where
  pub links : List ListedLink
  pub given : List (List (Option (List ℕ)))
  pub texts : List (List ℕ)
  pub at : ℕ
  pub fetched : AreGiven list links given (λ calls. PutFailed (λ more. files.did (calls ++ more)) links texts at)
  pub linkable : AreLinkable options links given
  pub made : AllZip (IsMadeIf trusted options) given texts
  pub named : name ≡ fetched.calls.link.out
  pub rose : Rose files.faults files.faults_now

-- why there are none, or their files can't be had
abbrev pub fetching : List ℕ → FilesSeen → Causes
fetching list files = record (listing list files) { unread = λ name. CannotFetch (list ∷ []) files name ⊎ LinksCannotFetch list files name }

abbrev pub batching : LinkOptions → List ℕ → (trusted : Type 0) → FilesSeen → Causes
batching options list trusted files = record (fetching list files) {
  done = DidBatch options list trusted files;
  refused = λ file line kind. ListIsBad list files file line kind ⊎ LinkCannotRead options list files file line kind;
  unlinked = LinkIsRefused options list files;
  unwritten = BatchCannotWrite options list trusted files;
}
