-- A link of files.
use Rattle.std.specs.Prelude.{◌≡◌, ℕ, Bool, true, false, List, [], ◌∷◌, ◌++◌, All, length, map, Option}
use Rattle.std.specs.List.{AllZip}
use Rattle.ir_tree.specs.Names.{AllBytes}
use Rattle.ir_tree.specs.declared.module.Module.{Module}
use Rattle.ir_parse.specs.Reading.{Reads}
use Rattle.ir_round_trip.specs.Within.{ModuleWithin}
use Rattle.lto_fault.specs.declared.refusal.Refusal.{Refusal}
use Rattle.lto_words.specs.Fetching.{fetch_calls}
use Rattle.lto_words.specs.declared.request.LinkOptions.{LinkOptions}
use Rattle.lto_outside.specs.Calls.{Put}
use Rattle.lto_outside.specs.Cause.{Rose}
use Rattle.lto_outside.specs.Seen.{FilesSeen}
use Rattle.combined_index.specs.Combined.{Combined}
use Rattle.link_one.specs.Linking.{IsLinkOf, IsOnlyLinkOf}
use Rattle.link_one.specs.Refusing.{IsUnlinked}
use Rattle.combined_index.specs.Suffixes.{suffix_of}
use Rattle.thin_link.specs.Linking.{IsThinLink}
use Rattle.run_program.specs.Causes.{Causes}
use Rattle.thinlto_main.specs.Modules.{AreFetched, IsRead, bytes_of, reading}

-- modules have a thin link
pub record HasThinLink (ms : List Module) (exports : List (List ℕ)) (limit : ℕ) : Type 0 where
  pub index : Combined
  pub live : List Bool
  pub imports : List (List ℕ)
  pub is : IsThinLink ms exports limit index live imports

-- what stands behind the names of each module's locals
abbrev pub suffixes_of : List (Option (List ℕ)) → List (List ℕ)
suffixes_of given = map suffix_of (map bytes_of given)

-- ---- what is made of what files gave

-- Both promises: the linked program does what the modules do together, and no other text is a link of these bytes. The text is
-- read as the linked module.
pub record IsMade (options : LinkOptions) (given : List (Option (List ℕ))) (text : List ℕ) : Type 0 where
  pub is_link : IsLinkOf options.exports options.import_limit options.inline_limit (map bytes_of given) text
  pub read : AllZip IsRead given is_link.ms
  pub only : IsOnlyLinkOf options.exports options.import_limit options.inline_limit (map bytes_of given) text
  -- within the reader's limits, which a linked module may pass
  pub reads : All AllBytes (map bytes_of given) → ModuleWithin is_link.l → (lines : List (List ℕ)) × Reads text is_link.l lines

-- where the cache is trusted, both promises hold; of what a cache gives no more can be had than that there is such a link
abbrev pub IsMadeIf : (trusted : Type 0) → LinkOptions → List (Option (List ℕ)) → List ℕ → Type 0
IsMadeIf trusted options given text = trusted → ∥ IsMade options given text ∥₁

-- all of it is read, as modules that can't be linked
pub record IsUnlinkable (options : LinkOptions) (names : List (List ℕ)) (given : List (Option (List ℕ))) (why : Refusal) : Type 0 where
  pub ms : List Module
  pub read : AllZip IsRead given ms
  pub unlinked : IsUnlinked names options.exports options.import_limit (suffixes_of given) ms why

-- all of it is read, as modules that nothing keeps from being linked
pub record IsLinkable (options : LinkOptions) (names : List (List ℕ)) (given : List (Option (List ℕ))) : Type 0 where
  pub ms : List Module
  pub read : AllZip IsRead given ms
  pub linked : (why : Refusal) → IsUnlinked names options.exports options.import_limit (suffixes_of given) ms why → ⊥

-- ---- a link

-- All files were fetched, in this order, nothing keeps them from being linked, and what a link makes of them was put, or its put
-- failed; there were no other calls
pub record DidLink (options : LinkOptions) (out : List ℕ) (names : List (List ℕ)) (trusted : Type 0) (files : FilesSeen) (done : Bool) : Type 0 where
  pub given : List (Option (List ℕ))
  pub each : length given ≡ length names
  pub linkable : IsLinkable options names given
  pub text : List ℕ
  pub made : IsMadeIf trusted options given text
  pub calls : files.did (fetch_calls names given ++ Put out text done ∷ [])

-- all were fetched, and can't be linked
pub record CannotBeLinked (options : LinkOptions) (names : List (List ℕ)) (files : FilesSeen) (why : Refusal) : Type 0 where
  pub given : List (Option (List ℕ))
  pub fetched : AreFetched names given files.did
  pub unlinkable : IsUnlinkable options names given why

pub record LinkCannotWrite (options : LinkOptions) (out : List ℕ) (names : List (List ℕ)) (trusted : Type 0) (files : FilesSeen) (name : List ℕ) : Type 0 where
  pub named : name ≡ out
  pub did_link : DidLink options out names trusted files false
  pub rose : Rose files.faults files.faults_now

abbrev pub linking : LinkOptions → List ℕ → List (List ℕ) → (trusted : Type 0) → FilesSeen → Causes
linking options out names trusted files = record (reading names files) {
  done = DidLink options out names trusted files true;
  unlinked = CannotBeLinked options names files;
  unwritten = LinkCannotWrite options out names trusted files;
}
