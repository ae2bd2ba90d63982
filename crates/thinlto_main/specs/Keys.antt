-- The keys of a command's cache, and what a command leaves of the cache's disk.
use Rattle.std.specs.Prelude.{◌≡◌, ◌≢◌, ℕ, List, ◌∷◌, ◌++◌, length, Option, Some, None, Ok, ⊤}
use Rattle.std.specs.List.{AllZip, Contains}
use Rattle.cache_slot.specs.Decoded.{decoded}
use Rattle.cache_slot.specs.Files.{file_of}
use Rattle.lto_words.specs.Fetching.{fetch_calls}
use Rattle.lto_words.specs.Links.{GivenFor, all_files, all_given}
use Rattle.lto_words.specs.Listing.{IsList}
use Rattle.lto_words.specs.declared.listing.ListedLink.{ListedLink}
use Rattle.ir_tree.specs.declared.module.Module.{Module}
use Rattle.link_one.specs.ModuleUnits.{IsTaskInLink}
use Rattle.lto_outside.specs.Calls.{Call, Fetched}
use Rattle.lto_outside.specs.DiskStore.{DiskStore}
use Rattle.lto_outside.specs.Honest.{IsHonest}
use Rattle.lto_task.specs.Tasks.{TaskView, task_text}
use Rattle.lto_words.specs.declared.request.Command.{Command}
use Rattle.lto_words.specs.declared.request.Command.TheVariants.{Link, Batch, Index, Run, Gen}
use Rattle.lto_words.specs.declared.request.LinkOptions.{LinkOptions}
use Rattle.thinlto_main.specs.Linking.{suffixes_of}
use Rattle.thinlto_main.specs.Modules.{IsRead}

-- ---- keys

-- the text of a task of the link of what files gave
pub record IsKeyOf (options : LinkOptions) (given : List (Option (List ℕ))) (key : List ℕ) : Type 0 where
  pub ms : List Module
  pub read : AllZip IsRead given ms
  pub task : TaskView
  pub in_link : IsTaskInLink options.exports options.import_limit options.inline_limit (suffixes_of given) ms task
  pub is : key ≡ task_text task

-- of one of several links
pub record IsKeyAmong (options : LinkOptions) (all : List (List (Option (List ℕ)))) (key : List ℕ) : Type 0 where
  pub given : List (Option (List ℕ))
  pub one : Contains all given
  pub is : IsKeyOf options given key

-- of the link of these files, which were fetched first
pub record IsKeyOfFiles (options : LinkOptions) (names : List (List ℕ)) (did : List Call → Type 0) (key : List ℕ) : Type 0 where
  pub given : List (Option (List ℕ))
  pub each : length given ≡ length names
  pub later : List Call
  pub calls : did (fetch_calls names given ++ later)
  pub is : IsKeyOf options given key

-- of the links of this list file, which was fetched first, and then their files
pub record IsKeyOfList (options : LinkOptions) (list : List ℕ) (did : List Call → Type 0) (key : List ℕ) : Type 0 where
  pub bytes : List ℕ
  pub links : List ListedLink
  pub is_list : IsList bytes links
  pub given : List (List (Option (List ℕ)))
  pub each : AllZip GivenFor links given
  pub later : List Call
  pub calls : did ((Fetched list (Ok bytes) ∷ fetch_calls (all_files links) (all_given given)) ++ later)
  pub is : IsKeyAmong options given key

-- ---- the disk

-- every file is as it was, but those of the directory that have the name of one of these keys
abbrev pub OthersKept : (List ℕ → Type 0) → Option (List ℕ) → Option DiskStore → Option DiskStore → Type 0
OthersKept IsKey dir None new = ⊤
OthersKept IsKey dir (Some old) None = ⊥
OthersKept IsKey dir (Some old) (Some new) = (d name : List ℕ) → (dir ≡ Some d → (key : List ℕ) → IsKey key → file_of key ≢ name) → new d name ≡ old d name

-- and an honest disk is still honest
pub record DiskKept (fits : List ℕ → List ℕ → Type 0) (IsKey : List ℕ → Type 0) (dir : Option (List ℕ)) (old new : Option DiskStore) : Type 0 where
  pub honest : IsHonest decoded fits old → IsHonest decoded fits new
  pub others : OthersKept IsKey dir old new

-- what a command leaves of it: a case for each, of which links alone have a cache
abbrev pub LeavesDisk : Command → (List Call → Type 0) → (List ℕ → List ℕ → Type 0) → Option DiskStore → Option DiskStore → Type 0
LeavesDisk (Link options out names) did fits old new = ∥ DiskKept fits (IsKeyOfFiles options names did) options.cache old new ∥₁
LeavesDisk (Batch options list) did fits old new = ∥ DiskKept fits (IsKeyOfList options list did) options.cache old new ∥₁
LeavesDisk (Index exports limit names) did fits old new = new ≡ old
LeavesDisk (Run root args steps names) did fits old new = new ≡ old
LeavesDisk (Gen seed modules jobs) did fits old new = new ≡ old
