-- What calls in a row do, and when a disk stays honest.
use Rattle.std.specs.Prelude.{◌++◌, ℕ, List, Option, Some, take}
use Rattle.lto_outside.specs.Calls.{Call, NoPut}
use Rattle.lto_outside.specs.DiskStore.{DiskStore, DiskStays, HasSaved, HasSavedPart}
use Rattle.lto_outside.specs.Honest.{Decoding, IsHonest, IsHonestEntry}
use Rattle.lto_outside.specs.Replay.{Replays}
use Rattle.lto_outside.specs.Store.{Store, SameFiles}

-- calls behind calls do what the calls in a row do
abbrev pub CallsCompose : Type 0
CallsCompose = (first rest : List Call) (a b c : Store) → Replays a first b → Replays b rest c → Replays a (first ++ rest) c

-- calls of which none is a put change no file
abbrev pub NoPutChangesNothing : Type 0
NoPutChangesNothing = (calls : List Call) (old new : Store) → NoPut calls → Replays old calls new → SameFiles old new

-- a disk whose files stay is as honest as before
abbrev pub StayingKeepsHonest : (List ℕ → List ℕ → Type 0) → Type 0
StayingKeepsHonest fits = (decoded : Decoding) (old new : Option DiskStore) → DiskStays old new → IsHonest decoded fits old → IsHonest decoded fits new

-- a save of an honest entry keeps a disk honest
abbrev pub SaveKeepsHonest : (List ℕ → List ℕ → Type 0) → Type 0
SaveKeepsHonest fits = (decoded : Decoding) (old new : DiskStore) (dir name bytes : List ℕ) → HasSaved old new dir name bytes → IsHonestEntry decoded fits bytes → IsHonest decoded fits (Some old) → IsHonest decoded fits (Some new)

-- so does a save that failed, where each front of the bytes is honest
abbrev pub FailedSaveKeepsHonest : (List ℕ → List ℕ → Type 0) → Type 0
FailedSaveKeepsHonest fits = (decoded : Decoding) (old new : DiskStore) (dir name bytes : List ℕ) → HasSavedPart old new dir name bytes → ((count : ℕ) → IsHonestEntry decoded fits (take count bytes)) → IsHonest decoded fits (Some old) → IsHonest decoded fits (Some new)
