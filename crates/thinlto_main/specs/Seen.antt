-- What is seen of the outside over a command.
use Rattle.std.specs.Prelude.{◌≡◌, ℕ, List, [], Option}
use Rattle.lto_outside.specs.Calls.{Call}
use Rattle.lto_outside.specs.Seen.{FilesSeen, StreamSeen, files_seen, stream_seen}
use Rattle.lto_outside.specs.Store.{Store}
use Rattle.run_program.specs.Streams.{Streams}

-- the files, the output, and that the output is as it was
pub record Seen : Type 1 where
  pub files : FilesSeen
  pub out : StreamSeen
  pub unprinted : Type 0

abbrev pub seen : {F O : Type 0} → (F → List Call → F → Type 0) → (F → Option Store) → (F → ℕ) → (O → Option (List ℕ)) → (O → ℕ) → F → F → O → O → Seen
seen did held faults sent failures files files_now out out_now = record {
  files = files_seen did held faults files files_now;
  out = stream_seen sent failures out out_now;
  unprinted = out_now ≡ out;
}

-- no call was made
abbrev pub Untouched : Seen → Type 0
Untouched s = s.files.did [] × s.unprinted

-- ---- the rest of the outside

-- the input, that nothing was taken from it, and that the disk of the cache was honest as the command began
pub record RestSeen : Type 1 where
  pub stream : StreamSeen
  pub untaken : Type 0
  pub honest : Type 0

abbrev pub rest_seen : {I : Type 0} → (I → Option (List ℕ)) → (I → ℕ) → (honest : Type 0) → I → I → RestSeen
rest_seen left failures honest input input_now = record {
  stream = stream_seen left failures input input_now;
  untaken = input_now ≡ input;
  honest = honest;
}

abbrev pub streams_of : Seen → RestSeen → Streams
streams_of s i = record { input = i.stream; out = s.out; unused = i.untaken × s.unprinted }
