-- What is seen of the streams over a run.
use Rattle.std.specs.Prelude.{◌≡◌, ℕ, List, Option, codes}
use Rattle.lto_outside.specs.Seen.{StreamSeen, stream_seen}

-- the input as it is named in a refusal
abbrev pub INPUT : List ℕ
INPUT = codes "input"

-- the output as it is named in a refusal
abbrev pub OUTPUT : List ℕ
OUTPUT = codes "output"

-- the input and the output, and that both are as they were
pub record Streams : Type 1 where
  pub input : StreamSeen
  pub out : StreamSeen
  pub unused : Type 0

abbrev pub streams_seen : {I O : Type 0} → (I → Option (List ℕ)) → (I → ℕ) → (O → Option (List ℕ)) → (O → ℕ) → I → I → O → O → Streams
streams_seen left lacks sent failures input input_now out out_now = record {
  input = stream_seen left lacks input input_now;
  out = stream_seen sent failures out out_now;
  unused = (input_now ≡ input) × (out_now ≡ out);
}

-- the notes, and that they are as they were
pub record Notes : Type 1 where
  pub stream : StreamSeen
  pub silent : Type 0

abbrev pub notes_seen : {N : Type 0} → (N → Option (List ℕ)) → (N → ℕ) → N → N → Notes
notes_seen sent failures notes notes_now = record {
  stream = stream_seen sent failures notes notes_now;
  silent = notes_now ≡ notes;
}
