-- What is sent to a sink.
use Rattle.std.specs.Prelude.{◌≡◌, ℕ, Bool, true, false, List, [], ◌∷◌, ◌++◌, Result, Ok, Err}
use Rattle.std.specs.Io.KnownBytes.{Appends}
use Rattle.lto_outside.specs.Cause.{Rose}
use Rattle.lto_outside.specs.Seen.{StreamSeen}
use Rattle.lto_fault.specs.Texts.{refusal_text}
use Rattle.lto_fault.specs.declared.refusal.Refusal.{Refusal}

-- all of the text was sent; or a front of it, and the count of faults rose
abbrev pub Pushes : StreamSeen → List ℕ → Bool → Type 0
Pushes stream text true = Appends stream.told stream.told_now text
Pushes stream text false =
    (front rest : List ℕ) × (text ≡ front ++ rest) × Appends stream.told stream.told_now front × Rose stream.faults stream.faults_now

-- the text was sent, or a front of it and the count of faults rose
abbrev pub Hears : StreamSeen → List ℕ → Type 0
Hears stream text = (whole : Bool) × Pushes stream text whole

-- the line of a refusal, and nothing where there is none
abbrev pub note_of : {A : Type 0} → Result A Refusal → List ℕ
note_of (Ok _) = []
note_of (Err refusal) = refusal_text refusal

-- parts one behind another
abbrev pub joined : List (List ℕ) → List ℕ
joined [] = []
joined (part ∷ parts) = part ++ joined parts
