-- What the notes got, over a command and its note.
use Rattle.std.proofs.Common.{◌≡◌, ℕ, List, OnErr, OnOk, Option, Result, Ok, Err, IfErr, subst, sym}
use Rattle.lto_fault.specs.Texts.{refusal_text}
use Rattle.lto_fault.specs.declared.refusal.Refusal.{Refusal}
use Rattle.lto_fault.specs.Pushing.{Hears, note_of}
use Rattle.lto_outside.specs.Seen.{stream_seen}
use Rattle.run_program.specs.Streams.{Notes, notes_seen}

module _ {N : Type 0} (sent : N → Option (List ℕ)) (faults : N → ℕ) (old mid new : N) where
  -- of a command that was refused, its note alone
  pub refused_hears : {A : Type 0} (r : Result A Refusal) → OnErr r (mid ≡ old) → Hears (stream_seen sent faults mid new) (note_of r) → IfErr r (λ why. Hears (stream_seen sent faults old new) (refusal_text why))
  refused_hears (Ok x) silent hears = tt
  refused_hears (Err why) silent hears = subst (λ (n : N). Hears (stream_seen sent faults n new) (refusal_text why)) silent hears

  -- of one that was done, what it said alone
  pub same_says : {A : Type 0} (P : Notes → Type 0) (r : Result A Refusal) → OnOk r (P (notes_seen sent faults old mid)) → OnOk r (new ≡ mid) → OnOk r (P (notes_seen sent faults old new))
  same_says P (Ok x) says silent = subst (λ (n : N). P (notes_seen sent faults old n)) (sym silent) says
  same_says P (Err why) says silent = tt
