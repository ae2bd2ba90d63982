-- The record that a note stands for.
use Rattle.cache_slot.specs.declared.record.Note.{Note}
use Rattle.cache_slot.specs.declared.record.Note.TheVariants as note
use Rattle.cache_slot.specs.declared.record.Record.{Record}
use Rattle.cache_slot.specs.declared.record.Record.TheVariants.{Entry, Again, Hit, Miss}

abbrev pub noted : Note → Record
noted (note.Entry key text failed) = Entry key.now text.now failed
noted (note.Again key) = Again key.now
noted (note.Hit key) = Hit key.now
noted (note.Miss key why) = Miss key.now why
