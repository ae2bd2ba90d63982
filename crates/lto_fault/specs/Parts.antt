-- The parts of a line.
use Rattle.std.specs.Prelude.{ℕ, List, [], codes}
use Rattle.ir_tree.specs.declared.fault_kind.FaultKind.{FaultKind}
use Rattle.ir_tree.specs.declared.fault_kind.FaultKind.TheVariants.{Profile}
use Rattle.lto_fault.specs.Texts.{fault_text, kind_text}
use Rattle.lto_fault.specs.declared.kind.RefusalKind.{RefusalKind}
use Rattle.lto_fault.specs.declared.kind.RefusalKind.TheVariants.{Unread}

-- the text of a kind in two parts: its words, and the word that isn't covered
abbrev pub fault_words : FaultKind → List ℕ
fault_words (Profile word) = codes "not in the profile: "
fault_words fault = fault_text fault

abbrev pub kind_words : RefusalKind → List ℕ
kind_words (Unread fault) = fault_words fault
kind_words kind = kind_text kind

abbrev pub kind_word : RefusalKind → List ℕ
kind_word (Unread (Profile word)) = word
kind_word kind = []
