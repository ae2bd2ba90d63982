-- What holds of modules that are printed, of those that were read, and of those that were verified.
use Rattle.std.specs.Prelude.{List, ℕ}
use Rattle.ir_parse.specs.Reading.{Reads}
use Rattle.ir_print.specs.Modules.{module_text}
use Rattle.ir_edit.specs.Numbered.{in_text_order}
use Rattle.ir_tree.specs.Formed.{Formed}
use Rattle.ir_tree.specs.Names.{AllBytes}
use Rattle.ir_tree.specs.Wholes.{IsVerified}
use Rattle.ir_tree.specs.declared.function.Function.{Function}
use Rattle.ir_tree.specs.declared.module.Module.{Module}
use Rattle.ir_round_trip.specs.ModulesReadable.{ModuleReadable}
use Rattle.ir_round_trip.specs.Sorts.{IsNumbered}
use Rattle.ir_round_trip.specs.Known.{ModuleKnown}
use Rattle.std.specs.List.{AllByRecursion as Each}
use Rattle.ir_round_trip.specs.Anew.{numbered_anew}
use Rattle.ir_round_trip.specs.Numbered.{ModuleNumbered, StringsAreBytes}
use Rattle.ir_round_trip.specs.Typed.{ModuleTyped}
use Rattle.ir_round_trip.specs.Within.{ModuleWithin}

-- ---- printed modules

-- the text that is printed of a module is read as that module
abbrev pub IsReadAgain : Module → Type 0
IsReadAgain m = (lines : List (List ℕ)) × Reads (module_text m) m lines

-- of one that is readable, and whose names are known
abbrev pub ReadableIsRead : Type 0
ReadableIsRead = (m : Module) → ModuleReadable m → ModuleKnown m → IsReadAgain m

-- ---- modules that were read

abbrev pub ReadIsWithin : Type 0
ReadIsWithin = (bytes : List ℕ) (m : Module) (lines : List (List ℕ)) → AllBytes bytes → Reads bytes m lines → ModuleWithin m

abbrev pub ReadIsTyped : Type 0
ReadIsTyped = (bytes : List ℕ) (m : Module) (lines : List (List ℕ)) → AllBytes bytes → Reads bytes m lines → ModuleTyped m

-- ---- printed again

-- what is read of bytes has its locals numbered along its text, and its names are known
abbrev pub ReadIsKnown : Type 0
ReadIsKnown = (bytes : List ℕ) (m : Module) (lines : List (List ℕ)) → AllBytes bytes → Reads bytes m lines → ModuleKnown m

-- and its strings are bytes
abbrev pub ReadIsNumbered : Type 0
ReadIsNumbered = (bytes : List ℕ) (m : Module) (lines : List (List ℕ)) → AllBytes bytes → Reads bytes m lines → ModuleNumbered m

-- and what is printed of it is read as itself, whatever its size, sound or not
abbrev pub ReadIsReadAgain : Type 0
ReadIsReadAgain = (bytes : List ℕ) (m : Module) (lines : List (List ℕ)) → AllBytes bytes → Reads bytes m lines → IsReadAgain m

-- so is what is printed of a verified module within the grammar's limits whose locals are numbered along its text
abbrev pub VerifiedIsRead : Type 0
VerifiedIsRead = (m : Module) → IsVerified m → ModuleNumbered m → ModuleWithin m → IsReadAgain m

-- numbering a formed function in the order of its text numbers it along its text
abbrev pub TextOrderIsNumbered : Type 0
TextOrderIsNumbered = (f : Function) → Formed f → IsNumbered (in_text_order f)

-- so a verified module within the limits, however its locals are numbered, is printed under new numbers as a text that is read as that
abbrev pub NumberedAnewIsRead : Type 0
NumberedAnewIsRead = (m : Module) → IsVerified m → Each StringsAreBytes m.globals → AllBytes m.triple → ModuleWithin m → IsReadAgain (numbered_anew m)
