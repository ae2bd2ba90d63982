-- What the answer of a reader says.
use Rattle.std.specs.Prelude.{Result, Ok, Err}
use Rattle.lto_words.specs.declared.fault.WordsError.{WordsError}
use Rattle.lto_words.specs.declared.fault.WordsError.TheVariants.{Usage, NoMemory}

-- a value is one that is meant, and Usage comes only where none is
abbrev pub Tells : {T : Type 0} → (T → Type 0) → Result T WordsError → Type 0
Tells {T} Means (Ok x) = Means x
Tells {T} Means (Err Usage) = (x : T) → Means x → ⊥
Tells {T} Means (Err NoMemory) = Unit {0}
