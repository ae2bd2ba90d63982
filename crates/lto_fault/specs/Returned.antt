-- What a run returned, as it is said: a number as a signed decimal, a truth value by its word.
use Rattle.std.specs.Prelude.{ℕ, Bool, if◌then◌else◌, List, ◌++◌, codes, decimal}
use Rattle.lto_fault.specs.declared.returned.Returned.{Returned}
use Rattle.lto_fault.specs.declared.returned.Returned.TheVariants.{Nothing, Number, Pointer, Poison, Truth}

-- what stands before the digits
abbrev pub sign_words : Bool → List ℕ
sign_words negative = if negative then codes "returned -" else codes "returned "

-- the line that a run which returned ends with
abbrev pub returned_text : Returned → List ℕ
returned_text Nothing = codes "returned\n"
returned_text (Truth holds) = if holds then codes "returned true\n" else codes "returned false\n"
returned_text (Number negative magnitude) = sign_words negative ++ (decimal magnitude ++ codes "\n")
returned_text Pointer = codes "returned pointer\n"
returned_text Poison = codes "returned poison\n"
