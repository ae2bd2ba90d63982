-- What is read one behind the other.
use Rattle.std.specs.Prelude.{◌≡◌, Result, Ok, Err}
use Rattle.ir_tree.specs.declared.failure.Failure.{Failure}
use Rattle.ir_parse_parts.specs.declared.fault.Fault.{Fault}

-- a value, and what was read behind it
abbrev pub IsBeside : {A B : Type 0} → A → Result B (Failure Fault) → Result (A × B) (Failure Fault) → Type 0
IsBeside a (Ok b) r = r ≡ Ok (a, b)
IsBeside a (Err e) r = r ≡ Err e
