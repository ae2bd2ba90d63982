-- Values before others that are read.
use Rattle.std.proofs.Common.{◌≡◌, List, ◌++◌, Result, Ok, Err, refl}
use Rattle.ir_parse_parts.specs.declared.fault.Fault.{Fault}
use Rattle.ir_parse_parts.specs.Readers.{done, follow}
use Rattle.ir_parse_parts.proofs.Loops.{with_front}

pub front_is : {T A : Type 0} (front : List A) (r : Result (List A × List T) Fault) → with_front front r ≡ follow r (λ more. done (front ++ more))
front_is front (Ok x) = refl
front_is front (Err e) = refl
