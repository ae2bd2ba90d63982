-- What holds of a result where it is one.
use Rattle.std.proofs.Common.{Err, Ok, Result}
use Rattle.std.specs.Prelude.{OnOk}

pub on_ok : {T E P Q : Type 0} (r : Result T E) → (P → Q) → OnOk r P → OnOk r Q
on_ok (Ok x) f p = f p
on_ok (Err e) f p = tt

pub told : {T E P : Type 0} (r : Result T E) → P → OnOk r P
told (Ok x) p = p
told (Err e) p = tt
