-- What holds of a value that may not be there.
use Rattle.std.proofs.Common.{Option, Some, None, IfSome}

pub if_some_map : {X : Type 0} (P Q : X → Type 0) → ((x : X) → P x → Q x) → (o : Option X) → IfSome o P → IfSome o Q
if_some_map P Q f None h = tt
if_some_map P Q f (Some x) h = f x h
