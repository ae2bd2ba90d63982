-- The two bad endings (LangRef, "Undefined Values", "Poison Values"). That a read of a byte that was never written ends
-- the run is this profile's choice: the Reference gives `undef`.
use Rattle.ir_tree.specs.declared.cause.Cause.{Cause}

pub data Fault : Type 0 where
  Undefined : (cause : Cause) → Fault
  Uninit : Fault
