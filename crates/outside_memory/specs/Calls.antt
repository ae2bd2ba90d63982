-- How the counts of calls go on. Both stand still at 2^64 - 1.
use Rattle.std.specs.Prelude.{◌+◌, ◌-◌, ◌^◌, min, Bool, true, false}
use Rattle.outside_memory.specs.declared.calls.Calls.{Calls}

abbrev pub no_calls : Calls
no_calls = record { made = 0; failed = 0 }

-- after one more call
abbrev pub called : Calls → Calls
called c = record c { made = min (c.made + 1) (2 ^ 64 - 1) }

-- after one more fault
abbrev pub faulted : Calls → Calls
faulted c = record c { failed = min (c.failed + 1) (2 ^ 64 - 1) }

-- after one more call, which failed or not
abbrev pub counted : Calls → (failed : Bool) → Calls
counted c true = faulted (called c)
counted c false = called c
