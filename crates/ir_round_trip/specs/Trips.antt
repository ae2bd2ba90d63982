-- What comes of bytes that are read, printed and read again.
use Rattle.std.specs.Prelude.{◌≡◌, ℕ, List}
use Rattle.ir_parse.specs.Reading.{Reads}
use Rattle.ir_print.specs.Modules.{module_text}
use Rattle.ir_round_trip.specs.declared.trip.Trip.{Trip}

-- the bytes are read as the module, its text is the printed one, and that is read as the same module
pub record IsTripOf (bytes : List ℕ) (trip : Trip) : Type 0 where
  pub first : Reads bytes trip.module.0 trip.module.1
  pub text : trip.text ≡ module_text trip.module.0
  pub second : Reads trip.text trip.again.0 trip.again.1
  pub again : trip.again.0 ≡ trip.module.0
