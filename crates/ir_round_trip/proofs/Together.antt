-- What is printed of modules that were read or verified is read again.
use Rattle.ir_parse.specs.Laws.{ReadIsParsed}
use Rattle.ir_round_trip.specs.Laws.{ReadableIsRead}
use Rattle.ir_round_trip.specs.Laws.{ReadIsKnown, ReadIsReadAgain, VerifiedIsRead}
use Rattle.ir_round_trip.proofs.Numbering.{read_numbered}
use Rattle.ir_round_trip.proofs.ReadKnown.{read_known}
use Rattle.ir_round_trip.proofs.Verified.{module_known}
use Rattle.ir_round_trip.proofs.Within.{module_readable, verified_typed}
use Rattle.ir_round_trip.specs.Laws.{ReadIsTyped, ReadIsWithin}

pub is_known : ReadIsParsed → ReadIsKnown
is_known parsed = read_known parsed

pub ir_round_trip : ReadIsParsed → ReadableIsRead → ReadIsWithin → ReadIsTyped → ReadIsReadAgain
ir_round_trip parsed readable within typed bytes m lines h r =
    readable m (module_readable m (parsed bytes m lines r).whole (read_numbered bytes m lines r) (within bytes m lines h r) (typed bytes m lines h r)) (read_known parsed bytes m lines h r)

pub verified_again : ReadableIsRead → VerifiedIsRead
verified_again readable m v n w = readable m (module_readable m v.whole n.locals w (verified_typed m v w.values)) (module_known m v n)
