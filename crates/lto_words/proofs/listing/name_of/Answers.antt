use Rattle.std.proofs.Common.{◌∙◌, ◌≡◌, ap, false, sym}
use Rattle.lto_words.specs.Values.{is_empty}
use Rattle.lto_words.proofs.Naming.{named, unnamed, unnamed_empty}
use Rattle.lto_words.proofs.listing.name_of.Goals.{in_default-via-in-Ok+else-not-is_empty, in_default-via-in_default}
use Rattle.lto_words.proofs.listing.name_of.Goals as goal

pub returns-in_ok-copied-in-Ok : goal.returns-in_ok-copied-in-Ok
returns-in_ok-copied-in-Ok c =
    let some : is_empty c.args.bytes.now ≡ false = ap is_empty (sym c.in-Ok.ensures.cases.0) ∙ sym c.is_empty.ensures ∙ c.if-not-is_empty.true in
    (named c.args.bytes.now some c.in-Ok.ensures.cases.1, c.in_ok-copied-in-Ok.ensures ∙ c.in-Ok.ensures.cases.0)

pub returns-in_default : goal.returns-in_default
returns-in_default c = elim c.in_default.branch [
  | in_default-via-in-Ok+else-not-is_empty w ↦ unnamed_empty c.args.bytes.now (ap is_empty (sym w.in-Ok.ensures.cases.0) ∙ sym w.is_empty.ensures ∙ w.if-not-is_empty.false)
  | in_default-via-in_default w ↦ unnamed c.args.bytes.now w.in_default.ensures.cases.0
]
