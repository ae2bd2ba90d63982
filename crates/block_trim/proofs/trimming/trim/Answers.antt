use Rattle.std.proofs.Common.{nat_eq}
use Rattle.std.specs.HashSet.{contains}
use Rattle.block_trim.specs.Trimmed.{IsTrimOf}
use Rattle.block_trim.proofs.TrimBetter.{is_better}
use Rattle.block_trim.proofs.TrimSound.{is_sound}
use Rattle.block_trim.proofs.trimming.trim.Goals as goal

pub returns : goal.returns
returns c = record { trimmed = made; better = λ p formed. is_better c.args.f.now c.in_ok-g.g made p formed; sound = λ h. is_sound c.args.f.now c.in_ok-g.g made h }
  where
    made : IsTrimOf c.args.f.now c.in_ok-g.g
    made = (contains nat_eq c.in_ok-reached.reached, c.in_ok-reached.ensures, c.in_ok-g.ensures)
