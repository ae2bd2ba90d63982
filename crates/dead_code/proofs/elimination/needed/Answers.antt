use Rattle.std.proofs.Common.{nat_eq}
use Rattle.std.specs.HashSet.{contains}
use Rattle.dead_code.specs.Least.{IsNeededOf}
use Rattle.dead_code.proofs.Better.{is_better}
use Rattle.dead_code.proofs.KeptSound.{is_sound}
use Rattle.dead_code.proofs.elimination.needed.Goals as goal

pub returns : goal.returns
returns c = record { needed = made; better = λ p formed. is_better c.args.f.now c.in_ok-g.g made p formed; sound = λ h. is_sound c.args.f.now c.in_ok-g.g made h }
  where
    made : IsNeededOf c.args.f.now c.in_ok-g.g
    made = (contains nat_eq c.in_ok-kept.kept, c.in_ok-kept.ensures, c.in_ok-g.ensures)
