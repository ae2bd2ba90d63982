use Rattle.std.proofs.Common.{◌∙◌, nat_eq, refl, sym, ap}
use Rattle.std.proofs.lemmas.Bool.{false≢true}
use Rattle.std.specs.HashSet.{contains}
use Rattle.dead_code.specs.Least.{IsNeededOf}
use Rattle.dead_code.specs.Staying.{blocks_stay}
use Rattle.dead_code.proofs.AllNeeded.{all_needed}
use Rattle.dead_code.proofs.KeptSound.{is_sound}
use Rattle.dead_code.proofs.elimination.into_needed.Goals as goal

pub returns-then-all : goal.returns-then-all
returns-then-all c =
    let kept = contains nat_eq c.in_ok-kept.kept in
    record {
      needed = (kept, c.in_ok-kept.ensures, all_needed kept c.args.f (ap (blocks_stay kept) (sym c.as_slice.ensures) ∙ sym c.blocks_stay-all.ensures ∙ c.if-all.true));
      sound = λ h. h;
      same = λ e. refl;
    }

pub returns : goal.returns
returns c = record { needed = made; sound = λ h. is_sound c.args.f c.in_ok-g.g made h; same = λ e. absurd (false≢true (sym e)) }
  where
    made : IsNeededOf c.args.f c.in_ok-g.g
    made = (contains nat_eq c.in_ok-kept.kept, c.in_ok-kept.ensures, c.in_ok-g.ensures)
