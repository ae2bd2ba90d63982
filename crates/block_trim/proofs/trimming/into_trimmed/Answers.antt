use Rattle.std.proofs.Common.{◌∙◌, nat_eq, refl, sym, ap}
use Rattle.std.proofs.lemmas.Bool.{false≢true}
use Rattle.std.specs.HashSet.{contains}
use Rattle.block_trim.specs.Staying.{blocks_stay}
use Rattle.block_trim.specs.Trimmed.{IsTrimOf}
use Rattle.block_trim.proofs.AllReached.{all_reached}
use Rattle.block_trim.proofs.TrimSound.{is_sound}
use Rattle.block_trim.proofs.trimming.into_trimmed.Goals as goal

pub returns-then-all : goal.returns-then-all
returns-then-all c =
    let reached = contains nat_eq c.in_ok-reached.reached in
    record {
      trimmed = (reached, c.in_ok-reached.ensures, all_reached reached c.args.f (ap (blocks_stay reached) (sym c.as_slice.ensures) ∙ sym c.blocks_stay-all.ensures ∙ c.if-all.true));
      sound = λ h. h;
      same = λ e. refl;
    }

pub returns : goal.returns
returns c = record { trimmed = made; sound = λ h. is_sound c.args.f c.in_ok-g.g made h; same = λ e. absurd (false≢true (sym e)) }
  where
    made : IsTrimOf c.args.f c.in_ok-g.g
    made = (contains nat_eq c.in_ok-reached.reached, c.in_ok-reached.ensures, c.in_ok-g.ensures)
