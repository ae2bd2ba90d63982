use Rattle.std.proofs.Common.{◌∙◌, refl, sym, ap, nat_eq}
use Rattle.std.proofs.lemmas.Bool.{false≢true}
use Rattle.std.specs.HashSet.{contains}
use Rattle.block_trim.specs.Unjoined.{all_stay}
use Rattle.block_trim.proofs.NoneTakes.{none_takes}
use Rattle.ir_meaning.proofs.Entries.{apart}
use Rattle.block_trim.proofs.JoinedSound.{is_sound}
use Rattle.block_trim.proofs.merging.into_merged.Goals as goal

pub returns-then-stay : goal.returns-then-stay
returns-then-stay c =
    let goes = contains nat_eq c.in_ok-candidates.candidates in
    record {
      merged = λ once.
          none_takes c.args.f goes c.in_ok-candidates.ensures
          (ap (all_stay goes) (sym c.as_slice.ensures) ∙ sym c.all_stay-stay.ensures ∙ c.if-stay.true);
      sound = λ h. h;
      same = λ e. refl;
    }

pub returns : goal.returns
returns c = record { merged = c.in_ok-g.ensures; sound = λ sound. is_sound c.args.f _ sound (c.in_ok-g.ensures (apart c.args.f sound.formed)); same = λ e. absurd (false≢true (sym e)) }
