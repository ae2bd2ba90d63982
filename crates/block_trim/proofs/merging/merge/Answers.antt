use Rattle.ir_meaning.proofs.Entries.{apart}
use Rattle.block_trim.proofs.Better.{is_better}
use Rattle.block_trim.proofs.JoinedSound.{is_sound}
use Rattle.block_trim.proofs.merging.merge.Goals as goal

pub returns : goal.returns
returns c = record {
  merged = c.in_ok-g.ensures;
  better = λ sound p formed. is_better c.args.f.now _ sound (c.in_ok-g.ensures (apart c.args.f.now sound.formed)) p formed;
  sound = λ sound. is_sound c.args.f.now _ sound (c.in_ok-g.ensures (apart c.args.f.now sound.formed));
}
