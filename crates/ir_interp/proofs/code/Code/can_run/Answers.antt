use Rattle.std.proofs.Common.{List, Option, subst, sym}
use Rattle.std.specs.Prelude.{All}
use Rattle.ir_interp.specs.Sound.{IsBodySound}
use Rattle.ir_interp.specs.declared.code.Function.{Function}
use Rattle.ir_interp.proofs.Runnable.{runs_where_sound, sound_where_runs}
use Rattle.ir_interp.proofs.code.Code.can_run.Goals as goal

pub returns : goal.returns
returns c = (
  λ e. runs_where_sound c.args.self.now (subst (λ (fs : List (Option Function)). All IsBodySound fs) c.deref.ensures.value (c.are_bodies_sound.ensures.0 e)),
  λ h. c.are_bodies_sound.ensures.1 (subst (λ (fs : List (Option Function)). All IsBodySound fs) (sym c.deref.ensures.value) (sound_where_runs c.args.self.now h)),
)
