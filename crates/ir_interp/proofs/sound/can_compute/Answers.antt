use Rattle.std.proofs.Common.{List, refl, sym, subst, leb-true, le-leb}
use Rattle.std.specs.Prelude.{All}
use Rattle.ir_machine.specs.Marks.{HasWidth}
use Rattle.ir_interp.specs.Tasks.{CanCompute}
use Rattle.ir_interp.specs.declared.source.Typed.{Typed}
use Rattle.ir_interp.proofs.Runnable.{no_claim, same_claim}
use Rattle.ir_interp.proofs.sound.can_compute.Goals as goal

pub returns-in-Cast : goal.returns-in-Cast
returns-in-Cast c = same_claim CanCompute c.args.task.now _ c.in-Cast.is c.is_sound_cast.ensures

pub returns-then-is_laid_out : goal.returns-then-is_laid_out
returns-then-is_laid_out c = same_claim CanCompute c.args.task.now _ c.in-Address.is (
  λ e. (c.is_laid_out.ensures.0 c.if-is_laid_out.true, subst (λ (ts : List Typed). All (λ i. HasWidth i.reg) ts) c.deref.ensures.value (c.have_widths.ensures.0 e)),
  λ h. c.have_widths.ensures.1 (subst (λ (ts : List Typed). All (λ i. HasWidth i.reg) ts) (sym c.deref.ensures.value) h.1),
)

pub returns-else-is_laid_out : goal.returns-else-is_laid_out
returns-else-is_laid_out c = same_claim CanCompute c.args.task.now _ c.in-Address.is (no_claim c.is_laid_out.result c.if-is_laid_out.false (λ h. c.is_laid_out.ensures.1 h.0))

pub returns-then-has_width : goal.returns-then-has_width
returns-then-has_width c = same_claim CanCompute c.args.task.now _ c.in-Load.is (
  λ e. (c.has_width-in-Load.ensures.0 c.if-has_width.true, leb-true 1 c.in-Load.align e),
  λ h. le-leb 1 c.in-Load.align h.1,
)

pub returns-else-has_width : goal.returns-else-has_width
returns-else-has_width c = same_claim CanCompute c.args.task.now _ c.in-Load.is (no_claim c.has_width-in-Load.result c.if-has_width.false (λ h. c.has_width-in-Load.ensures.1 h.0))

pub returns-in-Binary : goal.returns-in-Binary
returns-in-Binary c = same_claim CanCompute c.args.task.now _ c.in-Binary.is c.is_width.ensures

pub returns-in-Compare : goal.returns-in-Compare
returns-in-Compare c = same_claim CanCompute c.args.task.now _ c.in-Compare.is c.has_width.ensures

pub returns-in-Select : goal.returns-in-Select
returns-in-Select c = same_claim CanCompute c.args.task.now _ c.in-Select.is (λ e. tt, λ h. refl)

pub returns-in-Poison : goal.returns-in-Poison
returns-in-Poison c = same_claim CanCompute c.args.task.now _ c.in-Poison.is (λ e. tt, λ h. refl)

pub returns-in-Freeze : goal.returns-in-Freeze
returns-in-Freeze c = same_claim CanCompute c.args.task.now _ c.in-Freeze.is c.has_width-in-Freeze.ensures
