use Rattle.std.proofs.Common.{refl, sym, subst}
use Rattle.ir_tree.specs.declared.operand.Reg.{Reg}
use Rattle.ir_tree.specs.declared.operand.Reg.TheVariants.{Int}
use Rattle.ir_interp.specs.Tasks.{IsSoundCast}
use Rattle.ir_interp.proofs.sound.is_sound_cast.Goals as goal

pub returns-in_default : goal.returns-in_default
returns-in_default c = (
  λ e. subst (λ (r : Reg). IsSoundCast c.args.op r c.args.to) (sym c.in_default.is-0) (subst (λ (r : Reg). IsSoundCast c.args.op (Int c.in_default.field-0-0) r) (sym c.in_default.is-1) tt),
  λ h. refl,
)

pub returns-in_default-2 : goal.returns-in_default-2
returns-in_default-2 c = (λ e. subst (λ (r : Reg). IsSoundCast c.args.op r c.args.to) (sym c.in_default.is-0) tt, λ h. refl)
