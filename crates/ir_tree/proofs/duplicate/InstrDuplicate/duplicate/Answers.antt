use Rattle.std.proofs.Common.{◌≡◌, ◌∙◌, List, ap, sym}
use Rattle.ir_tree.specs.Forms.{Form}
use Rattle.ir_tree.specs.declared.instr.Incoming.{Incoming}
use Rattle.ir_tree.specs.declared.instr.Instr.{Instr}
use Rattle.ir_tree.specs.declared.instr.Instr.TheVariants.{Binary, Icmp, Cast, Freeze, Alloca, Load, Store, Phi}
use Rattle.ir_tree.specs.declared.operand.Operand.{Operand}
use Rattle.ir_tree.proofs.duplicate.InstrDuplicate.duplicate.Goals as goal

-- two parts, each equal to what it was made of
both : {A B : Type 0} (make : A → B → Instr) (a x : A) (b y : B) → a ≡ x → b ≡ y → make a b ≡ make x y
both {A} {B} make a x b y e f = ap (λ (p : A). make p b) e ∙ ap (λ (q : B). make x q) f

pub returns-in_ok-left-in-Binary : goal.returns-in_ok-left-in-Binary
returns-in_ok-left-in-Binary c =
    both (λ (l r : Operand). Binary c.in-Binary.op c.in-Binary.flags c.in-Binary.width l r) _ _ _ _ c.in_ok-left-in-Binary.ensures.left c.in_ok-left-in-Binary.ensures.right ∙ sym c.in-Binary.is

pub returns-in_ok-left-in-Icmp : goal.returns-in_ok-left-in-Icmp
returns-in_ok-left-in-Icmp c =
    both (λ (l r : Operand). Icmp c.in-Icmp.predicate c.in-Icmp.reg l r) _ _ _ _ c.in_ok-left-in-Icmp.ensures.left c.in_ok-left-in-Icmp.ensures.right ∙ sym c.in-Icmp.is

pub returns-in_ok-value-in-Cast : goal.returns-in_ok-value-in-Cast
returns-in_ok-value-in-Cast c = ap (λ (v : Operand). Cast c.in-Cast.op c.in-Cast.from v c.in-Cast.to) c.in_ok-value-in-Cast.ensures ∙ sym c.in-Cast.is

pub returns-in_ok-value-in-Freeze : goal.returns-in_ok-value-in-Freeze
returns-in_ok-value-in-Freeze c = ap (λ (v : Operand). Freeze c.in-Freeze.reg v) c.in_ok-value-in-Freeze.ensures ∙ sym c.in-Freeze.is

pub returns-in_ok-shape-in-Alloca : goal.returns-in_ok-shape-in-Alloca
returns-in_ok-shape-in-Alloca c = ap (λ (s : Form). Alloca s c.in-Alloca.align) c.in_ok-shape-in-Alloca.ensures ∙ sym c.in-Alloca.is

pub returns-in_ok-address-in-Load : goal.returns-in_ok-address-in-Load
returns-in_ok-address-in-Load c = ap (λ (a : Operand). Load c.in-Load.reg a c.in-Load.align) c.in_ok-address-in-Load.ensures ∙ sym c.in-Load.is

pub returns-in_ok-value-in-Store : goal.returns-in_ok-value-in-Store
returns-in_ok-value-in-Store c =
    both (λ (v a : Operand). Store c.in-Store.reg v a c.in-Store.align) _ _ _ _ c.in_ok-value-in-Store.ensures.left c.in_ok-value-in-Store.ensures.right ∙ sym c.in-Store.is

pub returns-in_ok-incoming-in-Phi : goal.returns-in_ok-incoming-in-Phi
returns-in_ok-incoming-in-Phi c = ap (λ (xs : List Incoming). Phi c.in-Phi.reg xs) c.in_ok-incoming-in-Phi.ensures ∙ sym c.in-Phi.is
