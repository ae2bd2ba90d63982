use Rattle.std.proofs.Common.{◌≡◌, ◌↔◌, ◌-◌, sym, subst, take, drop, length, None, Some}
use Rattle.ir_tree.specs.Fits.{Fits, AllFit, shapes}
use Rattle.ir_tree.specs.Forms.{forms_of}
use Rattle.ir_tree.specs.Initials.{Initial, Initials, initial}
use Rattle.ir_verify.specs.declared.initial.Wanted.{Wanted}
use Rattle.ir_verify.specs.declared.initial.Wanted.TheVariants.{Each}
use Rattle.ir_verify.specs.Wants.{Fills, Takes}
use Rattle.ir_verify.proofs.Wants.{each_full, each_other, each_next, these_other, these_rest, parted, forms_differ, forms_agree}
use Rattle.ir_verify.proofs.initial.taken.Goals as goal

pub returns-then-left-eq0 : goal.returns-then-left-eq0
returns-then-left-eq0 c =
    subst (λ (w : Wanted). Takes w c.args.shape.now None) (sym c.in-Each.is) (each_full c.in-Each.left c.in-Each.of c.args.shape.now c.if-left-eq0.true)

pub returns-then-ne : goal.returns-then-ne
returns-then-ne c =
    subst (λ (w : Wanted). Takes w c.args.shape.now None) (sym c.in-Each.is)
    (each_other c.in-Each.left c.in-Each.of c.args.shape.now (forms_differ c.in-Each.of.now c.args.shape.now c.if-ne.ensures))

pub returns-else-ne : goal.returns-else-ne
returns-else-ne c =
    subst (λ (w : Wanted). Takes w c.args.shape.now (Some (Each (c.in-Each.left - 1) c.in-Each.of))) (sym c.in-Each.is)
    (each_next c.in-Each.left c.in-Each.of c.args.shape.now c.if-left-eq0.false (forms_agree c.in-Each.of.now c.args.shape.now c.if-ne.ensures))

pub returns-then-ne-2 : goal.returns-then-ne-2
returns-then-ne-2 c =
    subst (λ (w : Wanted). Takes w c.args.shape.now None) (sym c.in-These.is)
    (these_other c.in-These.parts c.args.shape.now c.first-item.result (take (length c.in-These.parts.now - 1) (drop 1 c.in-These.parts.now))
    (parted c.in-These.parts.now c.first-item.result c.first-item.result c.in-len1-up.len_at_least c.first-item.is)
    (forms_differ c.first-item.result c.args.shape.now c.if-ne-2.ensures))

pub returns-else-ne-2 : goal.returns-else-ne-2
returns-else-ne-2 c =
    subst (λ (w : Wanted). (v : Initial) (vs : Initials) → Fills w (initial c.args.shape.now v vs) ↔ (Fits c.args.shape.now v × ((shapes vs ≡ forms_of (take (length c.in-These.parts.now - 1) (drop 1 c.in-These.parts.now))) × AllFit vs))) (sym c.in-These.is)
    (these_rest c.in-These.parts c.args.shape.now c.first-item.result (take (length c.in-These.parts.now - 1) (drop 1 c.in-These.parts.now))
    (parted c.in-These.parts.now c.first-item.result c.first-item.result c.in-len1-up.len_at_least c.first-item.is)
    (forms_agree c.first-item.result c.args.shape.now c.if-ne-2.ensures))
