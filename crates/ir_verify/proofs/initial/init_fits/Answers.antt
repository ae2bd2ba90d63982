use Rattle.std.proofs.Common.{◌≡◌, ◌∙◌, ◌↔◌, ◌+◌, ◌<◌, ◌∷◌, ℕ, Bool, true, List, length, get_or, drop, ap, sym, subst, reverse, arith}
use Rattle.std.proofs.lemmas.List.{drop_all, drop_more}
use Rattle.ir_tree.specs.Fits.{Fits}
use Rattle.ir_tree.specs.Initials.{levels}
use Rattle.ir_tree.specs.declared.init_node.InitPart.{InitPart}
use Rattle.ir_verify.specs.declared.initial.Wanted.{Wanted}
use Rattle.ir_verify.specs.Wants.{AllFill, GoesOn}
use Rattle.ir_verify.proofs.Wants.{begins_not, begins_whole, ends_whole}
use Rattle.ir_verify.proofs.initial.init_fits.Goals as goal

-- one part more
goes_whole : (F : Type 0) (ws now : List Wanted) (ps : List InitPart) (i : ℕ) (p : InitPart) (fits : Bool) → i < length ps → p ≡ get_or ps i p → fits ≡ true → GoesOn p ws fits now → F ↔ AllFill ws (levels (drop i ps)) → F ↔ AllFill now (levels (drop (i + 1) ps))
goes_whole F ws now ps i p fits low is e g so_far =
    let first : drop i ps ≡ p ∷ drop (i + 1) ps = drop_more ps i p low ∙ ap (λ (q : InitPart). q ∷ drop (i + 1) ps) (sym is) in
    let step = subst (λ (b : Bool). GoesOn p ws b now) e g (levels (drop (i + 1) ps)) in (
      λ f. step.0 (subst (λ (qs : List InitPart). AllFill ws (levels qs)) first (so_far.0 f)),
      λ a. so_far.1 (subst (λ (qs : List InitPart). AllFill ws (levels qs)) (sym first) (step.1 a)),
    )

pub returns-then-not-branch : goal.returns-then-not-branch
returns-then-not-branch c =
    (λ e. absurd (cc e), λ fit. absurd (begins_not c.args.shape.now c.args.init.now c.flat.result.0.now c.flat.result.1.now _ _ _ c.flat.ensures c.if-not-branch.true c.in_ok-begin.ensures fit))

pub each-init : goal.each-init
each-init c =
    begins_whole c.args.shape.now c.args.init.now c.flat.result.0.now c.flat.result.1.now _ _ _ c.flat.ensures c.if-not-branch.false (ap reverse c.new-wants.ensures.items) c.in_ok-begin.ensures

pub returns : goal.returns
returns c =
    ends_whole (Fits c.args.shape.now c.args.init.now) c.each.wants.items c.deref.result.now _ c.are_filled.result c.each.invariant (drop_all c.each.part-index c.flat.result.1.now (omega (arith, c.each-test.false))) c.deref.ensures.value c.are_filled.ensures

pub each-preserved : goal.each-preserved
each-preserved c =
    goes_whole (Fits c.args.shape.now c.args.init.now) (reverse c.each.wants.items) (reverse c.go_on.new.wants.items) c.flat.result.1.now c.each.part-index c.part-item.result _
    c.each-test.true c.part-item.is c.if-not-branch-2.false c.in_ok-go_on.ensures c.each.invariant
