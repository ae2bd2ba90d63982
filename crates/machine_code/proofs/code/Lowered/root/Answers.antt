use Rattle.std.proofs.Common.{◌≡◌, ℕ, List, length, true, false, Some, None, slice_get, sym, ap, subst, ◌∙◌}
use Rattle.ir_tree.specs.declared.operand.Reg.{Reg}
use Rattle.ir_interp.specs.Steps.{CanBegin}
use Rattle.machine_code.specs.Roots.{integers_of}
use Rattle.machine_code.proofs.Rooting.{is_root, root_begins, root_indexed, root_integers}
use Rattle.machine_code.proofs.code.Lowered.root.Goals as goal

pub returns-in_err-index-clause-none : goal.returns-in_err-index-clause-none
returns-in_err-index-clause-none c = λ e gs i types h r.
    let never : None ≡ Some i = c.in_err-index.ensures ∙ root_indexed gs c.args.self.now c.args.name.now i types h r in
    cc never

pub returns-in_err-params-clause-none : goal.returns-in_err-params-clause-none
returns-in_err-params-clause-none c = λ e gs i types h r.
    let both : Some c.in_ok-index.index ≡ Some i = c.in_ok-index.ensures ∙ root_indexed gs c.args.self.now c.args.name.now i types h r in
    let same : c.in_ok-index.index ≡ i = cc both in
    let never : None ≡ Some types =
    c.in_err-params.ensures ∙ ap (λ (k : ℕ). integers_of (slice_get c.args.self.now.code.entities.items k)) same ∙ root_integers gs c.args.self.now c.args.name.now i types h r in
    cc never

pub returns-then-can_begin-clause-begins : goal.returns-then-can_begin-clause-begins
returns-then-can_begin-clause-begins c = c.can_begin.ensures.0 c.if-can_begin.true

pub returns-then-can_begin-clause-some : goal.returns-then-can_begin-clause-some
returns-then-can_begin-clause-some c = λ gs h.
    is_root gs c.args.self.now c.args.name.now c.in_ok-index.index c.in_ok-params.params.now h c.in_ok-index.ensures c.in_ok-params.ensures (c.can_begin.ensures.0 c.if-can_begin.true)

pub returns-else-can_begin-clause-none : goal.returns-else-can_begin-clause-none
returns-else-can_begin-clause-none c = λ e gs i types h r.
    let both : Some c.in_ok-index.index ≡ Some i = c.in_ok-index.ensures ∙ root_indexed gs c.args.self.now c.args.name.now i types h r in
    let same : c.in_ok-index.index ≡ i = cc both in
    let found : Some c.in_ok-params.params.now ≡ Some types =
    c.in_ok-params.ensures ∙ ap (λ (k : ℕ). integers_of (slice_get c.args.self.now.code.entities.items k)) same ∙ root_integers gs c.args.self.now c.args.name.now i types h r in
    let typed : c.in_ok-params.params.now ≡ types = cc found in
    let begins : CanBegin c.args.self.now.code c.in_ok-index.index (length c.in_ok-params.params.now) =
    subst (λ (k : ℕ). CanBegin c.args.self.now.code k (length c.in_ok-params.params.now)) (sym same)
    (subst (λ (ts : List Reg). CanBegin c.args.self.now.code i (length ts)) (sym typed) (root_begins gs c.args.self.now c.args.name.now i types h r)) in
    let never : true ≡ false = sym (c.can_begin.ensures.1 begins) ∙ c.if-can_begin.false in
    cc never
