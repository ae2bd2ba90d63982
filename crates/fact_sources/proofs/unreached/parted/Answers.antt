use Rattle.std.proofs.Common.{◌≡◌, ℕ, Bool, ◌∷◌, [], ◌++◌, append-nil, nat_eq, Vec, Global, sym, ap, ◌∙◌}
use Rattle.std.proofs.Math.Bool.{beq}
use Rattle.std.specs.HashSet.{contains}
use Rattle.ir_tree.specs.declared.operand.Operand.{Operand}
use Rattle.fact_sources.specs.Membership.{is_member}
use Rattle.ir_edit.proofs.Stepping.{given_more}
use Rattle.fact_sources.proofs.Parting.{kept, none_parted, one_parted, parted}
use Rattle.fact_sources.proofs.Stepping.{walked}
use Rattle.fact_sources.proofs.unreached.parted.Goals.{then-is_among-inside+in_ok-value+in_ok-push, else-is_among-inside}
use Rattle.fact_sources.proofs.unreached.parted.Goals as goal

pub loop-pair-preserved : goal.loop-pair-preserved
loop-pair-preserved c =
    let among = contains nat_eq c.args.set.now in
    let pair = c.pair-item.result in
    let old = c.loop-pair.some.items in
    let inside = c.args.inside in
    let pushed : c.if-is_among-inside.some.items ≡ old ++ kept (beq (is_member among pair.1) inside) pair = elim c.if-is_among-inside.branch [
      | then-is_among-inside+in_ok-value+in_ok-push w ↦
          ap (λ (v : Vec (ℕ × Operand) Global). v.items) w.some-is
          ∙ w.in_ok-push.ensures.items
          ∙ ap (λ (o : Operand). old ++ (pair.0, o) ∷ []) w.in_ok-value.ensures
          ∙ ap (λ (b : Bool). old ++ kept b pair) (sym (ap (λ (b : Bool). beq b inside) (sym c.is_among.ensures) ∙ w.if-is_among-inside.true))
      | else-is_among-inside w ↦
          ap (λ (v : Vec (ℕ × Operand) Global). v.items) w.some-is
          ∙ sym (append-nil old)
          ∙ ap (λ (b : Bool). old ++ kept b pair) (sym (ap (λ (b : Bool). beq b inside) (sym c.is_among.ensures) ∙ w.if-is_among-inside.false))
    ] in
    given_more (λ (p : ℕ × Operand). kept (beq (is_member among p.1) inside) p) (parted inside among) (one_parted inside among) c.args.found.now c.loop-pair.pair-index pair old
    c.if-is_among-inside.some.items c.loop-pair-test.true c.pair-item.is pushed
    ∙ c.loop-pair.invariant

pub returns : goal.returns
returns c =
    walked (parted c.args.inside (contains nat_eq c.args.set.now)) c.args.found.now c.loop-pair.pair-index c.loop-pair.some.items (none_parted c.args.inside (contains nat_eq c.args.set.now)) c.loop-pair-test.false
    ∙ c.loop-pair.invariant
