use Rattle.std.proofs.Common.{◌≡◌, ℕ, ◌*◌, ◌+◌, ◌-◌, get_or, drop, sym, ap, ◌∙◌, arith}
use Rattle.ir_parse_names.specs.Keys.{decimal_of, decimal_from}
use Rattle.ir_parse_names.proofs.Digits.{grows, step, ended}
use Rattle.ir_parse_names.proofs.number.decimal_of.Goals as goal

pub returns-in_err-checked_mul : goal.returns-in_err-checked_mul
unfolding decimal_of
returns-in_err-checked_mul c =
    let ds = c.args.digits.now in
    let i = c.loop-d.d-index in
    let n = c.loop-d.n in
    rw c.from_residual.ensures (λ lt. omega (arith, step n ds i (omega arith), grows (n * 10 + (get_or ds i 0 - 48)) (drop (i + 1) ds)))

pub returns-in_err-n : goal.returns-in_err-n
unfolding decimal_of
returns-in_err-n c =
    let ds = c.args.digits.now in
    let i = c.loop-d.d-index in
    let n = c.loop-d.n in
    rw c.from_residual-in_err-n.ensures (λ lt. omega (arith, step n ds i (omega arith), grows (n * 10 + (get_or ds i 0 - 48)) (drop (i + 1) ds)))

pub returns : goal.returns
unfolding decimal_of
returns c =
    let e : decimal_from 0 c.args.digits.now ≡ c.loop-d.n = sym c.loop-d.invariant.value ∙ ended c.loop-d.n c.args.digits.now c.loop-d.d-index (omega arith) in
    (omega (arith, e, c.loop-d.invariant.fits), sym e)

pub loop-d-preserved : goal.loop-d-preserved
loop-d-preserved c =
    let ds = c.args.digits.now in
    let i = c.loop-d.d-index in
    let next : c.in_ok-n.n ≡ c.loop-d.n * 10 + (get_or ds i 0 - 48) = omega arith in
    record {
      value = ap (λ (n : ℕ). decimal_from n (drop (i + 1) ds)) next ∙ sym (step c.loop-d.n ds i c.loop-d-test.true) ∙ c.loop-d.invariant.value;
      fits = omega arith;
    }
