use Rattle.std.proofs.Common.{◌≡◌, ◌∙◌, ◌+◌, ℕ, List, Some, option_map, slice_get, length, sym, ap, subst, arith}
use Rattle.ir_tree.specs.declared.operand.Symbol.{Symbol}
use Rattle.combined_index.specs.Best.{IsBest, lesser_if}
use Rattle.combined_index.specs.LiveMarks.{IsLackingAt}
use Rattle.combined_index.proofs.Lacking.{got, symbol-step}
use Rattle.combined_index.proofs.least.least_undefined.Goals as goal

pub loop-place-preserved : goal.loop-place-preserved
loop-place-preserved c =
    let all = c.symbols-symbol-items.ensures.symbols in
    let there : slice_get c.args.index.now.symbols c.loop-place.place ≡ Some c.symbol-item.result =
    ap (λ (ss : List Symbol). slice_get ss c.loop-place.place) (sym all)
    ∙ got c.symbols-symbol-items.result.now c.loop-place.place c.symbol-item.result c.loop-place-test.true ∙ ap Some (sym c.symbol-item.is) in
    subst (IsBest (IsLackingAt c.args.index.now c.args.live.now) (c.loop-place.place + 1))
    (sym (c.lesser_if-best.ensures
    ∙ ap (λ (name : List ℕ). lesser_if c.is_lacking-lacking.result (option_map (λ f. (f.name.now, f.place)) c.loop-place.best) (name, c.loop-place.place)) c.as_slice-name.ensures))
    (symbol-step c.args.index.now c.args.live.now c.loop-place.place (option_map (λ f. (f.name.now, f.place)) c.loop-place.best) c.symbol-item.result there
    c.is_lacking-lacking.result c.is_lacking-lacking.ensures c.loop-place.invariant)

pub returns-clause-best : goal.returns-clause-best
returns-clause-best c =
    let all : length c.symbols-symbol-items.result.now ≡ length c.args.index.now.symbols = ap length c.symbols-symbol-items.ensures.symbols in
    let end : c.loop-place.place ≡ length c.args.index.now.symbols = omega arith in
    subst (λ (n : ℕ). IsBest (IsLackingAt c.args.index.now c.args.live.now) n (option_map (λ f. (f.name.now, f.place)) c.loop-place.best)) end c.loop-place.invariant
