use Rattle.std.proofs.Common.{◌∙◌, ◌<◌, ap, sym, refl, arith, length, true, cond, [], None}
use Rattle.ir_tree.specs.Symbols.{symbol_eq}
use Rattle.ir_tree.specs.declared.operand.Symbol.{Symbol}
use Rattle.merge_meaning.specs.Scopes.{is_in}
use Rattle.merge_meaning.specs.declared.lives.Key.{Key}
use Rattle.merge_meaning.proofs.Scoped.{noted_none, noted_one}
use Rattle.merge_meaning.proofs.lives.LiveSymbols.of.Goals as goal
use Rattle.merge_meaning.proofs.lives.LiveSymbols.of.Goals.{then-has+in_ok-insert, else-has}

-- a key of a symbol, wherever its name stands
key_of : Symbol → Key
key_of s = record { home = s.home; name = record { ref_ptr = (0, 0); now = s.name } }

pub loop-number-preserved : goal.loop-number-preserved
unfolding key_of
loop-number-preserved c =
    let here : c.loop-number.number < length c.args.symbols.now = omega arith in
    let there : c.loop-number.number < length c.args.live.now = omega arith in
    let nobody : Symbol = record { home = None; name = [] } in
    elim c.if-has.branch [
      | then-has+in_ok-insert w ↦
          rw w.set-is
          (noted_one c.args.symbols.now c.args.live.now c.loop-number.number here there w.index-symbols-number.result w.index-symbols-number.result (sym w.index-symbols-number.is)
          (is_in c.loop-number.set) (is_in w.insert.new.self) (sym c.has.ensures ∙ w.if-has.true)
          (λ s. w.in_ok-insert.ensures.updates.0 (key_of s) ∙ ap (λ (t : Symbol). cond (symbol_eq t s) true (is_in c.loop-number.set s)) w.of.ensures) c.loop-number.invariant)
      | else-has w ↦
          rw w.set-is
          (noted_none c.args.symbols.now c.args.live.now c.loop-number.number here there nobody _ refl (is_in c.loop-number.set) (sym c.has.ensures ∙ w.if-has.false) c.loop-number.invariant)
    ]
