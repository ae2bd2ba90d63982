use Rattle.std.proofs.Common.{◌∙◌, ◌+◌, ℕ, List, ap, arith, map, subst, sym, take}
use Rattle.ir_tree.specs.declared.operand.Symbol.{Symbol}
use Rattle.combined_index.specs.Entries.{symbol_of}
use Rattle.combined_index.specs.Numbered.{NumbersSymbol, NumbersSymbols, is_kept, symbols}
use Rattle.combined_index.proofs.Numberings.{symbol_more}
use Rattle.combined_index.proofs.numbering.numbers_of.Goals as goal

pub loop-name-preserved : goal.loop-name-preserved
loop-name-preserved c =
    let f = symbol_of c.args.scope.now.number (is_kept c.args.scope.now.own.keys) in
    let i = c.loop-name.name-index in
    let names = c.args.names.now in
    let old = symbols c.args.table.now.keys in
    let new = symbols c.number_of.new.table.keys in
    subst (λ (z : List ℕ). NumbersSymbols old (map f (take (i + 1) names)) new z) (sym c.in_ok-push.ensures.ok)
    (symbol_more f names i c.name-item.result (omega arith) old (symbols c.loop-name.table.keys) new c.loop-name.rows c.in_ok-number.number c.loop-name.invariant
    (subst (λ (s : Symbol). NumbersSymbol (symbols c.loop-name.table.keys) s new c.in_ok-number.number)
    (c.key.ensures ∙ ap f (c.as_slice.ensures ∙ c.name-item.is)) c.in_ok-number.ensures))
