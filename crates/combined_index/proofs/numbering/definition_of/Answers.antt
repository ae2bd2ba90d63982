use Rattle.std.proofs.Common.{◌≡◌, ◌∙◌, ℕ, List, ap, map, refl, subst}
use Rattle.ir_tree.specs.declared.operand.Symbol.{Symbol}
use Rattle.combined_index.specs.Entries.{prevails_at, symbol_of}
use Rattle.combined_index.specs.Numbered.{NumbersSymbol, NumbersSymbols, is_kept, symbol, symbols}
use Rattle.combined_index.proofs.Numberings.{parts}
use Rattle.combined_index.proofs.numbering.definition_of.Goals as goal

pub returns : goal.returns
returns c =
    let f = symbol_of c.args.scope.now.number (is_kept c.args.scope.now.own.keys) in
    let s = c.args.summary.now in
    let old = symbols c.args.table.now.keys in
    let a = symbols c.number_of.new.table.keys in
    let b = symbols c.numbers_of.new.table.keys in
    let new = symbols c.numbers_of-2.new.table.keys in
    let own : symbol c.key-key.result ≡ f s.name = c.key-key.ensures ∙ ap f c.as_slice.ensures in
    let all = parts old a b new (f s.name) c.in_ok-symbol.symbol (map f s.calls) (map f s.refs) c.in_ok-calls.calls c.in_ok-refs.refs
    (subst (λ (z : Symbol). NumbersSymbol old z a c.in_ok-symbol.symbol) own c.in_ok-symbol.ensures)
    (subst (λ (z : List (List ℕ)). NumbersSymbols a (map f z) b c.in_ok-calls.calls) c.as_slice-2.ensures c.in_ok-calls.ensures)
    (subst (λ (z : List (List ℕ)). NumbersSymbols b (map f z) new c.in_ok-refs.refs) c.as_slice-3.ensures c.in_ok-refs.ensures) in
    record {
      grown = all.0;
      named = record {
        symbol = all.1;
        linkage = refl;
        count = refl;
        noinline = refl;
        optnone = refl;
        prevails = c.prevails-prevails.ensures ∙ ap (prevails_at c.args.resolution.now c.args.scope.now.number) own;
        calls = all.2;
        refs = all.3;
      };
    }
