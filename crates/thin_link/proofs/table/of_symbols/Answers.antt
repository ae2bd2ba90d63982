use Rattle.std.proofs.Common.{◌∙◌, ◌++◌, List, Option, get_or, take, ap, sym}
use Rattle.std.specs.Option.{option_map, option_to_list}
use Rattle.thin_link.specs.Listed.{Listed, all_first}
use Rattle.thin_link.specs.Rows.{shown}
use Rattle.thin_link.proofs.Listings.{one_symbol}
use Rattle.thin_link.proofs.table.of_symbols.Goals as goal

pub loop-symbol-preserved : goal.loop-symbol-preserved
loop-symbol-preserved c = λ before held.
    c.in_ok-push_found.ensures
    ∙ ap (λ (ls : List Listed). ls ++ option_to_list (option_map shown c.row_of.result)) (c.loop-symbol.invariant before held)
    ∙ ap (λ (o : Option Listed). all_first before (take c.loop-symbol.symbol-index c.args.symbols.now) ++ option_to_list o)
    (c.row_of.ensures ∙ held (get_or c.args.symbols.now c.loop-symbol.symbol-index 0))
    ∙ sym (one_symbol before c.args.symbols.now c.loop-symbol.symbol-index c.loop-symbol-test.true)
