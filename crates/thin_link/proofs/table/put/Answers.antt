use Rattle.std.proofs.Common.{◌≡◌, ◌∙◌, Option, None, ap, get_or, is_none, rules, sym}
use Rattle.std.proofs.lemmas.List.{get_or_read}
use Rattle.thin_link.specs.declared.entry.Entry.{Entry}
use Rattle.thin_link.proofs.Tables.{passed_over, put_before, put_here}
use Rattle.thin_link.proofs.table.put.Goals as goal

pub returns-then-is_none-clause-table : goal.returns-then-is_none-clause-table
returns-then-is_none-clause-table c = λ before held.
    let read : c.index-table-symbol.result ≡ get_or c.args.table.now c.args.entry.definition.now.symbol None =
    get_or_read c.args.table.now c.args.entry.definition.now.symbol c.index-table-symbol.result c.requires c.index-table-symbol.is None in
    put_here before c.args.entry c.args.table.now held c.if-entry.true c.requires (ap (λ (o : Option Entry). is_none o) (sym read) ∙ search rules)

pub returns-else-is_none-clause-table : goal.returns-else-is_none-clause-table
returns-else-is_none-clause-table c = λ before held.
    let read : c.index-table-symbol.result ≡ get_or c.args.table.now c.args.entry.definition.now.symbol None =
    get_or_read c.args.table.now c.args.entry.definition.now.symbol c.index-table-symbol.result c.requires c.index-table-symbol.is None in
    put_before before c.args.entry c.args.table.now held (ap (λ (o : Option Entry). is_none o) (sym read) ∙ search rules)

pub returns-else-entry-clause-table : goal.returns-else-entry-clause-table
returns-else-entry-clause-table c = λ before held. passed_over before c.args.entry c.args.table.now held c.if-entry.false
