use Rattle.std.proofs.Common.{◌≡◌, ◌∙◌, ◌<◌, ◌++◌, List, length, ap, arith, get_or, subst, take, take_all}
use Rattle.combined_index.specs.declared.definition.Definition.{Definition}
use Rattle.thin_link.specs.Listed.{Listed, all_listed}
use Rattle.thin_link.specs.Rows.{IsTable, shown}
use Rattle.thin_link.proofs.Tables.{one_further}
use Rattle.thin_link.proofs.table.put_all.Goals as goal

pub put-requires : goal.put-requires
put-requires c =
    let below : (get_or c.args.definitions.now c.loop-definition.definition-index c.definition-item.result).symbol < length c.args.symbols.now =
    (c.requires.within c.loop-definition.definition-index c.definition-item.result c.loop-definition-test.true).symbol in
    let same : c.entry_of.result.definition.now.symbol ≡ (get_or c.args.definitions.now c.loop-definition.definition-index c.definition-item.result).symbol =
    ap (λ (l : Listed). l.definition.symbol) c.entry_of.ensures ∙ ap (λ (d : Definition). d.symbol) c.definition-item.is in
    omega (arith, below, same, c.loop-definition.invariant.len, c.requires.size)

pub loop-definition-preserved : goal.loop-definition-preserved
loop-definition-preserved c = record {
  len = c.put.ensures.len ∙ c.loop-definition.invariant.len;
  table = λ before held.
      one_further c.args.symbols.now c.args.number c.put.new.table before c.args.definitions.now c.loop-definition.definition-index c.definition-item.result (shown c.entry_of.result)
      c.loop-definition-test.true c.definition-item.is c.entry_of.ensures
      (c.put.ensures.table (before ++ all_listed c.args.symbols.now c.args.number (take c.loop-definition.definition-index c.args.definitions.now))
      (c.loop-definition.invariant.table before held));
}

pub returns-clause-table : goal.returns-clause-table
returns-clause-table c = λ before held.
    subst (λ (ds : List Definition). IsTable c.loop-definition.table (before ++ all_listed c.args.symbols.now c.args.number ds)) (take_all c.loop-definition.definition-index c.args.definitions.now (omega (arith, c.loop-definition-test.false)))
    (c.loop-definition.invariant.table before held)
