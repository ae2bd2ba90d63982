use Rattle.std.proofs.Common.{◌∙◌, ◌<◌, ◌++◌, ◌∷◌, [], ℕ, List, length, take, take_all, ap, arith, subst, sym}
use Rattle.std.proofs.lemmas.List.{map_more, map_push}
use Rattle.std.proofs.lemmas.List.Elements.{All-push}
use Rattle.combined_index.specs.declared.definition.Definition.{Definition}
use Rattle.thin_link.specs.Listed.{Listed, all_listed, listed}
use Rattle.thin_link.specs.Rows.{AreBelow, all_shown, shown}
use Rattle.thin_link.specs.declared.entry.Entry.{Entry}
use Rattle.thin_link.proofs.entry.entries.Goals as goal

pub loop-definition-preserved : goal.loop-definition-preserved
loop-definition-preserved c = record {
  entries =
      ap all_shown c.in_ok-push.ensures.items ∙ map_push shown c.loop-definition.rows.items c.entry_of.result
      ∙ ap (λ (ls : List Listed). ls ++ shown c.entry_of.result ∷ []) c.loop-definition.invariant.entries
      ∙ ap (λ (l : Listed). all_listed c.args.symbols.now c.args.number (take c.loop-definition.definition-index c.args.definitions.now) ++ l ∷ [])
      (c.entry_of.ensures ∙ ap (listed c.args.symbols.now c.args.number) c.definition-item.is)
      ∙ sym (map_more (listed c.args.symbols.now c.args.number) c.args.definitions.now c.loop-definition.definition-index c.definition-item.result c.loop-definition-test.true);
  below =
      subst (AreBelow (length c.args.symbols.now)) (sym c.in_ok-push.ensures.items)
      (All-push (λ (e : Entry). e.definition.now.symbol < length c.args.symbols.now) c.loop-definition.rows.items c.entry_of.result c.loop-definition.invariant.below
      (subst (λ (n : ℕ). n < length c.args.symbols.now) (sym (ap (λ (l : Listed). l.definition.symbol) c.entry_of.ensures ∙ ap (λ (d : Definition). d.symbol) c.definition-item.is))
      (c.requires c.loop-definition.definition-index c.definition-item.result c.loop-definition-test.true).symbol));
}

pub returns-clause-entries : goal.returns-clause-entries
returns-clause-entries c =
    c.loop-definition.invariant.entries
    ∙ ap (λ (ds : List Definition). all_listed c.args.symbols.now c.args.number ds) (take_all c.loop-definition.definition-index c.args.definitions.now (omega (arith, c.loop-definition-test.false)))
