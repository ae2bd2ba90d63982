use Rattle.std.proofs.Common.{ℕ, Bool, IfOk, List, filter, map, subst}
use Rattle.combined_index.specs.Entries.{entry_of}
use Rattle.ir_tree.specs.Linkages.{defines}
use Rattle.combined_index.specs.Numbered.{NumbersEntries, symbols}
use Rattle.combined_index.proofs.numbering.definitions_of.Goals as goal

pub returns : goal.returns
returns c =
    let old = symbols c.args.table.now.keys in
    let new = symbols c.scoped_definitions.new.table.keys in
    subst (λ (own : List ℕ → Bool). IfOk c.scoped_definitions.result (NumbersEntries old (map (entry_of c.args.resolution.now c.args.number own) (filter (λ s. defines s.linkage) c.args.summaries.now)) new))
    (λ j name. c.in_ok-own.ensures name j) c.scoped_definitions.ensures
