use Rattle.std.proofs.Common.{◌∙◌, ◌+◌, ◌++◌, ◌∷◌, [], List, arith, filter, map, subst, sym, take, take_all}
use Rattle.ir_summary.specs.declared.summary.Summary.{Summary}
use Rattle.combined_index.specs.Entries.{Entry, entry_of}
use Rattle.ir_tree.specs.Linkages.{defines}
use Rattle.combined_index.specs.Numbered.{NumbersEntries, is_kept, symbols}
use Rattle.combined_index.specs.declared.definition.Definition.{Definition}
use Rattle.combined_index.proofs.Numberings.{entry_more}
use Rattle.combined_index.proofs.Wholes.{declared_more, defined_more}
use Rattle.combined_index.proofs.numbering.scoped_definitions.Goals as goal
use Rattle.combined_index.proofs.numbering.scoped_definitions.Goals.{then-defines+in_ok-definition+in_ok-push, else-defines}

pub loop-summary-preserved : goal.loop-summary-preserved
loop-summary-preserved c =
    let f = entry_of c.args.resolution.now c.args.scope.now.number (is_kept c.args.scope.now.own.keys) in
    let i = c.loop-summary.summary-index in
    let ss = c.args.summaries.now in
    let d = c.summary-item.result in
    let old = symbols c.args.table.now.keys in
    let mid = symbols c.loop-summary.table.keys in
    elim c.if-defines.branch [
      | then-defines+in_ok-definition+in_ok-push w ↦
          let new = symbols w.definition_of.new.table.keys in
          rw (w.table-is, w.rows-is)
          (subst (λ (z : List Definition). NumbersEntries old (map f (filter (λ s. defines s.linkage) (take (i + 1) ss))) new z) (sym w.in_ok-push.ensures.ok)
          (subst (λ (z : List Entry). NumbersEntries old z new (c.loop-summary.rows ++ w.in_ok-definition.definition ∷ []))
          (sym (defined_more f ss i d (omega arith) c.summary-item.is (sym c.defines.ensures ∙ w.if-defines.true)))
          (entry_more old mid new (map f (filter (λ s. defines s.linkage) (take i ss))) c.loop-summary.rows (f d) w.in_ok-definition.definition c.loop-summary.invariant w.in_ok-definition.ensures)))
      | else-defines w ↦
          rw (w.table-is, w.rows-is)
          (subst (λ (z : List Entry). NumbersEntries old z mid c.loop-summary.rows)
          (sym (declared_more f ss i d (omega arith) c.summary-item.is (sym c.defines.ensures ∙ w.if-defines.false))) c.loop-summary.invariant)
    ]

pub returns : goal.returns
returns c =
    let f = entry_of c.args.resolution.now c.args.scope.now.number (is_kept c.args.scope.now.own.keys) in
    subst (λ (z : List Summary). NumbersEntries (symbols c.args.table.now.keys) (map f (filter (λ s. defines s.linkage) z)) (symbols c.loop-summary.table.keys) c.loop-summary.rows)
    (take_all c.loop-summary.summary-index c.args.summaries.now (omega arith)) c.loop-summary.invariant
