use Rattle.std.proofs.Common.{◌∙◌, ◌++◌, List, arith, subst, take, take_all}
use Rattle.combined_index.specs.Tables.{ArePlaced}
use Rattle.combined_index.specs.declared.definition.Definition.{Definition}
use Rattle.combined_index.proofs.Placings.{found_at, one_further}
use Rattle.combined_index.proofs.places.put_all.Goals as goal

pub loop-index-preserved : goal.loop-index-preserved
loop-index-preserved c =
    let i = c.loop-index.index in
    let ds = c.args.definitions.now in
    let d = c.index-definitions-index.result in
    record {
      len = c.put.ensures.len ∙ c.loop-index.invariant.len;
      placed = λ modules before is placed.
          one_further modules c.put.new.places before ds i d (omega arith) c.index-definitions-index.is
          (c.put.ensures.placed modules (before ++ take i ds) (found_at modules c.args.number i ds d is (omega arith) c.index-definitions-index.is)
          (c.loop-index.invariant.placed modules before is placed));
    }

pub returns-clause-placed : goal.returns-clause-placed
returns-clause-placed c = λ modules before is placed.
    subst (λ (z : List Definition). ArePlaced modules c.loop-index.places (before ++ z)) (take_all c.loop-index.index c.args.definitions.now (omega arith))
    (c.loop-index.invariant.placed modules before is placed)
