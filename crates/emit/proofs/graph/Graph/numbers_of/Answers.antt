use Rattle.std.proofs.Common.{◌∙◌, ◌++◌, ◌∷◌, [], List, ℕ, ap, arith, subst, sym, take}
use Rattle.std.proofs.lemmas.List.{take_all, take_more}
use Rattle.emit.specs.Graphs.{AreStarts}
use Rattle.emit.proofs.Linking.{starts_more, starts_none}
use Rattle.emit.proofs.graph.Graph.numbers_of.Goals as goal

pub loop-name-init : goal.loop-name-init
loop-name-init c = record { long = c.requires; starts = starts_none c.args.self.now.names.keys c.new-numbers.result.items c.new-numbers.ensures.items; linked = λ es l. l }

pub loop-name-preserved : goal.loop-name-preserved
loop-name-preserved c = record {
  long = c.in_ok-number.ensures.long;
  starts =
      subst (λ (names : List (List ℕ)). AreStarts c.number_of.new.self.names.keys names c.push.new.self.items)
      (ap (λ (name : List ℕ). take c.loop-name.name-index c.args.names.now ++ name ∷ []) (c.as_slice.ensures ∙ c.name-item.is)
      ∙ sym (take_more c.args.names.now c.loop-name.name-index c.name-item.result c.loop-name-test.true))
      (starts_more c.loop-name.self.names.keys c.number_of.new.self.names.keys (take c.loop-name.name-index c.args.names.now) c.loop-name.numbers.items c.push.new.self.items
      c.as_slice.result.now c.in_ok-number.number c.in_ok-number.ensures.stays c.in_ok-number.ensures.number c.in_ok-push.ensures.items c.loop-name.invariant.starts);
  linked = λ es l. c.in_ok-number.ensures.linked es (c.loop-name.invariant.linked es l);
}

pub returns-clause-starts : goal.returns-clause-starts
returns-clause-starts c =
    subst (λ (names : List (List ℕ)). AreStarts c.loop-name.self.names.keys names c.loop-name.numbers.items) (take_all c.loop-name.name-index c.args.names.now (omega arith))
    c.loop-name.invariant.starts

pub returns-clause-linked : goal.returns-clause-linked
returns-clause-linked c = c.loop-name.invariant.linked
