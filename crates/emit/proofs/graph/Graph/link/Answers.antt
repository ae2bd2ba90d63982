use Rattle.std.proofs.Common.{◌∙◌, ◌<◌, arith, length}
use Rattle.std.proofs.lemmas.List.{length-set}
use Rattle.emit.proofs.Linking.{linked_edge, number_within}
use Rattle.emit.proofs.graph.Graph.link.Goals as goal

pub index_mut-requires : goal.index_mut-requires
index_mut-requires c =
    let there = c.in_ok-second.ensures.stays c.args.from.now c.in_ok-first.first c.in_ok-first.ensures.number in
    let within : c.in_ok-first.first < length c.number_of-2.new.self.names.keys = number_within c.number_of-2.new.self.names.keys c.args.from.now c.in_ok-first.first there in
    omega (arith, within, c.in_ok-second.ensures.long)

pub returns-clause-long : goal.returns-clause-long
returns-clause-long c = length-set c.number_of-2.new.self.rows.items c.in_ok-first.first c.push.new.self ∙ c.in_ok-second.ensures.long

pub returns-clause-linked : goal.returns-clause-linked
returns-clause-linked c = λ es l.
    let there = c.in_ok-second.ensures.stays c.args.from.now c.in_ok-first.first c.in_ok-first.ensures.number in
    let within : c.in_ok-first.first < length c.number_of-2.new.self.names.keys = number_within c.number_of-2.new.self.names.keys c.args.from.now c.in_ok-first.first there in
    let inside : c.in_ok-first.first < length c.number_of-2.new.self.rows.items = omega (arith, within, c.in_ok-second.ensures.long) in
    linked_edge es c.number_of-2.new.self.names.keys c.number_of-2.new.self.rows.items c.args.from.now c.args.to.now c.in_ok-first.first c.in_ok-second.second
    c.index_mut.result.now c.push.new.self inside c.index_mut.ensures.value c.in_ok-push.ensures.ok there c.in_ok-second.ensures.number
    (c.in_ok-second.ensures.linked es (c.in_ok-first.ensures.linked es l))
