use Rattle.std.proofs.Common.{nat_eq, Option, arith, refl, sym, subst}
use Rattle.std.proofs.lemmas.Bool.{false≢true}
use Rattle.std.proofs.lemmas.Result.{IfOk-at_ok}
use Rattle.std.specs.HashSet.{contains}
use Rattle.ir_tree.specs.declared.function.Function.{Function}
use Rattle.ir_facts.specs.Settled.{or_same}
use Rattle.ir_facts.specs.Steps.{AreRounds, IsRound}
use Rattle.ir_facts.proofs.InRounds.{last_round, no_rounds, one_more, round_sound}
use Rattle.ir_facts.proofs.StillApart.{round_apart, round_graph}
use Rattle.ir_facts.proofs.rounds.+rounds.Goals as goal

pub returns-then-left-eq0 : goal.returns-then-left-eq0
returns-then-left-eq0 t c = record { made = no_rounds c.args.left c.args.f c.if-left-eq0.true; same = λ e. refl }

pub rounds-requires : goal.rounds-requires
rounds-requires t c =
    let f = c.args.f in
    let g = c.in_ok-g.g in
    let round = IfOk-at_ok (λ (o : Option Function). IsRound f (or_same f o)) (c.in_ok-g.ensures.new c.if-not-changed.false) c.round-next.ensures in (
      omega arith,
      (
        round_sound f g c.requires.sound round,
        (round_graph c.args.edges.now f g round c.requires.graph, round_apart (contains nat_eq c.args.outside.now) f g round c.requires.apart),
      ),
    )

pub returns-then-not-changed : goal.returns-then-not-changed
returns-then-not-changed t c =
    let f = c.args.f in
    let last = c.in_ok-g.ensures.same c.if-not-changed.true in
    record {
      made = subst (AreRounds c.args.left f) (sym last.1) (last_round c.args.left f (IfOk-at_ok (λ (o : Option Function). IsRound f (or_same f o)) last.0 c.round-next.ensures));
      same = λ e. last.1;
    }

pub returns : goal.returns
returns t c =
    let f = c.args.f in
    let g = c.in_ok-g.g in
    let round = IfOk-at_ok (λ (o : Option Function). IsRound f (or_same f o)) (c.in_ok-g.ensures.new c.if-not-changed.false) c.round-next.ensures in
    record { made = one_more c.args.left f g c.in_ok-h.h (omega arith) round c.in_ok-h.ensures.made; same = λ e. absurd (false≢true (sym e)) }
