use Rattle.std.proofs.Common.{◌≡◌, Some, sym}
use Rattle.block_trim.specs.Working.{IsJoined, next}
use Rattle.block_trim.proofs.Stepping.{Parts, joined_now, others_done, parts_of}
use Rattle.block_trim.proofs.Turns.{turn_still}
use Rattle.block_trim.proofs.joining.Joining.grow.Goals as goal

pub loop-second-smaller : goal.loop-second-smaller
loop-second-smaller c =
    let p : Parts c.loop-second.self c.args.number c.in-Some.second = parts_of c.loop-second.self c.args.number c.in-Some.second (sym c.in-Some.ensures) in
    (c.in_ok-join.ensures p.a p.b p.apart p.first_left p.second_left).fewer

pub loop-second-preserved : goal.loop-second-preserved
loop-second-preserved c =
    let is_next : next c.loop-second.self c.args.number ≡ Some c.in-Some.second = sym c.in-Some.ensures in
    let p : Parts c.loop-second.self c.args.number c.in-Some.second = parts_of c.loop-second.self c.args.number c.in-Some.second is_next in
    let made : IsJoined c.loop-second.self c.join.new.self c.args.number c.in-Some.second p.a p.b = c.in_ok-join.ensures p.a p.b p.apart p.first_left p.second_left in
    record {
      joined = λ f once turn was.
          joined_now f once c.loop-second.self c.join.new.self c.args.number c.in-Some.second p.a p.b (c.loop-second.invariant.joined f once turn was) is_next p.first_left p.second_left made
          (turn_still f c.args.self.now c.loop-second.self c.args.number once c.loop-second.invariant.others turn);
      others = λ n ne none. others_done c.loop-second.self c.join.new.self c.args.number c.in-Some.second p.a p.b p.first_left made n ne (c.loop-second.invariant.others n ne none);
    }

pub returns-clause-joined : goal.returns-clause-joined
returns-clause-joined c = c.loop-second.invariant.joined
