use Rattle.std.proofs.Common.{ℕ, true, false, List, [], ◌∷◌, subst}
use Rattle.ir_tree.specs.Names.{quoted}
use Rattle.lto_outside.specs.Seen.{stream_seen}
use Rattle.lto_fault.specs.Pushing.{Pushes, joined}
use Rattle.lto_fault.proofs.Pushing.{first_stopped, then_part}
use Rattle.lto_fault.proofs.line.push_named.Goals as goal

pub returns-then-not-push_all-clause-pushed : goal.returns-then-not-push_all-clause-pushed
returns-then-not-push_all-clause-pushed g c =
    first_stopped g.N.ByteOut.sent g.N.ByteOut.faults c.args.out.now c.push_all.new.out c.push_all.new.out c.args.before.now _ c.if-not-push_all.ensures.pushed

pub returns-then-not-push_quoted-clause-pushed : goal.returns-then-not-push_quoted-clause-pushed
returns-then-not-push_quoted-clause-pushed g c =
    then_part g.N.ByteOut.sent g.N.ByteOut.faults c.args.out.now c.push_all.new.out c.push_quoted.new.out c.args.before.now _ false c.if-not-push_all.ensures.pushed c.push_all.ensures.later
    (first_stopped g.N.ByteOut.sent g.N.ByteOut.faults c.push_all.new.out c.push_quoted.new.out c.push_quoted.new.out (quoted c.args.symbol.now)
    (joined (c.args.a.now ∷ c.args.b.now ∷ c.args.c.now ∷ c.args.d.now ∷ c.args.e.now ∷ c.args.f.now ∷ c.args.g.now ∷ []))
    (subst (λ (n : List ℕ). Pushes (stream_seen g.N.ByteOut.sent g.N.ByteOut.faults c.push_all.new.out c.push_quoted.new.out) (quoted n) false) c.as_slice.ensures c.if-not-push_quoted.ensures.pushed))

pub returns-clause-pushed : goal.returns-clause-pushed
returns-clause-pushed g c =
    then_part g.N.ByteOut.sent g.N.ByteOut.faults c.args.out.now c.push_all.new.out c.push_eight.new.out c.args.before.now _ c.push_eight.result c.if-not-push_all.ensures.pushed c.push_all.ensures.later
    (then_part g.N.ByteOut.sent g.N.ByteOut.faults c.push_all.new.out c.push_quoted.new.out c.push_eight.new.out (quoted c.args.symbol.now)
    (joined (c.args.a.now ∷ c.args.b.now ∷ c.args.c.now ∷ c.args.d.now ∷ c.args.e.now ∷ c.args.f.now ∷ c.args.g.now ∷ [])) c.push_eight.result
    (subst (λ (n : List ℕ). Pushes (stream_seen g.N.ByteOut.sent g.N.ByteOut.faults c.push_all.new.out c.push_quoted.new.out) (quoted n) true) c.as_slice.ensures c.if-not-push_quoted.ensures.pushed)
    c.push_quoted.ensures.later c.push_eight.ensures.pushed)
