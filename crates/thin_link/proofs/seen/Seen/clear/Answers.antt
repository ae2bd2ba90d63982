use Rattle.std.proofs.Common.{◌≡◌, ◌∙◌, ◌+◌, ℕ, Bool, false, List, length, replicate, ap, arith}
use Rattle.thin_link.specs.Views.{noted_in}
use Rattle.thin_link.proofs.Noting.{emptied}
use Rattle.thin_link.proofs.seen.Seen.clear.Goals as goal

pub returns-clause-empty : goal.returns-clause-empty
returns-clause-empty c =
    let next : c.in-Some.turn ≡ c.self.inside.turn + 1 = omega arith in
    ap (λ (t : ℕ). noted_in t c.self.inside.turns.items) next ∙ emptied c.self.inside.turn c.self.inside.turns.items c.self.invariant
    ∙ ap (λ (s : List Bool). replicate (length s) false) c.self.view_is
