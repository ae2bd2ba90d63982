use Rattle.std.proofs.Common.{◌∙◌, ◌<◌, ℕ, false, length, ap, subst, sym}
use Rattle.std.proofs.lemmas.List.{length-replicate}
use Rattle.std.specs.List.{All}
use Rattle.combined_index.proofs.Starts.{begins}
use Rattle.combined_index.proofs.reaching.begun.Goals as goal

pub reach_all-requires : goal.reach_all-requires
reach_all-requires c =
    subst (λ (n : ℕ). All (λ k. k < n) c.args.starts.now) (sym (ap length c.in_ok-walk.ensures.0 ∙ length-replicate c.args.size false)) c.requires

pub returns-clause-long : goal.returns-clause-long
returns-clause-long c = c.in_ok-reach_all.ensures.long ∙ ap length c.in_ok-walk.ensures.0 ∙ length-replicate c.args.size false

pub returns-clause-walk : goal.returns-clause-walk
returns-clause-walk c = λ next.
    begins next c.args.size c.args.starts.now c.in_ok-walk.walk.reached c.reach_all.new.self.reached c.in_ok-walk.walk.waiting.items c.reach_all.new.self.waiting.items
    c.in_ok-walk.ensures.0 c.in_ok-walk.ensures.1 c.in_ok-reach_all.ensures
