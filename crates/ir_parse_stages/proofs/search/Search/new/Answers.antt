use Rattle.std.proofs.Common.{◌≡◌, ◌<◌, subst, sym, false, replicate, [], ◌∷◌, rules}
use Rattle.ir_parse_stages.proofs.Searched.{search_start}
use Rattle.ir_parse_stages.proofs.search.Search.new.Goals as goal

pub returns : goal.returns
returns c graph long =
    let clear : c.in_ok-seen.seen.items ≡ replicate c.args.count false = search rules in
    let found : c.push.new.self.items ≡ c.args.start ∷ [] = search rules in
    rw (found, clear, sym long) (search_start graph c.args.start (subst (λ n. c.args.start < n) (sym long) c.requires))
