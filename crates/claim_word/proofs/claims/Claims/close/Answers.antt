use Rattle.std.proofs.Common.{arith}
use Rattle.claim_word.proofs.Closing.{closes}
use Rattle.claim_word.proofs.claims.Claims.close.Goals as goal

pub free-requires : goal.free-requires
free-requires c = λ k lt. absurd (let a = c.args.self.wide.1 in let b = c.close_with-closed.ensures.counts in omega arith)

pub returns-clause-drawn : goal.returns-clause-drawn
returns-clause-drawn c = (closes _ _ _ _ _ _ _ _ c.args.self.key c.close_with-closed.ensures.values.2 c.word-word.ensures c.args.pass.holds_one).drawn

pub returns-clause-word : goal.returns-clause-word
returns-clause-word c = (closes _ _ _ _ _ _ _ _ c.args.self.key c.close_with-closed.ensures.values.2 c.word-word.ensures c.args.pass.holds_one).all

pub returns-clause-least : goal.returns-clause-least
returns-clause-least c = (closes _ _ _ _ _ _ _ _ c.args.self.key c.close_with-closed.ensures.values.2 c.word-word.ensures c.args.pass.holds_one).least

pub returns-clause-most : goal.returns-clause-most
returns-clause-most c = (closes _ _ _ _ _ _ _ _ c.args.self.key c.close_with-closed.ensures.values.2 c.word-word.ensures c.args.pass.holds_one).most

pub returns-clause-seen : goal.returns-clause-seen
returns-clause-seen c = (closes _ _ _ _ _ _ _ _ c.args.self.key c.close_with-closed.ensures.values.2 c.word-word.ensures c.args.pass.holds_one).seen

pub returns-clause-few : goal.returns-clause-few
returns-clause-few c = (closes _ _ _ _ _ _ _ _ c.args.self.key c.close_with-closed.ensures.values.2 c.word-word.ensures c.args.pass.holds_one).few
