use Rattle.std.proofs.Common.{rules}
use Rattle.inline_site.proofs.Later.{made_first}
use Rattle.inline_site.proofs.caller.Caller.of.Goals as goal

pub returns-clause-function : goal.returns-clause-function
returns-clause-function c = made_first c.args.f.now (record { done = c.new.result; free = c.past_all-free.result; late = c.new-2.result }) (search rules) (search rules) (search rules)
