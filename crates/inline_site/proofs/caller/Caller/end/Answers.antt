use Rattle.std.proofs.Common.{rules}
use Rattle.inline_site.specs.Callers.{ended}
use Rattle.inline_site.proofs.Later.{counted_end}
use Rattle.inline_site.proofs.caller.Caller.end.Goals as goal

pub returns-clause-count : goal.returns-clause-count
returns-clause-count c = counted_end c.args.self.now.done.items c.push.new.self.items (ended c.args.current c.args.end.now) (search rules)
