use Rattle.merge_meaning.proofs.Scoped.{named_final, named_plain}
use Rattle.merge_meaning.proofs.scope.Scope.symbol.Goals as goal

pub returns-in_default : goal.returns-in_default
returns-in_default c = named_plain c.args.self.now c.args.symbol.now c.home_of-home.result c.in_ok-name.name c.in_default.is c.home_of-home.ensures c.in_ok-name.ensures

pub returns : goal.returns
returns c =
    named_final c.args.self.now c.args.symbol.now c.in-Some.link c.home_of-home.result c.in_ok-name.name c.suffix_at.result.now c.append.new.self c.in-Some.is c.home_of-home.ensures
    c.in_ok-name.ensures c.suffix_at.ensures c.in_ok-append.ensures.ok
