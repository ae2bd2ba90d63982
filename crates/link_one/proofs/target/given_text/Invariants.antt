use Rattle.std.proofs.Common.{◌≡◌, drop}
use Rattle.symbol_resolve.specs.Clashes.{given_text}
use Rattle.link_one.proofs.target.given_text.Given as goal

abbrev pub invariant-loop-verified : goal.invariant-loop-verified
invariant-loop-verified l = given_text l.line (drop l.verified-index l.modules) ≡ given_text l.line l.modules
