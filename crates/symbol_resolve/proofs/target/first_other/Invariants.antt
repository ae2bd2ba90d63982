use Rattle.std.proofs.Common.{◌≡◌, drop}
use Rattle.std.specs.List.{position_from}
use Rattle.symbol_resolve.specs.Clashes.{differs, target_text}
use Rattle.symbol_resolve.proofs.target.first_other.Given as goal

abbrev pub invariant-loop-i : goal.invariant-loop-i
invariant-loop-i l = position_from (λ m. differs l.text (target_text l.line m)) l.i (drop l.i l.modules) ≡ position_from (λ m. differs l.text (target_text l.line m)) 0 l.modules
