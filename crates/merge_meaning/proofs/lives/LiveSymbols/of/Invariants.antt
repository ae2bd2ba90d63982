use Rattle.std.proofs.Common.{◌≡◌, ◌||◌, drop}
use Rattle.ir_tree.specs.declared.operand.Symbol.{Symbol}
use Rattle.merge_meaning.specs.Lives.{is_live}
use Rattle.merge_meaning.specs.Scopes.{is_in}
use Rattle.merge_meaning.proofs.lives.LiveSymbols.of.Given as goal

abbrev pub invariant-loop-number : goal.invariant-loop-number
invariant-loop-number l = (s : Symbol) → (is_in l.set s || is_live (drop l.number l.symbols) (drop l.number l.live) s) ≡ is_live l.symbols l.live s
