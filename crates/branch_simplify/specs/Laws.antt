-- A sound function with its constant branches as jumps is better and sound.
use Rattle.ir_tree.specs.declared.function.Function.{Function}
use Rattle.ir_tree.specs.Rules.{Sound}
use Rattle.ir_meaning.specs.Near.{BetterThan}
use Rattle.ir_meaning.specs.Program.{Program}
use Rattle.ir_meaning.specs.Formed.{IsFormed}
use Rattle.branch_simplify.specs.Simplified.{simplified}

-- in every program; soundness gives each phi as many entries as its block has edges, so that no value is lost with an edge
abbrev pub SimplifiedIsBetter : Type 0
SimplifiedIsBetter = (f : Function) → Sound f → (p : Program) → IsFormed p → BetterThan p 1 (simplified f) f

abbrev pub SimplifiedIsSound : Type 0
SimplifiedIsSound = (f : Function) → Sound f → Sound (simplified f)
