-- The two ways to say where facts hold, lists of facts at blocks and marks of one fact at blocks, agree.
use Rattle.std.specs.Prelude.{◌≡◌, ◌↔◌, ℕ, Bool, slice_get, List, [], Option, Some, None}
use Rattle.ir_tree.specs.Formed.{Formed}
use Rattle.ir_tree.specs.Rules.{Sound}
use Rattle.ir_tree.specs.declared.block.Block.{Block}
use Rattle.ir_tree.specs.declared.function.Function.{Function}
use Rattle.ir_tree.specs.declared.operand.Operand.{Operand}
use Rattle.ir_meaning.specs.Facts.{Facts, Has}
use Rattle.fact_sources.specs.AtPoints.{function_at}
use Rattle.fact_sources.specs.Naming.{is_key}
use Rattle.ir_facts.specs.Points.{AreFacts, IsFactFlow}
use Rattle.ir_facts.specs.Steps.{IsSolution, IsStep, candidate_of}
use Rattle.fact_sources.specs.declared.fact.Fact.{Fact}

-- the facts at the start of the block at a place
abbrev pub starting : (ℕ → Facts) → Option Block → Facts
starting starts None = []
starting starts (Some b) = starts b.number

-- the places of the blocks at whose start a local has a fact
abbrev pub marks_of : (ℕ → Facts) → Function → ℕ → ℕ → Bool
marks_of starts f x p = is_key x (starting starts (slice_get f.blocks p))

-- lists of facts of the candidates are a solution exactly where the marks of each candidate's fact are one
abbrev pub SolutionsAgree : Type 0
SolutionsAgree =
    (f : Function) → Formed f → (candidate : ℕ → Option Operand) (starts : ℕ → Facts)
    → ((n x : ℕ) (v : Operand) → Has (starts n) x v → candidate x ≡ Some v)
    → IsSolution candidate f starts ↔ ((x : ℕ) (v : Operand) → candidate x ≡ Some v → IsFactFlow f x v (marks_of starts f x))

-- what a step makes of a sound function is each use replaced where its fact, as `facts` has it, holds
abbrev pub FactsMakeSteps : Type 0
FactsMakeSteps = (f : Function) (ts : List Fact) → Sound f → AreFacts f ts → IsStep (candidate_of f) f (function_at ts f)
