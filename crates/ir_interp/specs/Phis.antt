-- Phis over sources.
use Rattle.std.specs.Prelude.{◌≡◌, ◌<◌, ℕ, ◌==◌, if◌then◌else◌, List, [], ◌∷◌}
use Rattle.ir_tree.specs.declared.operand.Symbol.{Symbol}
use Rattle.ir_meaning.specs.Frame.{Locals}
use Rattle.ir_meaning.specs.Memory.{Memory as MeantMemory}
use Rattle.ir_meaning.specs.declared.value.Value.{Value as MeantValue}
use Rattle.ir_meaning.specs.declared.value.Value.TheVariants.{Poison}
use Rattle.ir_machine.specs.Meant.{meant}
use Rattle.ir_machine.specs.declared.memory.Memory.{Memory}
use Rattle.ir_machine.specs.declared.scalar.Scalar.{Scalar}
use Rattle.ir_interp.specs.Locals.{IsKnown, IsValid, source_meant}
use Rattle.ir_interp.specs.declared.phis.Edge.{Edge}
use Rattle.ir_interp.specs.declared.phis.Phi.{Phi}

-- what a phi takes on the edge from a block
abbrev pub edge_meant : List Symbol → Locals → ℕ → List Edge → MeantValue
edge_meant names locals from [] = Poison
edge_meant names locals from (e ∷ es) = if e.from == from then source_meant names locals e.source else edge_meant names locals from es

-- all phis at once, from the locals before them
abbrev pub phis_meant : List Symbol → Locals → ℕ → List Phi → Locals → Locals
phis_meant names locals from [] after = after
phis_meant names locals from (p ∷ ps) after = (p.local, edge_meant names locals from p.edges.items) ∷ phis_meant names locals from ps after

abbrev pub AreEdgesKnown : List Symbol → Memory → MeantMemory → List Edge → Type 0
AreEdgesKnown names m memory [] = Unit {0}
AreEdgesKnown names m memory (e ∷ es) = IsKnown names m memory e.source × AreEdgesKnown names m memory es

abbrev pub ArePhisKnown : List Symbol → Memory → MeantMemory → List Phi → Type 0
ArePhisKnown names m memory [] = Unit {0}
ArePhisKnown names m memory (p ∷ ps) = AreEdgesKnown names m memory p.edges.items × ArePhisKnown names m memory ps

-- these are the values that phis take on the edge from a block
abbrev pub AreTaken : List Symbol → Memory → MeantMemory → Locals → ℕ → List Phi → List Scalar → Type 0
AreTaken names m memory locals from [] [] = Unit {0}
AreTaken names m memory locals from [] (v ∷ vs) = ⊥
AreTaken names m memory locals from (p ∷ ps) [] = ⊥
AreTaken names m memory locals from (p ∷ ps) (v ∷ vs) =
    (meant names v ≡ edge_meant names locals from p.edges.items) × IsValid names m memory v × AreTaken names m memory locals from ps vs

-- so many registers are enough for these phis
abbrev pub HaveRoom : ℕ → List Phi → Type 0
HaveRoom n [] = Unit {0}
HaveRoom n (p ∷ ps) = (p.local < n) × HaveRoom n ps
