-- One fact's equations: two members for each block. Member 0 is the fact in front of the block's phis; member 1 that the fact's local,
-- where it is a phi of the block, takes what its fact says on each edge.
use Rattle.std.specs.Prelude.{ℕ, zero, suc, Bool, false, not, ◌&&◌, ◌==◌, nat_eq, if◌then◌else◌, slice_get, List, [], ◌∷◌, ◌++◌, length, Option, Some, None}
use Rattle.ir_tree.specs.Flow.{Equations, edges}
use Rattle.ir_tree.specs.declared.block.Block.{Block}
use Rattle.ir_tree.specs.declared.function.Function.{Function}
use Rattle.ir_tree.specs.declared.instr.Phi.{Phi}
use Rattle.ir_tree.specs.declared.operand.Operand.{Operand}
use Rattle.ir_meaning.specs.Facts.{edge_operand, is_phi, is_phi_operand}
use Rattle.ir_facts.specs.Points.{entry_holds, held_along, line_points}

-- the phi that gives a local its value
abbrev pub phi_in : ℕ → List Phi → Option Phi
phi_in x [] = None
phi_in x (p ∷ ps) = if p.local == x then Some p else phi_in x ps

abbrev pub earlier : Option Phi → Option Phi → Option Phi
earlier (Some p) o = Some p
earlier None o = o

abbrev pub phi_of : ℕ → List Block → Option Phi
phi_of x [] = None
phi_of x (b ∷ bs) = earlier (phi_in x b.phis) (phi_of x bs)

-- what a phi takes on the edge from a block
abbrev pub taken_from : ℕ → Option Phi → Option Operand
taken_from m None = None
taken_from m (Some p) = edge_operand m p.incoming

-- behind a block's phis
abbrev pub opened : ℕ → Operand → List Phi → Bool → Bool → Bool
opened x v ps before entered = not (is_phi_operand v ps) && (if is_phi x ps then entered else before)

abbrev pub opened_at : ℕ → Operand → Option Block → Bool → Bool → Bool
opened_at x v None before entered = false
opened_at x v (Some b) before entered = opened x v b.phis before entered

-- at a block's end
abbrev pub members_out : ℕ → Operand → Option Phi → Option Block → Bool → ℕ → Bool
members_out x v home None start y = false
members_out x v home (Some b) start zero = held_along x v b.lines start
members_out x v home (Some b) start (suc y) = entry_holds x v (held_along x v b.lines start) (taken_from b.number home)

-- the points of these blocks, by the members of each block's row
abbrev pub flow_points : ℕ → Operand → (ℕ → ℕ → Bool) → ℕ → List Block → List Bool
flow_points x v rows p [] = []
flow_points x v rows p (b ∷ bs) = line_points x v b.lines (opened x v b.phis (rows p 0) (rows p 1)) ++ flow_points x v rows (suc p) bs

abbrev pub none_at : ℕ → Option (ℕ → Bool)
none_at b = if nat_eq b 0 then Some (λ y. false) else None

abbrev pub fact_flow : Function → ℕ → Operand → Equations
fact_flow f x v = record {
  blocks = length f.blocks;
  size = 2;
  edges = edges f;
  out = λ p row y. members_out x v (phi_of x f.blocks) (slice_get f.blocks p) (opened_at x v (slice_get f.blocks p) (row 0) (row 1)) y;
  fixed = none_at;
}
