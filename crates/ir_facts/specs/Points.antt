-- Where a fact holds: at each point of a function, by the greatest solution of equations over its edges (Kildall 1973, "A unified
-- approach to global program optimization"). The fact of a local x, whose candidate is v, says that v may stand for x. Blocks go by
-- their place, from 0, which is the entry.
use Rattle.std.specs.Prelude.{◌≡◌, ℕ, suc, ◌<◌, ◌==◌, Bool, true, false, not, ◌&&◌, ◌||◌, slice_get, List, [], ◌∷◌, ◌++◌, length, map, Option, Some, None}
use Rattle.ir_tree.specs.Flow.{Among, edges}
use Rattle.ir_tree.specs.declared.block.Block.{Block}
use Rattle.ir_tree.specs.declared.function.Function.{Function}
use Rattle.ir_tree.specs.declared.instr.Line.{Line}
use Rattle.ir_tree.specs.declared.operand.Operand.{Operand}
use Rattle.ir_meaning.specs.Table.{same}
use Rattle.ir_meaning.specs.Facts.{is_local, is_phi, is_phi_operand, phi_operand}
use Rattle.ir_facts.specs.Candidates.{candidates}
use Rattle.fact_sources.specs.declared.fact.Fact.{Fact}

-- behind an instruction that gives a local its value: there is the fact of that local, and the others that don't rest on it
abbrev pub held_behind : ℕ → Operand → Option ℕ → Bool → Bool
held_behind x v None held = held
held_behind x v (Some y) held = (x == y) || (held && not (is_local y v))

-- and behind lines
abbrev pub held_along : ℕ → Operand → List Line → Bool → Bool
held_along x v [] held = held
held_along x v (l ∷ ls) held = held_along x v ls (held_behind x v l.local held)

-- on an edge: what a phi x takes is v, or is x with its fact at the predecessor's end
abbrev pub entry_holds : ℕ → Operand → Bool → Option Operand → Bool
entry_holds x v held None = true
entry_holds x v held (Some o) = same v o || (is_local x o && held)

-- marks for the start of each block, behind its phis, that follow from those of its predecessors
pub record IsFactFlow (f : Function) (x : ℕ) (v : Operand) (starts : ℕ → Bool) : Type 0 where
  -- at the entry's start no fact holds
  pub entry : starts 0 ≡ false
  -- and none where a phi gives v another value
  pub outside : (q : ℕ) (b : Block) → slice_get f.blocks q ≡ Some b → starts q ≡ true → is_phi_operand v b.phis ≡ false
  -- a local that is no phi of the block has its fact at the end of each predecessor
  pub passed : (p q : ℕ) (a b : Block) → slice_get f.blocks p ≡ Some a → slice_get f.blocks q ≡ Some b → Among p (edges f q)
      → starts q ≡ true → is_phi x b.phis ≡ false → held_along x v a.lines (starts p) ≡ true
  pub entered : (p q : ℕ) (a b : Block) → slice_get f.blocks p ≡ Some a → slice_get f.blocks q ≡ Some b → Among p (edges f q)
      → starts q ≡ true → is_phi x b.phis ≡ true → entry_holds x v (held_along x v a.lines (starts p)) (phi_operand x a.number b.phis) ≡ true

-- ---- points, in the order of the text: of each block the one behind its phis, and one behind each other instruction

abbrev pub line_points : ℕ → Operand → List Line → Bool → List Bool
line_points x v [] held = held ∷ []
line_points x v (l ∷ ls) held = held ∷ line_points x v ls (held_behind x v l.local held)

abbrev pub points_from : ℕ → Operand → (ℕ → Bool) → ℕ → List Block → List Bool
points_from x v starts p [] = []
points_from x v starts p (b ∷ bs) = line_points x v b.lines (starts p) ++ points_from x v starts (suc p) bs

-- the fact holds at these points
pub record IsFact (f : Function) (t : Fact) : Type 0 where
  pub starts : ℕ → Bool
  pub solution : IsFactFlow f t.local t.value starts
  pub greatest : (others : ℕ → Bool) → IsFactFlow f t.local t.value others → (p : ℕ) → p < length f.blocks → others p ≡ true → starts p ≡ true
  pub points : t.at ≡ points_from t.local t.value starts 0 f.blocks

abbrev pub EachIsFact : Function → List Fact → Type 0
EachIsFact f [] = Unit {0}
EachIsFact f (t ∷ ts) = IsFact f t × EachIsFact f ts

-- one fact for each local that has a candidate, in the order of the text
pub record AreFacts (f : Function) (ts : List Fact) : Type 0 where
  pub listed : map (λ t. (t.local, t.value)) ts ≡ candidates f
  pub each : EachIsFact f ts

-- there is one such list
abbrev pub FactsAreOne : Type 0
FactsAreOne = (f : Function) (ss ts : List Fact) → AreFacts f ss → AreFacts f ts → ss ≡ ts
