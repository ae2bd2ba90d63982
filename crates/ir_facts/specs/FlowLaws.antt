-- The equations of one fact keep inclusion.
use Rattle.std.specs.Prelude.{◌≡◌, ℕ, zero, suc, ◌==◌, Bool, true, false, not, ◌&&◌, ◌||◌, if◌then◌else◌, slice_get, List, [], ◌∷◌, Option, Some, None, refl}
use Rattle.std.proofs.Common.{arith}
use Rattle.ir_tree.specs.Flow.{KeepsInclusion}
use Rattle.ir_tree.specs.declared.block.Block.{Block}
use Rattle.ir_tree.specs.declared.function.Function.{Function}
use Rattle.ir_tree.specs.declared.instr.Line.{Line}
use Rattle.ir_tree.specs.declared.instr.Phi.{Phi}
use Rattle.ir_tree.specs.declared.operand.Operand.{Operand}
use Rattle.ir_meaning.specs.Table.{same}
use Rattle.ir_meaning.specs.Facts.{is_local, is_phi, is_phi_operand}
use Rattle.ir_facts.specs.FactFlow.{fact_flow, members_out, opened, opened_at, phi_of, taken_from}
use Rattle.ir_facts.specs.Points.{entry_holds, held_along, held_behind}

-- the second is true where the first is
abbrev pub Less : Bool → Bool → Type 0
Less a b = a ≡ true → b ≡ true

less_or : (a b d : Bool) → Less b d → Less (a || b) (a || d)
less_or true b d h e = refl
less_or false b d h e = h e

less_before : (a b d : Bool) → Less b d → Less (b && a) (d && a)
less_before a true d h e = use_both d (h refl) e
  where
    use_both : (d : Bool) → d ≡ true → a ≡ true → (d && a) ≡ true
    use_both true t e' = e'
    use_both false t e' = absurd (cc t)
less_before a false d h e = absurd (cc e)

less_behind : (a b d : Bool) → Less b d → Less (a && b) (a && d)
less_behind true b d h e = h e
less_behind false b d h e = absurd (cc e)

pub behind_less : (x : ℕ) (v : Operand) (o : Option ℕ) (a b : Bool) → Less a b → Less (held_behind x v o a) (held_behind x v o b)
behind_less x v None a b h = h
behind_less x v (Some y) a b h = less_or (x == y) (a && not (is_local y v)) (b && not (is_local y v)) (less_before (not (is_local y v)) a b h)

pub along_less : (x : ℕ) (v : Operand) (ls : List Line) (a b : Bool) → Less a b → Less (held_along x v ls a) (held_along x v ls b)
along_less x v [] a b h = h
along_less x v (l ∷ ls) a b h = along_less x v ls (held_behind x v l.local a) (held_behind x v l.local b) (behind_less x v l.local a b h)

pub entry_less : (x : ℕ) (v : Operand) (o : Option Operand) (a b : Bool) → Less a b → Less (entry_holds x v a o) (entry_holds x v b o)
entry_less x v None a b h = λ e. e
entry_less x v (Some o) a b h = less_or (same v o) (is_local x o && a) (is_local x o && b) (less_behind (is_local x o) a b h)

opened_less : (x : ℕ) (v : Operand) (ps : List Phi) (a b d e : Bool) → Less a d → Less b e → Less (opened x v ps a b) (opened x v ps d e)
opened_less x v ps a b d e h g = less_behind (not (is_phi_operand v ps)) (if is_phi x ps then b else a) (if is_phi x ps then e else d) (by (is_phi x ps))
  where
    by : (t : Bool) → Less (if t then b else a) (if t then e else d)
    by true = g
    by false = h

opened_at_less : (x : ℕ) (v : Operand) (o : Option Block) (a b d e : Bool) → Less a d → Less b e → Less (opened_at x v o a b) (opened_at x v o d e)
opened_at_less x v None a b d e h g = λ t. t
opened_at_less x v (Some block) a b d e h g = opened_less x v block.phis a b d e h g

members_less : (x : ℕ) (v : Operand) (home : Option Phi) (o : Option Block) (a b : Bool) → Less a b → (y : ℕ) → Less (members_out x v home o a y) (members_out x v home o b y)
members_less x v home None a b h y = λ t. t
members_less x v home (Some block) a b h zero = along_less x v block.lines a b h
members_less x v home (Some block) a b h (suc y) =
    entry_less x v (taken_from block.number home) (held_along x v block.lines a) (held_along x v block.lines b) (along_less x v block.lines a b h)

pub flow_keeps : (f : Function) (x : ℕ) (v : Operand) → KeepsInclusion (fact_flow f x v)
flow_keeps f x v p row wider lt sub y small =
    members_less x v (phi_of x f.blocks) (slice_get f.blocks p) (opened_at x v (slice_get f.blocks p) (row 0) (row 1)) (opened_at x v (slice_get f.blocks p) (wider 0) (wider 1))
    (opened_at_less x v (slice_get f.blocks p) (row 0) (row 1) (wider 0) (wider 1) (sub 0 (omega arith)) (sub 1 (omega arith))) y
