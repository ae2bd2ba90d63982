-- What may stand for a local: of a phi the one operand that it takes, of an instruction the operand of the rule table.
use Rattle.std.specs.Prelude.{ℕ, Bool, true, not, ◌&&◌, ◌||◌, if◌then◌else◌, List, [], ◌∷◌, ◌++◌, Option, Some, None}
use Rattle.ir_tree.specs.declared.block.Block.{Block}
use Rattle.ir_tree.specs.declared.function.Function.{Function}
use Rattle.ir_tree.specs.declared.instr.Incoming.{Incoming}
use Rattle.ir_tree.specs.declared.instr.Instr.{Instr}
use Rattle.ir_tree.specs.declared.instr.Line.{Line}
use Rattle.ir_tree.specs.declared.instr.Phi.{Phi}
use Rattle.ir_tree.specs.declared.operand.Operand.{Operand}
use Rattle.ir_meaning.specs.Table.{rule, same}
use Rattle.ir_meaning.specs.Facts.{Facts, is_local, is_phi_operand}
use Rattle.fact_sources.specs.Membership.{is_member}

-- ---- phis

-- the first operand that isn't the phi's own local
abbrev pub first_other : ℕ → List Incoming → Option Operand
first_other x [] = None
first_other x (e ∷ es) = if is_local x e.value then first_other x es else Some e.value

-- each entry is this operand or the phi's own local
abbrev pub takes_only : ℕ → Operand → List Incoming → Bool
takes_only x v [] = true
takes_only x v (e ∷ es) = (is_local x e.value || same v e.value) && takes_only x v es

-- the one operand that a phi takes beside its own local, unless it is a phi of the same block
abbrev pub sole_source : List Phi → ℕ → List Incoming → Option Operand → Option Operand
sole_source ps x es None = None
sole_source ps x es (Some v) = if takes_only x v es && not (is_phi_operand v ps) then Some v else None

abbrev pub phi_source : List Phi → Phi → Option Operand
phi_source ps p = sole_source ps p.local p.incoming (first_other p.local p.incoming)

-- ---- phis beside a set of locals

abbrev pub sole_beside : (ℕ → Bool) → ℕ → List Incoming → Option Operand → Option Operand
sole_beside among x es None = None
sole_beside among x es (Some v) = if takes_only x v es && not (is_member among v) then Some v else None

-- the one operand that a phi takes beside its own local, unless it is of the set
abbrev pub source_beside : (ℕ → Bool) → Phi → Option Operand
source_beside among p = sole_beside among p.local p.incoming (first_other p.local p.incoming)

-- ---- instructions

-- another operand than the local itself
abbrev pub other_than : ℕ → Option Operand → Option Operand
other_than x None = None
other_than x (Some v) = if is_local x v then None else Some v

abbrev pub line_source : ℕ → Instr → Option Operand
line_source x i = other_than x (rule i)

-- ---- functions: each local that has one, with what may stand for it, in the order of the text

abbrev pub paired : ℕ → Option Operand → Facts
paired x None = []
paired x (Some v) = (x, v) ∷ []

abbrev pub phi_candidates : List Phi → List Phi → Facts
phi_candidates all [] = []
phi_candidates all (p ∷ ps) = paired p.local (phi_source all p) ++ phi_candidates all ps

abbrev pub result_candidate : Option ℕ → Instr → Facts
result_candidate None i = []
result_candidate (Some x) i = paired x (line_source x i)

abbrev pub line_candidates : List Line → Facts
line_candidates [] = []
line_candidates (l ∷ ls) = result_candidate l.local l.instr ++ line_candidates ls

unfoldable pub block_candidates : Block → Facts
block_candidates b = phi_candidates b.phis b.phis ++ line_candidates b.lines

abbrev pub blocks_candidates : List Block → Facts
blocks_candidates [] = []
blocks_candidates (b ∷ bs) = block_candidates b ++ blocks_candidates bs

abbrev pub candidates : Function → Facts
candidates f = blocks_candidates f.blocks
