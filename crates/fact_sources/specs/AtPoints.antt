-- Uses replaced at points: each use of a local by the value of its fact, where that holds at the use.
use Rattle.std.specs.Prelude.{ℕ, suc, ◌+◌, ◌==◌, ◌&&◌, if◌then◌else◌, List, [], ◌∷◌, length, option_map, Option, Some, None}
use Rattle.lto_sets.specs.Sets.{contains}
use Rattle.ir_tree.specs.declared.block.Block.{Block}
use Rattle.ir_tree.specs.declared.block.Terminator.{Terminator}
use Rattle.ir_tree.specs.declared.block.Terminator.TheVariants.{Branch, Jump, Return, Switch, Unreachable}
use Rattle.ir_tree.specs.declared.function.Function.{Function}
use Rattle.ir_tree.specs.declared.instr.Incoming.{Incoming}
use Rattle.ir_tree.specs.declared.instr.Line.{Line}
use Rattle.ir_tree.specs.declared.instr.Phi.{Phi}
use Rattle.ir_tree.specs.declared.operand.Operand.{Operand}
use Rattle.ir_meaning.specs.Facts.{is_local}
use Rattle.ir_tree.specs.Edited.{argument_edited, instr_edited}
use Rattle.ir_edit.specs.Numbered.{later_or}
use Rattle.fact_sources.specs.declared.fact.Fact.{Fact}

-- what stands for an operand at a point: of a local that has facts, the value of the first that holds there
abbrev pub standing : List Fact → ℕ → Operand → Operand
standing [] k o = o
standing (t ∷ ts) k o = if is_local t.local o && contains t.at k then t.value else standing ts k o

-- lines, of which the first is read at the point k
abbrev pub lines_at : List Fact → ℕ → List Line → List Line
lines_at ts k [] = []
lines_at ts k (l ∷ ls) = record { local = l.local; instr = instr_edited (λ x. x) (standing ts k) l.instr } ∷ lines_at ts (suc k) ls

-- the last point of the block of a number, among blocks of which the first begins with the point k
abbrev pub last_point : ℕ → List Block → ℕ → Option ℕ
last_point k [] n = None
last_point k (b ∷ bs) n = later_or (last_point (suc (k + length b.lines)) bs n) (if b.number == n then Some (k + length b.lines) else None)

abbrev pub standing_behind : List Fact → Option ℕ → Operand → Operand
standing_behind ts None o = o
standing_behind ts (Some k) o = standing ts k o

-- what a phi takes is read at the last point of the block from which it comes
abbrev pub edges_at : List Fact → (ℕ → Option ℕ) → List Incoming → List Incoming
edges_at ts last [] = []
edges_at ts last (e ∷ es) = record { from = e.from; value = standing_behind ts (last e.from) e.value } ∷ edges_at ts last es

abbrev pub phis_at : List Fact → (ℕ → Option ℕ) → List Phi → List Phi
phis_at ts last [] = []
phis_at ts last (p ∷ ps) = record { local = p.local; reg = p.reg; incoming = edges_at ts last p.incoming } ∷ phis_at ts last ps

abbrev pub end_at : List Fact → ℕ → Terminator → Terminator
end_at ts k (Return value) = Return (option_map (argument_edited (standing ts k)) value)
end_at ts k (Jump target) = Jump target
end_at ts k (Branch condition if_true if_false) = Branch (standing ts k condition) if_true if_false
end_at ts k (Switch width value default cases) = Switch width (standing ts k value) default cases
end_at ts k Unreachable = Unreachable

abbrev pub block_at : List Fact → (ℕ → Option ℕ) → ℕ → Block → Block
block_at ts last k b =
    record {
      number = b.number;
      phis = phis_at ts last b.phis;
      lines = lines_at ts k b.lines;
      end = end_at ts (k + length b.lines) b.end;
    }

abbrev pub blocks_at : List Fact → (ℕ → Option ℕ) → ℕ → List Block → List Block
blocks_at ts last k [] = []
blocks_at ts last k (b ∷ bs) = block_at ts last k b ∷ blocks_at ts last (suc (k + length b.lines)) bs

-- the function with each use replaced where a fact of its local holds
abbrev pub function_at : List Fact → Function → Function
function_at ts f = record f { blocks = blocks_at ts (last_point 0 f.blocks) 0 f.blocks }
